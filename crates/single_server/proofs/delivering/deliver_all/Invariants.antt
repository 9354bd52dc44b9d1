use Rattle.std.proofs.Common.{◌≡◌, ◌≤◌, ℕ, List, []}
use Rattle.disk_core.specs.Calls.{SameDisk}
use Rattle.cluster_rules.specs.declared.effect.Effect.{Effect}
use Rattle.cluster_node.specs.States.{HasRoom}
use Rattle.single_server.specs.Hearing.{Beginning, Heard, IsHeard, IsTold, work_left}
use Rattle.single_server.proofs.delivering.deliver_all.Given as goal

abbrev pub invariant-messages : goal.invariant-messages
invariant-messages g l = record {
  alone : IsHeard l.conn l.single (g.D.Disk.view l.disk);
  room : HasRoom l.single.node (g.D.Disk.view l.disk);
  leads : (b : Beginning) (stream : List ℕ) (told : List Effect) → Heard l.conn b stream told l.initial.single (g.D.Disk.view l.initial.disk)
      → IsTold l.conn b stream told l.single (g.D.Disk.view l.disk) (g.K.Sink.written l.initial.output) (g.K.Sink.written l.output);
  still : l.initial.single.left ≡ [] → l.single ≡ l.initial.single;
  same_disk : SameDisk (g.D.Disk.view l.initial.disk) (g.D.Disk.view l.disk);
  later : g.K.Sink.faults l.initial.output ≤ g.K.Sink.faults l.output;
}

abbrev pub decreases-messages : goal.decreases-messages
decreases-messages g l = work_left l.single
