use Rattle.std.proofs.Common.{◌≡◌, ℕ, List, []}
use Rattle.disk_core.specs.Calls.{SameDisk}
use Rattle.cluster_rules.specs.declared.effect.Effect.{Effect}
use Rattle.cluster_node.specs.States.{HasRoom}
use Rattle.single_server.specs.Hearing.{Beginning, Heard, IsHeard, work_left}
use Rattle.single_server.specs.Talking.{IsClosedFor, IsHeardAt, QueuesOwn}
use Rattle.single_server.proofs.talking.deliver_all.Given as goal

abbrev pub invariant-messages : goal.invariant-messages
invariant-messages g l = record {
  alone : IsHeard l.conn l.single (g.D.Disk.view l.disk);
  room : HasRoom l.single.node (g.D.Disk.view l.disk);
  leads : (b : Beginning) (stream : List ℕ) (told : List Effect) → Heard l.conn b stream told l.initial.single (g.D.Disk.view l.initial.disk)
      → IsHeardAt l.conn b stream told l.single (g.D.Disk.view l.disk) l.initial.is_broken l.is_broken (g.G.Door.visits l.initial.door) (g.G.Door.visits l.door)
      × (IsClosedFor l.conn stream l.initial.single.node → IsClosedFor l.conn stream l.single.node);
  still : l.initial.single.left ≡ [] → l.single ≡ l.initial.single;
  queues : QueuesOwn l.conn l.initial.single.node l.single.node;
  accepts : (g.G.Door.faults l.door).accept ≡ (g.G.Door.faults l.initial.door).accept;
  same_disk : SameDisk (g.D.Disk.view l.initial.disk) (g.D.Disk.view l.disk);
}

abbrev pub decreases-messages : goal.decreases-messages
decreases-messages g l = work_left l.single
