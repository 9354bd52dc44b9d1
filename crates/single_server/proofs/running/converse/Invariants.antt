use Rattle.std.proofs.Common.{◌≡◌, ◌≤◌, ◌-◌, true, is_some, []}
use Rattle.disk_core.specs.Calls.{SameDisk}
use Rattle.cluster_node.specs.States.{HasRoom, client_in}
use Rattle.single_server.specs.Hearing.{Beginning, IsHeard}
use Rattle.single_server.specs.Session.{Reached, Starts, most_stream}
use Rattle.single_server.proofs.running.converse.Given as goal

abbrev pub invariant-pieces : goal.invariant-pieces
invariant-pieces g l = record {
  alone : IsHeard l.conn l.single (g.D.Disk.view l.disk);
  quiet : l.single.left ≡ [];
  connected : is_some (client_in l.conn l.single.node) ≡ true;
  room : HasRoom l.single.node (g.D.Disk.view l.disk);
  reached : (b : Beginning) → Starts l.conn b l.initial.single (g.D.Disk.view l.initial.disk)
      → Reached l.conn b (g.S.Source.left l.initial.input) (g.S.Source.left l.input) (g.K.Sink.written l.initial.output) (g.K.Sink.written l.output) l.taken l.single (g.D.Disk.view l.disk);
  few : l.taken ≤ most_stream;
  same_disk : SameDisk (g.D.Disk.view l.initial.disk) (g.D.Disk.view l.disk);
  later_in : g.S.Source.faults l.initial.input ≤ g.S.Source.faults l.input;
  later_out : g.K.Sink.faults l.initial.output ≤ g.K.Sink.faults l.output;
}

abbrev pub decreases-pieces : goal.decreases-pieces
decreases-pieces g l = most_stream - l.taken
