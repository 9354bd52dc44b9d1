use Rattle.std.proofs.Common.{◌≡◌, ◌≤◌, ◌-◌, true, false, is_some, []}
use Rattle.disk_core.specs.Calls.{SameDisk}
use Rattle.cluster_node.specs.States.{HasRoom, client_in}
use Rattle.single_server.specs.Hearing.{Beginning, IsHeard}
use Rattle.single_server.specs.Session.{Starts, most_stream}
use Rattle.single_server.specs.Talking.{QueuesOwn}
use Rattle.single_server.proofs.ConversingLaws.{ReachedAt}
use Rattle.single_server.proofs.talking.converse.Given as goal

abbrev pub invariant-pieces : goal.invariant-pieces
invariant-pieces g l = record {
  alone : IsHeard l.conn l.single (g.D.Disk.view l.disk);
  quiet : l.single.left ≡ [];
  connected : is_some (client_in l.conn l.single.node) ≡ true;
  room : HasRoom l.single.node (g.D.Disk.view l.disk);
  reached : (b : Beginning) → Starts l.conn b l.initial.single (g.D.Disk.view l.initial.disk)
      → ReachedAt l.conn b l.taken l.single (g.D.Disk.view l.disk) (g.G.Door.visits l.initial.door) (g.G.Door.visits l.door);
  few : l.taken ≤ most_stream;
  whole : l.is_broken ≡ false;
  queues : QueuesOwn l.conn l.initial.single.node l.single.node;
  accepts : (g.G.Door.faults l.door).accept ≡ (g.G.Door.faults l.initial.door).accept;
  same_disk : SameDisk (g.D.Disk.view l.initial.disk) (g.D.Disk.view l.disk);
}

abbrev pub decreases-pieces : goal.decreases-pieces
decreases-pieces g l = most_stream - l.taken
