use Rattle.std.proofs.Common.{◌≤◌, ◌-◌}
use Rattle.disk_core.specs.Calls.{SameDisk}
use Rattle.cluster_node.specs.States.{HasRoom, RunningNode}
use Rattle.single_items.specs.Alone.{AloneRun}
use Rattle.single_server.specs.Session.{beginning_at}
use Rattle.single_server.specs.Talking.{IsFree}
use Rattle.single_server.proofs.ServeLaws.{SoFar}
use Rattle.single_server.proofs.serving.serve_all.Given as goal

abbrev pub invariant-connections : goal.invariant-connections
invariant-connections g l = record {
  so_far : (first : AloneRun) (x : RunningNode) → IsFree 1 first x l.initial.single
      → SoFar l.done (beginning_at first x (g.D.Disk.view l.initial.disk)) l.single (g.D.Disk.view l.disk) (g.G.Door.visits l.initial.door) (g.G.Door.visits l.door);
  few : l.done ≤ l.count;
  room : HasRoom l.single.node (g.D.Disk.view l.disk);
  accepts : (g.G.Door.faults l.initial.door).accept ≤ (g.G.Door.faults l.door).accept;
  same_disk : SameDisk (g.D.Disk.view l.initial.disk) (g.D.Disk.view l.disk);
}

abbrev pub decreases-connections : goal.decreases-connections
decreases-connections g l = l.count - l.done
