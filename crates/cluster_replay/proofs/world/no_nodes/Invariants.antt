use Rattle.std.proofs.Common.{◌≡◌, None, replicate}
use Rattle.cluster_replay.proofs.world.no_nodes.Given as goal

abbrev pub invariant-nodes : goal.invariant-nodes
invariant-nodes l = l.nodes.items ≡ replicate l.counter None
