use Rattle.std.proofs.Common.{length}
use Rattle.registry_tree.proofs.creating.+chain.Given as goal

abbrev pub decreases-chain : goal.decreases-chain
decreases-chain l = length l.rest.now
