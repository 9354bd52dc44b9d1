use Rattle.std.proofs.Common.{length}
use Rattle.registry_tree.proofs.sizing.+chain_size.Given as goal

abbrev pub decreases-chain_size : goal.decreases-chain_size
decreases-chain_size l = length l.text.now
