use Rattle.std.proofs.Common.{length}
use Rattle.registry_tree.proofs.key.Key.+remove_below.Given as goal

abbrev pub decreases-remove_below : goal.decreases-remove_below
decreases-remove_below l = length l.below.now
