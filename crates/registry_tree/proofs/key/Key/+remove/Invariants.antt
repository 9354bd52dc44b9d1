use Rattle.std.proofs.Common.{length}
use Rattle.registry_tree.proofs.key.Key.+remove.Given as goal

abbrev pub decreases-remove : goal.decreases-remove
decreases-remove l = length l.path.now
