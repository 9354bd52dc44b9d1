use Rattle.std.proofs.Common.{length}
use Rattle.registry_tree.proofs.key.Key.+create.Given as goal

abbrev pub decreases-create : goal.decreases-create
decreases-create l = length l.path.now
