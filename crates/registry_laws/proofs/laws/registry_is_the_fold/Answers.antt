use Rattle.registry_laws.proofs.Folds.{all_fold}
use Rattle.registry_laws.proofs.laws.registry_is_the_fold.Goals as goal

pub returns : goal.returns
returns c = all_fold
