use Rattle.clus_names.specs.Folding.{folded}
use Rattle.clus_names.proofs.Folds.{same_from_cmp}
use Rattle.clus_names.proofs.folding.same_folded.Goals as goal

pub returns : goal.returns
returns c = same_from_cmp (folded c.args.left.now) (folded c.args.right.now) c.is_eq.result c.cmp_folded.result c.cmp_folded.ensures c.is_eq.ensures
