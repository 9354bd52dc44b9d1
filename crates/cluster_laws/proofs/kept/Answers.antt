use Rattle.cluster_laws.proofs.Theorem.{all_kept}
use Rattle.cluster_laws.proofs.kept.Goals as goal

pub returns : goal.returns
returns g c = all_kept g.R.Replicated.machine g.R.Replicated.lawful
