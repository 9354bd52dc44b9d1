use Rattle.cluster_laws.proofs.Theorem.{all_steady}
use Rattle.cluster_laws.proofs.steady.Goals as goal

pub returns : goal.returns
returns g c = all_steady g.R.Replicated.machine g.R.Replicated.lawful
