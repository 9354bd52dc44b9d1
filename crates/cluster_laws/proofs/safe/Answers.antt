use Rattle.cluster_laws.proofs.Theorem.{all_safe}
use Rattle.cluster_laws.proofs.safe.Goals as goal

pub returns : goal.returns
returns g c = all_safe g.R.Replicated.machine g.R.Replicated.lawful
