use Rattle.cluster_laws.proofs.Advancing.{all_monotone}
use Rattle.cluster_laws.proofs.progress.monotone.Goals as goal

pub returns : goal.returns
returns g c = all_monotone g.R.Replicated.machine g.R.Replicated.lawful
