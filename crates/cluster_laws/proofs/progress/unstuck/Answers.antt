use Rattle.cluster_laws.proofs.Standing.{all_unstuck}
use Rattle.cluster_laws.proofs.progress.unstuck.Goals as goal

pub returns : goal.returns
returns g c = all_unstuck g.R.Replicated.machine g.R.Replicated.lawful
