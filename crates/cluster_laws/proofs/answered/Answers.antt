use Rattle.cluster_laws.proofs.Replies.{all_answered}
use Rattle.cluster_laws.proofs.answered.Goals as goal

pub returns : goal.returns
returns g c = all_answered g.R.Replicated.machine g.R.Replicated.lawful
