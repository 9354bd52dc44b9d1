use Rattle.registry_states.proofs.OnlyNodes.{spelled_is_read}
use Rattle.registry_states.proofs.laws.what_is_spelled_is_read.Goals as goal

pub returns : goal.returns
returns c = spelled_is_read
