use Rattle.registry_states.proofs.FoundStates.{state_found}
use Rattle.registry_states.proofs.laws.what_is_read_is_spelled.Goals as goal

pub returns : goal.returns
returns c = state_found
