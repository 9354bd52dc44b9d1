use Rattle.registry_defs.proofs.Held.{root_text}
use Rattle.clus_registry.proofs.empty.empty_state_is_of_the_root_alone.Goals as goal

pub returns : goal.returns
returns c = root_text
