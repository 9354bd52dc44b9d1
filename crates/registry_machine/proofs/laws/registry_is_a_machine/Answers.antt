use Rattle.registry_machine.proofs.Instance.{is_machine}
use Rattle.registry_machine.proofs.laws.registry_is_a_machine.Goals as goal

pub returns : goal.returns
returns c = is_machine
