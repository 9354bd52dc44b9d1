use Rattle.quorum_log.proofs.OneFault.{one_fault}
use Rattle.quorum_log.proofs.laws.image_has_one_fault.Goals as goal

pub returns : goal.returns
returns c = one_fault
