use Rattle.quorum_log.proofs.OneFault.{no_fault}
use Rattle.quorum_log.proofs.laws.held_log_is_good.Goals as goal

pub returns : goal.returns
returns c = no_fault
