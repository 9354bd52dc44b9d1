use Rattle.quorum_log.proofs.OneLog.{one_log}
use Rattle.quorum_log.proofs.laws.held_log_is_one.Goals as goal

pub returns : goal.returns
returns c = one_log
