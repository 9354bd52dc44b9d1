use Rattle.single_log.proofs.Opens.{opened_keeps}
use Rattle.single_log.proofs.opened.opened_log_is_kept.Goals as goal

pub returns : goal.returns
returns c = opened_keeps
