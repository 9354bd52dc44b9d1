use Rattle.single_log.proofs.Blank.{first_is_found}
use Rattle.single_log.proofs.opened.first_log_is_found.Goals as goal

pub returns : goal.returns
returns c = first_is_found
