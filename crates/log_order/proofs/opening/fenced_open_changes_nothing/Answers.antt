use Rattle.log_order.proofs.Opens.{open_fenced}
use Rattle.log_order.proofs.opening.fenced_open_changes_nothing.Goals as goal

pub returns : goal.returns
returns c = open_fenced
