use Rattle.log_order.proofs.Opens.{open_refines}
use Rattle.log_order.proofs.opening.opened_log_refines.Goals as goal

pub returns : goal.returns
returns c = open_refines
