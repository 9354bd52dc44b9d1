use Rattle.log_order.proofs.Opens.{open_refused}
use Rattle.log_order.proofs.opening.open_is_refused_by_the_disk.Goals as goal

pub returns : goal.returns
returns c = open_refused
