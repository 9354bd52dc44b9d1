use Rattle.log_order.proofs.Steps.{order_empty}
use Rattle.log_order.proofs.orders.empty_log_has_no_order.Goals as goal

pub returns : goal.returns
returns c = order_empty
