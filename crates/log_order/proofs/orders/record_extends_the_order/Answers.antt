use Rattle.log_order.proofs.Steps.{order_push}
use Rattle.log_order.proofs.orders.record_extends_the_order.Goals as goal

pub returns : goal.returns
returns c = order_push
