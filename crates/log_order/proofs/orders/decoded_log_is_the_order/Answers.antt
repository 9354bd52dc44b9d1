use Rattle.log_order.proofs.Steps.{order_recovered}
use Rattle.log_order.proofs.orders.decoded_log_is_the_order.Goals as goal

pub returns : goal.returns
returns c = order_recovered
