use Rattle.log_order.proofs.Steps.{order_begun}
use Rattle.log_order.proofs.orders.checkpoint_leaves_the_order.Goals as goal

pub returns : goal.returns
returns c = order_begun
