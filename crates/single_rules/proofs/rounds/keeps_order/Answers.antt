use Rattle.single_rules.proofs.Orders.{keeps_order}
use Rattle.single_rules.proofs.rounds.keeps_order.Goals as goal

pub returns : goal.returns
returns g c = keeps_order
