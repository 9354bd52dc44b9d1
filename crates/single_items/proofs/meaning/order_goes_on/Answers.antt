use Rattle.single_items.proofs.Halting.{order_goes_on}
use Rattle.single_items.proofs.meaning.order_goes_on.Goals as goal

pub returns : goal.returns
returns c = order_goes_on
