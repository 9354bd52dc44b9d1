use Rattle.world_laws.proofs.Orders.{grew}
use Rattle.world_laws.proofs.laws.order_grows.Goals as goal

pub returns : goal.returns
returns c first last events tolds runs = grew events first tolds last runs
