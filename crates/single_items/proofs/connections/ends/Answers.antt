use Rattle.single_items.proofs.AllTaken.{ends_unconnected}
use Rattle.single_items.proofs.connections.ends.Goals as goal

pub returns : goal.returns
returns c = ends_unconnected
