use Rattle.rpc_calls.proofs.StreamItems.{items_are_there}
use Rattle.rpc_calls.proofs.laws.items_exist.Goals as goal

pub returns : goal.returns
returns c = items_are_there
