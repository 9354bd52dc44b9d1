use Rattle.rpc_calls.proofs.StreamUniqueness.{items_agree}
use Rattle.rpc_calls.proofs.laws.items_are_one.Goals as goal

pub returns : goal.returns
returns c = items_agree
