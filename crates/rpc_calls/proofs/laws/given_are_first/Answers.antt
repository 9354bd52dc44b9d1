use Rattle.rpc_calls.proofs.StreamUniqueness.{given_front}
use Rattle.rpc_calls.proofs.laws.given_are_first.Goals as goal

pub returns : goal.returns
returns c = given_front
