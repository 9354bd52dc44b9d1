use Rattle.rpc_calls.proofs.HoldingLaws.{length_known}
use Rattle.rpc_calls.proofs.laws.length_is_known.Goals as goal

pub returns : goal.returns
returns c = length_known
