use Rattle.rpc_calls.proofs.SentLaws.{requests_join}
use Rattle.rpc_calls.proofs.laws.requests_are_joined.Goals as goal

pub returns : goal.returns
returns c = requests_join
