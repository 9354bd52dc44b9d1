use Rattle.rpc_calls.proofs.SentLaws.{replies_join}
use Rattle.rpc_calls.proofs.laws.replies_are_joined.Goals as goal

pub returns : goal.returns
returns c = replies_join
