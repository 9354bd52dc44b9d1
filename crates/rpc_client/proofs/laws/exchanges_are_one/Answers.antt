use Rattle.rpc_client.proofs.OneExchange.{one_exchange}
use Rattle.rpc_client.proofs.laws.exchanges_are_one.Goals as goal

pub returns : goal.returns
returns c = one_exchange
