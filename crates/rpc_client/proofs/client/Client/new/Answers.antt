use Rattle.rpc_client.proofs.HoldingLaws.{is_new}
use Rattle.rpc_client.proofs.client.Client.new.Goals as goal

pub returns-clause-holds : goal.returns-clause-holds
returns-clause-holds c = rw (c.new.ensures, c.new-2.ensures, c.new-3.ensures.starts) is_new
