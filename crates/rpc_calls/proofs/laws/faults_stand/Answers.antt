use Rattle.rpc_calls.proofs.HoldingLaws.{fault_stays}
use Rattle.rpc_calls.proofs.laws.faults_stand.Goals as goal

pub returns : goal.returns
returns c = fault_stays
