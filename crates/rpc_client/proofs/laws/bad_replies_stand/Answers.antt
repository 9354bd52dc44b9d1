use Rattle.rpc_client.proofs.FaultLaws.{faults_stay}
use Rattle.rpc_client.proofs.laws.bad_replies_stand.Goals as goal

pub returns : goal.returns
returns c = faults_stay
