use Rattle.clusapi_stubs.proofs.EncodingLaws.{parameters_read}
use Rattle.clusapi_stubs.proofs.laws.parameters_are_read.Goals as goal

pub returns : goal.returns
returns c = parameters_read
