use Rattle.clusapi_stubs.proofs.EncodingLaws.{results_read}
use Rattle.clusapi_stubs.proofs.laws.results_are_read.Goals as goal

pub returns : goal.returns
returns c = results_read
