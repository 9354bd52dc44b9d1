use Rattle.ndr_values.proofs.CanonicalLaws.{all_spelled}
use Rattle.ndr_values.proofs.laws.canonical_is_read.Goals as goal

pub returns : goal.returns
returns c = all_spelled
