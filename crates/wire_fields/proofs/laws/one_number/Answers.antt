use Rattle.wire_fields.proofs.NumberLaws.{one_number}
use Rattle.wire_fields.proofs.laws.one_number.Goals as goal

pub returns : goal.returns
returns c = one_number
