use Rattle.std.proofs.Common.{sym}
use Rattle.clus_names.proofs.Escapes.{leading_some, leading_none}
use Rattle.clus_names.proofs.unit_reading.leading_digits.Goals as goal

pub returns-in-Some-clause-count : goal.returns-in-Some-clause-count
returns-in-Some-clause-count c = leading_some c.args.bytes.now c.in-Some.place (sym c.in-Some.ensures.first)

pub returns-in-None-clause-count : goal.returns-in-None-clause-count
returns-in-None-clause-count c = leading_none c.args.bytes.now (sym c.in-None.ensures.first)
