use Rattle.std.proofs.Common.{arith}
use Rattle.clus_names.proofs.Texts.{name_units}
use Rattle.hive_text.proofs.words.is_short.Goals as goal

pub returns-clause-units : goal.returns-clause-units
returns-clause-units c = name_units c.args.units.now c.requires (λ i. omega (arith, c.type_inv.units i))
