use Rattle.std.proofs.Common.{arith}
use Rattle.clus_names.proofs.Escapes.{are_digits}
use Rattle.clus_names.proofs.unit_reading.spelled_unit.Goals as goal

pub hex_value-requires-4 : goal.hex_value-requires-4
hex_value-requires-4 c = are_digits c.args.digits.now 3 (omega (arith, c.requires.digits))
