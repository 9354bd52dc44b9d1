use Rattle.std.proofs.Common.{◌≡◌, ◌++◌, take}
use Rattle.wire_fields.specs.declared.endian.Endian.TheVariants.{Little}
use Rattle.update_records.specs.Spelling.{units_text}
use Rattle.update_records.proofs.writing.put_units.Given as goal

abbrev pub invariant-units : goal.invariant-units
invariant-units l = l.put ≡ record { endian = Little; bytes = l.initial.put.bytes ++ units_text (take l.unit-index l.units) }
