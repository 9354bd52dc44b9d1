use Rattle.std.proofs.Common.{◌≡◌, ◌++◌, take}
use Rattle.std.specs.List.{flat_map}
use Rattle.wire_fields.specs.Numbers.{num}
use Rattle.ndr_values.proofs.writing.put_units.Given as goal

abbrev pub invariant-loop-unit : goal.invariant-loop-unit
invariant-loop-unit l = record {
  order : l.into.endian ≡ l.initial.into.endian;
  bytes : l.into.bytes ≡ l.initial.into.bytes ++ flat_map (num l.initial.into.endian 2) (take l.unit-index l.text);
}
