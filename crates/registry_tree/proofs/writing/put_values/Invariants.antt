use Rattle.std.proofs.Common.{◌≡◌, ◌++◌, take}
use Rattle.wire_fields.specs.declared.endian.Endian.TheVariants.{Little}
use Rattle.registry_defs.specs.Spelling.{values_text}
use Rattle.registry_tree.specs.Values.{entries_of}
use Rattle.registry_tree.proofs.writing.put_values.Given as goal

abbrev pub invariant-values : goal.invariant-values
invariant-values l = l.put ≡ record { endian = Little; bytes = l.initial.put.bytes ++ values_text (entries_of (take l.value-index l.values)) }
