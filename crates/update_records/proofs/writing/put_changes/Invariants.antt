use Rattle.std.proofs.Common.{◌≡◌, ◌++◌, take, All}
use Rattle.std.specs.List.{flat_map}
use Rattle.wire_fields.specs.declared.endian.Endian.TheVariants.{Little}
use Rattle.update_records.specs.Limits.{IsChange}
use Rattle.update_records.specs.Spelling.{change_text}
use Rattle.update_records.proofs.writing.put_changes.Given as goal

abbrev pub invariant-changes : goal.invariant-changes
invariant-changes l = record {
  written : l.put ≡ record { endian = Little; bytes = l.initial.put.bytes ++ flat_map change_text (take l.change-index l.changes) };
  each : All IsChange (take l.change-index l.changes);
}
