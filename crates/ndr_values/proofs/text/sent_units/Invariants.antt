use Rattle.std.proofs.Common.{◌≡◌, ◌-◌}
use Rattle.wire_fields.specs.Reading.{number_at, times}
use Rattle.wire_fields.proofs.ListLaws.{with_front}
use Rattle.ndr_values.proofs.text.sent_units.Given as goal

abbrev pub invariant-units : goal.invariant-units
invariant-units l = with_front l.units.items (times (l.count - l.counter) (number_at 2) l.from) ≡ times l.count (number_at 2) l.initial.from
