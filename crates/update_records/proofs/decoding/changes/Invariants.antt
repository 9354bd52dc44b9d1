use Rattle.std.proofs.Common.{◌≡◌, ◌-◌}
use Rattle.update_records.specs.Checked.{each_at}
use Rattle.update_records.specs.Grammar.{change_at}
use Rattle.update_records.proofs.Loops.{with_front}
use Rattle.update_records.proofs.decoding.changes.Given as goal

abbrev pub invariant-changes : goal.invariant-changes
invariant-changes l = with_front l.changes.items (each_at (l.count - l.counter) (change_at l.end) l.fields) ≡ each_at l.count (change_at l.end) l.initial.fields
