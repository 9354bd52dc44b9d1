use Rattle.std.proofs.Common.{◌-◌, ◌≤◌, length}
use Rattle.hive_text.specs.Turns.{IsReading}
use Rattle.hive_text.proofs.reading.read_lines.Given as goal

abbrev pub decreases-lines : goal.decreases-lines
decreases-lines l = length l.text - l.place

abbrev pub invariant-lines : goal.invariant-lines
invariant-lines l = record {
  reading : IsReading l.cap l.text l.place l.walk;
  within : l.place ≤ length l.text;
}
