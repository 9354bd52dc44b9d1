use Rattle.std.specs.Prelude.{length}
use Rattle.mscs_rows.proofs.running.add_bytes.Given as goal

abbrev pub decreases-fragments : goal.decreases-fragments
decreases-fragments l = length l.rest
