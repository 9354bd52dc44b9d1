use Rattle.std.proofs.Common.{take}
use Rattle.std.specs.Prelude.{All}
use Rattle.update_records.specs.Limits.{HasFields}
use Rattle.cluster_replay.proofs.reading.read_each.Given as goal

abbrev pub invariant-changes : goal.invariant-changes
invariant-changes l = All HasFields (take l.change-index l.changes)
