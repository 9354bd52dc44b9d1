use Rattle.std.proofs.Common.{take}
use Rattle.std.specs.Prelude.{All}
use Rattle.cluster_replay.specs.Types.{HasLowInc}
use Rattle.cluster_replay.proofs.reading.read_members.Given as goal

abbrev pub invariant-members : goal.invariant-members
invariant-members l = All HasLowInc (take l.member-index l.members)
