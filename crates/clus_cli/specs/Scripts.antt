-- What `replay` and `drill` come to: the headline, on the top call.
use Rattle.std.specs.Prelude.{◌≡◌, ℕ, List, Option}
use Rattle.causes.specs.Counts.{Rose}
use Rattle.script_player.specs.declared.replayed.Replayed.{Replayed}
use Rattle.script_player.specs.declared.replayed.Replayed.TheVariants as comes
use Rattle.script_player.specs.Replaying.{Drills, Edges, Replays}
use Rattle.clus_cli.specs.declared.status.Status.{Status}
use Rattle.clus_cli.specs.declared.status.Status.TheVariants as statuses

-- The status that tells what came of a script.
abbrev pub status_from : Replayed → Status
status_from comes.Done = statuses.Done
status_from (comes.BadScript line fault) = statuses.BadScript line fault
status_from comes.ReadFault = statuses.ReadFault
status_from comes.WriteFault = statuses.WriteFault
status_from comes.NoMemory = statuses.NoMemory
status_from comes.TooLong = statuses.TooLong

-- The script that the input has was played, and this status tells what came of it: its lines were played up to the first bad one,
-- what they do is printed, each world of the run is safe and keeps what was acknowledged, and each answer is explained.
pub record ReplayRuns (status : Status) (v w : Edges) : Type 0 where
  pub replayed : Replayed
  pub told : status ≡ status_from replayed
  pub replays : Replays replayed v w

-- So was the script that the number generates, of so many rounds; its counts alone are printed.
pub record DrillRuns (number events : ℕ) (status : Status) (before now : Option (List ℕ)) : Type 0 where
  pub replayed : Replayed
  pub told : status ≡ status_from replayed
  pub drills : Drills replayed number events before now

-- The statuses of a script that is read, and the calls of which one failed where it ends by a fault.
abbrev pub MayReplay : Status → ℕ → ℕ → ℕ → ℕ → Type 0
MayReplay statuses.Done reads read_then prints printed_then = Unit {0}
MayReplay (statuses.BadScript line fault) reads read_then prints printed_then = Unit {0}
MayReplay statuses.ReadFault reads read_then prints printed_then = Rose reads read_then
MayReplay statuses.WriteFault reads read_then prints printed_then = Rose prints printed_then
MayReplay statuses.NoMemory reads read_then prints printed_then = Unit {0}
MayReplay statuses.TooLong reads read_then prints printed_then = Unit {0}
MayReplay status reads read_then prints printed_then = ⊥

-- The statuses of a generated one.
abbrev pub MayDrill : Status → ℕ → ℕ → Type 0
MayDrill statuses.Done prints printed_then = Unit {0}
MayDrill (statuses.BadScript line fault) prints printed_then = Unit {0}
MayDrill statuses.WriteFault prints printed_then = Rose prints printed_then
MayDrill statuses.NoMemory prints printed_then = Unit {0}
MayDrill status prints printed_then = ⊥
