-- When a log is at fault, for a run that is to begin on it.
use Rattle.std.specs.Prelude.{◌≡◌, ◌⊎◌, ℕ, List}
use Rattle.disk_core.specs.Views.{DiskView}
use Rattle.quorum_log.specs.declared.found.Found.{Found}
use Rattle.quorum_log.specs.Checks.{IsBadImage}
use Rattle.quorum_log.specs.Image.{Holds}
use Rattle.log_contents.specs.Faults.{IsFaultAt}
use Rattle.single_server.specs.declared.ended.Ended.{Ended}
use Rattle.single_server.specs.declared.ended.Ended.TheVariants.{BadLog, DiskFault, Fenced, NoMemory}

-- On a disk of that size a check of the image fails at that place, or the first part of its log that doesn't decode starts there.
-- A blank image isn't at fault.
abbrev pub IsBadLog : List ℕ → ℕ → ℕ → Type 0
IsBadLog image size place = IsBadImage image size place ⊎ ((x : Found) × Holds image x × IsFaultAt x place)

-- Such a log ends the run with its place, unless the disk refuses or memory runs out.
abbrev pub EndsAtBad : ℕ → Ended → Type 0
EndsAtBad place (BadLog at) = at ≡ place
EndsAtBad place DiskFault = Unit {0}
EndsAtBad place (Fenced held) = Unit {0}
EndsAtBad place NoMemory = Unit {0}
EndsAtBad place ended = ⊥

-- The log was at fault there, and a read of the disk gives what it gave before.
pub record FoundBad (place : ℕ) (v w : DiskView) : Type 0 where
  pub bad : IsBadLog v.current.seen v.size place
  pub unchanged : w.current.seen ≡ v.current.seen
