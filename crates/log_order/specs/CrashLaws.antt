-- What stands while calls are refused, behind calls that have passed, and behind a crash inside them.
use Rattle.std.specs.Prelude.{◌≡◌, ℕ, ◌<◌, IsTrue, Bool, List, [], ◌∷◌, ◌++◌, Result, Err, ⊤}
use Rattle.disk_core.specs.declared.fault.DiskFault.{DiskFault}
use Rattle.disk_core.specs.declared.fault.DiskFault.TheVariants.{Fenced}
use Rattle.disk_core.specs.Calls.{Call, Made, token}
use Rattle.disk_core.specs.Crashes.{Crashed, after_crash}
use Rattle.disk_core.specs.Images.{Moment, IsImage}
use Rattle.disk_core.specs.Views.{DiskView, Passes}
use Rattle.quorum_log.specs.Changes.{closing}
use Rattle.quorum_log.specs.Logs.{LogValue}
use Rattle.cluster_rules.specs.Worlds.{Log}
use Rattle.log_order.specs.Refinement.{MomentOf, MomentOfOne, Owns, Refines}

-- The calls were refused since the disk has outgrown their token, and have changed nothing.
abbrev pub IsFencedOff : DiskView → Result ⊤ DiskFault → DiskView → Type 0
IsFencedOff v result w = (result ≡ Err (Fenced v.current.held)) × (w.current ≡ v.current)

abbrev pub FencedKeeps : Type 0
FencedKeeps =
    (c : Call) (cs : List Call) (v w : DiskView) (result : Result ⊤ DiskFault)
    → token c < v.current.held → Made (c ∷ cs) v result w
    → IsFencedOff v result w

-- The calls of a checkpoint, which begin with those that close the other half where it is valid.
abbrev pub CheckpointFenced : Type 0
CheckpointFenced =
    (valid : Bool) (c : Call) (cs : List Call) (at : ℕ) (v w : DiskView) (result : Result ⊤ DiskFault)
    → token c < v.current.held → Made (closing valid (token c) at ++ c ∷ cs) v result w
    → IsFencedOff v result w

-- Where the moment is the same, so are the log and who owns it.
abbrev pub SameMoment : Type 0
SameMoment =
    (l : Log) (v w : DiskView) → w.tells ≡ v.tells → w.current ≡ v.current → Refines l v
    → Refines l w × ((log : LogValue) → Owns l v log → Owns l w log)

-- Where each moment is one of these logs, the present one is.
abbrev pub PassesNow : Type 0
PassesNow = (logs : Bool → Log) (v w : DiskView) → Passes (MomentOfOne logs) v w → MomentOfOne logs w.current

-- So behind a call that failed the disk is the log that it was at each moment inside the call.
abbrev pub PassedRefines : Type 0
PassedRefines = (l : Log) (v w : DiskView) → IsTrue w.tells → Passes (MomentOf l) v w → Refines l w

-- The moment at which a crash has come, with these bytes in what was pending then.
pub record DiedAt (P : Moment → Type 0) (bytes : List ℕ) (x : DiskView) : Type 0 where
  pub moment : Moment
  pub had : P moment
  pub image : IsImage moment x.current.seen
  pub left : x.current ≡ after_crash moment bytes

-- A crash since the mark comes at one of the moments.
abbrev pub Died : Type 0
Died =
    (logs : Bool → Log) (v w x : DiskView) (calls : ℕ) (bytes : List ℕ)
    → IsTrue w.tells → v.past ≡ [] → Passes (MomentOfOne logs) v w → Crashed w calls bytes x
    → DiedAt (MomentOfOne logs) bytes x

-- Behind a crash at a moment of a log the disk is again one of that log.
abbrev pub DiedRefines : Type 0
DiedRefines =
    (l : Log) (m : Moment) (x : DiskView) (bytes : List ℕ)
    → IsTrue x.tells → MomentOf l m → IsImage m x.current.seen → x.current ≡ after_crash m bytes
    → Refines l x

-- So wherever a crash comes inside calls whose moments are all of one log, the disk is that log behind it.
abbrev pub CrashedRefines : Type 0
CrashedRefines =
    (l : Log) (v w x : DiskView) (calls : ℕ) (bytes : List ℕ)
    → IsTrue w.tells → v.past ≡ [] → Passes (MomentOf l) v w → Crashed w calls bytes x
    → Refines l x

-- The same of one of two logs, as inside `open`: the view has claimed it or not.
abbrev pub CrashedRefinesOne : Type 0
CrashedRefinesOne =
    (logs : Bool → Log) (v w x : DiskView) (calls : ℕ) (bytes : List ℕ)
    → IsTrue w.tells → v.past ≡ [] → Passes (MomentOfOne logs) v w → Crashed w calls bytes x
    → (which : Bool) × Refines (logs which) x
