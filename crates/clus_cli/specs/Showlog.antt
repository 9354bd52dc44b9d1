-- What `showlog` prints of the log that the disk holds, and why it refuses.
use Rattle.std.specs.Prelude.{◌≡◌, ◌⊎◌, ℕ, ◌+◌, ◌<◌, ◌≤◌, IsTrue, List, [], ◌∷◌, ◌++◌, length, slice_index, codes, Option, Result, Ok, Err, ⊤}
use Rattle.std.specs.Fmt.{decimal}
use Rattle.std.specs.List.{concat}
use Rattle.hex.specs.Hex.{encode_lower}
use Rattle.causes.specs.Counts.{Rose}
use Rattle.causes.specs.Writing.{Wrote, WroteSome}
use Rattle.disk_core.specs.Views.{DiskView}
use Rattle.quorum_log.specs.declared.found.Found.{Found}
use Rattle.quorum_log.specs.declared.found.FoundRecord.{FoundRecord}
use Rattle.quorum_log.specs.declared.fault.OpenFault.{OpenFault}
use Rattle.quorum_log.specs.declared.fault.OpenFault.TheVariants as faults
use Rattle.quorum_log.specs.Checks.{IsBadImage}
use Rattle.quorum_log.specs.Image.{Holds}
use Rattle.quorum_log.specs.Logs.{IsWithinLimits}
use Rattle.quorum_log.specs.Opening.{WasRead}
use Rattle.log_contents.specs.declared.contents.LogContents.{LogContents}
use Rattle.log_contents.specs.declared.fault.ContentsFault.{ContentsFault}
use Rattle.log_contents.specs.declared.fault.ContentsFault.TheVariants as contents_faults
use Rattle.log_contents.specs.Contents.{IsContents}
use Rattle.log_contents.specs.Faults.{IsFaultAt}
use Rattle.clus_cli.specs.declared.status.Status.{Status}
use Rattle.clus_cli.specs.declared.status.Status.TheVariants as statuses

-- ---- the lines

unfoldable pub form_text : Found → List ℕ
form_text x = concat (codes "log " ∷ decimal x.version ∷ codes " cap " ∷ decimal x.cap ∷ codes " half " ∷ decimal x.half ∷ codes " " ∷ [])

unfoldable pub count_text : Found → List ℕ
count_text x =
    concat (codes "generation " ∷ decimal x.generation ∷ codes " base " ∷ decimal x.base ∷ codes " records " ∷ decimal (length x.records) ∷ codes "\n" ∷ [])

-- The line of a log: its version, cap and current half, and what it counts.
abbrev pub log_line : Found → List ℕ
log_line x = form_text x ++ count_text x

-- The record at that place, in hex.
unfoldable pub record_line : ℕ → List ℕ → List ℕ
record_line place bytes = concat (codes "record " ∷ decimal place ∷ codes " " ∷ encode_lower bytes ∷ codes "\n" ∷ [])

-- The records behind so many others.
unfoldable pub record_lines : ℕ → List FoundRecord → List ℕ
record_lines base [] = []
record_lines base (r ∷ rs) = record_line (base + 1) r.bytes ++ record_lines (base + 1) rs

abbrev pub lines_of : Found → List ℕ
lines_of x = log_line x ++ record_lines x.base x.records

-- ---- the log

-- The image holds that log, and its contents decode.
pub record IsGoodLog (image : List ℕ) (x : Found) : Type 0 where
  pub holds : Holds image x
  pub contents : LogContents
  pub decoded : IsContents x contents

-- On a disk of that size the image is blank, or a check of it fails at that place, or the first part of its log that
-- doesn't decode starts there.
abbrev pub IsBadLog : List ℕ → ℕ → ℕ → Type 0
IsBadLog image size place =
    ((slice_index image 0 ≡ 0) × (place ≡ 0)) ⊎ (IsBadImage image size place ⊎ ((x : Found) × Holds image x × IsFaultAt x place))

-- ---- how it ends

-- Why nothing is printed.
abbrev pub Refuses : DiskView → Status → DiskView → Type 0
Refuses v (statuses.BadLog place) w = (v.current.held ≤ 1) × (IsTrue v.tells → IsBadLog v.current.seen v.size place)
Refuses v statuses.DiskFault w = (v.current.held ≤ 1) × Rose v.faults w.faults
Refuses v (statuses.Fenced held) w = (1 < v.current.held) × (held ≡ v.current.held)
Refuses v statuses.NoMemory w = v.current.held ≤ 1
Refuses v _ w = ⊥

-- All of the text was printed, or a prefix of it.
abbrev pub Prints : Option (List ℕ) → List ℕ → Status → Option (List ℕ) → Type 0
Prints before text statuses.Done now = Wrote before now text
Prints before text statuses.WriteFault now = WroteSome before now text
Prints before text statuses.NoMemory now = WroteSome before now text
Prints before text _ now = ⊥

-- What a fault of the log comes to.
abbrev pub open_status : OpenFault → Status
open_status faults.Failed = statuses.DiskFault
open_status (faults.Fenced held) = statuses.Fenced held
open_status faults.Blank = statuses.BadLog 0
open_status (faults.BadImage place) = statuses.BadLog place
open_status faults.Memory = statuses.NoMemory

abbrev pub contents_status : ContentsFault → Status
contents_status (contents_faults.Bad place) = statuses.BadLog place
contents_status contents_faults.Memory = statuses.NoMemory

-- The log was opened, and its contents decode.
pub record IsFound (v : DiskView) (x : Found) (w : DiskView) : Type 0 where
  pub held_before : v.current.held ≤ 1
  pub held : w.current.held ≡ 1
  pub read : WasRead v x
  pub good : IsTrue v.tells → IsGoodLog v.current.seen x
  pub limits : IsWithinLimits x

abbrev pub IsPrinted : Option (List ℕ) → List ℕ → Result ⊤ Status → Option (List ℕ) → Type 0
IsPrinted before text (Ok ok) now = Wrote before now text
IsPrinted before text (Err statuses.WriteFault) now = WroteSome before now text
IsPrinted before text (Err statuses.NoMemory) now = WroteSome before now text
IsPrinted before text (Err _) now = ⊥

pub record IsRefused (v : DiskView) (before : Option (List ℕ)) (status : Status) (w : DiskView) (now : Option (List ℕ)) : Type 0 where
  pub why : Refuses v status w
  pub silent : now ≡ before

-- The log of the disk is opened under fencing token 1, and printed.
pub record IsShown (v : DiskView) (before : Option (List ℕ)) (status : Status) (w : DiskView) (now : Option (List ℕ)) : Type 0 where
  pub held_before : v.current.held ≤ 1
  pub held : w.current.held ≡ 1
  pub log : Found
  -- whatever the disk tells: the log is the one in the bytes that were read
  pub read : WasRead v log
  pub good : IsTrue v.tells → IsGoodLog v.current.seen log
  pub prints : Prints before (lines_of log) status now

-- A bad log ends the run with its place, unless the disk refuses or memory runs out.
abbrev pub EndsAtBad : ℕ → Status → Type 0
EndsAtBad place (statuses.BadLog at) = at ≡ place
EndsAtBad place statuses.DiskFault = Unit {0}
EndsAtBad place (statuses.Fenced held) = Unit {0}
EndsAtBad place statuses.NoMemory = Unit {0}
EndsAtBad place _ = ⊥

pub record ShowRuns (v : DiskView) (before : Option (List ℕ)) (status : Status) (w : DiskView) (now : Option (List ℕ)) : Type 0 where
  pub ends : IsRefused v before status w now ⊎ IsShown v before status w now
  pub exact : IsTrue v.tells → (place : ℕ) → IsBadLog v.current.seen v.size place → EndsAtBad place status
  -- a read of the disk gives what it gave before
  pub unchanged : IsTrue v.tells → w.current.seen ≡ v.current.seen
