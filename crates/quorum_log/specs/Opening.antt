-- What opening a log finds, and why it fails.
use Rattle.std.specs.Prelude.{◌≡◌, ◌≢◌, ℕ, ◌+◌, ◌<◌, ◌≤◌, ◌⊎◌, IsTrue, List, [], ◌∷◌, ◌++◌, length, slice_index, None, Result, Ok, Err, ⊤}
use Rattle.causes.specs.Counts.{Rose}
use Rattle.disk_core.specs.declared.fault.DiskFault.{DiskFault}
use Rattle.disk_core.specs.Images.{Moment, Has, IsImage, EachImage}
use Rattle.disk_core.specs.Views.{DiskView}
use Rattle.disk_core.specs.Calls.{SameDisk, ReadStep, Made, sync, claim}
use Rattle.quorum_log.specs.declared.fault.OpenFault.{OpenFault}
use Rattle.quorum_log.specs.declared.fault.OpenFault.TheVariants.{Failed, Fenced, Blank, BadImage, Memory}
use Rattle.quorum_log.specs.Layout.{number_at, image_size}
use Rattle.quorum_log.specs.Faults.{open_fault}
use Rattle.quorum_log.specs.declared.found.Found.{Found}
use Rattle.quorum_log.specs.Image.{Holds}
use Rattle.quorum_log.specs.Checks.{first_bad, header_checks, HeaderFault, HalvesFault, IsBadImage}

-- The disk holds no log. It was claimed under that token, and nothing is pending.
pub record IsBlank (token : ℕ) (v w : DiskView) : Type 0 where
  pub held_before : v.current.held ≤ token
  pub held : w.current.held ≡ token
  pub settled : IsTrue v.tells → w.current.pending ≡ []
  pub blank : IsTrue v.tells → slice_index v.current.seen 0 ≡ 0

-- Why a log wasn't opened under that token.
abbrev pub OpenFails : ℕ → DiskView → DiskView → OpenFault → Type 0
OpenFails token v w Failed = (v.current.held ≤ token) × Rose v.faults w.faults
OpenFails token v w (Fenced held) = (token < v.current.held) × (held ≡ v.current.held)
OpenFails token v w Blank = IsBlank token v w
OpenFails token v w (BadImage place) = (v.current.held ≤ token) × (IsTrue v.tells → IsBadImage v.current.seen v.size place)
OpenFails token v w Memory = Unit {0}

-- A moment inside `open`: the fencing token is the one before or the new one, and each image could stand before.
abbrev pub IsInOpen : Moment → ℕ → Moment → Type 0
IsInOpen before token m = ((m.held ≡ before.held) ⊎ (m.held ≡ token)) × EachImage (IsImage before) m

-- The log stands in bytes that were read from the front of the disk, which has room for all of it.
pub record WasRead (v : DiskView) (x : Found) : Type 0 where
  pub image : List ℕ
  pub size : length image ≡ image_size x.cap
  pub within : image_size x.cap ≤ v.size
  pub holds : Holds image x
  pub seen : IsTrue v.tells → Has v.current.seen 0 image

-- Reads alone were made.
pub record OnlyRead (v w : DiskView) : Type 0 where
  pub same : SameDisk v w
  pub past : w.past ≡ v.past
  pub current : w.current ≡ v.current

pub record IsRead (v : DiskView) (image : List ℕ) (cap : ℕ) : Type 0 where
  pub size : length image ≡ image_size cap
  pub commit : slice_index image 0 ≢ 0
  pub header : first_bad (header_checks image v.size) ≡ None
  pub cap_is : cap ≡ number_at image 12 4
  pub has : IsTrue v.tells → Has v.current.seen 0 image

abbrev pub ReadFails : DiskView → DiskView → OpenFault → Type 0
ReadFails v w Failed = Rose v.faults w.faults
ReadFails v w (Fenced held) = ⊥
ReadFails v w Blank = IsTrue v.tells → slice_index v.current.seen 0 ≡ 0
ReadFails v w (BadImage place) = IsTrue v.tells → HeaderFault v.current.seen v.size (BadImage place)
ReadFails v w Memory = Unit {0}

-- What opening answers, without the log value.
abbrev pub open_answer : {A : Type 0} → Result (A × Found) OpenFault → Result Found OpenFault
open_answer (Ok opened) = Ok opened.1
open_answer (Err fault) = Err fault

-- What is answered behind the second read: what the bytes that were read hold, or what is at fault in them.
abbrev pub AnswersImage : List ℕ → Result ⊤ DiskFault → Result Found OpenFault → Type 0
AnswersImage image (Ok ok) (Ok x) = Holds image x
AnswersImage image (Ok ok) (Err fault) = HalvesFault image (number_at image 12 4) fault
AnswersImage image (Err fault) result = result ≡ Err (open_fault fault)

-- The header is good, and a second read was made of what is behind it.
pub record ReadsRest (header : List ℕ) (v : DiskView) (result : Result Found OpenFault) (w : DiskView) : Type 0 where
  pub between : DiskView
  pub first : ReadStep v 0 header (Ok tt) between
  pub good : first_bad (header_checks header v.size) ≡ None
  pub rest : List ℕ
  pub whole : 64 + length rest ≡ image_size (number_at header 12 4)
  pub answer : Result ⊤ DiskFault
  pub second : ReadStep between 64 rest answer w
  pub answers : AnswersImage (header ++ rest) answer result

-- The reads of `open`: one of the header, and a second one of the rest, unless the first one failed, the header
-- is at fault, or memory ran out.
abbrev pub ReadsImage : DiskView → Result Found OpenFault → DiskView → Type 0
ReadsImage v result w =
    (header : List ℕ) × (length header ≡ 64) × (
    ((fault : DiskFault) × ReadStep v 0 header (Err fault) w × (result ≡ Err (open_fault fault)))
    ⊎ (((fault : OpenFault) × ReadStep v 0 header (Ok tt) w × (HeaderFault header v.size fault ⊎ (fault ≡ Memory)) × (result ≡ Err fault))
    ⊎ ReadsRest header v result w))

-- Both reads were made and gave the image, whatever its checks answer.
abbrev pub ReadsWhole : List ℕ → DiskView → DiskView → Type 0
ReadsWhole image v w = (result : Result Found OpenFault) → AnswersImage image (Ok tt) result → ReadsImage v result w

-- The calls of `open`, none behind one that is refused: a claim and a sync, and then reads alone.
abbrev pub OpenCalls : ℕ → DiskView → Result Found OpenFault → DiskView → Type 0
OpenCalls token v result w =
    ((u : DiskView) × Made (claim token ∷ sync token ∷ []) v (Ok tt) u × ReadsImage u result w)
    ⊎ ((fault : DiskFault) × Made (claim token ∷ sync token ∷ []) v (Err fault) w × (result ≡ Err (open_fault fault)))
