-- What the images of a disk hold while one node alone writes its log, and behind that.
use Rattle.std.specs.Prelude.{◌≡◌, ℕ, ◌⊎◌, List, [], ◌∷◌, ◌++◌, Option, Some, None, slice_index}
use Rattle.std.specs.Option.{option_to_list}
use Rattle.update_records.specs.Entry.{Entry}
use Rattle.disk_core.specs.Images.{Moment, EachImage, IsImage}
use Rattle.disk_core.specs.Views.{DiskView, Passes}
use Rattle.quorum_log.specs.declared.found.Found.{Found}
use Rattle.quorum_log.specs.Image.{Holds}
use Rattle.log_contents.specs.declared.contents.LogContents.{LogContents}
use Rattle.log_contents.specs.Contents.{IsContents}
use Rattle.single_log.specs.Contents.{IsFurther, first_log}

-- ---- an image

-- It holds the records found and these further ones.
pub record HoldsFurther (found : Found) (contents : LogContents) (q : List Entry) (image : List ℕ) : Type 0 where
  pub log : Found
  pub holds : Holds image log
  pub is : IsFurther found contents q log

-- Where a record is in doubt it may hold that one behind them too.
abbrev pub MayHoldOne : Found → LogContents → List Entry → Option Entry → List ℕ → Type 0
MayHoldOne found contents q None image = HoldsFurther found contents q image
MayHoldOne found contents q (Some e) image = HoldsFurther found contents q image ⊎ HoldsFurther found contents (q ++ e ∷ []) image

-- ---- a moment

-- Each image holds the first so many of these further records, or the next one too. So two images differ by at most one record.
pub record HoldsFront (found : Found) (contents : LogContents) (all : List Entry) (m : Moment) : Type 0 where
  pub front : List Entry
  pub doubtful : Option Entry
  pub others : List Entry
  pub split : all ≡ front ++ (option_to_list doubtful ++ others)
  pub images : EachImage (MayHoldOne found contents front doubtful) m

-- Until the log was opened an image is one that could stand before, a blank one where the disk was blank, or the log as it was found.
abbrev pub IsBefore : Moment → Found → LogContents → List ℕ → Type 0
IsBefore before found contents image =
    IsImage before image
    ⊎ (((slice_index before.seen 0 ≡ 0) × (slice_index image 0 ≡ 0)) ⊎ HoldsFurther found contents [] image)

-- ---- from before the opening to the end

-- The disk held the log with these contents, or was blank, and it is the first one.
pub record WasFound (found : Found) (contents : LogContents) (v : DiskView) : Type 0 where
  pub decodes : IsContents found contents
  pub held : Holds v.current.seen found ⊎ ((slice_index v.current.seen 0 ≡ 0) × (found ≡ first_log found.cap))

-- The log was opened in between, and since then each moment holds a front of these further records.
pub record IsKept (found : Found) (contents : LogContents) (all : List Entry) (v w : DiskView) : Type 0 where
  pub was : WasFound found contents v
  pub opened : DiskView
  pub opening : Passes (EachImage (IsBefore v.current found contents)) v opened
  pub since : Passes (HoldsFront found contents all) opened w

-- All is done: each image holds the records found and these further ones.
pub record IsDone (found : Found) (contents : LogContents) (q : List Entry) (v w : DiskView) : Type 0 where
  pub kept : IsKept found contents q v w
  pub images : EachImage (HoldsFurther found contents q) w.current

-- It was cut off: each image holds these further ones, or the record in doubt too.
pub record IsCut (found : Found) (contents : LogContents) (q : List Entry) (doubtful : Option Entry) (v w : DiskView) : Type 0 where
  pub kept : IsKept found contents (q ++ option_to_list doubtful) v w
  pub images : EachImage (MayHoldOne found contents q doubtful) w.current
