-- How a disk with its bytes, its pending ranges and its moments is the log that the protocol speaks of.
use Rattle.std.specs.Prelude.{◌≡◌, ◌⊎◌, ℕ, Bool, IsTrue, List, [], ◌∷◌, ◌++◌, Some, None}
use Rattle.update_records.specs.Entry.{Entry}
use Rattle.disk_core.specs.Images.{Moment, EachImage}
use Rattle.disk_core.specs.Views.{DiskView}
use Rattle.quorum_log.specs.declared.found.Found.{Found}
use Rattle.quorum_log.specs.Image.{Holds}
use Rattle.quorum_log.specs.Logs.{LogValue, StandsFor}
use Rattle.cluster_rules.specs.Worlds.{Log}
use Rattle.log_order.specs.Orders.{IsOrderOf}

-- The image holds a log of this order. Behind a checkpoint it no longer has the old records, so several orders may fit.
pub record ImageHolds (cap : ℕ) (order : List Entry) (image : List ℕ) : Type 0 where
  pub found : Found
  pub holds : Holds image found
  pub is : IsOrderOf cap order found

-- An image that a crash may leave: the order, or the order and behind it the record in doubt.
abbrev pub MayHold : Log → List ℕ → Type 0
MayHold l image =
    ImageHolds l.cap l.order image
    ⊎ ((e : Entry) × (l.doubtful ≡ Some e) × ImageHolds l.cap (l.order ++ e ∷ []) image)

-- A moment of that log: the greatest view that has claimed it is the fencing token of the disk.
abbrev pub MomentOf : Log → Moment → Type 0
MomentOf l m = (m.held ≡ l.held) × EachImage (MayHold l) m

-- A moment of one of these logs, as inside a call that has done its work or not.
abbrev pub MomentOfOne : (Bool → Log) → Moment → Type 0
MomentOfOne logs m = (which : Bool) × MomentOf (logs which) m

-- The disk tells its content, and its present moment is one of that log.
pub record Refines (l : Log) (v : DiskView) : Type 0 where
  pub tells : IsTrue v.tells
  pub now : MomentOf l v.current

-- Whose log value this is has claimed the log last: nothing is pending or in doubt, and the value is that of the log.
pub record Owns (l : Log) (v : DiskView) (log : LogValue) : Type 0 where
  pub claim : log.claim ≡ l.held
  pub sure : l.doubtful ≡ None
  pub found : Found
  pub stands : StandsFor log v found
  pub is : IsOrderOf l.cap l.order found
