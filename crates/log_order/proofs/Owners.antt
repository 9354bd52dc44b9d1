-- An owner's log value stands for the log that its disk is.
use Rattle.std.proofs.Common.{◌≡◌, ℕ, List, None, inl, inr, subst}
use Rattle.disk_core.specs.Views.{DiskView}
use Rattle.quorum_log.specs.declared.found.Found.{Found}
use Rattle.quorum_log.specs.Image.{Holds}
use Rattle.quorum_log.specs.Logs.{LogValue, StandsFor}
use Rattle.quorum_log.proofs.Moments.{settled_images}
use Rattle.quorum_log.proofs.OneLog.{one_log}
use Rattle.quorum_log.proofs.Opened.{seen_image}
use Rattle.update_records.specs.Entry.{Entry}
use Rattle.cluster_rules.specs.Worlds.{Log}
use Rattle.log_order.specs.Orders.{IsOrderOf}
use Rattle.log_order.specs.Refinement.{ImageHolds, MayHold, Owns, Refines}

pub owned : (l : Log) (w : DiskView) (log : LogValue) (x : Found) → l.doubtful ≡ None → StandsFor log w x → IsOrderOf l.cap l.order x → log.claim ≡ l.held → w.current.held ≡ l.held
    → Refines l w × Owns l w log
owned l w log x sure stands is claim held =
    let here : MayHold l w.current.seen = inl (record { found = x; holds = stands.holds; is = is }) in (
      record { tells = stands.told; now = (held, settled_images (MayHold l) w.current stands.settled here) },
      record { claim = claim; sure = sure; found = x; stands = stands; is = is },
    )

-- what a read gives is an image that a crash may leave
pub now_held : (l : Log) (v : DiskView) → Refines l v → MayHold l v.current.seen
now_held l v refines = refines.now.1 v.current.seen (seen_image v.current)

pub some_log : (l : Log) (image : List ℕ) → MayHold l image → (x : Found) × Holds image x
some_log l image may = elim may [
  | inl old ↦ (old.found, old.holds)
  | inr new ↦ (new.2.found, new.2.holds)
]

-- the log that was found in an image is of the order that the image holds
pub same_order : (cap : ℕ) (order : List Entry) (image : List ℕ) (x : Found) → Holds image x → ImageHolds cap order image → IsOrderOf cap order x
same_order cap order image x holds held = subst (IsOrderOf cap order) (one_log image held.found x held.holds holds) held.is
