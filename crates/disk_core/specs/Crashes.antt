-- What a crash disk does besides.
use Rattle.std.specs.Prelude.{◌≡◌, ℕ, ◌-◌, min, IsTrue, List, [], ◌∷◌, length, take, drop, Option, Some, None, get_or}
use Rattle.disk_core.specs.declared.span.Span.{Span}
use Rattle.disk_core.specs.Images.{Moment, IsImage, overlay, total}
use Rattle.disk_core.specs.Views.{DiskView, Plan, moments}
use Rattle.disk_core.specs.Calls.{SameDisk}

-- The ranges are filled from the first on with the bytes; where these end, the image stays as it was.
unfoldable pub filled : List Span → List ℕ → List ℕ → List ℕ
filled [] bytes image = image
filled (r ∷ rs) bytes image = filled rs (drop r.len bytes) (overlay image r.at (take r.len bytes))

-- The moment after so many calls since the mark, or after all where there were fewer.
abbrev pub moment_at : DiskView → ℕ → Moment
moment_at v calls = get_or (moments v) (min calls (length v.past)) v.current

abbrev pub after_crash : Moment → List ℕ → Moment
after_crash m bytes = record { seen = filled m.pending bytes m.seen; pending = []; held = m.held }

-- Ranges that are still pending at a mark are the first to take of its room.
abbrev pub marked_plan : List Span → Option Plan → Option Plan
marked_plan pending None = None
marked_plan pending (Some p) =
    Some (record p { calls_left = p.most_calls - length pending; bytes_left = p.most_bytes - total pending })

-- The present moment is the first one that is counted from.
pub record Marked (v w : DiskView) : Type 0 where
  pub same : SameDisk v w
  pub faults : w.faults ≡ v.faults
  pub current : w.current ≡ v.current
  pub past : w.past ≡ []
  pub plan : w.plan ≡ marked_plan v.current.pending v.plan

-- The disk is as a crash after so many calls left it, with the bytes in what was pending then.
pub record Crashed (v : DiskView) (calls : ℕ) (bytes : List ℕ) (w : DiskView) : Type 0 where
  pub same : SameDisk v w
  pub faults : w.faults ≡ v.faults
  pub past : w.past ≡ []
  pub left : IsTrue v.tells → w.current ≡ after_crash (moment_at v calls) bytes
  pub image : IsTrue v.tells → IsImage (moment_at v calls) w.current.seen
  pub plan : w.plan ≡ marked_plan [] v.plan

abbrev pub awaiting : ℕ → Option Plan → Option Plan
awaiting call None = None
awaiting call (Some p) = Some (record p { awaits = call })
