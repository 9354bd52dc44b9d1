-- The meaning of a disk, as contracts see it.
use Rattle.std.specs.Prelude.{◌≡◌, ℕ, Bool, List, [], ◌∷◌, ◌++◌, Option}
use Rattle.std.specs.List.{AllByRecursion}
use Rattle.disk_core.specs.Images.{Moment}

-- What a crash disk tells of the calls that it will let fail.
pub record Plan : Type 0 where
  -- which call from now fails, 0 for none
  pub awaits : ℕ
  -- for how many calls, and bytes of writes, it has room since a mark
  pub most_calls : ℕ
  pub most_bytes : ℕ
  -- the room that is left
  pub calls_left : ℕ
  pub bytes_left : ℕ

pub record DiskView : Type 0 where
  pub size : ℕ
  -- how many calls failed; it stands still at its type's end
  pub faults : ℕ
  -- whether the disk tells its content and its past; one over a real file doesn't
  pub tells : Bool
  -- the present moment, whose token is always told
  pub current : Moment
  -- the moments before this one since the mark, the first one first
  pub past : List Moment
  -- None where the disk doesn't tell which calls will fail
  pub plan : Option Plan

abbrev pub moments : DiskView → List Moment
moments v = v.past ++ v.current ∷ []

-- From the first disk to the second one, both included, each moment has P.
pub record Passes (P : Moment → Type 0) (v w : DiskView) : Type 0 where
  pub further : List Moment
  pub goes_on : moments w ≡ moments v ++ further
  pub first : P v.current
  pub each : AllByRecursion P further
