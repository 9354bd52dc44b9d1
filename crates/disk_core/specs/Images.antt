-- What a disk holds at one moment, and what a crash at that moment may leave of it.
use Rattle.std.specs.Prelude.{◌≡◌, ℕ, ◌+◌, ◌<◌, ◌≤◌, ◌⊎◌, List, [], ◌∷◌, length, take, drop, ◌++◌, slice_index}
use Rattle.std.specs.List.{sum_by}
use Rattle.disk_core.specs.declared.span.Span.{Span}

-- The bytes stand in the image, from that place on.
pub record Has (image : List ℕ) (at : ℕ) (bytes : List ℕ) : Type 0 where
  pub within : at + length bytes ≤ length image
  pub each : (k : ℕ) → k < length bytes → slice_index image (at + k) ≡ slice_index bytes k

-- The new image differs from the old one in those bytes alone.
pub record SameOutside (at count : ℕ) (old new : List ℕ) : Type 0 where
  pub size : length new ≡ length old
  pub each : (i : ℕ) → (i < at) ⊎ (at + count ≤ i) → slice_index new i ≡ slice_index old i

-- The image with these bytes in the place of as many that stood there.
abbrev pub overlay : List ℕ → ℕ → List ℕ → List ℕ
overlay old at bytes = take at old ++ bytes ++ drop (at + length bytes) old

-- What a read gives, the ranges written since the last successful sync in the order of their writes,
-- and the fencing token that the disk holds.
pub record Moment : Type 0 where
  pub seen : List ℕ
  pub pending : List Span
  pub held : ℕ

-- No range covers the place.
abbrev pub IsFree : List Span → ℕ → Type 0
IsFree [] i = Unit {0}
IsFree (r ∷ rs) i = ((i < r.at) ⊎ (r.at + r.len ≤ i)) × IsFree rs i

-- A crash at that moment may leave this image: any bytes in pending ranges, elsewhere what a read gives.
pub record IsImage (m : Moment) (image : List ℕ) : Type 0 where
  pub size : length image ≡ length m.seen
  pub outside : (i : ℕ) → IsFree m.pending i → slice_index image i ≡ slice_index m.seen i

abbrev pub EachImage : (List ℕ → Type 0) → Moment → Type 0
EachImage P m = (image : List ℕ) → IsImage m image → P image

-- How many bytes the ranges have together.
abbrev pub total : List Span → ℕ
total ranges = sum_by (λ r. r.len) ranges
