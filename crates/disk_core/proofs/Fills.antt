-- One pending range after the other is filled.
use Rattle.std.proofs.Common.{◌≡◌, ℕ, ◌+◌, ◌<◌, ◌≤◌, ◌⊎◌, inl, inr, List, [], ◌∷◌, length, take, drop, min, get_or, refl, sym, ◌∙◌, subst, arith}
use Rattle.std.proofs.lemmas.List.{drop_more, take_min, drop_min, length-take}
use Rattle.disk_core.specs.declared.span.Span.{Span}
use Rattle.disk_core.specs.Images.{Moment, IsFree, IsImage, overlay}
use Rattle.disk_core.specs.Crashes.{filled, after_crash}
use Rattle.disk_core.specs.Notes.{AreWithin}
use Rattle.disk_core.proofs.Overlays.{length-overlay, overlay_same}

length-part : (r : Span) (rest : List ℕ) → length (take r.len rest) ≤ r.len
length-part r rest = omega (arith, length-take r.len rest)

pub ranges-next : (pending : List Span) (i : ℕ) (d : Span) (size : ℕ) → i < length pending → AreWithin size (drop i pending) → ((get_or pending i d).at + (get_or pending i d).len ≤ size) × AreWithin size (drop (i + 1) pending)
ranges-next pending i d size below within = rw (drop_more pending i d below) at within

pub fill-next : (pending : List Span) (i : ℕ) (d : Span) (rest image whole : List ℕ) → i < length pending → filled (drop i pending) rest image ≡ whole
    → filled (drop (i + 1) pending) (drop (min (get_or pending i d).len (length rest)) rest) (overlay image (get_or pending i d).at (take (min (get_or pending i d).len (length rest)) rest)) ≡ whole
unfolding filled
fill-next pending i d rest image whole below e =
    let r : Span = get_or pending i d in
    let one : filled (r ∷ drop (i + 1) pending) rest image ≡ whole = rw (drop_more pending i d below) at e in
    rw (take_min r.len rest, drop_min r.len rest) one

pub fill-size : (r : Span) (rest image : List ℕ) → r.at + r.len ≤ length image → length (overlay image r.at (take (min r.len (length rest)) rest)) ≡ length image
fill-size r rest image within =
    rw (take_min r.len rest) (length-overlay image r.at (take r.len rest) (omega (arith, length-part r rest)))

-- what is filled is an image of the moment
pub filled-size : (rs : List Span) (bytes image : List ℕ) → AreWithin (length image) rs → length (filled rs bytes image) ≡ length image
unfolding filled
filled-size [] bytes image within = refl
filled-size (r ∷ rs) bytes image within =
    let size : length (overlay image r.at (take r.len bytes)) ≡ length image = length-overlay image r.at (take r.len bytes) (omega (arith, within.0, length-part r bytes)) in
    let rest : AreWithin (length (overlay image r.at (take r.len bytes))) rs = (let P : ℕ → Type 0 = λ k. AreWithin k rs in subst P (sym size) within.1) in
    filled-size rs (drop r.len bytes) (overlay image r.at (take r.len bytes)) rest ∙ size

pub filled-outside : (rs : List Span) (bytes image : List ℕ) → AreWithin (length image) rs → (i : ℕ) → IsFree rs i → get_or (filled rs bytes image) i 0 ≡ get_or image i 0
unfolding filled
filled-outside [] bytes image within i free = refl
filled-outside (r ∷ rs) bytes image within i free =
    let part : r.at + length (take r.len bytes) ≤ length image = omega (arith, within.0, length-part r bytes) in
    let size : length (overlay image r.at (take r.len bytes)) ≡ length image = length-overlay image r.at (take r.len bytes) part in
    let rest : AreWithin (length (overlay image r.at (take r.len bytes))) rs = (let P : ℕ → Type 0 = λ k. AreWithin k rs in subst P (sym size) within.1) in
    let out : (i < r.at) ⊎ (r.at + length (take r.len bytes) ≤ i) = elim free.0 [ inl below ↦ inl below | inr above ↦ inr (omega (arith, above, length-part r bytes)) ] in
    filled-outside rs (drop r.len bytes) (overlay image r.at (take r.len bytes)) rest i free.1
    ∙ (overlay_same image r.at (take r.len bytes) part).each i out

pub crash_image : (m : Moment) (bytes : List ℕ) → AreWithin (length m.seen) m.pending → IsImage m (after_crash m bytes).seen
crash_image m bytes within = record {
  size = filled-size m.pending bytes m.seen within;
  outside = filled-outside m.pending bytes m.seen within;
}

pub fill-turn : (pending : List Span) (i : ℕ) (d : Span) (rest front back image image' whole : List ℕ) (count : ℕ)
    → i < length pending → count ≡ min (get_or pending i d).len (length rest) → front ≡ take count rest → back ≡ drop count rest
    → image' ≡ overlay image (get_or pending i d).at front → filled (drop i pending) rest image ≡ whole → AreWithin (length image) (drop i pending)
    → (filled (drop (i + 1) pending) back image' ≡ whole) × AreWithin (length image') (drop (i + 1) pending)
fill-turn pending i d rest front back image image' whole count below counted is_front is_back put e within =
    let r : Span = get_or pending i d in
    let ranges = ranges-next pending i d (length image) below within in
    let size = fill-size r rest image ranges.0 in
    let rewritten : image' ≡ overlay image r.at (take (min r.len (length rest)) rest) = rw (put, is_front, counted) refl in
    rw (rewritten, is_back, counted) (fill-next pending i d rest image whole below e, rw size ranges.1)
