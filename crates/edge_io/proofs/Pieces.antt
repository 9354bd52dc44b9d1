-- Pieces that follow one another: written to a sink, or read from a source.
use Rattle.std.proofs.Common.{◌≡◌, ℕ, ◌+◌, ◌-◌, ◌≤◌, List, ◌++◌, length, take, drop, Option, Some, None, IfSome, refl, append_assoc, length-append, arith}
use Rattle.std.proofs.Math.Seq.{take-add, drop-append_seam}
use Rattle.std.proofs.lemmas.List.{take_rest}
use Rattle.std.specs.Io.KnownBytes.{Consumes}
use Rattle.std.proofs.KnownBytes.{Consumes-trans}
use Rattle.causes.specs.Writing.{Wrote}
use Rattle.edge_io.specs.declared.reading.ReadAll.TheVariants.{TooLong, Memory}
use Rattle.edge_io.specs.Reading.{ReadsAll}

-- one write behind another
pub Wrote-append : (a b c : Option (List ℕ)) (xs ys : List ℕ) → Wrote a b xs → Wrote b c ys → Wrote a c (xs ++ ys)
Wrote-append None None None xs ys first second = tt
Wrote-append (Some a) None None xs ys first second = tt
Wrote-append None (Some b) None xs ys first second = tt
Wrote-append (Some a) (Some b) None xs ys first second = tt
Wrote-append None None (Some c) xs ys first second = absurd second
Wrote-append (Some a) None (Some c) xs ys first second = absurd second
Wrote-append None (Some b) (Some c) xs ys first second = absurd first
Wrote-append (Some a) (Some b) (Some c) xs ys first second = rw (second, first, append_assoc) refl

-- a prefix was written, and then n bytes more
pub Wrote-take : (a b c : Option (List ℕ)) (bytes : List ℕ) (done n : ℕ) → Wrote a b (take done bytes)
    → Wrote b c (take n (take (length bytes - done) (drop done bytes))) → Wrote a c (take (done + n) bytes)
Wrote-take a b c bytes done n first second =
    rw (take-add done n bytes) (Wrote-append a b c (take done bytes) (take n (drop done bytes)) first (rw (take_rest bytes done) at second))

-- what was read is the front of what was left
front_read : (left : List ℕ) (now : Option (List ℕ)) (front : List ℕ) → Consumes (Some left) now front
    → (length front ≤ length left) × (now ≡ Some (drop (length front) left))
front_read left None front read = absurd read
front_read left (Some rest) front read = (rw (read, length-append) (omega arith), rw (read, drop-append_seam) refl)

-- one byte more was read than is taken
pub too_long : (before middle now : Option (List ℕ)) (bytes piece : List ℕ) (most : ℕ) → Consumes before middle bytes → Consumes middle now piece
    → length bytes + length piece ≡ most + 1 → IfSome before (λ left. ReadsAll left most TooLong now)
too_long None middle now bytes piece most first second size = tt
too_long (Some left) middle now bytes piece most first second size =
    let all = front_read left now (bytes ++ piece) (Consumes-trans (Some left) middle now bytes piece first second) in
    let count : length (bytes ++ piece) ≡ most + 1 = omega (arith, length-append {A = ℕ}, size) in
    let bound : length (bytes ++ piece) ≤ length left = all.0 in
    (omega (arith, bound, count), rw (← count) all.1)

-- what was read is no more than is taken, and could not be kept
pub not_kept : (before middle now : Option (List ℕ)) (bytes piece : List ℕ) (most : ℕ) → Consumes before middle bytes → Consumes middle now piece
    → length bytes + length piece ≤ most → IfSome before (λ left. ReadsAll left most Memory now)
not_kept None middle now bytes piece most first second size = tt
not_kept (Some left) middle now bytes piece most first second size =
    let all = front_read left now (bytes ++ piece) (Consumes-trans (Some left) middle now bytes piece first second) in
    (length (bytes ++ piece), omega (arith, length-append {A = ℕ}, size), all.1)
