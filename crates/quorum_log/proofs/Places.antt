-- Numbers and bytes by their place: what keeps them, and what is read of what was written.
use Rattle.std.proofs.Common.{◌≡◌, ℕ, zero, suc, ◌+◌, ◌<◌, ◌≤◌, ◌⊎◌, inl, inr, ◌^◌, List, [], ◌∷◌, ◌++◌, length, take, drop, get_or, refl, sym, ap, ◌∙◌, arith, length-append, length-drop}
use Rattle.std.proofs.lemmas.List.{get_or_append_left, get_or-append-add, get_or-drop, get_or-take, append-nil, length-take-le}
use Rattle.byteorder.specs.Endian.{little_from, little_bytes, little_number}
use Rattle.byteorder.specs.Numbers.{little_number-reads_back, length-bytes_low_first}
use Rattle.wire_fields.specs.declared.endian.Endian.TheVariants.{Little}
use Rattle.wire_fields.specs.Numbers.{num, number}
use Rattle.disk_core.specs.Images.{Has, SameOutside}
use Rattle.quorum_log.specs.Layout.{window, number_at}

-- the same bytes stand from one place up to another
abbrev pub SameWithin : ℕ → ℕ → List ℕ → List ℕ → Type 0
SameWithin from to old new = (i : ℕ) → from ≤ i → i < to → get_or new i 0 ≡ get_or old i 0

from_places : (xs ys : List ℕ) (i j n : ℕ) → ((k : ℕ) → k < n → get_or xs (i + k) 0 ≡ get_or ys (j + k) 0) → little_from i n xs ≡ little_from j n ys
from_places xs ys i j zero same = refl
from_places xs ys i j (suc n) same =
    let here : get_or xs i 0 ≡ get_or ys j 0 = (let s = same 0 (omega arith) in let a : i + 0 ≡ i = omega arith in let b : j + 0 ≡ j = omega arith in rw (a, b) at s) in
    let rest : little_from (suc i) n xs ≡ little_from (suc j) n ys = from_places xs ys (suc i) (suc j) n (λ k below.
    let s = same (suc k) (omega arith) in
    let a : i + suc k ≡ suc i + k = omega arith in
    let b : j + suc k ≡ suc j + k = omega arith in
    rw (a, b) at s) in
    rw (here, rest) refl

-- a number by its places
pub number_at-is : (image : List ℕ) (at width : ℕ) → number_at image at width ≡ little_from at width image
unfolding number_at number
number_at-is image at width = from_places (drop at image) image 0 at width (λ k below.
    let z : 0 + k ≡ k = omega arith in rw z (get_or-drop at image k 0))

pub same_number : (old new : List ℕ) (from to at width : ℕ) → SameWithin from to old new → from ≤ at → at + width ≤ to → number_at new at width ≡ number_at old at width
same_number old new from to at width same low high =
    number_at-is new at width
    ∙ from_places new old at at width (λ k below. same (at + k) (omega arith) (omega arith))
    ∙ sym (number_at-is old at width)

pub same_window : (old new : List ℕ) (from to at count : ℕ) → SameWithin from to old new → from ≤ at → at + count ≤ to → window new at count ≡ window old at count
unfolding window
same_window old new from to at zero same low high = refl
same_window old new from to at (suc count) same low high =
    let here = same at low (omega arith) in
    let rest = same_window old new from to (at + 1) count same (omega arith) (omega arith) in
    rw (here, rest) refl

-- a number and bytes that stand there
pub has_window : (image : List ℕ) (at : ℕ) (bytes : List ℕ) → ((k : ℕ) → k < length bytes → get_or image (at + k) 0 ≡ get_or bytes k 0) → window image at (length bytes) ≡ bytes
unfolding window
has_window image at [] each = refl
has_window image at (b ∷ bs) each =
    let here : get_or image at 0 ≡ b = (let s = each 0 (omega arith) in let a : at + 0 ≡ at = omega arith in rw a at s) in
    let rest : window image (at + 1) (length bs) ≡ bs = has_window image (at + 1) bs (λ k below.
    let s = each (suc k) (omega arith) in
    let a : at + suc k ≡ at + 1 + k = omega arith in
    rw a at s) in
    rw (here, rest) refl

pub length-num : (width value : ℕ) → length (num Little width value) ≡ width
unfolding num
length-num width value = length-bytes_low_first 0 width value

pub has_number : (image : List ℕ) (at width value : ℕ) → value < 256 ^ width → Has image at (num Little width value) → number_at image at width ≡ value
unfolding num
has_number image at width value fits has =
    let bytes = little_bytes width value in
    let long : length bytes ≡ width = length-bytes_low_first 0 width value in
    let back : little_number width (bytes ++ []) ≡ value = little_number-reads_back width value [] fits in
    let z : (k : ℕ) → 0 + k ≡ k = λ k. omega arith in
    number_at-is image at width
    ∙ from_places image bytes at 0 width (λ k below. rw (z k) (has.each k (omega arith)))
    ∙ (rw (append-nil bytes) at back)

-- the parts of what stands there
pub has_left : (image : List ℕ) (at : ℕ) (a b : List ℕ) → Has image at (a ++ b) → Has image at a
has_left image at a b has = record {
  within = omega (arith, has.within, length-append a b);
  each = λ k below. has.each k (omega (arith, length-append a b)) ∙ get_or_append_left a b 0 k below;
}

pub has_right : (image : List ℕ) (at : ℕ) (a b : List ℕ) → Has image at (a ++ b) → Has image (at + length a) b
has_right image at a b has = record {
  within = omega (arith, has.within, length-append a b);
  each = λ k below.
      let s = has.each (length a + k) (omega (arith, length-append a b)) in
      let e : at + (length a + k) ≡ at + length a + k = omega arith in
      (rw e at s) ∙ get_or-append-add a b k 0;
}

pub has_one : (image : List ℕ) (at b : ℕ) → Has image at (b ∷ []) → get_or image at 0 ≡ b
has_one image at b has = let s = has.each 0 (omega arith) in let a : at + 0 ≡ at = omega arith in rw a at s

-- what stands there stays where the places do
pub has_kept : (old new : List ℕ) (from to at : ℕ) (bytes : List ℕ) → length new ≡ length old → SameWithin from to old new → from ≤ at → at + length bytes ≤ to → Has old at bytes → Has new at bytes
has_kept old new from to at bytes size same low high has = record {
  within = omega (arith, has.within);
  each = λ k below. same (at + k) (omega arith) (omega arith) ∙ has.each k below;
}

pub within_from : (at count from to : ℕ) (old new : List ℕ) → SameOutside at count old new → (to ≤ at) ⊎ (at + count ≤ from) → SameWithin from to old new
within_from at count from to old new same apart i low high = elim apart [
  | inl before ↦ same.each i (inl (omega arith))
  | inr behind ↦ same.each i (inr (omega arith))
]

pub within_part : (from to from' to' : ℕ) (old new : List ℕ) → SameWithin from to old new → from ≤ from' → to' ≤ to → SameWithin from' to' old new
within_part from to from' to' old new same low high i a b = same i (omega arith) (omega arith)

pub within_trans : (from to : ℕ) (a b c : List ℕ) → SameWithin from to a b → SameWithin from to b c → SameWithin from to a c
within_trans from to a b c p q i low high = q i low high ∙ p i low high

pub length-window : (image : List ℕ) (at count : ℕ) → length (window image at count) ≡ count
unfolding window
length-window image at zero = refl
length-window image at (suc count) = ap suc (length-window image (at + 1) count)

-- the bytes of a slice
pub window_is : (image : List ℕ) (at count : ℕ) → at + count ≤ length image → take count (drop at image) ≡ window image at count
window_is image at count within =
    let long : length (take count (drop at image)) ≡ count = length-take-le count (drop at image) (omega (arith, length-drop at image)) in
    let same : window image at (length (take count (drop at image))) ≡ take count (drop at image) =
    has_window image at (take count (drop at image)) (λ k below. sym (get_or-take count (drop at image) k 0 (omega arith) ∙ get_or-drop at image k 0)) in
    sym same ∙ ap (λ n. window image at n) long
