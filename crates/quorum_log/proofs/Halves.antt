-- The two halves of an image, and what is read alike from two images.
use Rattle.std.proofs.Common.{◌≡◌, ℕ, ◌+◌, ◌-◌, ◌<◌, ◌≤◌, ◌⊎◌, inl, inr, List, [], ◌++◌, length, take, get_or, refl, sym, ap, ◌∙◌, arith, length-append}
use Rattle.std.proofs.lemmas.Bool.{cases_eq, cases_lt}
use Rattle.std.proofs.lemmas.List.{append-nil, length-take-le, get_or_append_left, get_or-append_right, take-append-le, take_all}
use Rattle.disk_core.specs.Images.{Has}
use Rattle.quorum_log.specs.Layout.{half_size, half_at, image_size}
use Rattle.quorum_log.proofs.Places.{SameWithin}

pub which_half : (half : ℕ) → half ≤ 1 → (half ≡ 0) ⊎ (half ≡ 1)
which_half half small = elim (cases_eq half 0) [
  | inl zero ↦ inl zero
  | inr more ↦ inr (omega arith)
]

pub half_within : (cap half : ℕ) → (half ≡ 0) ⊎ (half ≡ 1) → half_at cap half + half_size cap ≤ image_size cap
half_within cap half which = elim which [
  | inl zero ↦ rw zero (omega arith)
  | inr one ↦ rw one (omega arith)
]

pub other_which : (half : ℕ) → (half ≡ 0) ⊎ (half ≡ 1) → (1 - half ≡ 0) ⊎ (1 - half ≡ 1)
other_which half which = elim which [
  | inl zero ↦ inr (rw zero refl)
  | inr one ↦ inl (rw one refl)
]

pub other_back : (half : ℕ) → (half ≡ 0) ⊎ (half ≡ 1) → 1 - (1 - half) ≡ half
other_back half which = elim which [
  | inl zero ↦ rw zero refl
  | inr one ↦ rw one refl
]

-- an image and what a disk gives, which is longer
pub has_same : (seen image : List ℕ) → Has seen 0 image → SameWithin 0 (length image) image seen
has_same seen image has i low high =
    let same : get_or seen (0 + i) 0 ≡ get_or image i 0 = has.each i high in
    let z : i ≡ 0 + i = omega arith in
    ap (λ k. get_or seen k 0) z ∙ same

joined_each : (seen front back : List ℕ) → Has seen 0 front → Has seen (length front) back → (k : ℕ) → k < length (front ++ back) → get_or seen (0 + k) 0 ≡ get_or (front ++ back) k 0
joined_each seen front back a b k below = elim (cases_lt k (length front)) [
  | inl lt ↦ a.each k lt ∙ sym (get_or_append_left front back 0 k lt)
  | inr le ↦
      let s = b.each (k - length front) (omega (arith, length-append front back)) in
      let e : length front + (k - length front) ≡ 0 + k = omega arith in
      (rw e at s) ∙ sym (get_or-append_right front back (length front) k 0 refl le)
]

-- the header and what is read behind it
pub has_joined : (seen front back : List ℕ) → Has seen 0 front → Has seen (length front) back → Has seen 0 (front ++ back)
has_joined seen front back a b = record {
  within = omega (arith, b.within, length-append front back);
  each = joined_each seen front back a b;
}

pub rest_read : (len : ℕ) (whole items header into post behind : List ℕ)
    → whole ≡ items → take 64 items ≡ header → post ≡ [] → 64 + length into ≡ len → 64 ≤ length items
    → take len ((take 64 whole ++ (into ++ post)) ++ behind) ≡ header ++ into
rest_read len whole items header into post behind same front none long room =
    let front' : take 64 whole ≡ header = rw same front in
    let size : length header ≡ 64 = ap (λ xs. length xs) (sym front) ∙ length-take-le 64 items room in
    let join : (take 64 whole ++ (into ++ post)) ++ behind ≡ (header ++ into) ++ behind = rw (front', none, append-nil into) refl in
    let count : length (header ++ into) ≡ len = omega (arith, length-append header into) in
    rw join (rw (← count) (take-append-le (length (header ++ into)) (header ++ into) behind (omega arith) ∙ take_all (length (header ++ into)) (header ++ into) (omega arith)))
