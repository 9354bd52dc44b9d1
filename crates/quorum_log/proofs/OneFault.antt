-- The checks of an image fail at one place at most, and nowhere where it holds a log.
use Rattle.std.proofs.Common.{◌≡◌, ◌≢◌, ℕ, suc, ◌+◌, ◌-◌, ◌≤◌, ◌⊎◌, inl, inr, Bool, true, false, not, ◌==◌, ◌&&◌, ◌||◌, nat_le, if◌then◌else◌, List, [], ◌∷◌, length, get_or, Option, Some, None, refl, sym, ap, ◌∙◌, subst, arith}
use Rattle.std.specs.Str.{bytes_eq}
use Rattle.std.proofs.lemmas.Bool.{eq-eqb}
use Rattle.std.proofs.lemmas.Bool.Decides.{nat_tests}
use Rattle.quorum_log.specs.declared.fault.OpenFault.TheVariants.{BadImage}
use Rattle.quorum_log.specs.declared.found.Found.{Found}
use Rattle.quorum_log.specs.declared.found.FoundRecord.{FoundRecord}
use Rattle.quorum_log.specs.Layout.{window, number_at, magic, half_size, half_at, image_size, most_record, next_generation}
use Rattle.quorum_log.specs.Image.{Holds, IsFramed, Listed, commit_behind, end_of, list_at, other_of, start_of}
use Rattle.quorum_log.proofs.OneLog.{not_both_next}
use Rattle.quorum_log.specs.Checks.{HalvesFault, HasBadLength, IsBadBehind, IsBadHalf, IsBadImage, IsTooMany, current_half, first_bad, halves_checks, header_checks, is_next, is_valid, length_checks, list_in}

-- ---- where a list of records ends

-- No good record is committed there.
abbrev Stops : List ℕ → ℕ → ℕ → Type 0
Stops image end at = (get_or image at 0 ≡ 0) ⊎ HasBadLength image end at

no_stop : (image : List ℕ) (end at : ℕ) (r : FoundRecord) → IsFramed image end at r → Stops image end at → ⊥
no_stop image end at r is (inl closed) = is.commit closed
no_stop image end at r is (inr (inl none)) = absurd (omega (arith, is.size, is.some, none))
no_stop image end at r is (inr (inr (inl long))) = absurd (omega (arith, is.size, is.most, long))
no_stop image end at r is (inr (inr (inr room))) = absurd (omega (arith, is.size, is.room, room))

one_end : (image : List ℕ) (end at : ℕ) (rs ss : List FoundRecord) → Listed image end at rs → Stops image end (commit_behind at rs) → Listed image end at ss → Stops image end (commit_behind at ss)
    → (commit_behind at rs ≡ commit_behind at ss) × (length rs ≡ length ss)
one_end image end at [] [] a stops b stops' = (refl, refl)
one_end image end at [] (s ∷ ss) a stops b stops' = absurd (no_stop image end at s b.0 stops)
one_end image end at (r ∷ rs) [] a stops b stops' = absurd (no_stop image end at r a.0 stops')
one_end image end at (r ∷ rs) (s ∷ ss) a stops b stops' =
    let next : at + 5 + length s.bytes ≡ at + 5 + length r.bytes = ap (λ n. at + 5 + n) (sym b.0.size ∙ a.0.size) in
    let rest = one_end image end (at + 5 + length r.bytes) rs ss a.1 stops (subst (λ n. Listed image end n ss) next b.1) (subst (λ n. Stops image end (commit_behind n ss)) next stops') in
    (rest.0 ∙ ap (λ n. commit_behind n ss) (sym next), ap (λ n. suc n) rest.1)

-- ---- one fault

not_closed : (image : List ℕ) (a b : ℕ) → a ≡ b → get_or image a 0 ≢ 0 → get_or image b 0 ≡ 0 → ⊥
not_closed image a b same committed closed = committed (ap (λ n. get_or image n 0) same ∙ closed)

one_in_half : (image : List ℕ) (end start p q : ℕ) → IsBadBehind image end (list_in image start) p ⊎ IsTooMany image end start p → IsBadBehind image end (list_in image start) q ⊎ IsTooMany image end start q → p ≡ q
one_in_half image end start p q (inl a) (inl b) =
    a.place_is ∙ ap (λ n. n + 1) (one_end image end (list_in image start) a.good b.good a.listed (inr a.bad) b.listed (inr b.bad)).0 ∙ sym b.place_is
one_in_half image end start p q (inl a) (inr b) =
    absurd (not_closed image _ _ (one_end image end (list_in image start) a.good b.good a.listed (inr a.bad) b.listed (inl b.closed)).0 a.commit b.closed)
one_in_half image end start p q (inr a) (inl b) =
    absurd (not_closed image _ _ (one_end image end (list_in image start) b.good a.good b.listed (inr b.bad) a.listed (inl a.closed)).0 b.commit a.closed)
one_in_half image end start p q (inr a) (inr b) = a.place_is ∙ sym b.place_is

one_place : (first : Option ℕ) (p q : ℕ) → first ≡ Some p → first ≡ Some q → p ≡ q
one_place first p q a b = let same : Some p ≡ Some q = sym a ∙ b in cc

no_place : (first : Option ℕ) (p : ℕ) → first ≡ Some p → first ≡ None → ⊥
no_place first p a b = cc

one_in_current : (image : List ℕ) (cap start p q : ℕ) → (first_bad (length_checks image cap start) ≡ Some p) ⊎ IsBadHalf image cap start p → (first_bad (length_checks image cap start) ≡ Some q) ⊎ IsBadHalf image cap start q → p ≡ q
one_in_current image cap start p q (inl a) (inl b) = one_place _ p q a b
one_in_current image cap start p q (inl a) (inr b) = absurd (no_place _ p a b.lengths)
one_in_current image cap start p q (inr a) (inl b) = absurd (no_place _ q b a.lengths)
one_in_current image cap start p q (inr a) (inr b) = one_in_half image (start + half_size cap) start p q a.records b.records

one_in_halves : (image : List ℕ) (cap p q : ℕ) → HalvesFault image cap (BadImage p) → HalvesFault image cap (BadImage q) → p ≡ q
one_in_halves image cap p q (inl a) (inl b) = one_place _ p q a b
one_in_halves image cap p q (inl a) (inr b) = absurd (no_place _ p a b.0)
one_in_halves image cap p q (inr a) (inl b) = absurd (no_place _ q b a.0)
one_in_halves image cap p q (inr a) (inr b) = one_in_current image cap (half_at cap (current_half image cap)) p q a.1 b.1

pub one_fault : (image : List ℕ) (size p q : ℕ) → IsBadImage image size p → IsBadImage image size q → p ≡ q
one_fault image size p q (some, inl a) (some', inl b) = one_place _ p q a b
one_fault image size p q (some, inl a) (some', inr b) = absurd (no_place _ p a b.0)
one_fault image size p q (some, inr a) (some', inl b) = absurd (no_place _ q b a.0)
one_fault image size p q (some, inr a) (some', inr b) = one_in_halves image (number_at image 12 4) p q a.1 b.1

-- ---- none in a log

below : (a b : ℕ) → a ≤ b → nat_le a b ≡ true
below a b most = grind (arith, nat_tests)

open_byte : (n : ℕ) → n ≢ 0 → not (n == 0) ≡ true
open_byte n some = grind (arith, nat_tests)

closed_byte : (n : ℕ) → n ≡ 0 → not (n == 0) ≡ false
closed_byte n none = rw none refl

cap_passes : (cap size : ℕ) → 4096 ≤ cap → cap ≤ 16777216 → image_size cap ≤ size → (nat_le 4096 cap && nat_le cap 16777216 && nat_le (image_size cap) size) ≡ true
cap_passes cap size least most room = rw (below 4096 cap least, below cap 16777216 most, below (image_size cap) size room) refl

header_passes : (image : List ℕ) (size : ℕ) (x : Found) → Holds image x → image_size x.cap ≤ size → first_bad (header_checks image size) ≡ None
header_passes image size x is room =
    let name : bytes_eq (window image 1 7) magic ≡ true = ap (λ xs. bytes_eq xs magic) is.magic_is in
    let version : (number_at image 8 4 == 1 || number_at image 8 4 == 2) ≡ true = elim is.header_version [
      | inl one ↦ rw one refl
      | inr two ↦ rw two refl
    ] in
    let cap : (nat_le 4096 (number_at image 12 4) && nat_le (number_at image 12 4) 16777216 && nat_le (image_size (number_at image 12 4)) size) ≡ true =
    ap (λ n. nat_le 4096 n && nat_le n 16777216 && nat_le (image_size n) size) is.cap_is ∙ cap_passes x.cap size is.cap_range.0 is.cap_range.1 room in
    rw (name, version, cap) refl

-- The half is current that is valid where the other one isn't, or comes right behind it.
abbrev Chosen : Bool → Bool → Bool → Bool → ℕ → ℕ → Type 0
Chosen v0 v1 n0 n1 k half =
    (first_bad ((v0 || v1, 64) ∷ (not (v0 && v1) || n0 || n1, k) ∷ []) ≡ None) × ((if not v1 then 0 else if not v0 then 1 else if n0 then 0 else 1) ≡ half)

first_chosen : (v0 v1 n0 n1 : Bool) (k : ℕ) → v0 ≡ true → (v1 ≡ false) ⊎ (n0 ≡ true) → Chosen v0 v1 n0 n1 k 0
first_chosen false v1 n0 n1 k valid next = absurd (cc (valid))
first_chosen true false n0 n1 k valid next = (refl, refl)
first_chosen true true true n1 k valid next = (refl, refl)
first_chosen true true false n1 k valid (inl closed) = absurd (cc (closed))
first_chosen true true false n1 k valid (inr next) = absurd (cc (next))

second_chosen : (v0 v1 n0 n1 : Bool) (k : ℕ) → v1 ≡ true → (v0 ≡ false) ⊎ ((n1 ≡ true) × (n0 ≡ false)) → Chosen v0 v1 n0 n1 k 1
second_chosen v0 false n0 n1 k valid next = absurd (cc (valid))
second_chosen false true n0 n1 k valid next = (refl, refl)
second_chosen true true n0 n1 k valid (inl closed) = absurd (cc (closed))
second_chosen true true true n1 k valid (inr next) = absurd (cc (next.1))
second_chosen true true false true k valid (inr next) = (refl, refl)
second_chosen true true false false k valid (inr next) = absurd (cc (next.0))

equal : (a b : ℕ) → a ≡ b → (a == b) ≡ true
equal a b same = eq-eqb a b same

unequal : (a b : ℕ) → a ≢ b → (a == b) ≡ false
unequal a b other = grind (arith, nat_tests)

halves_pass : (image : List ℕ) (x : Found) → Holds image x → (first_bad (halves_checks image x.cap) ≡ None) × (current_half image x.cap ≡ x.half)
halves_pass image x is =
    let generation : ℕ → ℕ = λ at. number_at image (at + 1) 8 in
    elim is.half [
      | inl zero ↦
          let start : start_of x ≡ half_at x.cap 0 = ap (λ h. half_at x.cap h) zero in
          let other : other_of x ≡ half_at x.cap 1 = ap (λ h. half_at x.cap (1 - h)) zero in
          let valid : is_valid image x.cap 0 ≡ true = open_byte _ (subst (λ n. get_or image n 0 ≢ 0) start is.fields.validity) in
          let next : (is_valid image x.cap 1 ≡ false) ⊎ (is_next image x.cap 0 ≡ true) = elim is.current [
            | inl closed ↦ inl (closed_byte _ (ap (λ n. get_or image n 0) (sym other) ∙ closed))
            | inr behind ↦ inr (equal _ _ (ap generation (sym start) ∙ is.fields.generation_is ∙ behind ∙ ap (λ n. next_generation (generation n)) other))
          ] in
          let chosen = first_chosen (is_valid image x.cap 0) (is_valid image x.cap 1) (is_next image x.cap 0) (is_next image x.cap 1) (half_at x.cap 1 + 1) valid next in
          (chosen.0, chosen.1 ∙ sym zero)
      | inr one ↦
          let start : start_of x ≡ half_at x.cap 1 = ap (λ h. half_at x.cap h) one in
          let other : other_of x ≡ half_at x.cap 0 = ap (λ h. half_at x.cap (1 - h)) one in
          let valid : is_valid image x.cap 1 ≡ true = open_byte _ (subst (λ n. get_or image n 0 ≢ 0) start is.fields.validity) in
          let next : (is_valid image x.cap 0 ≡ false) ⊎ ((is_next image x.cap 1 ≡ true) × (is_next image x.cap 0 ≡ false)) = elim is.current [
            | inl closed ↦ inl (closed_byte _ (ap (λ n. get_or image n 0) (sym other) ∙ closed))
            | inr behind ↦
                let up : generation (half_at x.cap 1) ≡ next_generation (generation (half_at x.cap 0)) = ap generation (sym start) ∙ is.fields.generation_is ∙ behind ∙ ap (λ n. next_generation (generation n)) other in
                inr (equal _ _ up, unequal _ _ (λ down. not_both_next (generation (half_at x.cap 1)) (generation (half_at x.cap 0)) up down))
          ] in
          let chosen = second_chosen (is_valid image x.cap 0) (is_valid image x.cap 1) (is_next image x.cap 0) (is_next image x.cap 1) (half_at x.cap 1 + 1) valid next in
          (chosen.0, chosen.1 ∙ sym one)
    ]

lengths_pass : (image : List ℕ) (x : Found) → Holds image x → first_bad (length_checks image x.cap (start_of x)) ≡ None
lengths_pass image x is =
    let state : nat_le (number_at image (start_of x + 17) 4) x.cap ≡ true = below _ x.cap (omega (arith, is.fields.state_size, is.state_most)) in
    let last : nat_le (number_at image (start_of x + 21) 4) most_record ≡ true = below _ most_record (omega (arith, is.fields.last_size, is.last_most)) in
    rw (state, last) refl

no_bad_records : (image : List ℕ) (x : Found) (place : ℕ) → Holds image x → IsBadHalf image x.cap (start_of x) place → ⊥
no_bad_records image x place is bad =
    let list : list_in image (start_of x) ≡ list_at x = ap (λ n. start_of x + 25 + n + number_at image (start_of x + 21) 4) is.fields.state_size ∙ ap (λ n. start_of x + 25 + length x.state + n) is.fields.last_size in
    elim bad.records [
      | inl behind ↦
          let listed : Listed image (end_of x) (list_at x) behind.good = subst (λ n. Listed image (end_of x) n behind.good) list behind.listed in
          let stops : Stops image (end_of x) (commit_behind (list_at x) behind.good) = inr (subst (λ n. HasBadLength image (end_of x) (commit_behind n behind.good)) list behind.bad) in
          let committed : get_or image (commit_behind (list_at x) behind.good) 0 ≢ 0 = subst (λ n. get_or image (commit_behind n behind.good) 0 ≢ 0) list behind.commit in
          not_closed image _ _ (one_end image (end_of x) (list_at x) behind.good x.records listed stops is.records (inl is.closed)).0 committed is.closed
      | inr many ↦
          let listed : Listed image (end_of x) (list_at x) many.good = subst (λ n. Listed image (end_of x) n many.good) list many.listed in
          let closed : get_or image (commit_behind (list_at x) many.good) 0 ≡ 0 = subst (λ n. get_or image (commit_behind n many.good) 0 ≡ 0) list many.closed in
          let same = (one_end image (end_of x) (list_at x) many.good x.records listed (inl closed) is.records (inl is.closed)).1 in
          absurd (omega (arith, many.many, is.fields.base_is, is.count, same))
    ]

pub no_fault : (image : List ℕ) (size place : ℕ) (x : Found) → Holds image x → image_size x.cap ≤ size → IsBadImage image size place → ⊥
no_fault image size place x is room (some, inl header) = no_place _ place header (header_passes image size x is room)
no_fault image size place x is room (some, inr rest) =
    let pass = halves_pass image x is in
    let halves : HalvesFault image x.cap (BadImage place) = subst (λ n. HalvesFault image n (BadImage place)) is.cap_is rest.1 in
    elim halves [
      | inl bad ↦ no_place _ place bad pass.0
      | inr current ↦
          let P : ℕ → Type 0 = λ half. (first_bad (length_checks image x.cap (half_at x.cap half)) ≡ Some place) ⊎ IsBadHalf image x.cap (half_at x.cap half) place in
          let there : P x.half = subst P pass.1 current.1 in
          elim there [
            | inl bad ↦ no_place _ place bad (lengths_pass image x is)
            | inr bad ↦ no_bad_records image x place is bad
          ]
    ]
