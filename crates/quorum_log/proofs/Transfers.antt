-- What the checks say of the bytes that were read, they say of the disk.
use Rattle.std.proofs.Common.{◌≡◌, ◌≢◌, ℕ, ◌+◌, ◌-◌, ◌<◌, ◌≤◌, ◌⊎◌, inl, inr, Bool, true, false, not, ◌&&◌, ◌||◌, ◌==◌, nat_le, if◌then◌else◌, List, [], ◌∷◌, length, get_or, Some, None, refl, sym, ap, ◌∙◌, subst, arith}
use Rattle.std.proofs.lemmas.Bool.{cases_lt}
use Rattle.std.proofs.lemmas.Bool.Decides.{nat_tests}
use Rattle.std.proofs.lemmas.Slice.Eq.{bytes_eq-Decides}
use Rattle.std.specs.Str.{bytes_eq}
use Rattle.quorum_log.specs.declared.fault.OpenFault.{OpenFault}
use Rattle.quorum_log.specs.declared.fault.OpenFault.TheVariants.{Failed, Fenced, Blank, BadImage, Memory}
use Rattle.quorum_log.specs.declared.found.Found.{Found}
use Rattle.quorum_log.specs.Layout.{window, magic, number_at, half_size, half_at, image_size, most_record, next_generation}
use Rattle.quorum_log.specs.Image.{Holds, IsCurrent, Listed, commit_behind, start_of, end_of, other_of, list_at, tail_of}
use Rattle.quorum_log.specs.Checks.{first_bad, header_checks, halves_checks, length_checks, is_valid, generation_in, is_next, current_half, list_in, HasBadLength, IsBadBehind, IsTooMany, IsBadHalf, HeaderFault, HalvesFault}
use Rattle.quorum_log.specs.Readings.{IsFoundCurrent}
use Rattle.quorum_log.proofs.Places.{SameWithin, same_number, same_window, within_part}
use Rattle.quorum_log.proofs.Kept.{holds_by, kept_list, tail_within}
use Rattle.quorum_log.proofs.Appends.{kept_current}
use Rattle.quorum_log.proofs.Halves.{half_within, other_which}

-- the header
pub same_header : (image seen : List ℕ) (size : ℕ) → SameWithin 0 64 image seen → header_checks seen size ≡ header_checks image size
same_header image seen size same =
    let name = same_window image seen 0 64 1 7 same (omega arith) (omega arith) in
    let version = same_number image seen 0 64 8 4 same (omega arith) (omega arith) in
    let cap = same_number image seen 0 64 12 4 same (omega arith) (omega arith) in
    rw (name, version, cap) refl

pub header_refused : (image seen : List ℕ) (size : ℕ) (e : OpenFault) → SameWithin 0 64 image seen → HeaderFault image size e → HeaderFault seen size e
header_refused image seen size Blank same fault = same 0 (omega arith) (omega arith) ∙ fault
header_refused image seen size (BadImage place) same fault = (rw (same 0 (omega arith) (omega arith)) fault.0, ap (λ checks. first_bad checks) (same_header image seen size same) ∙ fault.1)
header_refused image seen size Failed same fault = absurd fault
header_refused image seen size (Fenced held) same fault = absurd fault
header_refused image seen size Memory same fault = absurd fault

-- the halves
same_valid : (image seen : List ℕ) (cap half : ℕ) → (half ≡ 0) ⊎ (half ≡ 1) → SameWithin 0 (image_size cap) image seen → is_valid seen cap half ≡ is_valid image cap half
same_valid image seen cap half which same =
    let within = half_within cap half which in
    rw (same (half_at cap half) (omega arith) (omega arith)) refl

same_generation : (image seen : List ℕ) (cap half : ℕ) → (half ≡ 0) ⊎ (half ≡ 1) → SameWithin 0 (image_size cap) image seen → generation_in seen cap half ≡ generation_in image cap half
same_generation image seen cap half which same =
    let within = half_within cap half which in
    same_number image seen 0 (image_size cap) (half_at cap half + 1) 8 same (omega arith) (omega arith)

same_next : (image seen : List ℕ) (cap half : ℕ) → (half ≡ 0) ⊎ (half ≡ 1) → SameWithin 0 (image_size cap) image seen → is_next seen cap half ≡ is_next image cap half
same_next image seen cap half which same =
    let one = same_generation image seen cap half which same in
    let other = same_generation image seen cap (1 - half) (other_which half which) same in
    rw (one, other) refl

pub same_halves : (image seen : List ℕ) (cap : ℕ) → SameWithin 0 (image_size cap) image seen → (halves_checks seen cap ≡ halves_checks image cap) × (current_half seen cap ≡ current_half image cap)
same_halves image seen cap same =
    let first = same_valid image seen cap 0 (inl refl) same in
    let second = same_valid image seen cap 1 (inr refl) same in
    let first_next = same_next image seen cap 0 (inl refl) same in
    let second_next = same_next image seen cap 1 (inr refl) same in
    (rw (first, second, first_next, second_next) refl, rw (first, second, first_next) refl)

pub same_lengths : (image seen : List ℕ) (cap start : ℕ) → start + 25 ≤ image_size cap → SameWithin 0 (image_size cap) image seen → length_checks seen cap start ≡ length_checks image cap start
same_lengths image seen cap start room same =
    let state = same_number image seen 0 (image_size cap) (start + 17) 4 same (omega arith) (omega arith) in
    let last = same_number image seen 0 (image_size cap) (start + 21) 4 same (omega arith) (omega arith) in
    rw (state, last) refl

same_list : (image seen : List ℕ) (cap start : ℕ) → start + 25 ≤ image_size cap → SameWithin 0 (image_size cap) image seen → list_in seen start ≡ list_in image start
same_list image seen cap start room same =
    let state = same_number image seen 0 (image_size cap) (start + 17) 4 same (omega arith) (omega arith) in
    let last = same_number image seen 0 (image_size cap) (start + 21) 4 same (omega arith) (omega arith) in
    rw (state, last) refl

abbrev chosen : Bool → Bool → Bool → ℕ
chosen v0 v1 n0 = if not v1 then 0 else if not v0 then 1 else if n0 then 0 else 1

which_of : (v0 v1 n0 : Bool) → (chosen v0 v1 n0 ≡ 0) ⊎ (chosen v0 v1 n0 ≡ 1)
which_of v0 false n0 = inl refl
which_of false true n0 = inr refl
which_of true true true = inl refl
which_of true true false = inr refl

pub current_which : (image : List ℕ) (cap : ℕ) → (current_half image cap ≡ 0) ⊎ (current_half image cap ≡ 1)
current_which image cap = which_of (is_valid image cap 0) (is_valid image cap 1) (is_next image cap 0)

two_good : (a b : Bool) (p q : ℕ) → first_bad ((a, p) ∷ (b, q) ∷ []) ≡ None → (a ≡ true) × (b ≡ true)
two_good true true p q e = (refl, refl)
two_good true false p q e = absurd (cc)
two_good false b p q e = absurd (cc)

three_good : (a b c : Bool) (p q r : ℕ) → first_bad ((a, p) ∷ (b, q) ∷ (c, r) ∷ []) ≡ None → (a ≡ true) × (b ≡ true) × (c ≡ true)
three_good true true true p q r e = (refl, refl, refl)
three_good true true false p q r e = absurd (cc)
three_good true false c p q r e = absurd (cc)
three_good false b c p q r e = absurd (cc)

below_of : (a b : ℕ) → nat_le a b ≡ true → a ≤ b
below_of a b e = grind (arith, nat_tests)

pub lengths_good : (image : List ℕ) (cap start : ℕ) → first_bad (length_checks image cap start) ≡ None → (number_at image (start + 17) 4 ≤ cap) × (number_at image (start + 21) 4 ≤ most_record)
lengths_good image cap start e =
    let both = two_good (nat_le (number_at image (start + 17) 4) cap) (nat_le (number_at image (start + 21) 4) most_record) (start + 17) (start + 21) e in
    (below_of (number_at image (start + 17) 4) cap both.0, below_of (number_at image (start + 21) 4) most_record both.1)

bad_length : (image seen : List ℕ) (size end at : ℕ) → end ≤ size → SameWithin 0 size image seen → HasBadLength image end at → HasBadLength seen end at
bad_length image seen size end at high same bad = elim (cases_lt end (at + 5)) [
  | inl short ↦ inr (inr (omega arith))
  | inr long ↦ rw (same_number image seen 0 size (at + 1) 4 same (omega arith) (omega arith)) bad
]

bad_behind : (image seen : List ℕ) (size end at place : ℕ) → at < end → end ≤ size → SameWithin 0 size image seen → IsBadBehind image end at place → IsBadBehind seen end at place
bad_behind image seen size end at place low high same bad =
    let inside = tail_within image end at bad.good low bad.listed in
    record {
      good = bad.good;
      listed = kept_list image seen end at end bad.good (omega arith) (within_part 0 size at end image seen same (omega arith) high) bad.listed;
      commit = rw (same (commit_behind at bad.good) (omega arith) (omega arith)) bad.commit;
      bad = bad_length image seen size end (commit_behind at bad.good) high same bad.bad;
      place_is = bad.place_is;
    }

too_many : (image seen : List ℕ) (cap start end place : ℕ) → start + 25 ≤ end → list_in image start < end → end ≤ image_size cap → SameWithin 0 (image_size cap) image seen → IsTooMany image end start place → IsTooMany seen end start place
too_many image seen cap start end place room low high same bad =
    let inside = tail_within image end (list_in image start) bad.good low bad.listed in
    let list = same_list image seen cap start (omega arith) same in
    let field = same_number image seen 0 (image_size cap) (start + 9) 8 same (omega arith) (omega arith) in
    let listed : Listed seen end (list_in image start) bad.good = kept_list image seen end (list_in image start) end bad.good (omega arith) (within_part 0 (image_size cap) (list_in image start) end image seen same (omega arith) high) bad.listed in
    let closed : get_or seen (commit_behind (list_in image start) bad.good) 0 ≡ 0 = same (commit_behind (list_in image start) bad.good) (omega arith) (omega arith) ∙ bad.closed in
    let P : ℕ → Type 0 = λ n. Listed seen end n bad.good in
    let Q : ℕ → Type 0 = λ n. get_or seen (commit_behind n bad.good) 0 ≡ 0 in
    record {
      good = bad.good;
      listed = subst P (sym list) listed;
      closed = subst Q (sym list) closed;
      many = rw field bad.many;
      place_is = bad.place_is;
    }

bad_half : (image seen : List ℕ) (cap half place : ℕ) → (half ≡ 0) ⊎ (half ≡ 1) → SameWithin 0 (image_size cap) image seen → IsBadHalf image cap (half_at cap half) place → IsBadHalf seen cap (half_at cap half) place
bad_half image seen cap half place which same bad =
    let start = half_at cap half in
    let within = half_within cap half which in
    let lengths = lengths_good image cap start bad.lengths in
    let checks = same_lengths image seen cap start (omega arith) same in
    let list = same_list image seen cap start (omega arith) same in
    let low : list_in image start < start + half_size cap = omega arith in
    let P : ℕ → Type 0 = λ n. IsBadBehind seen (start + half_size cap) n place in
    record {
      lengths = ap (λ cs. first_bad cs) checks ∙ bad.lengths;
      records = elim bad.records [
        | inl one ↦ inl (subst P (sym list) (bad_behind image seen (image_size cap) (start + half_size cap) (list_in image start) place low within same one))
        | inr many ↦ inr (too_many image seen cap start (start + half_size cap) place (omega arith) low within same many)
      ];
    }

pub halves_refused : (image seen : List ℕ) (cap : ℕ) (e : OpenFault) → SameWithin 0 (image_size cap) image seen → HalvesFault image cap e → HalvesFault seen cap e
halves_refused image seen cap (BadImage place) same fault =
    let halves = same_halves image seen cap same in
    let which = current_which image cap in
    let within = half_within cap (current_half image cap) which in
    let lengths = same_lengths image seen cap (half_at cap (current_half image cap)) (omega arith) same in
    let P : ℕ → Type 0 = λ h. (first_bad (length_checks seen cap (half_at cap h)) ≡ Some place) ⊎ IsBadHalf seen cap (half_at cap h) place in
    elim fault [
      | inl here ↦ inl (ap (λ cs. first_bad cs) halves.0 ∙ here)
      | inr later ↦ inr (
        ap (λ cs. first_bad cs) halves.0 ∙ later.0,
        subst P (sym halves.1) (elim later.1 [
          | inl here ↦ inl (ap (λ cs. first_bad cs) lengths ∙ here)
          | inr bad ↦ inr (bad_half image seen cap (current_half image cap) place which same bad)
        ]),
      )
    ]
halves_refused image seen cap Blank same fault = absurd fault
halves_refused image seen cap Failed same fault = absurd fault
halves_refused image seen cap (Fenced held) same fault = absurd fault
halves_refused image seen cap Memory same fault = tt

-- the current half
choice : (v0 v1 n0 n1 : Bool) (p q : ℕ) → first_bad ((v0 || v1, p) ∷ (not (v0 && v1) || n0 || n1, q) ∷ []) ≡ None
    → ((chosen v0 v1 n0 ≡ 0) × ((v1 ≡ false) ⊎ (n0 ≡ true))) ⊎ ((chosen v0 v1 n0 ≡ 1) × ((v0 ≡ false) ⊎ (n1 ≡ true)))
choice v0 false n0 n1 p q e = inl (refl, inl refl)
choice false true n0 n1 p q e = inr (refl, inl refl)
choice true true true n1 p q e = inl (refl, inr refl)
choice true true false true p q e = inr (refl, inr refl)
choice true true false false p q e = absurd (cc)

not_valid : (image : List ℕ) (cap half : ℕ) → is_valid image cap half ≡ false → get_or image (half_at cap half) 0 ≡ 0
not_valid image cap half e = grind (arith, nat_tests)

next_is : (image : List ℕ) (cap half : ℕ) → is_next image cap half ≡ true → generation_in image cap half ≡ next_generation (generation_in image cap (1 - half))
next_is image cap half e = grind (arith, nat_tests)

pub current_is : (image : List ℕ) (cap : ℕ) → first_bad (halves_checks image cap) ≡ None → IsCurrent image (half_at cap (1 - current_half image cap)) (generation_in image cap (current_half image cap))
current_is image cap e =
    let P : ℕ → Type 0 = λ h. IsCurrent image (half_at cap (1 - h)) (generation_in image cap h) in
    elim (choice (is_valid image cap 0) (is_valid image cap 1) (is_next image cap 0) (is_next image cap 1) 64 (half_at cap 1 + 1) e) [
      | inl zero ↦ subst P (sym zero.0) (elim zero.1 [ inl closed ↦ inl (not_valid image cap 1 closed) | inr next ↦ inr (next_is image cap 0 next) ])
      | inr one ↦ subst P (sym one.0) (elim one.1 [ inl closed ↦ inl (not_valid image cap 0 closed) | inr next ↦ inr (next_is image cap 1 next) ])
    ]

-- the header's name, version and cap
one_of : (n : ℕ) → (n == 1 || n == 2) ≡ true → (n ≡ 1) ⊎ (n ≡ 2)
one_of n e = grind (arith, nat_tests)

cap_good : (cap size : ℕ) → (nat_le 4096 cap && nat_le cap 16777216 && nat_le (image_size cap) size) ≡ true → (4096 ≤ cap) × (cap ≤ 16777216) × (image_size cap ≤ size)
cap_good cap size e = (grind (arith, nat_tests), grind (arith, nat_tests), grind (arith, nat_tests))

name_is : (xs ys : List ℕ) → bytes_eq xs ys ≡ true → xs ≡ ys
name_is xs ys e = (bytes_eq-Decides xs ys).0 e

pub record GoodHeader (image : List ℕ) (size : ℕ) : Type 0 where
  pub name : window image 1 7 ≡ magic
  pub version : (number_at image 8 4 ≡ 1) ⊎ (number_at image 8 4 ≡ 2)
  pub cap_least : 4096 ≤ number_at image 12 4
  pub cap_most : number_at image 12 4 ≤ 16777216
  pub room : image_size (number_at image 12 4) ≤ size

pub header_good : (image : List ℕ) (size : ℕ) → first_bad (header_checks image size) ≡ None → GoodHeader image size
header_good image size e =
    let cap = number_at image 12 4 in
    let good = three_good (bytes_eq (window image 1 7) magic) (number_at image 8 4 == 1 || number_at image 8 4 == 2) (nat_le 4096 cap && nat_le cap 16777216 && nat_le (image_size cap) size) 1 8 12 e in
    let caps = cap_good cap size good.2 in
    record {
      name = name_is (window image 1 7) magic good.0;
      version = one_of (number_at image 8 4) good.1;
      cap_least = caps.0;
      cap_most = caps.1;
      room = caps.2;
    }

-- what was read is what the image holds
pub found_holds : (image : List ℕ) (size cap : ℕ) (x : Found) → length image ≡ image_size cap → get_or image 0 0 ≢ 0 → GoodHeader image size → cap ≡ number_at image 12 4 → IsFoundCurrent image cap x → Holds image x
found_holds image size cap x long commit header is_cap found =
    let h = current_half image cap in
    let f = found.found in
    let which = current_which image cap in
    let same_half : half_at x.cap x.half ≡ half_at cap h = rw (f.cap_is, f.half_is) refl in
    let other : half_at x.cap (1 - x.half) ≡ half_at cap (1 - h) = rw (f.cap_is, f.half_is) refl in
    let current : IsCurrent image (half_at cap (1 - h)) x.generation = (let P : ℕ → Type 0 = λ g. IsCurrent image (half_at cap (1 - h)) g in subst P f.fields.generation_is (current_is image cap found.halves)) in
    record {
      commit = commit;
      magic_is = header.name;
      header_version = header.version;
      cap_is = sym is_cap ∙ sym f.cap_is;
      cap_range = (omega (arith, header.cap_least, is_cap, f.cap_is), omega (arith, header.cap_most, is_cap, f.cap_is));
      whole = omega (arith, long, f.cap_is);
      half = rw f.half_is which;
      fields = rw same_half f.fields;
      current = rw other current;
      state_at = f.state_at ∙ ap (λ n. n + 25) (sym same_half);
      state_most = omega (arith, f.state_most, f.cap_is);
      last_at = f.last_at ∙ ap (λ n. n + 25 + length x.state) (sym same_half);
      last_most = f.last_most;
      records = rw (f.cap_is, f.half_is) f.records.listed;
      closed = rw (f.cap_is, f.half_is) f.records.closed;
      count = f.count;
    }

-- and so is what the disk holds
pub holds_seen : (image seen : List ℕ) (x : Found) → image_size x.cap ≤ length seen → SameWithin 0 (image_size x.cap) image seen → Holds image x → Holds seen x
holds_seen image seen x whole same is =
    let within = half_within x.cap x.half is.half in
    let beside = half_within x.cap (1 - x.half) (other_which x.half is.half) in
    let low : list_at x < end_of x = omega (arith, is.state_most, is.last_most) in
    let inside = tail_within image (end_of x) (list_at x) x.records low is.records in
    holds_by x x.records image seen is whole
    (within_part 0 (image_size x.cap) 0 64 image seen same (omega arith) (omega arith))
    (within_part 0 (image_size x.cap) (start_of x) (list_at x) image seen same (omega arith) (omega arith))
    (kept_current image seen (other_of x) x.generation (within_part 0 (image_size x.cap) (other_of x) (other_of x + 9) image seen same (omega arith) (omega arith)) is.current)
    (kept_list image seen (end_of x) (list_at x) (end_of x) x.records (omega arith) (within_part 0 (image_size x.cap) (list_at x) (end_of x) image seen same (omega arith) (omega arith)) is.records)
    (same (tail_of x) (omega arith) (omega arith) ∙ is.closed)
    is.count
