-- What the calls of `checkpoint` leave: the one half as current, or the other.
use Rattle.std.proofs.Common.{◌≡◌, ◌≢◌, ℕ, ◌+◌, ◌-◌, ◌^◌, ◌<◌, ◌≤◌, inl, inr, List, [], ◌∷◌, ◌++◌, length, take, get_or, refl, sym, ap, ◌∙◌, arith, append_assoc, length-append}
use Rattle.std.proofs.Math.Nat.{mod-lt}
use Rattle.std.proofs.lemmas.Bool.{cases_eq}
use Rattle.std.proofs.lemmas.Bool.Decides.{nat_tests}
use Rattle.wire_fields.specs.declared.endian.Endian.TheVariants.{Little}
use Rattle.wire_fields.specs.Numbers.{num}
use Rattle.disk_core.specs.Images.{Has, SameOutside}
use Rattle.quorum_log.specs.declared.found.Found.{Found}
use Rattle.quorum_log.specs.Layout.{half_size, half_at, most_record, most_records, next_generation, number_at, second_version, version_of, base_of}
use Rattle.quorum_log.specs.Image.{Holds, IsHalf, IsCurrent, start_of, end_of, other_of, list_at, tail_of}
use Rattle.quorum_log.specs.Changes.{half_text, with_checkpoint, HoldsEither}
use Rattle.quorum_log.proofs.Places.{SameWithin, same_number, same_window, has_number, has_window, has_left, has_right, has_one, has_kept, length-num, within_from, within_part, within_trans}
use Rattle.quorum_log.proofs.Kept.{holds_by, kept_list, behind-le, tail_within}
use Rattle.quorum_log.proofs.Halves.{other_which, other_back}
use Rattle.quorum_log.proofs.Appends.{apart}

pub length-half_text : (generation base : ℕ) (state last : List ℕ) → length (half_text generation base state last) ≡ 25 + length state + length last
length-half_text generation base state last =
    let g = num Little 8 generation in
    let b = num Little 8 (base + second_version) in
    let s = num Little 4 (length state) in
    let l = num Little 4 (length last) in
    omega (
      arith,
      length-num 8 generation,
      length-num 8 (base + second_version),
      length-num 4 (length state),
      length-num 4 (length last),
      length-append g (b ++ (s ++ (l ++ (state ++ (last ++ 0 ∷ []))))),
      length-append b (s ++ (l ++ (state ++ (last ++ 0 ∷ [])))),
      length-append s (l ++ (state ++ (last ++ 0 ∷ []))),
      length-append l (state ++ (last ++ 0 ∷ [])),
      length-append state (last ++ 0 ∷ []),
      length-append last (0 ∷ []),
    )

second_version_of : (base : ℕ) → version_of (base + second_version) ≡ 2
second_version_of base = grind (arith, nat_tests)

second_base_of : (base : ℕ) → base_of (base + second_version) ≡ base
second_base_of base = grind (arith, nat_tests)

-- a half with this text
pub record Written (image : List ℕ) (at generation base : ℕ) (state last : List ℕ) : Type 0 where
  pub fields : get_or image at 0 ≢ 0 → IsHalf image at 2 generation base state last
  pub closed : get_or image (at + 25 + length state + length last) 0 ≡ 0

pub written : (image : List ℕ) (at generation base : ℕ) (state last : List ℕ) → generation < 256 ^ 8 → base ≤ most_records → length state < 256 ^ 4 → length last < 256 ^ 4
    → Has image (at + 1) (half_text generation base state last) → Written image at generation base state last
written image at generation base state last g-fits b-fits s-fits l-fits has =
    let g = num Little 8 generation in
    let b = num Little 8 (base + second_version) in
    let s = num Little 4 (length state) in
    let l = num Little 4 (length last) in
    let r5 = last ++ 0 ∷ [] in
    let r4 = state ++ r5 in
    let r3 = l ++ r4 in
    let r2 = s ++ r3 in
    let r1 = b ++ r2 in
    let e1 : at + 1 + length g ≡ at + 9 = omega (arith, length-num 8 generation) in
    let h1 : Has image (at + 9) r1 = rw e1 at (has_right image (at + 1) g r1 has) in
    let e2 : at + 9 + length b ≡ at + 17 = omega (arith, length-num 8 (base + second_version)) in
    let h2 : Has image (at + 17) r2 = rw e2 at (has_right image (at + 9) b r2 h1) in
    let e3 : at + 17 + length s ≡ at + 21 = omega (arith, length-num 4 (length state)) in
    let h3 : Has image (at + 21) r3 = rw e3 at (has_right image (at + 17) s r3 h2) in
    let e4 : at + 21 + length l ≡ at + 25 = omega (arith, length-num 4 (length last)) in
    let h4 : Has image (at + 25) r4 = rw e4 at (has_right image (at + 21) l r4 h3) in
    let h5 = has_right image (at + 25) state r5 h4 in
    let h6 = has_right image (at + 25 + length state) last (0 ∷ []) h5 in
    let field : number_at image (at + 9) 8 ≡ base + second_version = has_number image (at + 9) 8 (base + second_version) (omega arith) (has_left image (at + 9) b r2 h1) in
    record {
      fields = λ valid. record {
        validity = valid;
        generation_is = has_number image (at + 1) 8 generation g-fits (has_left image (at + 1) g r1 has);
        version_is = rw field (sym (second_version_of base));
        base_is = rw field (sym (second_base_of base));
        state_size = has_number image (at + 17) 4 (length state) s-fits (has_left image (at + 17) s r3 h2);
        last_size = has_number image (at + 21) 4 (length last) l-fits (has_left image (at + 21) l r4 h3);
        state_is = has_window image (at + 25) state (has_left image (at + 25) state r5 h4).each;
        last_is = has_window image (at + 25 + length state) last (has_left image (at + 25 + length state) last (0 ∷ []) h5).each;
      };
      closed = has_one image (at + 25 + length state + length last) 0 h6;
    }

-- what the calls leave alone: the header and the current half
pub record Aside (x : Found) (old new : List ℕ) : Type 0 where
  pub size : length new ≡ length old
  pub header : SameWithin 0 64 old new
  pub half : SameWithin (start_of x) (end_of x) old new

aside_range : (x : Found) (at count : ℕ) (old new : List ℕ) → Holds old x → other_of x ≤ at → at + count ≤ other_of x + half_size x.cap → SameOutside at count old new → Aside x old new
aside_range x at count old new is low high same = record {
  size = same.size;
  header = within_from at count 0 64 old new same (inl (omega arith));
  half = elim (apart x.cap x.half is.half) [
    | inl below ↦ within_from at count (start_of x) (end_of x) old new same (inr (omega arith))
    | inr above ↦ within_from at count (start_of x) (end_of x) old new same (inl (omega arith))
  ];
}

aside-trans : (x : Found) (a b c : List ℕ) → Aside x a b → Aside x b c → Aside x a c
aside-trans x a b c p q = record {
  size = q.size ∙ p.size;
  header = within_trans 0 64 a b c p.header q.header;
  half = within_trans (start_of x) (end_of x) a b c p.half q.half;
}

tail_low : (x : Found) (old : List ℕ) → Holds old x → (list_at x ≤ tail_of x) × (tail_of x < end_of x)
tail_low x old is = (behind-le (list_at x) x.records, tail_within old (end_of x) (list_at x) x.records (omega (arith, is.state_most, is.last_most)) is.records)

-- the current half stays current
stays : (x : Found) (old new : List ℕ) → Holds old x → Aside x old new → IsCurrent new (other_of x) x.generation → Holds new x
stays x old new is aside current =
    let low = tail_low x old is in
    holds_by x x.records old new is (omega (arith, is.whole, aside.size)) aside.header
    (within_part (start_of x) (end_of x) (start_of x) (list_at x) old new aside.half (omega arith) (omega (arith, low.0, low.1)))
    current
    (kept_list old new (end_of x) (list_at x) (tail_of x) x.records (omega arith) (within_part (start_of x) (end_of x) (list_at x) (tail_of x) old new aside.half (omega arith) (omega (arith, low.1))) is.records)
    (aside.half (tail_of x) (omega (arith, low.0)) low.1 ∙ is.closed)
    is.count

-- the other half becomes current
begins : (x : Found) (state last old new : List ℕ) → Holds old x → Aside x old new → x.generation < 256 ^ 8 → length state ≤ x.cap → length last ≤ most_record
    → Has new (other_of x + 1) (half_text (next_generation x.generation) (x.base + length x.records) state last) → get_or new (other_of x) 0 ≢ 0 → Holds new (with_checkpoint x state last)
begins x state last old new is aside fits state_most last_most has valid =
    let next : next_generation x.generation < 256 ^ 8 = mod-lt (x.generation + 1) (omega arith) in
    let text = written new (other_of x) (next_generation x.generation) (x.base + length x.records) state last next is.count (omega (arith, is.cap_range.1)) (omega arith) has in
    let low = tail_low x old is in
    let back : half_at x.cap (1 - (1 - x.half)) ≡ start_of x = ap (λ h. half_at x.cap h) (other_back x.half is.half) in
    let generation : number_at new (start_of x + 1) 8 ≡ x.generation = same_number old new (start_of x) (end_of x) (start_of x + 1) 8 aside.half (omega arith) (omega arith) ∙ is.fields.generation_is in
    record {
      commit = rw (aside.header 0 (omega arith) (omega arith)) is.commit;
      magic_is = same_window old new 0 64 1 7 aside.header (omega arith) (omega arith) ∙ is.magic_is;
      header_version = rw (same_number old new 0 64 8 4 aside.header (omega arith) (omega arith)) is.header_version;
      cap_is = same_number old new 0 64 12 4 aside.header (omega arith) (omega arith) ∙ is.cap_is;
      cap_range = is.cap_range;
      whole = omega (arith, is.whole, aside.size);
      half = other_which x.half is.half;
      fields = text.fields valid;
      current = inr (rw (back, generation) refl);
      state_at = refl;
      state_most = state_most;
      last_at = refl;
      last_most = last_most;
      records = tt;
      closed = text.closed;
      count = omega (arith, is.count);
    }

-- while a valid half is closed
pub closing_one : (x : Found) (old : List ℕ) → Holds old x → get_or old (other_of x) 0 ≢ 0 → (c : List ℕ) → SameOutside (other_of x) 1 old c → Holds c x
closing_one x old is valid c same =
    let aside = aside_range x (other_of x) 1 old c is (omega arith) (omega arith) same in
    let generation : number_at c (other_of x + 1) 8 ≡ number_at old (other_of x + 1) 8 =
    same_number old c (other_of x + 1) (other_of x + 9) (other_of x + 1) 8 (within_from (other_of x) 1 (other_of x + 1) (other_of x + 9) old c same (inr (omega arith))) (omega arith) (omega arith) in
    stays x old c is aside (elim is.current [
      | inl closed ↦ absurd (valid closed)
      | inr next ↦ inr (rw generation next)
    ])

-- while the closed half is written
pub tearing : (x : Found) (state last old : List ℕ) (generation base : ℕ) → Holds old x → length state ≤ x.cap → length last ≤ most_record → get_or old (other_of x) 0 ≡ 0
    → (c : List ℕ) → SameOutside (other_of x + 1) (length (half_text generation base state last)) old c → Holds c x
tearing x state last old generation base is state_most last_most closed c same =
    let long = length-half_text generation base state last in
    let aside = aside_range x (other_of x + 1) (length (half_text generation base state last)) old c is (omega arith) (omega arith) same in
    stays x old c is aside (inl (same.each (other_of x) (inl (omega arith)) ∙ closed))

both_aside : (x : Found) (state last old d c : List ℕ) (generation base : ℕ) → Holds old x → length state ≤ x.cap → length last ≤ most_record
    → SameOutside (other_of x + 1) (length (half_text generation base state last)) old d → SameOutside (other_of x) 1 d c → get_or old (other_of x) 0 ≡ 0 → Aside x old c
both_aside x state last old d c generation base is state_most last_most body commit closed =
    let long = length-half_text generation base state last in
    let first = aside_range x (other_of x + 1) (length (half_text generation base state last)) old d is (omega arith) (omega arith) body in
    let held = tearing x state last old generation base is state_most last_most closed d body in
    aside-trans x old d c first (aside_range x (other_of x) 1 d c held (omega arith) (omega arith) commit)

text_kept : (at : ℕ) (text d c : List ℕ) → Has d (at + 1) text → SameOutside at 1 d c → Has c (at + 1) text
text_kept at text d c has same =
    has_kept d c (at + 1) (at + 1 + length text) (at + 1) text same.size (within_from at 1 (at + 1) (at + 1 + length text) d c same (inr (omega arith))) (omega arith) (omega arith) has

-- behind the commit
pub begun : (x : Found) (state last old : List ℕ) → Holds old x → x.generation < 256 ^ 8 → length state ≤ x.cap → length last ≤ most_record → get_or old (other_of x) 0 ≡ 0
    → (d c : List ℕ) → SameOutside (other_of x + 1) (length (half_text (next_generation x.generation) (x.base + length x.records) state last)) old d
    → Has d (other_of x + 1) (half_text (next_generation x.generation) (x.base + length x.records) state last) → SameOutside (other_of x) 1 d c
    → get_or c (other_of x) 0 ≢ 0 → Holds c (with_checkpoint x state last)
begun x state last old is fits state_most last_most closed d c body has commit valid =
    begins x state last old c is (both_aside x state last old d c (next_generation x.generation) (x.base + length x.records) is state_most last_most body commit closed) fits state_most last_most
    (text_kept (other_of x) (half_text (next_generation x.generation) (x.base + length x.records) state last) d c has commit) valid

-- while it is committed
pub beginning : (x : Found) (state last old : List ℕ) → Holds old x → x.generation < 256 ^ 8 → length state ≤ x.cap → length last ≤ most_record → get_or old (other_of x) 0 ≡ 0
    → (d c : List ℕ) → SameOutside (other_of x + 1) (length (half_text (next_generation x.generation) (x.base + length x.records) state last)) old d
    → Has d (other_of x + 1) (half_text (next_generation x.generation) (x.base + length x.records) state last) → SameOutside (other_of x) 1 d c
    → HoldsEither x (with_checkpoint x state last) c
beginning x state last old is fits state_most last_most closed d c body has commit = elim (cases_eq (get_or c (other_of x) 0) 0) [
  | inl still ↦ inl (stays x old c is (both_aside x state last old d c (next_generation x.generation) (x.base + length x.records) is state_most last_most body commit closed) (inl still))
  | inr valid ↦ inr (begun x state last old is fits state_most last_most closed d c body has commit valid)
]

-- the half that was current stays valid
pub valid_still : (x : Found) (state last old d c : List ℕ) → Holds old x → length state ≤ x.cap → length last ≤ most_record → get_or old (other_of x) 0 ≡ 0
    → SameOutside (other_of x + 1) (length (half_text (next_generation x.generation) (x.base + length x.records) state last)) old d → SameOutside (other_of x) 1 d c → get_or c (start_of x) 0 ≢ 0
valid_still x state last old d c is state_most last_most closed body commit =
    let aside = both_aside x state last old d c (next_generation x.generation) (x.base + length x.records) is state_most last_most body commit closed in
    rw (aside.half (start_of x) (omega arith) (omega arith)) is.fields.validity

-- the text as it is put together
regroup : (g b s l state last end : List ℕ) → (((((g ++ b) ++ s) ++ l) ++ state) ++ last) ++ end ≡ g ++ (b ++ (s ++ (l ++ (state ++ (last ++ end)))))
regroup g b s l state last end = simp append_assoc

next_part : (d d' : ℕ) (old new text part : List ℕ) → take d old ≡ text → d' ≡ d + length part → take (d + length part) new ≡ take d old ++ part → take d' new ≡ text ++ part
next_part d d' old new text part before count put = rw count (put ∙ ap (λ xs. xs ++ part) before)

pub half_put : (b0 b1 b2 b3 b4 b5 b6 b7 g b s l state last : List ℕ) (d1 d2 d3 d4 d5 d6 d7 : ℕ)
    → d1 ≡ 0 + length g → take (0 + length g) b1 ≡ take 0 b0 ++ g
    → d2 ≡ d1 + length b → take (d1 + length b) b2 ≡ take d1 b1 ++ b
    → d3 ≡ d2 + length s → take (d2 + length s) b3 ≡ take d2 b2 ++ s
    → d4 ≡ d3 + length l → take (d3 + length l) b4 ≡ take d3 b3 ++ l
    → d5 ≡ d4 + length state → take (d4 + length state) b5 ≡ take d4 b4 ++ state
    → d6 ≡ d5 + length last → take (d5 + length last) b6 ≡ take d5 b5 ++ last
    → d7 ≡ d6 + 1 → take (d6 + 1) b7 ≡ take d6 b6 ++ 0 ∷ []
    → take d7 b7 ≡ g ++ (b ++ (s ++ (l ++ (state ++ (last ++ 0 ∷ [])))))
half_put b0 b1 b2 b3 b4 b5 b6 b7 g b s l state last d1 d2 d3 d4 d5 d6 d7 c1 t1 c2 t2 c3 t3 c4 t4 c5 t5 c6 t6 c7 t7 =
    let p1 : take d1 b1 ≡ g = rw c1 t1 in
    let p2 = next_part d1 d2 b1 b2 g b p1 c2 t2 in
    let p3 = next_part d2 d3 b2 b3 (g ++ b) s p2 c3 t3 in
    let p4 = next_part d3 d4 b3 b4 ((g ++ b) ++ s) l p3 c4 t4 in
    let p5 = next_part d4 d5 b4 b5 (((g ++ b) ++ s) ++ l) state p4 c5 t5 in
    let p6 = next_part d5 d6 b5 b6 ((((g ++ b) ++ s) ++ l) ++ state) last p5 c6 t6 in
    let p7 = next_part d6 d7 b6 b7 (((((g ++ b) ++ s) ++ l) ++ state) ++ last) (0 ∷ []) p6 c7 t7 in
    p7 ∙ regroup g b s l state last (0 ∷ [])
