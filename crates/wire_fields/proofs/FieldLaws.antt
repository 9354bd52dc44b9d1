-- What a reader took is the spelling of the field, and what is spelled is read.
use Rattle.std.proofs.Common.{◌≡◌, ℕ, ◌+◌, ◌^◌, ◌<◌, ◌≤◌, Bool, true, false, cond, ltb, List, [], ◌++◌, length, take, Option, Some, None, refl, sym, ap, ◌∙◌, subst, append_assoc, arith, length-append}
use Rattle.std.proofs.lemmas.Bool.{ltb-false, le-ltb}
use Rattle.std.proofs.lemmas.List.{take_at, drop_at, take-append-drop, length-take}
use Rattle.uuid.proofs.RoundTrips.{swap_twice}
use Rattle.wire_fields.specs.declared.endian.Endian.{Endian}
use Rattle.wire_fields.specs.declared.endian.Endian.TheVariants.{Little, Big}
use Rattle.wire_fields.specs.Numbers.{IsBytes, num, number, uuid_text}
use Rattle.wire_fields.specs.Reading.{Reading, after, ◌>>=◌, bytes_at, gap, align_at, number_at, number_in, uuid_at}
use Rattle.wire_fields.proofs.NumberLaws.{IsBytes-drop, IsBytes-take, length-num, num-number, number-lt, number-of_num}

-- A reader with these bytes left.
abbrev pub at : Endian → ℕ → List ℕ → Reading
at endian place left = record { endian = endian; place = place; left = left }

-- The text was taken from the front.
pub record Took (s : Reading) (text : List ℕ) (t : Reading) : Type 0 where
  pub parts : s.left ≡ text ++ t.left
  pub order : t.endian ≡ s.endian
  pub further : t.place ≡ s.place + length text
  pub bytes : IsBytes t.left

pub took_then : (s t u : Reading) (front back : List ℕ) → Took s front t → Took t back u → Took s (front ++ back) u
took_then s t u front back one two = record {
  parts = one.parts ∙ ap (λ (rest : List ℕ). front ++ rest) two.parts ∙ sym (append_assoc front back u.left);
  order = two.order ∙ one.order;
  further = omega (arith, one.further, two.further, length-append front back);
  bytes = two.bytes;
}

pub took_none : (s : Reading) → IsBytes s.left → Took s [] s
took_none s h = record { parts = refl; order = refl; further = omega arith; bytes = h }

-- The value of a step that did not fail.
pub bind_some : {A B : Type 0} (read : Option A) (next : A → Option B) (y : B) → (read >>= next) ≡ Some y → (x : A) × (read ≡ Some x) × (next x ≡ Some y)
bind_some (Some x) next y e = (x, refl, e)
bind_some None next y e = absurd cc

abbrev given : {A : Type 0} → A → Option A
given x = Some x

pub some_is : {A : Type 0} (x y : A) → given x ≡ given y → x ≡ y
some_is x y e = cc

-- A test that did not fail.
pub guard_some : {A : Type 0} (test : Bool) (x y : A) → cond test None (Some x) ≡ Some y → (test ≡ false) × (x ≡ y)
guard_some true x y e = absurd cc
guard_some false x y e = (refl, cc)

took_front : (n : ℕ) (s : Reading) → IsBytes s.left → n ≤ length s.left → Took s (take n s.left) (after n s)
took_front n s h enough = record {
  parts = sym (take-append-drop n s.left);
  order = refl;
  further = omega (arith, length-take n s.left);
  bytes = IsBytes-drop n s.left h;
}

-- ---- a run of bytes

pub bytes_found : (n : ℕ) (s : Reading) (xs : List ℕ) (t : Reading) → IsBytes s.left → bytes_at n s ≡ Some (xs, t) → Took s xs t × (length xs ≡ n)
bytes_found n s xs t h e =
    let g = guard_some (ltb (length s.left) n) (take n s.left, after n s) (xs, t) e in
    let enough : n ≤ length s.left = ltb-false _ _ g.0 in
    let whole : Took s (take n s.left) (after n s) × (length (take n s.left) ≡ n) =
    (took_front n s h enough, omega (arith, length-take n s.left)) in
    subst (λ (p : List ℕ × Reading). Took s p.0 p.1 × (length p.0 ≡ n)) g.1 whole

pub bytes_read : (e : Endian) (place n : ℕ) (xs rest : List ℕ) → length xs ≡ n → bytes_at n (at e place (xs ++ rest)) ≡ Some (xs, at e (place + n) rest)
bytes_read e place n xs rest long =
    let enough : ltb (length (xs ++ rest)) n ≡ false = le-ltb _ _ (omega (arith, length-append xs rest)) in
    rw (enough, take_at xs rest n long, drop_at xs rest n long) refl

-- ---- a number

pub number_found : (w : ℕ) (s : Reading) (n : ℕ) (t : Reading) → IsBytes s.left → number_at w s ≡ Some (n, t) → Took s (num s.endian w n) t × (n < 256 ^ w)
number_found w s n t h e =
    let g = guard_some (ltb (length s.left) w) (number s.endian w (take w s.left), after w s) (n, t) e in
    let enough : w ≤ length s.left = ltb-false _ _ g.0 in
    let front = take w s.left in
    let front-bytes : IsBytes front = IsBytes-take w s.left h in
    let spelled : num s.endian w (number s.endian w front) ≡ front = num-number s.endian w front (omega (arith, length-take w s.left)) front-bytes in
    let whole : Took s (num s.endian w (number s.endian w front)) (after w s) × (number s.endian w front < 256 ^ w) =
    (rw spelled (took_front w s h enough), number-lt s.endian w front front-bytes) in
    subst (λ (p : ℕ × Reading). Took s (num s.endian w p.0) p.1 × (p.0 < 256 ^ w)) g.1 whole

pub number_read : (e : Endian) (place w n : ℕ) (rest : List ℕ) → n < 256 ^ w → number_at w (at e place (num e w n ++ rest)) ≡ Some (n, at e (place + w) rest)
number_read e place w n rest small =
    let text = num e w n in
    let long : length text ≡ w = length-num e w n in
    let enough : ltb (length (text ++ rest)) w ≡ false = le-ltb _ _ (omega (arith, length-append text rest)) in
    rw (enough, take_at text rest w long, drop_at text rest w long, number-of_num e w n small) refl

-- A number that stands at a place of a list.
pub field_at : (e : Endian) (w place n : ℕ) (bytes front rest : List ℕ) → bytes ≡ front ++ (num e w n ++ rest) → length front ≡ place → n < 256 ^ w → number_in e w place bytes ≡ n
field_at e w place n bytes front rest parts long small =
    rw (parts, drop_at front (num e w n ++ rest) place long, take_at (num e w n) rest w (length-num e w n)) (number-of_num e w n small)

-- ---- an identifier

pub uuid_twice : (e : Endian) (id : List ℕ) → length id ≡ 16 → uuid_text e (uuid_text e id) ≡ id
unfolding uuid_text
uuid_twice Little id long = swap_twice id long
uuid_twice Big id long = refl

pub length-uuid_text : (e : Endian) (id : List ℕ) → length id ≡ 16 → length (uuid_text e id) ≡ 16
unfolding uuid_text
length-uuid_text Little id long = refl
length-uuid_text Big id long = long

pub uuid_found : (s : Reading) (id : List ℕ) (t : Reading) → IsBytes s.left → uuid_at s ≡ Some (id, t) → Took s (uuid_text s.endian id) t × (length id ≡ 16)
uuid_found s id t h e =
    let g = guard_some (ltb (length s.left) 16) (uuid_text s.endian (take 16 s.left), after 16 s) (id, t) e in
    let enough : 16 ≤ length s.left = ltb-false _ _ g.0 in
    let front = take 16 s.left in
    let long : length front ≡ 16 = omega (arith, length-take 16 s.left) in
    let whole : Took s (uuid_text s.endian (uuid_text s.endian front)) (after 16 s) × (length (uuid_text s.endian front) ≡ 16) =
    (rw (uuid_twice s.endian front long) (took_front 16 s h enough), length-uuid_text s.endian front long) in
    subst (λ (p : List ℕ × Reading). Took s (uuid_text s.endian p.0) p.1 × (length p.0 ≡ 16)) g.1 whole

pub uuid_read : (e : Endian) (place : ℕ) (id rest : List ℕ) → length id ≡ 16 → uuid_at (at e place (uuid_text e id ++ rest)) ≡ Some (id, at e (place + 16) rest)
uuid_read e place id rest long =
    let text = uuid_text e id in
    let text-long : length text ≡ 16 = length-uuid_text e id long in
    let enough : ltb (length (text ++ rest)) 16 ≡ false = le-ltb _ _ (omega (arith, length-append text rest)) in
    rw (enough, take_at text rest 16 text-long, drop_at text rest 16 text-long, uuid_twice e id long) refl

-- ---- padding

pub align_found : (to : ℕ) (s t : Reading) → IsBytes s.left → align_at to s ≡ Some (tt, t) → (padding : List ℕ) × Took s padding t × (length padding ≡ gap to s.place)
align_found to s t h e =
    let n = gap to s.place in
    let g = guard_some (ltb (length s.left) n) (tt, after n s) (tt, t) e in
    let enough : n ≤ length s.left = ltb-false _ _ g.0 in
    let whole : Took s (take n s.left) (after n s) × (length (take n s.left) ≡ n) =
    (took_front n s h enough, omega (arith, length-take n s.left)) in
    let both = subst (λ (p : Unit {0} × Reading). Took s (take n s.left) p.1 × (length (take n s.left) ≡ n)) g.1 whole in
    (take n s.left, both.0, both.1)

pub align_read : (e : Endian) (to place : ℕ) (padding rest : List ℕ) → length padding ≡ gap to place → align_at to (at e place (padding ++ rest)) ≡ Some (tt, at e (place + length padding) rest)
align_read e to place padding rest long =
    let enough : ltb (length (padding ++ rest)) (gap to place) ≡ false = le-ltb _ _ (omega (arith, length-append padding rest)) in
    rw (enough, ← long, drop_at padding rest (length padding) refl) refl
