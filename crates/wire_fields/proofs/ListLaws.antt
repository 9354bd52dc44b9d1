-- Counted lists: what is read one after the other, and a loop that reads so.
use Rattle.std.proofs.Common.{◌≡◌, ℕ, zero, suc, ◌+◌, ◌-◌, ◌<◌, ◌≤◌, List, [], ◌∷◌, ◌++◌, length, Option, Some, None, refl, sym, ap, ◌∙◌, subst, append_assoc, arith, length-append}
use Rattle.std.proofs.lemmas.List.{append-nil}
use Rattle.wire_fields.specs.declared.endian.Endian.{Endian}
use Rattle.wire_fields.specs.Lists.{IsList}
use Rattle.wire_fields.specs.Numbers.{IsBytes}
use Rattle.wire_fields.specs.Reading.{Reading, ◌>>=◌, times}
use Rattle.wire_fields.proofs.FieldLaws.{Took, at, bind_some, some_is, took_none, took_then}

-- What the function reads is a value with its text.
abbrev pub FoundBy : {A : Type 0} → (Reading → Option (A × Reading)) → (Endian → A → List ℕ → Type 0) → Type 0
FoundBy {A} one is = (s : Reading) (a : A) (t : Reading) → IsBytes s.left → one s ≡ Some (a, t) → (text : List ℕ) × Took s text t × is s.endian a text

-- A value's text is read as the value.
abbrev pub ReadBy : {A : Type 0} → (Reading → Option (A × Reading)) → (Endian → A → List ℕ → Type 0) → Type 0
ReadBy {A} one is = (e : Endian) (place : ℕ) (a : A) (text rest : List ℕ) → is e a text → one (at e place (text ++ rest)) ≡ Some (a, at e (place + length text) rest)

-- ---- lists

-- The text of as many values as were read.
pub record FoundList {A : Type 0} (is : Endian → A → List ℕ → Type 0) (count : ℕ) (s : Reading) (xs : List A) (t : Reading) : Type 0 where
  pub text : List ℕ
  pub took : Took s text t
  pub many : length xs ≡ count
  pub listed : IsList (is s.endian) xs text

pub list_found : {A : Type 0} (one : Reading → Option (A × Reading)) (is : Endian → A → List ℕ → Type 0) → FoundBy one is
    → (count : ℕ) (s : Reading) (xs : List A) (t : Reading) → IsBytes s.left → times count one s ≡ Some (xs, t) → FoundList is count s xs t
unfolding times
list_found {A} one is found zero s xs t h e =
    let same : ([], s) ≡ (xs, t) = some_is _ _ e in
    let nothing : FoundList is 0 s [] s = record { text = []; took = took_none s h; many = refl; listed = refl } in
    subst (λ (p : List A × Reading). FoundList is 0 s p.0 p.1) same nothing
list_found {A} one is found (suc count) s xs t h e =
    let first = bind_some (one s) (λ first. times count one first.1 >>= λ others. Some (first.0 ∷ others.0, others.1)) (xs, t) e in
    let others = bind_some (times count one first.0.1) (λ others. Some (first.0.0 ∷ others.0, others.1)) (xs, t) first.2 in
    let front = found s first.0.0 first.0.1 h first.1 in
    let rest = list_found one is found count first.0.1 others.0.0 others.0.1 front.1.bytes others.1 in
    let listed : IsList (is s.endian) others.0.0 rest.text =
    subst (λ (o : Endian). IsList (is o) others.0.0 rest.text) front.1.order rest.listed in
    let whole : FoundList is (suc count) s (first.0.0 ∷ others.0.0) others.0.1 = record {
      text = front.0 ++ rest.text;
      took = took_then s first.0.1 others.0.1 front.0 rest.text front.1 rest.took;
      many = omega (arith, rest.many);
      listed = (front.0, rest.text, refl, front.2, listed);
    } in
    subst (λ (p : List A × Reading). FoundList is (suc count) s p.0 p.1) (some_is _ _ others.2) whole

pub list_read : {A : Type 0} (one : Reading → Option (A × Reading)) (is : Endian → A → List ℕ → Type 0) → ReadBy one is
    → (e : Endian) (place : ℕ) (xs : List A) (text rest : List ℕ) → IsList (is e) xs text
    → times (length xs) one (at e place (text ++ rest)) ≡ Some (xs, at e (place + length text) rest)
unfolding times
list_read one is read e place [] text rest listed =
    rw listed (ap (λ (p : ℕ). Some ([], at e p rest)) (omega arith))
list_read one is read e place (x ∷ xs) text rest listed =
    let front = listed.0 in
    let back = listed.1 in
    let first : one (at e place (front ++ (back ++ rest))) ≡ Some (x, at e (place + length front) (back ++ rest)) = read e place x front (back ++ rest) listed.3 in
    let others : times (length xs) one (at e (place + length front) (back ++ rest)) ≡ Some (xs, at e (place + length front + length back) rest) =
    list_read one is read e (place + length front) xs back rest listed.4 in
    let place-is : place + length front + length back ≡ place + length (front ++ back) = omega (arith, length-append front back) in
    rw (listed.2, append_assoc front back rest, first, others) (ap (λ (p : ℕ). Some (x ∷ xs, at e p rest)) place-is)

-- ---- a loop that reads a counted list

-- What was read before, and behind it what is still read.
abbrev pub with_front : {A : Type 0} → List A → Option (List A × Reading) → Option (List A × Reading)
with_front front read = read >>= λ x. Some (front ++ x.0, x.1)

regroup : {A : Type 0} (front : List A) (x : A) (read : Option (List A × Reading))
    → with_front front (read >>= λ others. Some (x ∷ others.0, others.1)) ≡ with_front (front ++ x ∷ []) read
regroup front x (Some others) = ap (λ xs. Some (xs, others.1)) (simp append_assoc)
regroup front x None = refl

none_before : {A : Type 0} (read : Option (List A × Reading)) → with_front [] read ≡ read
none_before (Some x) = refl
none_before None = refl

pub starts : {A : Type 0} (one : Reading → Option (A × Reading)) (count : ℕ) (s : Reading) → with_front [] (times (count - 0) one s) ≡ times count one s
starts one count s =
    let k : count - 0 ≡ count = omega arith in
    rw k (none_before (times count one s))

pub goes_on : {A : Type 0} (one : Reading → Option (A × Reading)) (front : List A) (count i : ℕ) (s : Reading) (x : A) (next : Reading) (total : Option (List A × Reading))
    → i < count → one s ≡ Some (x, next) → with_front front (times (count - i) one s) ≡ total → with_front (front ++ x ∷ []) (times (count - (i + 1)) one next) ≡ total
unfolding times
goes_on one front count i s x next total lt h so_far =
    let k : count - i ≡ suc (count - (i + 1)) = omega arith in
    let step : with_front front (times (count - i) one s) ≡ with_front (front ++ x ∷ []) (times (count - (i + 1)) one next) =
    rw (k, h) (regroup front x (times (count - (i + 1)) one next)) in
    sym step ∙ so_far

pub ends : {A : Type 0} (one : Reading → Option (A × Reading)) (front : List A) (count i : ℕ) (s : Reading) (total : Option (List A × Reading))
    → i < count → one s ≡ None → with_front front (times (count - i) one s) ≡ total → total ≡ None
unfolding times
ends one front count i s total lt h so_far =
    let k : count - i ≡ suc (count - (i + 1)) = omega arith in
    let step : with_front front (times (count - i) one s) ≡ None = rw (k, h) refl in
    sym so_far ∙ step

pub is_done : {A : Type 0} (one : Reading → Option (A × Reading)) (front : List A) (count i : ℕ) (s : Reading) (total : Option (List A × Reading))
    → count ≤ i → with_front front (times (count - i) one s) ≡ total → total ≡ Some (front, s)
unfolding times
is_done one front count i s total le so_far =
    let k : count - i ≡ 0 = omega arith in
    let step : with_front front (times (count - i) one s) ≡ Some (front, s) = rw k (ap (λ xs. Some (xs, s)) (append-nil front)) in
    sym so_far ∙ step
