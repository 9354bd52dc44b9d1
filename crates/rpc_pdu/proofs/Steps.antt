-- One field after the other: what a step of a reader took, and how codecs of fields are stated.
use Rattle.std.proofs.Common.{◌≡◌, ℕ, ◌^◌, ◌<◌, List, ◌++◌, length, Option, Some, refl, ap, ◌∙◌, subst, arith}
use Rattle.wire_fields.specs.declared.endian.Endian.{Endian}
use Rattle.wire_fields.specs.Lists.{IsList}
use Rattle.wire_fields.specs.Numbers.{IsBytes, num, uuid_text}
use Rattle.wire_fields.specs.Reading.{Reading, ◌>>=◌, bytes_at, number_at, times, uuid_at}
use Rattle.wire_fields.proofs.FieldLaws.{Took, bind_some, bytes_found, number_found, uuid_found}
use Rattle.wire_fields.proofs.ListLaws.{FoundBy, list_found}

-- What comes of a step is handed on to `then`, where it is a variable: a `let` would be written out at each use.

-- What a field's reader took, and that the rest goes on behind it.
pub record Step {V A : Type 0} (is : Endian → V → List ℕ → Type 0) (e : Endian) (s : Reading) (next : V × Reading → Option A) (y : A) : Type 0 where
  pub value : V
  pub text : List ℕ
  pub rest : Reading
  pub took : Took s text rest
  pub holds : is e value text
  pub order : rest.endian ≡ e
  pub goes_on : next (value, rest) ≡ Some y

step : {V A : Type 0} (one : Reading → Option (V × Reading)) (is : Endian → V → List ℕ → Type 0) → FoundBy one is
    → (e : Endian) (s : Reading) (next : V × Reading → Option A) (y : A) → s.endian ≡ e → IsBytes s.left → (one s >>= next) ≡ Some y → Step is e s next y
step one is found e s next y order bytes goes =
    let b = bind_some (one s) next y goes in
    let f = found s b.0.0 b.0.1 bytes b.1 in
    record {
      value = b.0.0;
      text = f.0;
      rest = b.0.1;
      took = f.1;
      holds = subst (λ (o : Endian). is o b.0.0 f.0) order f.2;
      order = f.1.order ∙ order;
      goes_on = b.2;
    }

pub part_then : {V A Goal : Type 0} (one : Reading → Option (V × Reading)) (is : Endian → V → List ℕ → Type 0) → FoundBy one is
    → (e : Endian) (s : Reading) (next : V × Reading → Option A) (y : A) → s.endian ≡ e → IsBytes s.left → (one s >>= next) ≡ Some y
    → (Step is e s next y → Goal) → Goal
part_then one is found e s next y order bytes goes then = then (step one is found e s next y order bytes goes)

abbrev pub IsNumber : ℕ → Endian → ℕ → List ℕ → Type 0
IsNumber w e n text = (text ≡ num e w n) × (n < 256 ^ w)

abbrev pub IsRun : ℕ → Endian → List ℕ → List ℕ → Type 0
IsRun n e xs text = (text ≡ xs) × (length xs ≡ n)

abbrev pub IsUuid : Endian → List ℕ → List ℕ → Type 0
IsUuid e id text = (text ≡ uuid_text e id) × (length id ≡ 16)

abbrev pub IsCounted : {A : Type 0} → (Endian → A → List ℕ → Type 0) → ℕ → Endian → List A → List ℕ → Type 0
IsCounted is count e xs text = (length xs ≡ count) × IsList (is e) xs text

pub number_then : {A Goal : Type 0} (w : ℕ) (e : Endian) (s : Reading) (next : ℕ × Reading → Option A) (y : A) → s.endian ≡ e → IsBytes s.left → (number_at w s >>= next) ≡ Some y
    → (Step (IsNumber w) e s next y → Goal) → Goal
number_then w e s next y order bytes goes then =
    let found : FoundBy (number_at w) (IsNumber w) = λ s n t h e. let f = number_found w s n t h e in (num s.endian w n, f.0, (refl, f.1)) in
    then (step (number_at w) (IsNumber w) found e s next y order bytes goes)

pub bytes_then : {A Goal : Type 0} (n : ℕ) (e : Endian) (s : Reading) (next : List ℕ × Reading → Option A) (y : A) → s.endian ≡ e → IsBytes s.left → (bytes_at n s >>= next) ≡ Some y
    → (Step (IsRun n) e s next y → Goal) → Goal
bytes_then n e s next y order bytes goes then =
    let found : FoundBy (bytes_at n) (IsRun n) = λ s xs t h e. let f = bytes_found n s xs t h e in (xs, f.0, (refl, f.1)) in
    then (step (bytes_at n) (IsRun n) found e s next y order bytes goes)

pub uuid_then : {A Goal : Type 0} (e : Endian) (s : Reading) (next : List ℕ × Reading → Option A) (y : A) → s.endian ≡ e → IsBytes s.left → (uuid_at s >>= next) ≡ Some y
    → (Step IsUuid e s next y → Goal) → Goal
uuid_then e s next y order bytes goes then =
    let found : FoundBy uuid_at IsUuid = λ s id t h e. let f = uuid_found s id t h e in (uuid_text s.endian id, f.0, (refl, f.1)) in
    then (step uuid_at IsUuid found e s next y order bytes goes)

pub list_then : {V A Goal : Type 0} (one : Reading → Option (V × Reading)) (is : Endian → V → List ℕ → Type 0) → FoundBy one is
    → (count : ℕ) (e : Endian) (s : Reading) (next : List V × Reading → Option A) (y : A) → s.endian ≡ e → IsBytes s.left → (times count one s >>= next) ≡ Some y
    → (Step (IsCounted is count) e s next y → Goal) → Goal
list_then {V} one is one_found count e s next y order bytes goes then =
    let found : FoundBy (times count one) (IsCounted is count) = λ s xs t h e. let f = list_found one is one_found count s xs t h e in (f.text, f.took, (f.many, f.listed)) in
    then (step (times count one) (IsCounted is count) found e s next y order bytes goes)

-- What was left is the field's text and what follows.
pub joined : {V A : Type 0} {is : Endian → V → List ℕ → Type 0} {e : Endian} {s : Reading} {next : V × Reading → Option A} {y : A}
    → (t : Step is e s next y) (text rest : List ℕ) → t.text ≡ text → t.rest.left ≡ rest → s.left ≡ text ++ rest
joined {s} t text rest text-is rest-is = t.took.parts ∙ ap (λ (x : List ℕ). x ++ t.rest.left) text-is ∙ ap (λ (x : List ℕ). text ++ x) rest-is

pub pair : (a b x y : List ℕ) → a ≡ x → b ≡ y → a ++ b ≡ x ++ y
pair a b x y a-is b-is = cc

pub run_long : (n : ℕ) (e : Endian) (xs text : List ℕ) → IsRun n e xs text → length text ≡ n
run_long n e xs text is = ap length is.0 ∙ is.1

pub still_below : (a b limit : ℕ) → a ≡ b → b < limit → a < limit
still_below a b limit same below = omega arith
