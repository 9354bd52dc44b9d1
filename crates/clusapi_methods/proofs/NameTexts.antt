-- The text of data, unit by unit.
use Rattle.std.proofs.Common.{◌≡◌, ◌≢◌, ℕ, suc, ◌+◌, ◌-◌, ◌*◌, ◌<◌, ◌≤◌, ◌^◌, Bool, true, false, List, [], ◌∷◌, ◌++◌, length, take, drop, get_or, refl, sym, ap, ◌∙◌, subst, append_assoc, length-append, arith}
use Rattle.std.specs.Prelude.{◌==◌, option_map, codes, Option, None, Some, All}
use Rattle.std.specs.Fmt.{decimal}
use Rattle.std.specs.Char.{digit_value}
use Rattle.std.specs.Str.Parse.{AllDigits}
use Rattle.std.proofs.lemmas.Fmt.{decimal_is_IsNumeral, length-decimal-le}
use Rattle.std.specs.List.{position_or_len}
use Rattle.std.proofs.lemmas.Bool.Decides.{nat_tests}
use Rattle.std.proofs.lemmas.List.Elements.{All-append, All-nil, All-cons}
use Rattle.std.proofs.lemmas.List.{take_all}
use Rattle.ndr_values.specs.Text.{text_of}
use Rattle.registry_defs.specs.Keys.{ValueData}
use Rattle.clus_registry.specs.Found.{type_and_data}
use Rattle.clusapi_methods.specs.Results.{node_name, text_in, units_in}
use Rattle.clusapi_methods.specs.Sizes.{IsShortText}

some : (n : ℕ) → 0 < n → (n == 0) ≡ false
some n h = grind (arith, nat_tests)

none : (n : ℕ) → n ≡ 0 → (n == 0) ≡ true
none n h = grind (arith, nat_tests)

not_none : (n : ℕ) → (n == 0) ≡ false → 0 < n
not_none n h = grind (arith, nat_tests)

take_more : (n : ℕ) (x : ℕ) (xs : List ℕ) → take (1 + n) (x ∷ xs) ≡ x ∷ take n xs
take_more n x xs = let e : 1 + n ≡ suc n = omega arith in rw e refl

pub text_first : (unit : ℕ) (units : List ℕ) → (unit == 0) ≡ false → text_of (unit ∷ units) ≡ unit ∷ text_of units
text_first unit units e = rw e (take_more (position_or_len (λ unit. unit == 0) units) unit units)

pub text_end : (unit : ℕ) (units : List ℕ) → (unit == 0) ≡ true → text_of (unit ∷ units) ≡ []
text_end unit units e = rw e refl

-- ---- reading it

pub text_goes_on : (front : List ℕ) (low high : ℕ) (bytes total : List ℕ) → 0 < low + 256 * high → front ++ text_of (units_in (low ∷ high ∷ bytes)) ≡ total
    → (front ++ (low + 256 * high) ∷ []) ++ text_of (units_in bytes) ≡ total
text_goes_on front low high bytes total there is =
    append_assoc front ((low + 256 * high) ∷ []) (text_of (units_in bytes))
    ∙ ap (λ (t : List ℕ). front ++ t) (sym (text_first (low + 256 * high) (units_in bytes) (some (low + 256 * high) there)))
    ∙ is

append_none : (front : List ℕ) → front ++ [] ≡ front
append_none [] = refl
append_none (x ∷ xs) = ap (λ (t : List ℕ). x ∷ t) (append_none xs)

pub text_ends : (front : List ℕ) (low high : ℕ) (bytes total : List ℕ) → low + 256 * high ≡ 0 → front ++ text_of (units_in (low ∷ high ∷ bytes)) ≡ total → front ≡ total
text_ends front low high bytes total nothing is =
    sym (append_none front)
    ∙ ap (λ (t : List ℕ). front ++ t) (sym (text_end (low + 256 * high) (units_in bytes) (none (low + 256 * high) nothing)))
    ∙ is

pub text_is_done : (front bytes total : List ℕ) → length bytes < 2 → front ++ text_of (units_in bytes) ≡ total → front ≡ total
text_is_done front [] total short is = sym (append_none front) ∙ is
text_is_done front (byte ∷ []) total short is = sym (append_none front) ∙ is
text_is_done front (byte ∷ next ∷ bytes) total short is = absurd (omega (arith, short))

-- ---- what it is

abbrev NotZeros : List ℕ → Type 0
NotZeros units = All (λ unit. unit ≢ 0) units

units_more : (unit : ℕ) (units : List ℕ) (b : Bool) → (unit == 0) ≡ b → NotZeros (text_of units) → NotZeros (text_of (unit ∷ units))
units_more unit units true e rest = subst NotZeros (sym (text_end unit units e)) (All-nil (λ unit. unit ≢ 0))
units_more unit units false e rest =
    let h : 0 < unit = not_none unit e in
    subst NotZeros (sym (text_first unit units e)) (All-cons (λ unit. unit ≢ 0) unit (text_of units) (λ nothing. omega (arith, h, nothing)) rest)

text_units : (units : List ℕ) → NotZeros (text_of units)
text_units [] = All-nil (λ unit. unit ≢ 0)
text_units (unit ∷ units) = units_more unit units (unit == 0) refl (text_units units)

abbrev IsShorter : List ℕ → List ℕ → Type 0
IsShorter units text = length text ≤ length units

shorter_more : (unit : ℕ) (units : List ℕ) (b : Bool) → (unit == 0) ≡ b → IsShorter units (text_of units) → IsShorter (unit ∷ units) (text_of (unit ∷ units))
shorter_more unit units true e rest = subst (IsShorter (unit ∷ units)) (sym (text_end unit units e)) (omega arith)
shorter_more unit units false e rest = subst (IsShorter (unit ∷ units)) (sym (text_first unit units e)) (omega (arith, rest))

text_shorter : (units : List ℕ) → IsShorter units (text_of units)
text_shorter [] = omega arith
text_shorter (unit ∷ units) = shorter_more unit units (unit == 0) refl (text_shorter units)

units_shorter : (bytes : List ℕ) → length (units_in bytes) + length (units_in bytes) ≤ length bytes
units_shorter [] = omega arith
units_shorter (byte ∷ []) = omega arith
units_shorter (low ∷ high ∷ bytes) = omega (arith, units_shorter bytes)

pub data_text : (bytes : List ℕ) → length bytes ≤ 49152 → IsShortText (text_of (units_in bytes))
data_text bytes short =
    let few : length (text_of (units_in bytes)) ≤ 24576 = omega (arith, short, text_shorter (units_in bytes), units_shorter bytes) in
    record { text = record { units = text_units (units_in bytes); short = omega (arith, few) }; few = few }

pub text_told : (o : Option ValueData) (kind : ℕ) (bytes : List ℕ) → option_map type_and_data o ≡ Some (kind, bytes) → text_of (units_in bytes) ≡ text_in o
text_told None kind bytes is = absurd cc
text_told (Some value) kind bytes is =
    let same : type_and_data value ≡ (kind, bytes) = cc in
    ap (λ (p : ℕ × List ℕ). text_of (units_in p.1)) (sym same)

-- ---- the loop that reads it

pub pair_goes_on : (front rest total : List ℕ) (unit : ℕ) → 2 ≤ length rest → unit ≡ get_or rest 0 0 + get_or rest 1 0 * 256 → 0 < unit → front ++ text_of (units_in rest) ≡ total
    → (front ++ unit ∷ []) ++ text_of (units_in (take (length rest - 2) (drop 2 rest))) ≡ total
pair_goes_on front [] total unit long is there all = absurd (omega (arith, long))
pair_goes_on front (low ∷ []) total unit long is there all = absurd (omega (arith, long))
pair_goes_on front (low ∷ high ∷ bytes) total unit long is there all =
    let count : length (low ∷ high ∷ bytes) - 2 ≡ length bytes = omega arith in
    let same : unit ≡ low + 256 * high = omega (arith, is) in
    let some : 0 < low + 256 * high = omega (arith, same, there) in
    rw (count, take_all (length bytes) bytes (omega arith), same) (text_goes_on front low high bytes total some all)

-- ---- the name of a node

digit_there : (byte : ℕ) → digit_value byte < 10 → byte ≢ 0
digit_there byte digit nothing =
    let none : digit_value 0 < 10 = subst (λ (n : ℕ). digit_value n < 10) nothing digit in
    omega (arith, none)

digits_there : (bytes : List ℕ) → AllDigits 10 bytes → NotZeros bytes
digits_there [] digits = All-nil (λ unit. unit ≢ 0)
digits_there (byte ∷ bytes) digits = All-cons (λ unit. unit ≢ 0) byte bytes (digit_there byte digits.0) (digits_there bytes digits.1)

letters_there : NotZeros (codes "NODE")
letters_there =
    All-cons (λ unit. unit ≢ 0) 78 (79 ∷ 68 ∷ 69 ∷ []) (λ e. omega (arith, e))
    (All-cons (λ unit. unit ≢ 0) 79 (68 ∷ 69 ∷ []) (λ e. omega (arith, e))
    (All-cons (λ unit. unit ≢ 0) 68 (69 ∷ []) (λ e. omega (arith, e)) (All-cons (λ unit. unit ≢ 0) 69 [] (λ e. omega (arith, e)) (All-nil (λ unit. unit ≢ 0)))))

node_units : (node : ℕ) → node < 2 ^ 16 → NotZeros (codes "NODE" ++ decimal node)
node_units node small =
    All-append (λ unit. unit ≢ 0) (codes "NODE") (decimal node) letters_there (digits_there (decimal node) (decimal_is_IsNumeral node (omega (arith, small))).0.1)

pub node_text : (node : ℕ) → node < 2 ^ 16 → IsShortText (node_name node)
node_text node small =
    let few : length (decimal node) ≤ 5 = length-decimal-le 5 node (omega arith) (omega (arith, small)) (omega (arith, small)) in
    let short : length (node_name node) ≤ 9 = omega (arith, few, length-append (codes "NODE") (decimal node)) in
    record { text = record { units = node_units node small; short = omega (arith, short) }; few = omega (arith, short) }
