-- Four digits spell the unit whose escape they are, and no other.
use Rattle.std.proofs.Common.{◌≡◌, ℕ, ◌+◌, ◌*◌, ◌/◌, ◌%◌, ◌<◌, ◌≤◌, ◌^◌, Bool, true, false, List, [], ◌∷◌, length, get_or, ltb, refl, sym, arith}
use Rattle.std.specs.Prelude.{not}
use Rattle.std.proofs.lemmas.Bool.Decides.{nat_tests}
use Rattle.std.proofs.lemmas.List.Sums.{fails_before_first, prefix_len-le-length}
use Rattle.std.specs.Prelude.{position, Some, None}
use Rattle.std.proofs.lemmas.Bool.{ltb-false}
use Rattle.clus_names.proofs.Pieces.{some_at, none_at}
use Rattle.clus_names.specs.UnitTexts.{percent, hex_digit, escape}
use Rattle.clus_names.specs.UnitFaults.{is_hex_digit, is_other, hex_value, leading_digits, spelled_unit}

pub value_below : (byte : ℕ) → is_hex_digit byte ≡ true → hex_value byte < 16
value_below byte e = grind (arith, nat_tests)

pub digit_of_value : (byte : ℕ) → is_hex_digit byte ≡ true → hex_digit (hex_value byte) ≡ byte
digit_of_value byte e = grind (arith, nat_tests)

pub digit_is : (number : ℕ) → number < 16 → is_hex_digit (hex_digit number) ≡ true
digit_is number l = grind (arith, nat_tests)

pub value_of_digit : (number : ℕ) → number < 16 → hex_value (hex_digit number) ≡ number
value_of_digit number l = grind (arith, nat_tests)

-- the four digits of a number in base 16
record HasDigits (number a b c d : ℕ) : Type 0 where
  pub first : number / 4096 ≡ a
  pub second : number / 256 % 16 ≡ b
  pub third : number / 16 % 16 ≡ c
  pub fourth : number % 16 ≡ d

digits_of : (a b c d : ℕ) → a < 16 → b < 16 → c < 16 → d < 16 → HasDigits (4096 * a + 256 * b + 16 * c + d) a b c d
digits_of a b c d la lb lc ld = record { first = omega arith; second = omega arith; third = omega arith; fourth = omega arith }

of_digits : (number : ℕ) → 4096 * (number / 4096) + 256 * (number / 256 % 16) + 16 * (number / 16 % 16) + number % 16 ≡ number
of_digits number = omega arith

passes : (b : Bool) → not b ≡ false → b ≡ true
passes true e = refl
passes false e = absurd cc

-- each of the leading digits is one
pub are_digits : (digits : List ℕ) (i : ℕ) → i < leading_digits digits → is_hex_digit (get_or digits i 0) ≡ true
are_digits digits i l = passes (is_hex_digit (get_or digits i 0)) (fails_before_first is_other digits i 0 l)

pub digits_within : (digits : List ℕ) → leading_digits digits ≤ length digits
digits_within digits = prefix_len-le-length (λ byte. not (is_other byte)) digits

pub escape_spelled : (digits : List ℕ) → length digits ≤ 4 → 4 ≤ leading_digits digits → (escape (spelled_unit digits) ≡ percent ∷ digits) × (spelled_unit digits < 2 ^ 16)
unfolding escape
escape_spelled [] s l = absurd (omega (arith, digits_within []))
escape_spelled (a ∷ []) s l = absurd (omega (arith, digits_within (a ∷ [])))
escape_spelled (a ∷ b ∷ []) s l = absurd (omega (arith, digits_within (a ∷ b ∷ [])))
escape_spelled (a ∷ b ∷ c ∷ []) s l = absurd (omega (arith, digits_within (a ∷ b ∷ c ∷ [])))
escape_spelled (a ∷ b ∷ c ∷ d ∷ e ∷ rest) s l = absurd (omega arith)
escape_spelled (a ∷ b ∷ c ∷ d ∷ []) s l =
    let digits : List ℕ = a ∷ b ∷ c ∷ d ∷ [] in
    let da : is_hex_digit a ≡ true = are_digits digits 0 (omega arith) in
    let db : is_hex_digit b ≡ true = are_digits digits 1 (omega arith) in
    let dc : is_hex_digit c ≡ true = are_digits digits 2 (omega arith) in
    let dd : is_hex_digit d ≡ true = are_digits digits 3 (omega arith) in
    let h = digits_of (hex_value a) (hex_value b) (hex_value c) (hex_value d) (value_below a da) (value_below b db) (value_below c dc) (value_below d dd) in
    let la = value_below a da in
    let lb = value_below b db in
    let lc = value_below c dc in
    let ld = value_below d dd in
    (rw (h.first, h.second, h.third, h.fourth, digit_of_value a da, digit_of_value b db, digit_of_value c dc, digit_of_value d dd) refl, omega arith)

-- the digits of a unit's escape
abbrev pub digits_of_unit : ℕ → List ℕ
digits_of_unit unit = hex_digit (unit / 4096) ∷ hex_digit (unit / 256 % 16) ∷ hex_digit (unit / 16 % 16) ∷ hex_digit (unit % 16) ∷ []

pub spelled_again : (unit : ℕ) → unit < 2 ^ 16 → spelled_unit (digits_of_unit unit) ≡ unit
spelled_again unit l =
    let v0 = value_of_digit (unit / 4096) (omega arith) in
    let v1 = value_of_digit (unit / 256 % 16) (omega arith) in
    let v2 = value_of_digit (unit / 16 % 16) (omega arith) in
    let v3 = value_of_digit (unit % 16) (omega arith) in
    rw (v0, v1, v2, v3) (of_digits unit)

pub four_digits : (unit : ℕ) → unit < 2 ^ 16 → leading_digits (digits_of_unit unit) ≡ 4
four_digits unit l =
    let d0 = digit_is (unit / 4096) (omega arith) in
    let d1 = digit_is (unit / 256 % 16) (omega arith) in
    let d2 = digit_is (unit / 16 % 16) (omega arith) in
    let d3 = digit_is (unit % 16) (omega arith) in
    rw (d0, d1, d2, d3) refl

pub leading_some : (bytes : List ℕ) (at : ℕ) → position is_other bytes ≡ Some at → at ≡ leading_digits bytes
leading_some bytes at e = sym (some_at (ltb (leading_digits bytes) (length bytes)) (leading_digits bytes) at e).1

pub leading_none : (bytes : List ℕ) → position is_other bytes ≡ None → length bytes ≡ leading_digits bytes
leading_none bytes e =
    let past : length bytes ≤ leading_digits bytes = ltb-false _ _ (none_at (ltb (leading_digits bytes) (length bytes)) (leading_digits bytes) e) in
    let within = digits_within bytes in
    omega arith
