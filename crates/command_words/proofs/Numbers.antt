-- Numbers in decimal.
use Rattle.std.proofs.Common.{◌≡◌, ℕ, ◌^◌, ◌<◌, false, ◌==◌, zero, suc, List, [], ◌∷◌, get_or, Result, Ok, Err, Some, refl, sym, ap, ◌∙◌, subst, arith}
use Rattle.std.specs.Fmt.{decimal}
use Rattle.std.specs.Str.Parse.{ParsesUnsigned, IsNumeral, AllDigits, without_leading_plus, digits_value}
use Rattle.std.proofs.lemmas.Bool.Decides.{nat_tests}
use Rattle.std.proofs.lemmas.Str.Parse.{numerals_by_value, tells_digits}
use Rattle.std.proofs.lemmas.Fmt.{decimal-digits_value, decimal_digit, first_decimal, parse-decimal}

no_plus : (word : List ℕ) → 48 < get_or word 0 0 → without_leading_plus word ≡ word
no_plus word above =
    let other : (get_or word 0 0 == 43) ≡ false = grind (arith, nat_tests) in
    rw other refl

pub read_word : (word : List ℕ) (number : ℕ) → 48 < get_or word 0 0
    → (IsNumeral 10 (without_leading_plus word) × (digits_value 10 (without_leading_plus word) < 2 ^ 64)) × (number ≡ digits_value 10 (without_leading_plus word)) → (number < 2 ^ 64) × (word ≡ decimal number)
read_word word number above reads =
    let P : List ℕ → Type 0 = λ ds. (IsNumeral 10 ds × (digits_value 10 ds < 2 ^ 64)) × (number ≡ digits_value 10 ds) in
    let told : P word = subst P (no_plus word above) reads in
    let written : decimal (digits_value 10 word) ≡ word =
    decimal-digits_value (numerals_by_value (AllDigits 10) tells_digits) word told.0.0.1 told.0.0.0 (λ zero. absurd (omega (arith, zero, above))) (omega (arith, told.0.1)) in
    (omega (arith, told.0.1, told.1), sym written ∙ ap decimal (sym told.1))

pub begins_above : (word : List ℕ) (number : ℕ) → 0 < number → number < 2 ^ 64 → word ≡ decimal number → 48 < get_or word 0 0
begins_above word number some fits is = let first = first_decimal number some (omega arith) in rw is first

pub word_read : {E : Type 0} (word : List ℕ) (number : ℕ) (result : Result ℕ E) → number < 2 ^ 64 → word ≡ decimal number → ParsesUnsigned 64 10 word result → result ≡ Ok number
word_read word number result fits is reads = parse-decimal 64 number word result fits (omega arith) is reads

pub one_number : {E : Type 0} (result : Result ℕ E) (a b : ℕ) → result ≡ Ok a → result ≡ Ok b → Some a ≡ Some b
one_number result a b is_a is_b = let e : Ok a ≡ Ok b = sym is_a ∙ is_b in cc

pub no_error : {E : Type 0} {A : Type 0} (result : Result ℕ E) (error : E) (b : ℕ) → result ≡ Err error → result ≡ Ok b → A
no_error result error b is_error is_b = absurd (cc (is_error, is_b))

pub zero_word : decimal 0 ≡ 48 ∷ []
zero_word = decimal_digit 0 (omega arith)

-- the word `0` is the number 0 alone
pub only_zero : (word : List ℕ) (n : ℕ) → n < 2 ^ 64 → word ≡ 48 ∷ [] → word ≡ decimal n → n ≡ 0
only_zero word zero fits is written = refl
only_zero word (suc n) fits is written =
    let above = begins_above word (suc n) (omega arith) fits written in
    let first : get_or word 0 0 ≡ 48 = ap (λ xs. get_or xs 0 0) is in
    absurd (omega (arith, above, first))

-- and a number with another word isn't 0
pub not_zero : (word : List ℕ) (n : ℕ) → (word ≡ 48 ∷ [] → ⊥) → word ≡ decimal n → 0 < n
not_zero word zero other written = absurd (other (written ∙ zero_word))
not_zero word (suc n) other written = omega arith
