-- Digits alone are text, which `parse` reads as the number that they write.
use Rattle.std.proofs.Common.{◌≡◌, ℕ, zero, suc, ◌<◌, ◌^◌, true, false, Bool, ltb, List, [], ◌∷◌, length, Result, Ok, Err, Some, None, refl, sym, ap, ◌∙◌, arith, ◌&&◌}
use Rattle.std.specs.Prelude.{slice_index}
use Rattle.std.specs.Char.{is_ascii_digit}
use Rattle.std.specs.List.{list_all}
use Rattle.std.specs.Result.{result_ok}
use Rattle.std.specs.Str.{IsUtf8, all_ascii_digits}
use Rattle.std.specs.Str.Parse.{ParsesUnsigned, digits_value}
use Rattle.std.specs.Result.{OkIff}
use Rattle.std.proofs.lemmas.Bool.Decides.{nat_tests}
use Rattle.std.proofs.lemmas.Bool.{lt-ltb}
use Rattle.std.proofs.lemmas.Str.{IsUtf8-from_ascii}
use Rattle.std.proofs.lemmas.Str.Parse.{numerals_by_value, parse_digits, tells_all_ascii_digits}
use Rattle.cluster_script.specs.Values.{decimal_of, has_no_leading_zero, is_decimal}

first_part : (a b : Bool) → (a && b) ≡ true → (a ≡ true) × (b ≡ true)
first_part true b e = (refl, e)
first_part false b e = absurd (cc e)

pub same_test : (word : List ℕ) → list_all is_ascii_digit word ≡ all_ascii_digits word
same_test [] = refl
same_test (byte ∷ rest) = ap (λ t. is_ascii_digit byte && t) (same_test rest)

pub are_digits : (word : List ℕ) → is_decimal word ≡ true → all_ascii_digits word ≡ true
are_digits word e = sym (same_test word) ∙ (first_part (list_all is_ascii_digit word) (has_no_leading_zero word) e).0

pub some_digit : (word : List ℕ) → is_decimal word ≡ true → 0 < length word
some_digit [] e = absurd (cc e)
some_digit (byte ∷ rest) e = omega arith

ascii : (word : List ℕ) → all_ascii_digits word ≡ true → (i : ℕ) → slice_index word i < 128
ascii [] e i = omega arith
ascii (byte ∷ rest) e zero = omega (arith, (tells_all_ascii_digits.parts byte rest e).0)
ascii (byte ∷ rest) e (suc i) = ascii rest (tells_all_ascii_digits.parts byte rest e).1 i

pub is_text : (word : List ℕ) → is_decimal word ≡ true → IsUtf8 word
is_text word e = IsUtf8-from_ascii word (ascii word (are_digits word e))

read_as : {E : Type 0} (word : List ℕ) (result : Result ℕ E) → is_decimal word ≡ true → OkIff result ((0 < length word) × (digits_value 10 word < 2 ^ 64)) (digits_value 10 word) → result_ok result ≡ decimal_of word
unfolding decimal_of
read_as word (Ok number) e reads =
    let small : ltb (digits_value 10 word) (2 ^ 64) ≡ true = lt-ltb _ _ reads.0.1 in
    rw (e, small) (ap Some reads.1)
read_as word (Err error) e fails = by (ltb (digits_value 10 word) (2 ^ 64)) refl
  where
    by : (b : Bool) → ltb (digits_value 10 word) (2 ^ 64) ≡ b → None ≡ decimal_of word
    by true small = absurd (fails (some_digit word e, (grind (arith, nat_tests))))
    by false large = rw (e, large) refl

pub number_read : {E : Type 0} (word : List ℕ) (result : Result ℕ E) → is_decimal word ≡ true → ParsesUnsigned 64 10 word result → result_ok result ≡ decimal_of word
number_read word result e reads =
    read_as word result e (parse_digits (numerals_by_value (λ ds. all_ascii_digits ds ≡ true) tells_all_ascii_digits) 64 word result reads (are_digits word e))

pub none_read : (word : List ℕ) → is_decimal word ≡ false → None ≡ decimal_of word
unfolding decimal_of
none_read word e = rw e refl
