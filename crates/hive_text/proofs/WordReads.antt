-- What the words of a line are read as.
use Rattle.std.proofs.Common.{◌≡◌, ◌≢◌, ℕ, zero, suc, ◌<◌, ◌^◌, ◌&&◌, true, false, Bool, eqb, List, [], ◌∷◌, length, get_or, Result, Ok, Err, Option, Some, None, refl, sym, ap, subst, ◌∙◌, arith}
use Rattle.std.specs.Prelude.{IfOk, MatchOption, slice_index}
use Rattle.std.specs.Char.{is_ascii_digit}
use Rattle.std.specs.Fmt.{decimal}
use Rattle.std.specs.List.{list_all}
use Rattle.std.specs.Result.{result_ok, OkIff}
use Rattle.std.specs.Str.{IsUtf8, all_ascii_digits}
use Rattle.std.specs.Str.Parse.{ParsesUnsigned, digits_value}
use Rattle.std.proofs.lemmas.Bool.Decides.{nat_tests}
use Rattle.std.proofs.lemmas.Fmt.{decimal_digit, decimal_is_IsNumeral, decimal-digits_value, first_decimal}
use Rattle.std.proofs.lemmas.Str.{IsUtf8-from_ascii}
use Rattle.std.proofs.lemmas.Str.Parse.{IsNumeralModel, numerals_by_value, parse_digits, tells_all_ascii_digits}
use Rattle.hex.specs.Hex.{decode_of, encode_lower, encode_with}
use Rattle.hex.specs.declared.error.FromHexError.{FromHexError}
use Rattle.hex.proofs.HexLemmas.{decode_of-encode_lower, decode_of-ok}
use Rattle.wire_fields.specs.Numbers.{IsBytes}
use Rattle.hive_text.specs.HiveText.{data_text}
use Rattle.hive_text.specs.LineWords.{IsWord64, Spells, has_no_leading_zero, is_decimal}

-- ---- numbers

first_part : (a b : Bool) → (a && b) ≡ true → (a ≡ true) × (b ≡ true)
first_part true b e = (refl, e)
first_part false b e = absurd (cc e)

same_test : (word : List ℕ) → list_all is_ascii_digit word ≡ all_ascii_digits word
same_test [] = refl
same_test (byte ∷ rest) = ap (λ t. is_ascii_digit byte && t) (same_test rest)

are_digits : (word : List ℕ) → is_decimal word ≡ true → all_ascii_digits word ≡ true
are_digits word e = sym (same_test word) ∙ (first_part (list_all is_ascii_digit word) (has_no_leading_zero word) e).0

some_digit : (word : List ℕ) → is_decimal word ≡ true → 0 < length word
some_digit [] e = absurd (cc e)
some_digit (byte ∷ rest) e = omega arith

leads : (word : List ℕ) → is_decimal word ≡ true → get_or word 0 0 ≡ 48 → length word ≡ 1
leads [] e is = absurd (cc e)
leads (c ∷ cs) e is =
    let no = (first_part (list_all is_ascii_digit (c ∷ cs)) (has_no_leading_zero (c ∷ cs)) e).1 in
    grind (arith, nat_tests)

ascii : (word : List ℕ) → all_ascii_digits word ≡ true → (i : ℕ) → slice_index word i < 128
ascii [] e i = omega arith
ascii (byte ∷ rest) e zero = omega (arith, (tells_all_ascii_digits.parts byte rest e).0)
ascii (byte ∷ rest) e (suc i) = ascii rest (tells_all_ascii_digits.parts byte rest e).1 i

pub is_text : (word : List ℕ) → is_decimal word ≡ true → IsUtf8 word
is_text word e = IsUtf8-from_ascii word (ascii word (are_digits word e))

own : IsNumeralModel (λ ds. all_ascii_digits ds ≡ true) (digits_value 10)
own = numerals_by_value (λ ds. all_ascii_digits ds ≡ true) tells_all_ascii_digits

read_as : {E : Type 0} (word : List ℕ) (result : Result ℕ E) → is_decimal word ≡ true → OkIff result ((0 < length word) × (digits_value 10 word < 2 ^ 64)) (digits_value 10 word)
    → Spells IsWord64 decimal word (result_ok result)
read_as word (Ok number) e reads =
    let is : number ≡ digits_value 10 word = reads.1 in
    let small : digits_value 10 word < 2 ^ 64 = reads.0.1 in
    (omega (arith, is, small), ap decimal is ∙ decimal-digits_value own word (are_digits word e) (some_digit word e) (leads word e) small)
read_as word (Err error) e fails = λ number small is.
    let same : digits_value 10 word ≡ number = ap (digits_value 10) (sym is) ∙ (decimal_is_IsNumeral number small).1 in
    fails (some_digit word e, omega (arith, same, small))

pub number_read : {E : Type 0} (word : List ℕ) (result : Result ℕ E) → is_decimal word ≡ true → ParsesUnsigned 64 10 word result → Spells IsWord64 decimal word (result_ok result)
number_read word result e reads = read_as word result e (parse_digits own 64 word result reads (are_digits word e))

no_zero_leads : (word : List ℕ) → 48 < get_or word 0 0 → has_no_leading_zero word ≡ true
no_zero_leads [] l = absurd (omega (arith, l))
no_zero_leads (c ∷ cs) l = grind (arith, nat_tests)

plain_number : (number : ℕ) → number < 2 ^ 64 → has_no_leading_zero (decimal number) ≡ true
plain_number zero small = ap has_no_leading_zero (decimal_digit 0 (omega arith))
plain_number (suc n) small = no_zero_leads (decimal (suc n)) (first_decimal (suc n) (omega arith) small)

is_plain_decimal : (number : ℕ) → number < 2 ^ 64 → is_decimal (decimal number) ≡ true
is_plain_decimal number small =
    let digits : list_all is_ascii_digit (decimal number) ≡ true = same_test (decimal number) ∙ own.from (decimal number) (decimal_is_IsNumeral number small).0.1 in
    rw (digits, plain_number number small) refl

pub none_read : (word : List ℕ) → is_decimal word ≡ false → (number : ℕ) → IsWord64 number → decimal number ≡ word → ⊥
none_read word e number small is = let yes = ap is_decimal (sym is) ∙ is_plain_decimal number small in absurd (cc (e, yes))

-- ---- data

pub some_data : (first : ℕ) (others : List ℕ) → data_text (first ∷ others) ≡ encode_lower (first ∷ others)
some_data first others =
    let some : eqb (length (first ∷ others)) 0 ≡ false = grind (arith, nat_tests) in
    rw some refl

pub printed_so : (word bytes : List ℕ) → word ≢ 45 ∷ [] → data_text bytes ≡ word → encode_lower bytes ≡ word
printed_so word [] other is = absurd (other (sym is))
printed_so word (first ∷ others) other is = sym (some_data first others) ∙ is

never_empty : (bytes : List ℕ) → data_text bytes ≡ [] → ⊥
unfolding encode_with
never_empty [] e = absurd cc
never_empty (first ∷ others) e = let text = sym (some_data first others) ∙ e in absurd cc

pub nothing_read : (word : List ℕ) → length word ≡ 0 → (bytes : List ℕ) → IsBytes bytes → data_text bytes ≡ word → ⊥
nothing_read [] none bytes are is = never_empty bytes is
nothing_read (x ∷ xs) none bytes are is = absurd (omega (arith, none))

module _ (word : List ℕ) (other : word ≢ 45 ∷ []) (some : length word ≡ 0 → ⊥) where
  pub not_decoded : result_ok (decode_of word) ≡ None → (bytes : List ℕ) → IsBytes bytes → data_text bytes ≡ word → ⊥
  not_decoded none bytes are is =
      let read : decode_of word ≡ Ok bytes = ap decode_of (sym (printed_so word bytes other is)) ∙ decode_of-encode_lower bytes are in
      let given : result_ok (decode_of word) ≡ Some bytes = ap result_ok read in
      absurd (cc (none, given))

  decoded_is : (bytes : List ℕ) (read : Result (List ℕ) FromHexError) → result_ok read ≡ Some bytes → read ≡ Ok bytes
  decoded_is bytes (Ok x) e = cc
  decoded_is bytes (Err fault) e = absurd cc

  printed : (bytes : List ℕ) → encode_lower bytes ≡ word → data_text bytes ≡ word
  unfolding encode_with
  printed [] is = absurd (some (ap (λ (l : List ℕ). length l) (sym is)))
  printed (x ∷ xs) is = some_data x xs ∙ is

  pub by_lower_case : {E : Type 0} (bytes : List ℕ) (result : Result (Option (List ℕ)) E) → result_ok (decode_of word) ≡ Some bytes
      → IfOk result (λ given. MatchOption given (encode_lower bytes ≢ word) (λ same. (same ≡ bytes) × (encode_lower bytes ≡ word))) → IfOk result (Spells IsBytes data_text word)
  by_lower_case bytes (Err fault) read h = tt
  by_lower_case bytes (Ok None) read h = λ x are is.
      let own = decoded_is bytes (decode_of word) read in
      let text = printed_so word x other is in
      let twice : decode_of word ≡ Ok x = ap decode_of (sym text) ∙ decode_of-encode_lower x are in
      let same : x ≡ bytes = cc in
      h (ap encode_lower (sym same) ∙ text)
  by_lower_case bytes (Ok (Some given)) read h =
      let own = decoded_is bytes (decode_of word) read in
      let are = (decode_of-ok word bytes own).3 in
      (subst (λ (b : List ℕ). IsBytes b) (sym h.0) are, ap data_text h.0 ∙ printed bytes h.1)
