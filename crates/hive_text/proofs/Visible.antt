-- The words of a line have no byte below 33, so neither space nor line feed.
use Rattle.std.proofs.Common.{◌≡◌, ◌≢◌, ℕ, ◌<◌, ◌≤◌, ◌^◌, Bool, true, false, cond, eqb, List, [], ◌∷◌, ◌++◌, length, refl, arith}
use Rattle.std.specs.Fmt.{decimal}
use Rattle.std.specs.Str.{bytes_eq}
use Rattle.std.specs.Str.Parse.{AllDigits}
use Rattle.std.specs.List.{AllByRecursion, AllPass}
use Rattle.std.proofs.lemmas.Bool.Decides.{nat_tests}
use Rattle.std.proofs.lemmas.Fmt.{decimal_is_IsNumeral}
use Rattle.std.proofs.lemmas.Str.Parse.{digit_from_value}
use Rattle.std.proofs.lemmas.List.Elements.{All-head, All-tail}
use Rattle.hex.specs.Hex.{IsBytes, encode_lower, is_hex_digit}
use Rattle.hex.proofs.HexLemmas.{decode_of-encode_lower, decode_of-ok}
use Rattle.clus_names.specs.UnitTexts.{dot, escape, hex_digit, is_plain, unit_piece, unit_pieces, unit_text}
use Rattle.clus_names.proofs.UnitLaws.{escaped_piece}
use Rattle.hive_text.specs.HiveText.{data_text}
use Rattle.hive_text.specs.LineWords.{Lacks}

abbrev pub IsVisible : List ℕ → Type 0
IsVisible text = AllByRecursion (λ b. 33 ≤ b) text

pub lacks_small : (byte : ℕ) (text : List ℕ) → byte < 33 → IsVisible text → Lacks byte text
lacks_small byte [] small h = tt
lacks_small byte (x ∷ xs) small h =
    let ne : x ≢ byte = λ is. absurd (omega (arith, small, h.0, is)) in
    (ne, lacks_small byte xs small h.1)

visible_append : (a b : List ℕ) → IsVisible a → IsVisible b → IsVisible (a ++ b)
visible_append [] b h k = k
visible_append (x ∷ a) b h k = (h.0, visible_append a b h.1 k)

-- ---- units

plain_piece : (unit : ℕ) → is_plain unit ≡ true → unit_piece unit ≡ unit ∷ []
unfolding unit_piece
plain_piece unit e = rw e refl

plain_visible : (unit : ℕ) → is_plain unit ≡ true → 33 ≤ unit
plain_visible unit e = grind (arith, nat_tests)

digit_visible : (number : ℕ) → 33 ≤ hex_digit number
digit_visible number = grind (arith, nat_tests)

escape_visible : (unit : ℕ) → IsVisible (escape unit)
unfolding escape
escape_visible unit = (omega arith, (digit_visible _, (digit_visible _, (digit_visible _, (digit_visible _, tt)))))

piece_visible : (unit : ℕ) → IsVisible (unit_piece unit)
piece_visible unit = by (is_plain unit) refl
  where
    by : (b : Bool) → is_plain unit ≡ b → IsVisible (unit_piece unit)
    by true e = rw (plain_piece unit e) (plain_visible unit e, tt)
    by false e = rw (escaped_piece unit e) (escape_visible unit)

pieces_visible : (units : List ℕ) → IsVisible (unit_pieces units)
pieces_visible [] = tt
pieces_visible (unit ∷ units) = visible_append (unit_piece unit) (unit_pieces units) (piece_visible unit) (pieces_visible units)

pub units_visible : (units : List ℕ) → IsVisible (unit_text units)
units_visible units = by (eqb (length units) 0) (bytes_eq units (dot ∷ []))
  where
    by : (none alone : Bool) → IsVisible (cond none (dot ∷ []) (cond alone (escape dot) (unit_pieces units)))
    by true alone = (omega arith, tt)
    by false true = escape_visible dot
    by false false = pieces_visible units

-- ---- numbers

digits_visible : (text : List ℕ) → AllDigits 10 text → IsVisible text
digits_visible [] h = tt
digits_visible (c ∷ cs) h =
    let range = digit_from_value c h.0 in
    (omega (arith, range), digits_visible cs h.1)

pub decimal_visible : (n : ℕ) → n < 2 ^ 64 → IsVisible (decimal n)
decimal_visible n small = digits_visible (decimal n) (decimal_is_IsNumeral n small).0.1

-- ---- data

hex_visible : (c : ℕ) → is_hex_digit c ≡ true → 33 ≤ c
hex_visible c e = grind (arith, nat_tests)

digits_pass : (text : List ℕ) → AllPass is_hex_digit text → IsVisible text
digits_pass [] h = tt
digits_pass (c ∷ cs) h =
    (hex_visible c (All-head (λ (x : ℕ). is_hex_digit x ≡ true) c cs h), digits_pass cs (All-tail (λ (x : ℕ). is_hex_digit x ≡ true) c cs h))

lower_visible : (bytes : List ℕ) → IsBytes bytes → IsVisible (encode_lower bytes)
lower_visible bytes are = digits_pass (encode_lower bytes) (decode_of-ok (encode_lower bytes) bytes (decode_of-encode_lower bytes are)).1

pub data_visible : (bytes : List ℕ) → IsBytes bytes → IsVisible (data_text bytes)
data_visible bytes are = by (eqb (length bytes) 0)
  where
    by : (none : Bool) → IsVisible (cond none (45 ∷ []) (encode_lower bytes))
    by true = (omega arith, tt)
    by false = lower_visible bytes are
