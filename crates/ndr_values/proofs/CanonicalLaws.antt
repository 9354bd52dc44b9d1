-- What a writer appends spells the value.
use Rattle.std.proofs.Common.{◌≡◌, ◌≢◌, ℕ, suc, ◌+◌, ◌-◌, ◌%◌, ◌/◌, ◌^◌, ◌<◌, ◌≤◌, true, List, [], ◌∷◌, ◌++◌, length, get_or, Some, All, refl, sym, append_assoc, arith, lit<, length-append}
use Rattle.std.specs.Prelude.{◌==◌, slice_get}
use Rattle.std.specs.List.{flat_map, position_or_len}
use Rattle.std.proofs.Math.Nat.{mod-lt, mod-add-div}
use Rattle.std.proofs.Math.Seq.{take-append_seam, get_or-append_seam}
use Rattle.std.proofs.lemmas.Bool.Decides.{nat_tests}
use Rattle.std.proofs.lemmas.List.{append-nil, get_or_append_left, length-replicate}
use Rattle.std.proofs.lemmas.List.Sums.{position_or_len_is}
use Rattle.wire_fields.specs.declared.endian.Endian.{Endian}
use Rattle.wire_fields.specs.Lists.{IsList}
use Rattle.wire_fields.specs.Numbers.{num, uuid_text}
use Rattle.wire_fields.specs.Reading.{gap}
use Rattle.ndr_values.specs.declared.handle.WireHandle.{WireHandle}
use Rattle.ndr_values.specs.Canonical.{IsSpelledAt}
use Rattle.ndr_values.specs.Spelling.{IsUnit, SpellsText, SpellsBytes, SpellsNumber, SpellsTime, SpellsHandle, zeros, canonical_text, canonical_bytes, canonical_number, canonical_handle, canonical_time}
use Rattle.ndr_values.specs.Text.{ends_in_zero, text_of}

length-zeros : (place : ℕ) → length (zeros place) ≡ gap 4 place
length-zeros place = length-replicate (gap 4 place) 0

-- ---- the units of a text, with a unit 0 behind them

listed : (e : Endian) (text : List ℕ) → All (λ unit. unit < 2 ^ 16) text → IsList (IsUnit e) (text ++ 0 ∷ []) (flat_map (num e 2) text ++ num e 2 0)
listed e [] small = (num e 2 0, [], sym (append-nil (num e 2 0)), (lit< tt, refl), refl)
listed e (unit ∷ text) small = (
  num e 2 unit,
  flat_map (num e 2) text ++ num e 2 0,
  append_assoc (num e 2 unit) (flat_map (num e 2) text) (num e 2 0),
  (small 0 0 (omega arith), refl),
  listed e text (λ k d within. small (suc k) d (omega (arith, within))),
)

last_unit : (text : List ℕ) → slice_get (text ++ 0 ∷ []) (length text) ≡ Some 0
last_unit [] = refl
last_unit (unit ∷ text) = last_unit text

ends : (text : List ℕ) → ends_in_zero (text ++ 0 ∷ []) ≡ true
ends text =
    let last : length (text ++ 0 ∷ []) - 1 ≡ length text = omega (arith, length-append text (0 ∷ [])) in
    rw (last, last_unit text) refl

before_end : (text : List ℕ) → All (λ unit. unit ≢ 0) text → text ≡ text_of (text ++ 0 ∷ [])
before_end text nonzero =
    let long : length text ≤ length (text ++ 0 ∷ []) = omega (arith, length-append text (0 ∷ [])) in
    let first : position_or_len (λ unit. unit == 0) (text ++ 0 ∷ []) ≡ length text =
    position_or_len_is (λ unit. unit == 0) (text ++ 0 ∷ []) (length text) 0 long
    (λ k below. rw (get_or_append_left text (0 ∷ []) 0 k below) (let other : get_or text k 0 ≢ 0 = nonzero k 0 below in grind (arith, nat_tests, other)))
    (λ within. rw (get_or-append_seam text 0 [] 0) refl) in
    rw first (sym (take-append_seam text (0 ∷ [])))

text_spelled : (e : Endian) (place : ℕ) (text : List ℕ) → All (λ unit. unit < 2 ^ 16) text → All (λ unit. unit ≢ 0) text → length text + 1 < 2 ^ 32
    → SpellsText e place text (canonical_text e place text)
text_spelled e place text small nonzero short =
    let count : length (text ++ 0 ∷ []) ≡ length text + 1 = omega (arith, length-append text (0 ∷ [])) in
    let max = num e 4 (length text + 1) in
    let sent = flat_map (num e 2) text ++ num e 2 0 in
    let parts : canonical_text e place text ≡ zeros place ++ (max ++ (num e 4 0 ++ (max ++ sent))) = simp append_assoc in
    record {
      padding = zeros place;
      max = length text + 1;
      sent = text ++ 0 ∷ [];
      sent_bytes = sent;
      aligned = length-zeros place;
      fits = short;
      within = omega (arith, count);
      ended = ends text;
      before_end = before_end text nonzero;
      units = listed e text small;
      parts = rw count parts;
    }

bytes_spelled : (e : Endian) (place : ℕ) (array : List ℕ) → length array < 2 ^ 32 → SpellsBytes e place array (canonical_bytes e place array)
bytes_spelled e place array short = record {
  padding = zeros place;
  aligned = length-zeros place;
  fits = short;
  parts = append_assoc (zeros place) (num e 4 (length array)) array;
}

number_spelled : (e : Endian) (place number : ℕ) → number < 2 ^ 32 → SpellsNumber e place number (canonical_number e place number)
number_spelled e place number fits = record { padding = zeros place; aligned = length-zeros place; fits = fits; parts = refl }

time_spelled : (e : Endian) (place time : ℕ) → time < 2 ^ 64 → SpellsTime e place time (canonical_time e place time)
time_spelled e place time fits =
    let whole = mod-add-div time (256 ^ 4) in
    record {
      padding = zeros place;
      low = time % 256 ^ 4;
      high = time / 256 ^ 4;
      aligned = length-zeros place;
      low_fits = mod-lt time (lit< tt);
      high_fits = omega (arith, whole);
      time_is = sym whole;
      parts = append_assoc (zeros place) (num e 4 (time % 256 ^ 4)) (num e 4 (time / 256 ^ 4));
    }

handle_spelled : (e : Endian) (place : ℕ) (handle : WireHandle) → handle.attributes < 2 ^ 32 → length handle.id ≡ 16 → SpellsHandle e place handle (canonical_handle e place handle)
handle_spelled e place handle fits long = record {
  padding = zeros place;
  aligned = length-zeros place;
  attributes = fits;
  id = long;
  parts = append_assoc (zeros place) (num e 4 handle.attributes) (uuid_text e handle.id);
}

pub all_spelled : (e : Endian) (place : ℕ) → IsSpelledAt e place
all_spelled e place = record {
  text = text_spelled e place;
  bytes = bytes_spelled e place;
  pointer = λ referent fits. record { referent = referent; null_is_0 = refl; number = number_spelled e place referent fits };
  number = number_spelled e place;
  time = time_spelled e place;
  handle = handle_spelled e place;
}
