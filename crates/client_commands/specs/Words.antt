-- What the words of a command say.
use Rattle.std.specs.Prelude.{ℕ, zero, suc, ◌^◌, ◌≤◌, ◌==◌, Bool, ◌&&◌, ◌||◌, nat_lt, nat_le, if◌then◌else◌, List, [], ◌∷◌, length, take, All, Option, Some, None, is_some, option_map, slice_index}
use Rattle.std.specs.Char.{is_ascii_digit}
use Rattle.std.specs.List.{list_all}
use Rattle.std.specs.Result.{result_ok}
use Rattle.std.specs.Str.{bytes_eq}
use Rattle.std.specs.Str.Parse.{digits_value}
use Rattle.hex.specs.Hex.{decode_of}
use Rattle.clus_names.specs.Limits.{IsNameUnit}
use Rattle.clus_names.specs.UnitTexts.{dot, escape, is_plain}
use Rattle.clus_names.specs.UnitFaults.{piece_fault, spelled_unit}

-- The units whose text this is, piece by piece; so many of its bytes belong to the piece before.
unfoldable pub pieces_in : ℕ → List ℕ → Option (List ℕ)
pieces_in skipped [] = Some []
pieces_in (suc skipped) (byte ∷ behind) = pieces_in skipped behind
pieces_in zero (lead ∷ behind) =
    if is_some (piece_fault (lead ∷ behind)) then None
    else if is_plain lead then option_map (λ units. lead ∷ units) (pieces_in 0 behind)
    else option_map (λ units. spelled_unit (take 4 behind) ∷ units) (pieces_in 4 behind)

-- The units whose text this is.
unfoldable pub units_of : List ℕ → Option (List ℕ)
units_of text =
    if length text == 0 then None
    else if bytes_eq text (dot ∷ []) then Some []
    else if bytes_eq text (escape dot) then Some (dot ∷ [])
    else pieces_in 0 text

-- The most units of a path or a name.
abbrev pub most_units : ℕ
most_units = 4096

abbrev pub is_short : List ℕ → Bool
is_short units = nat_le (length units) most_units

-- A path, or the name of a value.
abbrev pub short : List ℕ → Option (List ℕ)
short units = if is_short units then Some units else None

abbrev pub name_in : Option (List ℕ) → Option (List ℕ)
name_in None = None
name_in (Some units) = short units

abbrev pub name_of : List ℕ → Option (List ℕ)
name_of word = name_in (units_of word)

-- A zero stands first only where it stands alone.
abbrev pub has_no_leading_zero : List ℕ → Bool
has_no_leading_zero word = (length word == 1) || nat_lt 48 (slice_index word 0)

abbrev pub is_decimal : List ℕ → Bool
is_decimal word = list_all is_ascii_digit word && has_no_leading_zero word

-- A number of 32 bits.
unfoldable pub number_of : List ℕ → Option ℕ
number_of word = if is_decimal word && nat_lt (digits_value 10 word) (2 ^ 32) then Some (digits_value 10 word) else None

-- Pairs of hexadecimal digits in either case; `-` is no bytes.
unfoldable pub data_of : List ℕ → Option (List ℕ)
data_of word =
    if bytes_eq word (45 ∷ []) then Some []
    else if length word == 0 then None
    else result_ok (decode_of word)

-- What a path or a name has, however it was read.
pub record IsNameText (units : List ℕ) : Type 0 where
  pub units_are : All IsNameUnit units
  pub few : length units ≤ most_units
