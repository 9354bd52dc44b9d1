-- The first byte at fault in a text that is no units' text.
use Rattle.std.specs.Prelude.{◌≡◌, ◌≢◌, ◌⊎◌, ◌<◌, ◌≤◌, ℕ, ◌+◌, ◌-◌, ◌*◌, List, [], ◌∷◌, ◌++◌, length, take, All, Option, Some, None, Result, Ok, Err, Bool, not, ◌&&◌, ◌||◌, nat_le, nat_lt, ◌==◌, if◌then◌else◌, slice_index}
use Rattle.std.specs.List.{position_or_len}
use Rattle.clus_names.specs.declared.units_fault.UnitsFault.{UnitsFault}
use Rattle.clus_names.specs.declared.units_fault.UnitsFault.TheVariants.{Bad, Memory}
use Rattle.clus_names.specs.Limits.{IsNameUnit}
use Rattle.clus_names.specs.UnitTexts.{percent, dot, is_plain, escape, unit_piece, unit_pieces}

abbrev pub is_hex_digit : ℕ → Bool
is_hex_digit byte = (nat_le 0x30 byte && nat_le byte 0x39) || (nat_le 0x61 byte && nat_le byte 0x66)

abbrev pub hex_value : ℕ → ℕ
hex_value digit = if nat_lt digit 0x60 then digit - 0x30 else digit - 0x57

abbrev pub is_other : ℕ → Bool
is_other byte = not (is_hex_digit byte)

-- How many digits stand at the front.
abbrev pub leading_digits : List ℕ → ℕ
leading_digits bytes = position_or_len is_other bytes

-- The unit that four digits spell.
abbrev pub spelled_unit : List ℕ → ℕ
spelled_unit digits =
    4096 * hex_value (slice_index digits 0) + 256 * hex_value (slice_index digits 1)
    + 16 * hex_value (slice_index digits 2) + hex_value (slice_index digits 3)

-- How far behind its `%` an escape is at fault, given the four bytes there, or fewer at the end of the text.
-- Only a unit that is neither 0 nor plain is escaped.
unfoldable pub escape_fault : List ℕ → Option ℕ
escape_fault digits =
    if nat_lt (leading_digits digits) 4 then Some (1 + leading_digits digits)
    else if spelled_unit digits == 0 || is_plain (spelled_unit digits) then Some 0
    else None

-- How far in the text the piece at its front is at fault.
unfoldable pub piece_fault : List ℕ → Option ℕ
piece_fault [] = None
piece_fault (lead ∷ behind) =
    if is_plain lead then None
    else if lead == percent then escape_fault (take 4 behind)
    else Some 0

-- Behind the pieces of some units stands a piece that is at fault at that place.
pub record IsBadPiece (text : List ℕ) (place : ℕ) : Type 0 where
  pub units : List ℕ
  pub rest : List ℕ
  pub offset : ℕ
  pub good : All IsNameUnit units
  pub text_is : text ≡ unit_pieces units ++ rest
  pub bad : piece_fault rest ≡ Some offset
  pub place_is : place ≡ length (unit_pieces units) + offset

-- The empty text is at fault at 0, and the escape of `.` alone is not.
abbrev pub IsBadUnits : List ℕ → ℕ → Type 0
IsBadUnits text place = ((text ≡ []) × (place ≡ 0)) ⊎ ((text ≢ escape dot) × IsBadPiece text place)

-- A refusal for want of memory, or for this place.
abbrev pub RefusesUnits : List ℕ → UnitsFault → Type 0
RefusesUnits text (Bad place) = IsBadUnits text place
RefusesUnits text Memory = Unit {0}

-- The call gave these units, unless memory ran out.
abbrev pub GivesUnits : {V : Type 0} → (V → List ℕ) → Result V UnitsFault → List ℕ → Type 0
GivesUnits view (Ok given) units = view given ≡ units
GivesUnits view (Err Memory) units = Unit {0}
GivesUnits view (Err (Bad place)) units = ⊥

-- The text begins with the unit's piece, which has that many bytes.
pub record IsPieceAt (text : List ℕ) (unit size : ℕ) : Type 0 where
  pub unit_is : IsNameUnit unit
  pub piece_is : take size text ≡ unit_piece unit
  pub some : 0 < size
  pub within : size ≤ length text

abbrev pub RefusesPieces : List ℕ → UnitsFault → Type 0
RefusesPieces text (Bad place) = IsBadPiece text place
RefusesPieces text Memory = Unit {0}
