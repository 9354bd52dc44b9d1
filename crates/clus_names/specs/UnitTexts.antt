-- The text of a list of units: printable ASCII but `%` stands for itself, every other unit is escaped.
use Rattle.std.specs.Prelude.{◌≡◌, ℕ, ◌+◌, ◌/◌, ◌%◌, List, [], ◌∷◌, length, flat_map, All, Bool, not, ◌&&◌, nat_le, nat_lt, ◌==◌, if◌then◌else◌}
use Rattle.std.specs.Str.{bytes_eq}
use Rattle.clus_names.specs.Limits.{IsNameUnit}

-- `%`
abbrev pub percent : ℕ
percent = 0x25

-- `.`
abbrev pub dot : ℕ
dot = 0x2E

-- The unit stands for itself.
abbrev pub is_plain : ℕ → Bool
is_plain unit = nat_le 0x21 unit && nat_le unit 0x7E && not (unit == percent)

-- The hexadecimal digit of a number below 16, lower case.
abbrev pub hex_digit : ℕ → ℕ
hex_digit number = if nat_lt number 10 then 0x30 + number else 0x57 + number

-- `%` and the four hexadecimal digits of the unit.
unfoldable pub escape : ℕ → List ℕ
escape unit = percent ∷ hex_digit (unit / 4096) ∷ hex_digit (unit / 256 % 16) ∷ hex_digit (unit / 16 % 16) ∷ hex_digit (unit % 16) ∷ []

unfoldable pub unit_piece : ℕ → List ℕ
unit_piece unit = if is_plain unit then unit ∷ [] else escape unit

abbrev pub unit_pieces : List ℕ → List ℕ
unit_pieces units = flat_map unit_piece units

-- No units are `.`, so that the one unit `.` is escaped.
abbrev pub unit_text : List ℕ → List ℕ
unit_text units =
    if length units == 0 then dot ∷ []
    else if bytes_eq units (dot ∷ []) then escape dot
    else unit_pieces units

abbrev pub UnitsHaveOneText : Type 0
UnitsHaveOneText = (units others : List ℕ) → All IsNameUnit units → All IsNameUnit others → unit_text units ≡ unit_text others → units ≡ others
