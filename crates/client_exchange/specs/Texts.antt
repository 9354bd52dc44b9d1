-- What a client prints. Each line ends with a line feed.
use Rattle.std.specs.Prelude.{ℕ, List, [], ◌∷◌, ◌++◌, length, codes, ◌==◌, if◌then◌else◌, Option, None, Some}
use Rattle.std.specs.Fmt.{decimal}
use Rattle.std.specs.List.{concat}
use Rattle.hex.specs.Hex.{encode_lower}
use Rattle.clus_names.specs.UnitTexts.{unit_text}

-- `status S`
unfoldable pub status_line : ℕ → List ℕ
status_line status = concat (codes "status " ∷ decimal status ∷ codes "\n" ∷ [])

-- `fault S`
unfoldable pub fault_line : ℕ → List ℕ
fault_line status = concat (codes "fault " ∷ decimal status ∷ codes "\n" ∷ [])

-- `made D`
unfoldable pub made_line : ℕ → List ℕ
made_line disposition = concat (codes "made " ∷ decimal disposition ∷ codes "\n" ∷ [])

-- A null string is printed as no units.
abbrev pub shown : Option (List ℕ) → List ℕ
shown None = unit_text []
shown (Some units) = unit_text units

-- `name CLUSTER NODE`
unfoldable pub name_line : Option (List ℕ) → Option (List ℕ) → List ℕ
name_line cluster member = codes "name " ++ shown cluster ++ codes " " ++ shown member ++ codes "\n"

-- `key PART`
unfoldable pub key_line : Option (List ℕ) → List ℕ
key_line name = codes "key " ++ shown name ++ codes "\n"

-- Hexadecimal digits, lower case, and `-` where there is no byte.
abbrev pub data_text : List ℕ → List ℕ
data_text bytes = if length bytes == 0 then codes "-" else encode_lower bytes

-- ` TYPE `
unfoldable pub kind_text : ℕ → List ℕ
kind_text kind = concat (codes " " ∷ decimal kind ∷ codes " " ∷ [])

-- `value TYPE HEX`
unfoldable pub value_line : ℕ → List ℕ → List ℕ
value_line kind bytes = codes "value" ++ kind_text kind ++ data_text bytes ++ codes "\n"

-- `value NAME TYPE HEX`
unfoldable pub named_value_line : Option (List ℕ) → ℕ → List ℕ → List ℕ
named_value_line name kind bytes = codes "value " ++ shown name ++ kind_text kind ++ data_text bytes ++ codes "\n"
