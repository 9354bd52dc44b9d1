-- A registry as text: a line for each key and each value, and one where a key ends.
use Rattle.std.specs.Prelude.{ℕ, zero, suc, ◌+◌, ◌-◌, List, [], ◌∷◌, ◌++◌, length, codes, flat_map, ◌==◌, if◌then◌else◌}
use Rattle.std.specs.Fmt.{decimal}
use Rattle.std.specs.List.{AllByRecursion, concat}
use Rattle.hex.specs.Hex.{encode_lower}
use Rattle.clus_names.specs.Limits.{LacksZero}
use Rattle.clus_names.specs.UnitTexts.{unit_text}
use Rattle.registry_defs.specs.Keys.{ValueData, Values, KeyData, Keys}

-- ` BIRTH WRITTEN`
unfoldable pub times_text : ℕ → ℕ → List ℕ
times_text birth written = concat (codes " " ∷ decimal birth ∷ codes " " ∷ decimal written ∷ codes "\n" ∷ [])

-- `key PART BIRTH WRITTEN`
unfoldable pub key_line : KeyData → List ℕ
key_line key = codes "key " ++ unit_text key.part ++ times_text key.birth key.written

-- ` TYPE `
unfoldable pub kind_text : ℕ → List ℕ
kind_text kind = concat (codes " " ∷ decimal kind ∷ codes " " ∷ [])

-- Hexadecimal digits, lower case, and `-` where there is no byte.
abbrev pub data_text : List ℕ → List ℕ
data_text bytes = if length bytes == 0 then codes "-" else encode_lower bytes

-- `value NAME TYPE HEX`
unfoldable pub value_line : ValueData → List ℕ
value_line value = codes "value " ++ unit_text value.name ++ kind_text value.kind ++ data_text value.bytes ++ codes "\n"

abbrev pub value_lines : Values → List ℕ
value_lines values = flat_map (λ entry. value_line entry.1) values

-- So many keys end.
unfoldable pub ends : ℕ → List ℕ
ends zero = []
ends (suc count) = codes "up\n" ++ ends count

-- The keys in the order of their paths, where so many are open before them: a key ends before the first one that doesn't
-- stand below it.
unfoldable pub keys_lines : ℕ → Keys → List ℕ
keys_lines open_keys [] = ends open_keys
keys_lines open_keys (entry ∷ entries) =
    ends (open_keys - length entry.0) ++ (key_line entry.1 ++ (value_lines entry.1.values ++ keys_lines (length entry.0 + 1) entries))

abbrev pub hive_text : Keys → List ℕ
hive_text keys = codes "hive 1\n" ++ keys_lines 0 keys

-- The names of keys can be printed.
abbrev pub HaveNames : Keys → Type 0
HaveNames keys = AllByRecursion (λ entry. LacksZero entry.1.part) keys
