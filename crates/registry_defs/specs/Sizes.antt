-- The size of a registry, which is the length of its spelling.
use Rattle.std.specs.Prelude.{ℕ, ◌+◌, ◌*◌, List, [], ◌∷◌, length, ◌==◌, if◌then◌else◌}
use Rattle.registry_defs.specs.Keys.{ValueData, KeyData, Keys}

-- The sum of the sizes of a map's entries.
abbrev pub total : {K X : Type 0} → (K → X → ℕ) → List (K × X) → ℕ
total size [] = 0
total size (entry ∷ entries) = size entry.0 entry.1 + total size entries

abbrev pub value_size : List ℕ → ValueData → ℕ
value_size name value = 10 + 2 * length value.name + length value.bytes

-- A written time of 0 isn't spelled.
abbrev pub written_size : ℕ → ℕ
written_size written = if written == 0 then 0 else 8

-- The root has no name.
abbrev pub part_size : List (List ℕ) → List ℕ → ℕ
part_size [] part = 16
part_size (first ∷ others) part = 18 + 2 * length part

abbrev pub key_size : List (List ℕ) → KeyData → ℕ
key_size path key = part_size path key.part + written_size key.written + total value_size key.values

abbrev pub size : Keys → ℕ
size keys = total key_size keys
