-- What is found in a registry.
use Rattle.std.specs.Prelude.{◌≡◌, ℕ, List, true}
use Rattle.registry_defs.specs.Keys.{ValueData, KeyData, Keys, key_at}
use Rattle.registry_defs.specs.Applying.{is_born}
use Rattle.registry_defs.specs.Nodes.{Node, IsAt}

pub record IsBornAt (birth : ℕ) (path : List (List ℕ)) (keys : Keys) (node : Node) : Type 0 where
  pub at : IsAt path keys node
  pub born : is_born birth (key_at path keys) ≡ true

-- What a look-up tells of an entry: of a value its type and data, of a subkey its name and written time.
abbrev pub type_and_data : ValueData → ℕ × List ℕ
type_and_data value = (value.kind, value.bytes)

abbrev pub name_and_time : List (List ℕ) × KeyData → List ℕ × ℕ
name_and_time entry = (entry.1.part, entry.1.written)

abbrev pub name_type_and_data : List ℕ × ValueData → List ℕ × ℕ × List ℕ
name_type_and_data entry = (entry.1.name, entry.1.kind, entry.1.bytes)
