-- A key with all that stands below it, as one value.
use Rattle.std.specs.Prelude.{◌≡◌, ℕ, List, [], ◌∷◌, Some, map, flat_map}
use Rattle.clus_names.specs.Folding.{folded, folded_parts}
use Rattle.clus_names.specs.Parts.{parts_of}
use Rattle.registry_defs.specs.Keys.{KeyData, Keys, key_at}
use Rattle.registry_defs.specs.Sections.{section}

-- The key itself, and the keys below it under their paths from it.
pub record Node : Type 0 where
  pub here : KeyData
  pub below : Keys

abbrev pub keys_of : Node → Keys
keys_of node = ([], node.here) ∷ node.below

-- The node is that of the key at the path, with all below it.
pub record IsAt (path : List (List ℕ)) (keys : Keys) (node : Node) : Type 0 where
  pub here : key_at path keys ≡ Some node.here
  pub all : keys_of node ≡ section path keys

abbrev pub name_of : Node → List ℕ
name_of node = folded node.here.part

-- As an entry of the key above it.
abbrev pub subkey_entry : Node → List (List ℕ) × KeyData
subkey_entry node = (name_of node ∷ [], node.here)

-- The entries of a key with this folded name, under their paths from the key above it.
abbrev pub under : List ℕ → Keys → Keys
under name keys = map (λ entry. (name ∷ entry.0, entry.1)) keys

-- The entries of all subkeys, under their paths from the key above them.
abbrev pub spread : List Node → Keys
spread nodes = flat_map (λ node. under (name_of node) (keys_of node)) nodes

-- The folded path that a text tells.
abbrev pub path_of : List ℕ → List (List ℕ)
path_of text = folded_parts (parts_of text)
