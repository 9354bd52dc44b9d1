-- A registry as changes: one for each key but the root, and one for each value, in the order of the text.
use Rattle.std.specs.Prelude.{ℕ, List, [], ◌∷◌, ◌++◌, length, map, take, ◌==◌, if◌then◌else◌}
use Rattle.update_records.specs.declared.change.Change.{Change}
use Rattle.update_records.specs.declared.change.Change.TheVariants.{Create, SetValue}
use Rattle.registry_defs.specs.Keys.{ValueData, Values, KeyData, Keys}

-- The path of a key in names as first given, by that of the key before it.
abbrev pub shown_path : List (List ℕ) → List (List ℕ) → KeyData → List (List ℕ)
shown_path before [] key = []
shown_path before (first ∷ others) key = take (length others) before ++ key.part ∷ []

-- The root is always there. In a batch the birth 0 stands for that of whatever key is at the path.
abbrev pub creation : List (List ℕ) → List Change
creation path = if length path == 0 then [] else Create [] 0 path ∷ []

abbrev pub setting : List (List ℕ) → List ℕ × ValueData → Change
setting path entry = SetValue path 0 entry.1.name entry.1.kind entry.1.bytes

abbrev pub settings : List (List ℕ) → Values → List Change
settings path values = map (setting path) values

abbrev pub key_changes : List (List ℕ) → KeyData → List Change
key_changes path key = creation path ++ settings path key.values

-- The changes of keys that stand below one path, behind a key with this path from there.
unfoldable pub changes_below : List (List ℕ) → List (List ℕ) → Keys → List Change
changes_below top before [] = []
changes_below top before (entry ∷ entries) =
    key_changes (top ++ shown_path before entry.0 entry.1) entry.1 ++ changes_below top (shown_path before entry.0 entry.1) entries

-- The changes of the key with this path, and of all below it.
abbrev pub changes_from : List (List ℕ) → Keys → List Change
changes_from path keys = changes_below path [] keys

abbrev pub changes_of : Keys → List Change
changes_of keys = changes_from [] keys
