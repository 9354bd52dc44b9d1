-- What a change makes of the keys, where it isn't refused.
use Rattle.std.specs.Prelude.{ℕ, List, [], ◌∷◌, Option, Some, None, is_some, if◌then◌else◌}
use Rattle.std.specs.FinMap.{put}
use Rattle.clus_names.specs.Folding.{folded, name_cmp, path_cmp}
use Rattle.registry_defs.specs.Keys.{ValueData, Values, KeyData, Keys, key_at, value_at, without, below}
use Rattle.registry_defs.specs.Sections.{parent_of}

-- A change of the key at the path, if it is there.
abbrev pub put_changed : Option KeyData → (KeyData → KeyData) → List (List ℕ) → Keys → Keys
put_changed None change path keys = keys
put_changed (Some key) change path keys = put path_cmp path (change key) keys

abbrev pub at_key : (KeyData → KeyData) → List (List ℕ) → Keys → Keys
at_key change path keys = put_changed (key_at path keys) change path keys

abbrev pub stamped : ℕ → KeyData → KeyData
stamped stamp key = record key { written = stamp }

-- ---- values

-- A value that is there keeps its name as first given.
abbrev pub kept_name : Option ValueData → List ℕ → List ℕ
kept_name None name = name
kept_name (Some value) name = value.name

abbrev pub value_set : List ℕ → ℕ → List ℕ → Values → Values
value_set name kind bytes values =
    put name_cmp (folded name) (record { name = kept_name (value_at (folded name) values) name; kind = kind; bytes = bytes }) values

abbrev pub with_value : List ℕ → ℕ → List ℕ → ℕ → KeyData → KeyData
with_value name kind bytes stamp key = record key { written = stamp; values = value_set name kind bytes key.values }

abbrev pub without_value : List ℕ → ℕ → KeyData → KeyData
without_value name stamp key = record key { written = stamp; values = without name_cmp (folded name) key.values }

-- ---- keys

abbrev pub new_key : ℕ → ℕ → List ℕ → KeyData
new_key place stamp part = record { part = part; birth = place; written = stamp; values = [] }

-- New keys with these names, each below the one before it, the first one below the path.
abbrev pub chain_made : ℕ → ℕ → List (List ℕ) → List (List ℕ) → Keys → Keys
chain_made place stamp path [] keys = keys
chain_made place stamp path (part ∷ parts) keys =
    chain_made place stamp (below path part) parts (put path_cmp (below path part) (new_key place stamp part) keys)

-- All keys that are missing on the way down from the path, which is there. The last one that was there is stamped.
abbrev pub created : ℕ → ℕ → List (List ℕ) → List (List ℕ) → Keys → Keys
created place stamp path [] keys = keys
created place stamp path (part ∷ parts) keys =
    if is_some (key_at (below path part) keys) then created place stamp (below path part) parts keys
    else chain_made place stamp path (part ∷ parts) (at_key (stamped stamp) path keys)

-- The key goes with its values, and its parent is stamped.
abbrev pub key_deleted : ℕ → List (List ℕ) → Keys → Keys
key_deleted stamp path keys = at_key (stamped stamp) (parent_of path) (without path_cmp path keys)
