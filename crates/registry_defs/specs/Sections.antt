-- A key with all that stands below it.
use Rattle.std.specs.Prelude.{ℕ, ◌-◌, List, [], ◌∷◌, length, take, Bool, Option, Some, None, filter, nat_lt, ◌==◌, if◌then◌else◌}
use Rattle.std.specs.Ordering.{eq_by_cmp}
use Rattle.clus_names.specs.Folding.{name_cmp}
use Rattle.registry_defs.specs.Keys.{KeyData, Keys}

-- What stands behind the first path, where the second begins with it.
abbrev pub path_from : List (List ℕ) → List (List ℕ) → Option (List (List ℕ))
path_from [] path = Some path
path_from (part ∷ parts) [] = None
path_from (part ∷ parts) (first ∷ others) = if eq_by_cmp name_cmp part first then path_from parts others else None

abbrev pub at_front : Option (List (List ℕ)) → KeyData → Keys → Keys
at_front None key keys = keys
at_front (Some path) key keys = (path, key) ∷ keys

-- The key at the path and all keys below it, under their paths from it.
abbrev pub section : List (List ℕ) → Keys → Keys
section path [] = []
section path (entry ∷ entries) = at_front (path_from path entry.0) entry.1 (section path entries)

-- Of a section: the keys right below the one at its top, in order.
abbrev pub subkeys : Keys → Keys
subkeys keys = filter (λ entry. length entry.0 == 1) keys

-- Whether a key has subkeys: there is more than the key itself.
abbrev pub has_subkeys : List (List ℕ) → Keys → Bool
has_subkeys path keys = nat_lt 1 (length (section path keys))

-- The path without its last part.
abbrev pub parent_of : List (List ℕ) → List (List ℕ)
parent_of path = take (length path - 1) path
