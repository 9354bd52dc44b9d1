-- What a Create adds to the size of a registry, and what it takes from it.
use Rattle.std.specs.Prelude.{ℕ, ◌+◌, ◌*◌, List, [], ◌∷◌, length, Option, Some, None, is_some, if◌then◌else◌}
use Rattle.registry_defs.specs.Keys.{KeyData, Keys, key_at, below}
use Rattle.registry_defs.specs.Sizes.{written_size}

-- New keys with these names.
abbrev pub chain_size : ℕ → List (List ℕ) → ℕ
chain_size stamp [] = 0
chain_size stamp (part ∷ parts) = 18 + 2 * length part + written_size stamp + chain_size stamp parts

abbrev pub creation_added : ℕ → List (List ℕ) → List (List ℕ) → Keys → ℕ
creation_added stamp path [] keys = 0
creation_added stamp path (part ∷ parts) keys =
    if is_some (key_at (below path part) keys) then creation_added stamp (below path part) parts keys
    else written_size stamp + chain_size stamp (part ∷ parts)

abbrev pub written_size_at : Option KeyData → ℕ
written_size_at None = 0
written_size_at (Some key) = written_size key.written

-- The written time of the last key that was there.
abbrev pub creation_freed : List (List ℕ) → List (List ℕ) → Keys → ℕ
creation_freed path [] keys = 0
creation_freed path (part ∷ parts) keys =
    if is_some (key_at (below path part) keys) then creation_freed (below path part) parts keys
    else written_size_at (key_at path keys)
