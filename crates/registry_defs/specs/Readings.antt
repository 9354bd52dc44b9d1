-- What is read of a registry.
use Rattle.std.specs.Prelude.{ℕ, max, List, [], ◌∷◌, length, Option, option_map, option_and_then, slice_get}
use Rattle.registry_defs.specs.declared.info.Info.{Info}
use Rattle.registry_defs.specs.Keys.{ValueData, KeyData, Keys, key_at, value_at}
use Rattle.registry_defs.specs.Sections.{section, subkeys}

abbrev pub birth_at : List (List ℕ) → Keys → Option ℕ
birth_at path keys = option_map (λ key. key.birth) (key_at path keys)

abbrev pub value_in : List (List ℕ) → List ℕ → Keys → Option ValueData
value_in path name keys = option_and_then (λ key. value_at name key.values) (key_at path keys)

-- The subkey with exactly so many smaller ones.
abbrev pub nth_subkey : List (List ℕ) → ℕ → Keys → Option (List (List ℕ) × KeyData)
nth_subkey path index keys = slice_get (subkeys (section path keys)) index

-- The value with exactly so many smaller ones.
abbrev pub nth_value : List (List ℕ) → ℕ → Keys → Option (List ℕ × ValueData)
nth_value path index keys = option_and_then (λ key. slice_get key.values index) (key_at path keys)

abbrev pub longest : {X : Type 0} → (X → ℕ) → List X → ℕ
longest measure [] = 0
longest measure (x ∷ xs) = max (measure x) (longest measure xs)

abbrev pub info_of : KeyData → Keys → Info
info_of key children = record {
  subkeys = length children;
  longest_subkey = longest (λ entry. length entry.1.part) children;
  values = length key.values;
  longest_name = longest (λ entry. length entry.1.name) key.values;
  longest_data = longest (λ entry. length entry.1.bytes) key.values;
  written = key.written;
}

abbrev pub info_at : List (List ℕ) → Keys → Option Info
info_at path keys = option_map (λ key. info_of key (subkeys (section path keys))) (key_at path keys)
