-- Which maps are registries.
use Rattle.std.specs.Prelude.{◌≡◌, ℕ, ◌<◌, ◌≤◌, ◌^◌, List, [], ◌∷◌, length, IsSome, IsTrue}
use Rattle.std.specs.List.{AllByRecursion}
use Rattle.std.specs.FinMap.{is_sorted}
use Rattle.wire_fields.specs.Numbers.{IsBytes}
use Rattle.clus_names.specs.Folding.{folded, name_cmp, path_cmp}
use Rattle.clus_names.specs.Parts.{text_of}
use Rattle.clus_names.specs.Limits.{IsName, IsPart}
use Rattle.registry_defs.specs.Keys.{ValueData, Values, KeyData, Keys, key_at}
use Rattle.registry_defs.specs.Sections.{parent_of}

pub record IsValue (value : ValueData) : Type 0 where
  pub name : IsName value.name
  pub kind : value.kind < 2 ^ 32
  pub short : length value.bytes ≤ 49152
  pub bytes : IsBytes value.bytes

-- The values of a key, under their folded names.
pub record AreValues (values : Values) : Type 0 where
  pub rising : IsTrue (is_sorted name_cmp values)
  pub under_names : AllByRecursion (λ entry. entry.0 ≡ folded entry.1.name) values
  pub limits : AllByRecursion (λ entry. IsValue entry.1) values

-- The name of a key by its path, and its creation number: only the root has none of both.
abbrev pub IsNamed : List (List ℕ) → KeyData → Type 0
IsNamed [] key = (key.part ≡ []) × (key.birth ≡ 0)
IsNamed (first ∷ others) key = IsPart key.part × (0 < key.birth) × (key.birth < 2 ^ 63)

-- The path ends in the folded name.
abbrev pub EndsIn : List ℕ → List (List ℕ) → Type 0
EndsIn part [] = Unit {0}
EndsIn part (last ∷ []) = last ≡ folded part
EndsIn part (first ∷ next ∷ others) = EndsIn part (next ∷ others)

pub record IsKey (path : List (List ℕ)) (key : KeyData) : Type 0 where
  pub named : IsNamed path key
  pub under_name : EndsIn key.part path
  pub short : length (text_of path) ≤ 1023
  pub written : key.written < 2 ^ 64
  pub values : AreValues key.values

-- The map of a registry has a root and each key's parent, and obeys all limits.
pub record IsRegistry (keys : Keys) : Type 0 where
  pub rising : IsTrue (is_sorted path_cmp keys)
  pub limits : AllByRecursion (λ entry. IsKey entry.0 entry.1) keys
  pub root : IsSome (key_at [] keys)
  pub parents : AllByRecursion (λ entry. IsSome (key_at (parent_of entry.0) keys)) keys

-- What the fields of a key's spelling have room for.
pub record HasFields (key : KeyData) : Type 0 where
  pub part : length key.part ≤ 255
  pub birth : key.birth < 2 ^ 63
  pub values : length key.values < 2 ^ 32
  pub names : AllByRecursion (λ entry. length entry.1.name ≤ 1023) key.values
  pub bytes : AllByRecursion (λ entry. length entry.1.bytes ≤ 49152) key.values

pub record HaveFields (keys : Keys) : Type 0 where
  pub few : length keys < 2 ^ 32
  pub each : AllByRecursion (λ entry. HasFields entry.1) keys
