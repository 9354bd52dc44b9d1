-- The keys of a registry under their folded paths, and the values of each key under their folded names, in ascending order.
use Rattle.std.specs.Prelude.{ℕ, List, [], ◌∷◌, ◌++◌, not, Option, filter}
use Rattle.std.specs.declared.cmp.Ordering.{Ordering}
use Rattle.std.specs.Ordering.{eq_by_cmp}
use Rattle.std.specs.FinMap.{find}
use Rattle.clus_names.specs.Folding.{folded, name_cmp, path_cmp}

-- A value: its name as first given, its type and its data.
pub record ValueData : Type 0 where
  pub name : List ℕ
  pub kind : ℕ
  pub bytes : List ℕ

abbrev pub Values : Type 0
Values = List (List ℕ × ValueData)

-- A key: its name as first given, its creation number, when it was last changed, and its values. The root has no name.
pub record KeyData : Type 0 where
  pub part : List ℕ
  pub birth : ℕ
  pub written : ℕ
  pub values : Values

abbrev pub Keys : Type 0
Keys = List (List (List ℕ) × KeyData)

-- The key at a folded path.
abbrev pub key_at : List (List ℕ) → Keys → Option KeyData
key_at path keys = find path_cmp path keys

-- The value with a folded name.
abbrev pub value_at : List ℕ → Values → Option ValueData
value_at name values = find name_cmp name values

-- All entries but those of one key of the map.
abbrev pub without : {K X : Type 0} → (K → K → Ordering) → K → List (K × X) → List (K × X)
without R key entries = filter (λ entry. not (eq_by_cmp R key entry.0)) entries

-- The path of the key with this name right below a folded path.
abbrev pub below : List (List ℕ) → List ℕ → List (List ℕ)
below path part = path ++ folded part ∷ []

abbrev pub new_root : KeyData
new_root = record { part = []; birth = 0; written = 0; values = [] }

-- The empty registry.
abbrev pub root_alone : Keys
root_alone = ([], new_root) ∷ []
