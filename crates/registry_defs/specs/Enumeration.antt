-- The order of enumeration: the n-th of a list is the one with exactly n smaller ones.
use Rattle.std.specs.Prelude.{◌≡◌, ℕ, List, length, Some, filter, slice_get}
use Rattle.std.specs.declared.cmp.Ordering.{Ordering}
use Rattle.std.specs.Ordering.{is_lt}
use Rattle.clus_names.specs.Folding.{name_cmp, path_cmp}
use Rattle.registry_defs.specs.Keys.{ValueData, Values, KeyData, Keys}
use Rattle.registry_defs.specs.Sections.{section, subkeys}
use Rattle.registry_defs.specs.Readings.{nth_subkey}
use Rattle.registry_defs.specs.Rising.{Rising, RisingKeys}

abbrev pub count_smaller : {K X : Type 0} → (K → K → Ordering) → K → List (K × X) → ℕ
count_smaller R key entries = length (filter (λ entry. is_lt (R entry.0 key)) entries)

abbrev pub SubkeysAreCounted : Type 0
SubkeysAreCounted =
    (keys : Keys) (path : List (List ℕ)) (index : ℕ) (entry : List (List ℕ) × KeyData)
    → RisingKeys keys → nth_subkey path index keys ≡ Some entry → count_smaller path_cmp entry.0 (subkeys (section path keys)) ≡ index

abbrev pub ValuesAreCounted : Type 0
ValuesAreCounted =
    (values : Values) (index : ℕ) (entry : List ℕ × ValueData)
    → Rising name_cmp (λ e. e.0) values → slice_get values index ≡ Some entry → count_smaller name_cmp entry.0 values ≡ index
