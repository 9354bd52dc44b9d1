-- Where a search in a list of strictly rising names ends.
use Rattle.std.specs.Prelude.{◌≡◌, ℕ, suc, ◌<◌, ◌≤◌, List, length, take, drop, slice_index_or}
use Rattle.std.specs.List.{AllByRecursion}
use Rattle.std.specs.declared.cmp.Ordering.TheVariants.{Less}
use Rattle.clus_names.specs.Folding.{name_cmp}

-- The element at the index has the name.
pub record IsAt {X : Type 0} (name : X → List ℕ) (xs : List X) (sought : List ℕ) (index : ℕ) : Type 0 where
  pub within : index < length xs
  pub same : (d : X) → name (slice_index_or xs index d) ≡ sought
  pub before : AllByRecursion (λ x. name_cmp (name x) sought ≡ Less) (take index xs)
  pub after : AllByRecursion (λ x. name_cmp sought (name x) ≡ Less) (drop (suc index) xs)

-- No element has the name; it belongs at the index.
pub record IsGap {X : Type 0} (name : X → List ℕ) (xs : List X) (sought : List ℕ) (index : ℕ) : Type 0 where
  pub within : index ≤ length xs
  pub before : AllByRecursion (λ x. name_cmp (name x) sought ≡ Less) (take index xs)
  pub after : AllByRecursion (λ x. name_cmp sought (name x) ≡ Less) (drop index xs)
