-- Lists in strictly ascending order.
use Rattle.std.specs.Prelude.{◌≡◌, List, [], ◌∷◌}
use Rattle.std.specs.List.{AllByRecursion}
use Rattle.std.specs.declared.cmp.Ordering.{Ordering}
use Rattle.std.specs.declared.cmp.Ordering.TheVariants.{Less}
use Rattle.clus_names.specs.Folding.{path_cmp}
use Rattle.registry_defs.specs.Keys.{Keys}

-- Each element's key is less than those of all behind it.
abbrev pub Rising : {K X : Type 0} → (K → K → Ordering) → (X → K) → List X → Type 0
Rising R key [] = Unit {0}
Rising R key (x ∷ xs) = AllByRecursion (λ y. R (key x) (key y) ≡ Less) xs × Rising R key xs

abbrev pub RisingKeys : Keys → Type 0
RisingKeys keys = Rising path_cmp (λ entry. entry.0) keys
