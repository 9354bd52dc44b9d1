-- The sum of the sizes of a map's entries after a change.
use Rattle.std.proofs.Common.{◌≡◌, ℕ, ◌+◌, true, false, cond, not, List, [], ◌∷◌, Option, Some, None, refl, sym, ap, subst, ◌∙◌, arith}
use Rattle.std.specs.List.{AllByRecursion}
use Rattle.std.specs.declared.cmp.Ordering.{Ordering}
use Rattle.std.specs.declared.cmp.Ordering.TheVariants.{Less, Equal, Greater}
use Rattle.std.specs.Ordering.{is_eq, eq_by_cmp}
use Rattle.std.specs.Cmp.{IsTotalOrder}
use Rattle.std.specs.FinMap.{find, put, IsAntisymmetric}
use Rattle.std.specs.FinMap.Entries.{by_order}
use Rattle.registry_defs.specs.Keys.{without}
use Rattle.registry_defs.specs.Rising.{Rising}
use Rattle.registry_defs.specs.Sizes.{total}
use Rattle.registry_defs.proofs.Runs as Runs
use Rattle.registry_defs.proofs.Maps.{same_key}

abbrev pub size_found : {K X : Type 0} → (K → X → ℕ) → K → Option X → ℕ
size_found size q None = 0
size_found size q (Some x) = size q x

module _ {K X : Type 0} (R : K → K → Ordering) (order : IsTotalOrder R) (exact : IsAntisymmetric R) (g : K → X → ℕ) where
  below_more : (q k : K) (es : List (K × X)) → R q k ≡ Less → AllByRecursion (λ f. R k f.0 ≡ Less) es → AllByRecursion (λ f. R q f.0 ≡ Less) es
  below_more q k [] is h = tt
  below_more q k (e ∷ es) is h = (order.trans q k e.0 is h.0, below_more q k es is h.1)

  pub total_put : (q : K) (v : X) (es : List (K × X)) → Rising R (λ e. e.0) es → total g (put R q v es) + size_found g q (find R q es) ≡ total g es + g q v
  total_put q v [] up = omega arith
  total_put q v (e ∷ es) up =
      elim (R q e.0) as (λ r. R q e.0 ≡ r → total g (by_order r ((q, v) ∷ e ∷ es) ((e.0, v) ∷ es) (e ∷ put R q v es)) + size_found g q (cond (is_eq r) (Some e.1) (find R q es)) ≡ total g (e ∷ es) + g q v) [
        | Less ↦ λ is. rw (Runs.find_none R q es (below_more q e.0 es is up.0)) (omega arith)
        | Equal ↦ λ is. subst (λ k. g k v + total g es + g q e.1 ≡ (g k e.1 + total g es) + g q v) (exact q e.0 is) (omega arith)
        | Greater ↦ λ is. let rest = total_put q v es up.1 in omega (arith, rest)
      ] refl

  pub total_without : (q : K) (es : List (K × X)) → Rising R (λ e. e.0) es → total g (without R q es) + size_found g q (find R q es) ≡ total g es
  total_without q [] up = omega arith
  total_without q (e ∷ es) up =
      elim (eq_by_cmp R q e.0) as (λ b. eq_by_cmp R q e.0 ≡ b → total g (cond (not b) (e ∷ without R q es) (without R q es)) + size_found g q (cond b (Some e.1) (find R q es)) ≡ total g (e ∷ es)) [
        | true ↦ λ same.
            let is : q ≡ e.0 = same_key R exact q e.0 same in
            let below : Runs.IsBelow R q es = subst (λ k. AllByRecursion (λ (f : K × X). R k f.0 ≡ Less) es) (sym is) up.0 in
            let sizes : g q e.1 ≡ g e.0 e.1 = ap (λ k. g k e.1) is in
            rw (Runs.without_none R q es below) (omega (arith, sizes))
        | false ↦ λ _. let rest = total_without q es up.1 in omega (arith, rest)
      ] refl

  -- what is found is among what is summed
  pub found_within : (q : K) (d : X) (es : List (K × X)) → Rising R (λ e. e.0) es → find R q es ≡ Some d → total g (without R q es) + g q d ≡ total g es
  found_within q d es up found = ap (λ o. total g (without R q es) + size_found g q o) (sym found) ∙ total_without q es up
