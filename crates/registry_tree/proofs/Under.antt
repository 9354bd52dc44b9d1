-- The entries of a subkey among those of the key above it, under their paths from there.
use Rattle.std.proofs.Common.{◌≡◌, ℕ, true, false, cond, not, List, [], ◌∷◌, ◌++◌, Some, refl, ap, ◌∙◌}
use Rattle.std.specs.List.{AllByRecursion}
use Rattle.std.specs.declared.cmp.Ordering.TheVariants.{Less, Equal, Greater}
use Rattle.std.specs.Ordering.{eq_by_cmp, is_eq, ordering_then, ordering_reverse}
use Rattle.std.specs.FinMap.{find, put}
use Rattle.std.specs.FinMap.Entries.{by_order}
use Rattle.clus_names.specs.Folding.{name_cmp, path_cmp}
use Rattle.registry_defs.specs.Keys.{KeyData, Keys, without}
use Rattle.registry_defs.specs.Sections.{path_from, at_front, section}
use Rattle.registry_defs.specs.Nodes.{Node, keys_of, name_of, under, spread}
use Rattle.registry_defs.proofs.Orders.{name_total, name_itself}
use Rattle.registry_defs.proofs.Runs as runs

pub each_append : {X : Type 0} (P : X → Type 0) (xs ys : List X) → AllByRecursion P xs → AllByRecursion P ys → AllByRecursion P (xs ++ ys)
each_append P [] ys h k = k
each_append P (x ∷ xs) ys h k = (h.0, each_append P xs ys h.1 k)

module _ (p : List ℕ) (q : List (List ℕ)) where
  pub find_under : (es : Keys) → find path_cmp (p ∷ q) (under p es) ≡ find path_cmp q es
  find_under [] = refl
  find_under (e ∷ es) = rw (name_itself p) (ap (λ o. cond (eq_by_cmp path_cmp q e.0) (Some e.1) o) (find_under es))

  pub put_under : (d : KeyData) (es : Keys) → put path_cmp (p ∷ q) d (under p es) ≡ under p (put path_cmp q d es)
  put_under d [] = refl
  put_under d (e ∷ es) =
      ap (λ r. by_order (ordering_then r (path_cmp q e.0)) ((p ∷ q, d) ∷ under p (e ∷ es)) ((p ∷ e.0, d) ∷ under p es) ((p ∷ e.0, e.1) ∷ put path_cmp (p ∷ q) d (under p es))) (name_itself p)
      ∙ elim (path_cmp q e.0) as (λ r. by_order r ((p ∷ q, d) ∷ under p (e ∷ es)) ((p ∷ e.0, d) ∷ under p es) ((p ∷ e.0, e.1) ∷ put path_cmp (p ∷ q) d (under p es)) ≡ under p (by_order r ((q, d) ∷ e ∷ es) ((e.0, d) ∷ es) (e ∷ put path_cmp q d es))) [
        | Less ↦ refl
        | Equal ↦ refl
        | Greater ↦ ap (λ (l : Keys). (p ∷ e.0, e.1) ∷ l) (put_under d es)
      ]

  pub without_under : (es : Keys) → without path_cmp (p ∷ q) (under p es) ≡ under p (without path_cmp q es)
  without_under [] = refl
  without_under (e ∷ es) =
      ap (λ r. cond (not (is_eq (ordering_then r (path_cmp q e.0)))) ((p ∷ e.0, e.1) ∷ without path_cmp (p ∷ q) (under p es)) (without path_cmp (p ∷ q) (under p es))) (name_itself p)
      ∙ elim (eq_by_cmp path_cmp q e.0) as (λ b. cond (not b) ((p ∷ e.0, e.1) ∷ without path_cmp (p ∷ q) (under p es)) (without path_cmp (p ∷ q) (under p es)) ≡ under p (cond (not b) (e ∷ without path_cmp q es) (without path_cmp q es))) [
        | true ↦ without_under es
        | false ↦ ap (λ (l : Keys). (p ∷ e.0, e.1) ∷ l) (without_under es)
      ]

  pub section_under : (es : Keys) → section (p ∷ q) (under p es) ≡ section q es
  section_under [] = refl
  section_under (e ∷ es) = rw (name_itself p) (ap (at_front (path_from q e.0) e.1) (section_under es))

  -- ---- entries of other names

  pub above_under : (n : List ℕ) → name_cmp p n ≡ Greater → (es : Keys) → runs.IsAbove path_cmp (p ∷ q) (under n es)
  above_under n greater [] = tt
  above_under n greater (e ∷ es) = (ap (λ r. ordering_then r (path_cmp q e.0)) greater, above_under n greater es)

  pub below_under : (n : List ℕ) → name_cmp p n ≡ Less → (es : Keys) → runs.IsBelow path_cmp (p ∷ q) (under n es)
  below_under n less [] = tt
  below_under n less (e ∷ es) = (ap (λ r. ordering_then r (path_cmp q e.0)) less, below_under n less es)

  pub above_spread : (nodes : List Node) → AllByRecursion (λ node. name_cmp (name_of node) p ≡ Less) nodes → runs.IsAbove path_cmp (p ∷ q) (spread nodes)
  above_spread [] lower = tt
  above_spread (node ∷ nodes) lower =
      each_append (λ e. path_cmp (p ∷ q) e.0 ≡ Greater) (under (name_of node) (keys_of node)) (spread nodes)
      (above_under (name_of node) (name_total.antisymm p (name_of node) ∙ ap ordering_reverse lower.0) (keys_of node))
      (above_spread nodes lower.1)

  pub below_spread : (nodes : List Node) → AllByRecursion (λ node. name_cmp p (name_of node) ≡ Less) nodes → runs.IsBelow path_cmp (p ∷ q) (spread nodes)
  below_spread [] higher = tt
  below_spread (node ∷ nodes) higher =
      each_append (λ e. path_cmp (p ∷ q) e.0 ≡ Less) (under (name_of node) (keys_of node)) (spread nodes)
      (below_under (name_of node) higher.0 (keys_of node))
      (below_spread nodes higher.1)
