-- What `find`, `put` and `without` do in entries that stand wholly on one side of a key.
use Rattle.std.proofs.Common.{◌≡◌, true, false, cond, not, List, [], ◌∷◌, ◌++◌, refl, ap}
use Rattle.std.specs.Prelude.{None}
use Rattle.std.specs.List.{AllByRecursion}
use Rattle.std.specs.declared.cmp.Ordering.{Ordering}
use Rattle.std.specs.declared.cmp.Ordering.TheVariants.{Less, Equal, Greater}
use Rattle.std.specs.Ordering.{eq_by_cmp}
use Rattle.std.specs.FinMap.{find, put}
use Rattle.std.specs.FinMap.Entries.{by_order}
use Rattle.registry_defs.specs.Keys.{without}

module _ {K X : Type 0} (R : K → K → Ordering) (q : K) where
  -- the key is greater than that of each entry
  abbrev pub IsAbove : List (K × X) → Type 0
  IsAbove = AllByRecursion (λ e. R q e.0 ≡ Greater)

  -- the key is less than that of each entry
  abbrev pub IsBelow : List (K × X) → Type 0
  IsBelow = AllByRecursion (λ e. R q e.0 ≡ Less)

  pub find_behind : (xs ys : List (K × X)) → IsAbove xs → find R q (xs ++ ys) ≡ find R q ys
  find_behind [] ys above = refl
  find_behind (x ∷ xs) ys above = rw above.0 (find_behind xs ys above.1)

  pub find_none : (ys : List (K × X)) → IsBelow ys → find R q ys ≡ None
  find_none [] below = refl
  find_none (y ∷ ys) below = rw below.0 (find_none ys below.1)

  pub find_before : (xs ys : List (K × X)) → IsBelow ys → find R q (xs ++ ys) ≡ find R q xs
  find_before [] ys below = find_none ys below
  find_before (x ∷ xs) ys below = rw (find_before xs ys below) refl

  pub put_behind : (v : X) (xs ys : List (K × X)) → IsAbove xs → put R q v (xs ++ ys) ≡ xs ++ put R q v ys
  put_behind v [] ys above = refl
  put_behind v (x ∷ xs) ys above = rw above.0 (ap (λ l. x ∷ l) (put_behind v xs ys above.1))

  pub put_first : (v : X) (ys : List (K × X)) → IsBelow ys → put R q v ys ≡ (q, v) ∷ ys
  put_first v [] below = refl
  put_first v (y ∷ ys) below = rw below.0 refl

  pub put_before : (v : X) (xs ys : List (K × X)) → IsBelow ys → put R q v (xs ++ ys) ≡ put R q v xs ++ ys
  put_before v [] ys below = put_first v ys below
  put_before v (x ∷ xs) ys below =
      elim (R q x.0) as (λ r. by_order r ((q, v) ∷ x ∷ (xs ++ ys)) ((x.0, v) ∷ (xs ++ ys)) (x ∷ put R q v (xs ++ ys)) ≡ by_order r ((q, v) ∷ x ∷ xs) ((x.0, v) ∷ xs) (x ∷ put R q v xs) ++ ys) [
        | Less ↦ refl
        | Equal ↦ refl
        | Greater ↦ ap (λ l. x ∷ l) (put_before v xs ys below)
      ]

  pub without_behind : (xs ys : List (K × X)) → IsAbove xs → without R q (xs ++ ys) ≡ xs ++ without R q ys
  without_behind [] ys above = refl
  without_behind (x ∷ xs) ys above = rw above.0 (ap (λ l. x ∷ l) (without_behind xs ys above.1))

  pub without_none : (ys : List (K × X)) → IsBelow ys → without R q ys ≡ ys
  without_none [] below = refl
  without_none (y ∷ ys) below = rw below.0 (ap (λ l. y ∷ l) (without_none ys below.1))

  pub without_before : (xs ys : List (K × X)) → IsBelow ys → without R q (xs ++ ys) ≡ without R q xs ++ ys
  without_before [] ys below = without_none ys below
  without_before (x ∷ xs) ys below =
      elim (eq_by_cmp R q x.0) as (λ b. cond (not b) (x ∷ without R q (xs ++ ys)) (without R q (xs ++ ys)) ≡ cond (not b) (x ∷ without R q xs) (without R q xs) ++ ys) [
        | true ↦ without_before xs ys below
        | false ↦ ap (λ l. x ∷ l) (without_before xs ys below)
      ]
