-- Lists of strictly rising names stay so where an element is replaced, inserted or removed.
use Rattle.std.proofs.Common.{◌≡◌, ℕ, suc, zero, ◌≤◌, List, [], ◌∷◌, length, get_or, set, sym, ap, subst, ◌∙◌, arith}
use Rattle.std.specs.List.{AllByRecursion, insert, remove}
use Rattle.std.specs.declared.cmp.Ordering.TheVariants.{Less}
use Rattle.clus_names.specs.Folding.{name_cmp}
use Rattle.registry_defs.specs.Rising.{Rising}
use Rattle.registry_tree.specs.Places.{IsGap}

module _ {X : Type 0} (name : X → List ℕ) where
  each_set : (P : List ℕ → Type 0) (xs : List X) (i : ℕ) (x y : X) → x ≡ get_or xs i x → name y ≡ name x → AllByRecursion (λ z. P (name z)) xs → AllByRecursion (λ z. P (name z)) (set xs i y)
  each_set P [] i x y is same h = tt
  each_set P (z ∷ zs) zero x y is same h = (subst P (sym (same ∙ ap name is)) h.0, h.1)
  each_set P (z ∷ zs) (suc i) x y is same h = (h.0, each_set P zs i x y is same h.1)

  pub rising_set : (xs : List X) (i : ℕ) (x y : X) → x ≡ get_or xs i x → name y ≡ name x → Rising name_cmp name xs → Rising name_cmp name (set xs i y)
  rising_set [] i x y is same up = tt
  rising_set (z ∷ zs) zero x y is same up = (subst (λ n. AllByRecursion (λ w. name_cmp n (name w) ≡ Less) zs) (sym (same ∙ ap name is)) up.0, up.1)
  rising_set (z ∷ zs) (suc i) x y is same up = (each_set (λ n. name_cmp (name z) n ≡ Less) zs i x y is same up.0, rising_set zs i x y is same up.1)

  each_insert : (P : X → Type 0) (xs : List X) (i : ℕ) (x : X) → P x → AllByRecursion P xs → AllByRecursion P (insert xs i x)
  each_insert P xs zero x p h = (p, h)
  each_insert P [] (suc i) x p h = (p, tt)
  each_insert P (y ∷ ys) (suc i) x p h = (h.0, each_insert P ys i x p h.1)

  pub rising_insert : (xs : List X) (i : ℕ) (x : X) (sought : List ℕ) → IsGap name xs sought i → name x ≡ sought → Rising name_cmp name xs → Rising name_cmp name (insert xs i x)
  rising_insert xs zero x sought gap same up = (subst (λ n. AllByRecursion (λ y. name_cmp n (name y) ≡ Less) xs) (sym same) gap.after, up)
  rising_insert [] (suc i) x sought gap same up = absurd (let h = gap.within in omega (arith, h))
  rising_insert (y ∷ ys) (suc i) x sought gap same up =
      let rest : IsGap name ys sought i = record { within = (let h = gap.within in omega (arith, h)); before = gap.before.1; after = gap.after } in
      (each_insert (λ z. name_cmp (name y) (name z) ≡ Less) ys i x (subst (λ n. name_cmp (name y) n ≡ Less) (sym same) gap.before.0) up.0, rising_insert ys i x sought rest same up.1)

  each_remove : (P : X → Type 0) (xs : List X) (i : ℕ) → AllByRecursion P xs → AllByRecursion P (remove xs i)
  each_remove P [] zero h = tt
  each_remove P [] (suc i) h = tt
  each_remove P (y ∷ ys) zero h = h.1
  each_remove P (y ∷ ys) (suc i) h = (h.0, each_remove P ys i h.1)

  pub rising_remove : (xs : List X) (i : ℕ) → Rising name_cmp name xs → Rising name_cmp name (remove xs i)
  rising_remove [] zero up = tt
  rising_remove [] (suc i) up = tt
  rising_remove (y ∷ ys) zero up = up.1
  rising_remove (y ∷ ys) (suc i) up = (each_remove (λ z. name_cmp (name y) (name z) ≡ Less) ys i up.0, rising_remove ys i up.1)

  pub rising_short : (xs : List X) → length xs ≤ 1 → Rising name_cmp name xs
  rising_short [] short = tt
  rising_short (x ∷ []) short = (tt, tt)
  rising_short (x ∷ y ∷ ys) short = absurd (omega (arith, short))
