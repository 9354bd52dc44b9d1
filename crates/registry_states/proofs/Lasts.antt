-- The last of those read so far, above which the next name is.
use Rattle.std.proofs.Common.{◌≡◌, ℕ, suc, ◌-◌, true, List, [], ◌∷◌, ◌++◌, length, Option, Some, None, refl, arith}
use Rattle.std.specs.Prelude.{slice_get, option_map}
use Rattle.std.specs.List.{AllByRecursion, last_or}
use Rattle.std.specs.declared.cmp.Ordering.{Ordering}
use Rattle.std.specs.declared.cmp.Ordering.TheVariants.{Less, Equal, Greater}
use Rattle.std.specs.Ordering.{is_lt}
use Rattle.clus_names.specs.Folding.{folded, name_cmp}
use Rattle.registry_defs.specs.Rising.{Rising}
use Rattle.registry_defs.specs.StateGrammar.{is_above}
use Rattle.registry_defs.proofs.Orders.{name_total}

pub last_here : {X : Type 0} (x : X) (xs : List X) → slice_get (x ∷ xs) (length xs) ≡ last_or (Some x) xs
last_here x [] = refl
last_here x (y ∷ ys) = last_here y ys

pub last_got : {X : Type 0} (xs : List X) → slice_get xs (length xs - 1) ≡ last_or None xs
last_got [] = refl
last_got (x ∷ xs) =
    let e : suc (length xs) - 1 ≡ length xs = omega arith in
    rw e (last_here x xs)

pub last_more : {X : Type 0} (d : Option X) (xs : List X) (x : X) → last_or d (xs ++ x ∷ []) ≡ Some x
last_more d [] x = refl
last_more d (y ∷ ys) x = last_more (Some y) ys x

lt_less : (r : Ordering) → is_lt r ≡ true → r ≡ Less
lt_less Less e = refl
lt_less Equal e = absurd (cc)
lt_less Greater e = absurd (cc)

module _ {X : Type 0} (name : X → List ℕ) where
  abbrev own : X → List ℕ
  own x = folded (name x)

  -- everything before the last is less than what the last is less than
  each_more : (y x : X) (xs : List X) → name_cmp (own y) (own x) ≡ Less → AllByRecursion (λ z. name_cmp (own y) (own z) ≡ Less) xs → AllByRecursion (λ z. name_cmp (own y) (own z) ≡ Less) (xs ++ x ∷ [])
  each_more y x [] less h = (less, tt)
  each_more y x (z ∷ zs) less h = (h.0, each_more y x zs less h.1)

  below_last : (y x : X) (xs : List X) → is_above (option_map name (last_or (Some y) xs)) (name x) ≡ true → Rising name_cmp own (y ∷ xs) → name_cmp (own y) (own x) ≡ Less
  below_last y x [] above h = lt_less (name_cmp (own y) (own x)) above
  below_last y x (z ∷ zs) above h = name_total.trans (own y) (own z) (own x) h.0.0 (below_last z x zs above h.1)

  rising_from : (y x : X) (xs : List X) → is_above (option_map name (last_or (Some y) xs)) (name x) ≡ true → Rising name_cmp own (y ∷ xs) → Rising name_cmp own (y ∷ (xs ++ x ∷ []))
  rising_from y x [] above h = (each_more y x [] (below_last y x [] above h) tt, (tt, tt))
  rising_from y x (z ∷ zs) above h = (each_more y x (z ∷ zs) (below_last y x (z ∷ zs) above h) h.0, rising_from z x zs above h.1)

  -- what is above the last is behind all
  pub rising_more : (xs : List X) (x : X) → is_above (option_map name (last_or None xs)) (name x) ≡ true → Rising name_cmp own xs → Rising name_cmp own (xs ++ x ∷ [])
  rising_more [] x above h = (tt, tt)
  rising_more (y ∷ ys) x above h = rising_from y x ys above h
