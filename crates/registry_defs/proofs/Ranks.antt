-- The index of an entry in a rising list is the number of smaller ones.
use Rattle.std.proofs.Common.{◌≡◌, ℕ, suc, zero, Bool, true, false, cond, List, [], ◌∷◌, length, Some, refl, ap, subst, ◌∙◌}
use Rattle.std.specs.Prelude.{filter, slice_get}
use Rattle.std.specs.List.{AllByRecursion}
use Rattle.std.specs.declared.cmp.Ordering.{Ordering}
use Rattle.std.specs.declared.cmp.Ordering.TheVariants.{Less}
use Rattle.std.specs.Ordering.{is_lt, ordering_reverse}
use Rattle.std.specs.Cmp.{IsTotalOrder, tied_itself}
use Rattle.clus_names.specs.Folding.{name_cmp, path_cmp}
use Rattle.registry_defs.specs.Sections.{section, subkeys}
use Rattle.registry_defs.specs.Rising.{Rising}
use Rattle.registry_defs.specs.Enumeration.{count_smaller, SubkeysAreCounted, ValuesAreCounted}
use Rattle.registry_defs.proofs.Orders.{name_total, path_total}
use Rattle.registry_defs.proofs.Sections.{section_rising}

-- What holds of each element of a list holds of the one at an index.
pub each_got : {X : Type 0} (P : X → Type 0) (xs : List X) (n : ℕ) (x : X) → AllByRecursion P xs → slice_get xs n ≡ Some x → P x
each_got P [] n x h got = absurd cc
each_got P (y ∷ ys) zero x h got = let is : y ≡ x = cc in subst P is h.0
each_got P (y ∷ ys) (suc n) x h got = each_got P ys n x h.1 got

module _ {K X : Type 0} (R : K → K → Ordering) (o : IsTotalOrder R) where
  none_smaller : (key : K) (xs : List (K × X)) → AllByRecursion (λ x. R key x.0 ≡ Less) xs → count_smaller R key xs ≡ 0
  none_smaller key [] h = refl
  none_smaller key (x ∷ xs) h =
      ap (λ r. length (cond (is_lt r) (x ∷ filter (λ e. is_lt (R e.0 key)) xs) (filter (λ e. is_lt (R e.0 key)) xs))) (o.antisymm x.0 key ∙ ap ordering_reverse h.0)
      ∙ none_smaller key xs h.1

  pub rank : (xs : List (K × X)) (n : ℕ) (e : K × X) → Rising R (λ x. x.0) xs → slice_get xs n ≡ Some e → count_smaller R e.0 xs ≡ n
  rank [] n e up got = absurd cc
  rank (x ∷ xs) zero e up got =
      let is : x ≡ e = cc in
      subst (λ (y : K × X). count_smaller R y.0 (x ∷ xs) ≡ 0) is
      (ap (λ r. length (cond (is_lt r) (x ∷ filter (λ y. is_lt (R y.0 x.0)) xs) (filter (λ y. is_lt (R y.0 x.0)) xs))) (tied_itself o x.0) ∙ none_smaller x.0 xs up.0)
  rank (x ∷ xs) (suc n) e up got =
      ap (λ r. length (cond (is_lt r) (x ∷ filter (λ y. is_lt (R y.0 e.0)) xs) (filter (λ y. is_lt (R y.0 e.0)) xs))) (each_got (λ y. R x.0 y.0 ≡ Less) xs n e up.0 got)
      ∙ ap suc (rank xs n e up.1 got)

each_filter : {X : Type 0} (P : X → Type 0) (p : X → Bool) (xs : List X) → AllByRecursion P xs → AllByRecursion P (filter p xs)
each_filter P p [] h = tt
each_filter P p (x ∷ xs) h =
    let rest = each_filter P p xs h.1 in
    elim (p x) as (λ b. AllByRecursion P (cond b (x ∷ filter p xs) (filter p xs))) [ true ↦ (h.0, rest) | false ↦ rest ]

rising_filter : {K X : Type 0} (R : K → K → Ordering) (key : X → K) (p : X → Bool) (xs : List X) → Rising R key xs → Rising R key (filter p xs)
rising_filter R key p [] up = tt
rising_filter R key p (x ∷ xs) up =
    let rest = rising_filter R key p xs up.1 in
    elim (p x) as (λ b. Rising R key (cond b (x ∷ filter p xs) (filter p xs))) [ true ↦ (each_filter (λ y. R (key x) (key y) ≡ Less) p xs up.0, rest) | false ↦ rest ]

pub subkeys_counted : SubkeysAreCounted
subkeys_counted keys path index entry up got =
    rank path_cmp path_total (subkeys (section path keys)) index entry (rising_filter path_cmp (λ e. e.0) _ (section path keys) (section_rising path keys up)) got

pub values_counted : ValuesAreCounted
values_counted values index entry up got = rank name_cmp name_total values index entry up got
