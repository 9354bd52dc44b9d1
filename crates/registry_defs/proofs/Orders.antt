-- The orders of folded names and paths, and lists that rise by them.
use Rattle.std.proofs.Common.{◌≡◌, ℕ, Bool, true, false, T, ◌&&◌, List, [], ◌∷◌, ◌++◌, refl, sym, subst}
use Rattle.std.specs.Prelude.{IsTrue}
use Rattle.std.specs.List.{AllByRecursion}
use Rattle.std.specs.declared.cmp.Ordering.{Ordering}
use Rattle.std.specs.declared.cmp.Ordering.TheVariants.{Less, Equal, Greater}
use Rattle.std.specs.Ordering.{is_lt, is_eq, eq_by_cmp}
use Rattle.std.specs.Cmp.{IsTotalOrder, tied_itself}
use Rattle.std.specs.Cmp.Lexicographic.{nat_list_cmp_total, lists_total}
use Rattle.std.specs.FinMap.{IsAntisymmetric, slice_cmp-IsAntisymmetric, nat_cmp-IsAntisymmetric, is_sorted}
use Rattle.std.specs.FinMap.Entries.{below_all}
use Rattle.clus_names.specs.Folding.{name_cmp, path_cmp}
use Rattle.registry_defs.specs.Rising.{Rising}

pub name_total : IsTotalOrder name_cmp
name_total = nat_list_cmp_total

pub path_total : IsTotalOrder path_cmp
path_total = lists_total nat_list_cmp_total

-- only the same names and paths tie
pub name_exact : IsAntisymmetric name_cmp
name_exact = slice_cmp-IsAntisymmetric nat_cmp-IsAntisymmetric

pub path_exact : IsAntisymmetric path_cmp
path_exact = slice_cmp-IsAntisymmetric name_exact

pub name_itself : (x : List ℕ) → name_cmp x x ≡ Equal
name_itself x = tied_itself name_total x

pub path_itself : (x : List (List ℕ)) → path_cmp x x ≡ Equal
path_itself x = tied_itself path_total x

pub equal : (r : Ordering) → is_eq r ≡ true → r ≡ Equal
equal Less e = absurd (subst T (sym e) tt)
equal Equal e = refl
equal Greater e = absurd (subst T (sym e) tt)

pub same_name : (x y : List ℕ) → eq_by_cmp name_cmp x y ≡ true → x ≡ y
same_name x y e = name_exact x y (equal (name_cmp x y) e)

pub same_path : (x y : List (List ℕ)) → eq_by_cmp path_cmp x y ≡ true → x ≡ y
same_path x y e = path_exact x y (equal (path_cmp x y) e)

-- paths with the same front compare as what stands behind it
pub cmp_behind : (front x y : List (List ℕ)) → path_cmp (front ++ x) (front ++ y) ≡ path_cmp x y
cmp_behind [] x y = refl
cmp_behind (p ∷ ps) x y = rw (name_itself p) (cmp_behind ps x y)

-- ---- the test of a list in order, and what it says

pub less : (r : Ordering) → T (is_lt r) → r ≡ Less
less Less t = refl
less Equal t = absurd t
less Greater t = absurd t

first : (a b : Bool) → T (a && b) → T a
first true b t = tt
first false b t = t

second : (a b : Bool) → T (a && b) → T b
second true b t = t
second false b t = absurd t

both : (a b : Bool) → T a → T b → T (a && b)
both true b t u = u
both false b t u = t

pub so : (b : Bool) → T b → b ≡ true
so true t = refl
so false t = absurd t

module _ {K X : Type 0} (R : K → K → Ordering) where
  below_rising : (x : K) (es : List (K × X)) → T (below_all R x es) → AllByRecursion (λ e. R x e.0 ≡ Less) es
  below_rising x [] t = tt
  below_rising x (e ∷ es) t = (less (R x e.0) (first _ _ t), below_rising x es (second _ _ t))

  rising : (es : List (K × X)) → T (is_sorted R es) → Rising R (λ e. e.0) es
  rising [] t = tt
  rising (e ∷ es) t = (below_rising e.0 es (first _ _ t), rising es (second _ _ t))

  pub rising_from_sorted : (es : List (K × X)) → IsTrue (is_sorted R es) → Rising R (λ e. e.0) es
  rising_from_sorted es e = rising es (subst T (sym e) tt)

  rising_below : (x : K) (es : List (K × X)) → AllByRecursion (λ e. R x e.0 ≡ Less) es → T (below_all R x es)
  rising_below x [] h = tt
  rising_below x (e ∷ es) h = both _ _ (subst (λ r. T (is_lt r)) (sym h.0) tt) (rising_below x es h.1)

  sorted : (es : List (K × X)) → Rising R (λ e. e.0) es → T (is_sorted R es)
  sorted [] h = tt
  sorted (e ∷ es) h = both _ _ (rising_below e.0 es h.0) (sorted es h.1)

  pub sorted_from_rising : (es : List (K × X)) → Rising R (λ e. e.0) es → IsTrue (is_sorted R es)
  sorted_from_rising es h = so (is_sorted R es) (sorted es h)
