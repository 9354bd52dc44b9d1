-- What holds of each element of a list holds of each of one that was made of it.
use Rattle.std.proofs.Common.{◌≡◌, Bool, true, false, cond, List, [], ◌∷◌, ◌++◌, Some, subst}
use Rattle.std.specs.declared.cmp.Ordering.{Ordering}
use Rattle.std.specs.declared.cmp.Ordering.TheVariants.{Less, Equal, Greater}
use Rattle.std.specs.BTreeMap.{insert_entry}
use Rattle.std.specs.List.{AllByRecursion, filter}
use Rattle.std.specs.Ordering.{match_ordering}
use Rattle.std.specs.Map.{lookup, remove_entry, set_value}

pub all_append : {X : Type 0} (P : X → Type 0) (xs ys : List X) → AllByRecursion P xs → AllByRecursion P ys → AllByRecursion P (xs ++ ys)
all_append P [] ys all more = more
all_append P (x ∷ xs) ys all more = (all.0, all_append P xs ys all.1 more)

pub all_snoc : {X : Type 0} (P : X → Type 0) (xs : List X) (x : X) → AllByRecursion P xs → P x → AllByRecursion P (xs ++ x ∷ [])
all_snoc P xs x all here = all_append P xs (x ∷ []) all (here, tt)

pub all_behind : {X : Type 0} (P : X → Type 0) (xs ys : List X) → AllByRecursion P (xs ++ ys) → AllByRecursion P ys
all_behind P [] ys all = all
all_behind P (x ∷ xs) ys all = all_behind P xs ys all.1

pub either : {A : Type 0} (P : A → Type 0) (test : Bool) (x y : A) → P x → P y → P (cond test x y)
either P true x y a b = a
either P false x y a b = b

pub all_filter : {X : Type 0} (P : X → Type 0) (test : X → Bool) (xs : List X) → AllByRecursion P xs → AllByRecursion P (filter test xs)
all_filter P test [] all = all
all_filter {X} P test (x ∷ xs) all =
    either (λ (l : List X). AllByRecursion P l) (test x) (x ∷ filter test xs) (filter test xs) (all.0, all_filter P test xs all.1) (all_filter P test xs all.1)

module _ {K V : Type 0} (P : K × V → Type 0) where
  pub all_lookup : (test : K → Bool) (es : List (K × V)) (v : V) → AllByRecursion P es → lookup test es ≡ Some v → (k : K) × P (k, v)
  all_lookup test [] v all e = absurd (cc)
  all_lookup test (x ∷ es) v all e = by (test x.0) e (λ more. all_lookup test es v all.1 more)
    where
      by : (b : Bool) → cond b (Some x.1) (lookup test es) ≡ Some v → (lookup test es ≡ Some v → (k : K) × P (k, v)) → (k : K) × P (k, v)
      by true e behind = let q : x.1 ≡ v = cc in (x.0, subst (λ (w : V). P (x.0, w)) q all.0)
      by false e behind = behind e

  pub all_remove : (test : K → Bool) (es : List (K × V)) → AllByRecursion P es → AllByRecursion P (remove_entry test es)
  all_remove test [] all = all
  all_remove test (x ∷ es) all =
      either (λ (l : List (K × V)). AllByRecursion P l) (test x.0) es (x ∷ remove_entry test es) all.1 (all.0, all_remove test es all.1)

  pub all_set : (test : K → Bool) (es : List (K × V)) (w : V) → AllByRecursion P es → ((k : K) → P (k, w)) → AllByRecursion P (set_value test es w)
  all_set test [] w all new = all
  all_set test (x ∷ es) w all new =
      either (λ (l : List (K × V)). AllByRecursion P l) (test x.0) ((x.0, w) ∷ es) (x ∷ set_value test es w) (new x.0, all.1) (all.0, all_set test es w all.1 new)

  pub all_insert : (cmp : K → K → Ordering) (es : List (K × V)) (k : K) (v : V) → AllByRecursion P es → ((k : K) → P (k, v)) → AllByRecursion P (insert_entry cmp es k v)
  all_insert cmp [] k v all new = (new k, tt)
  all_insert cmp (x ∷ es) k v all new =
      elim (cmp k x.0) as (λ (o : Ordering). AllByRecursion P (match_ordering o ((k, v) ∷ x ∷ es) ((x.0, v) ∷ es) (x ∷ insert_entry cmp es k v))) [
        | Less ↦ (new k, all)
        | Equal ↦ (new x.0, all.1)
        | Greater ↦ (all.0, all_insert cmp es k v all.1 new)
      ]
