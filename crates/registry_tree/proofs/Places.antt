-- What a binary search in a list of strictly rising names finds.
use Rattle.std.proofs.Common.{◌≡◌, ℕ, suc, zero, ◌<◌, ◌≤◌, List, [], ◌∷◌, length, get_or, take, drop, refl, sym, ap, subst, ◌∙◌, arith}
use Rattle.std.specs.Prelude.{Result, Ok, Err, IfOk, IfErr}
use Rattle.std.specs.List.{AllByRecursion, AllWithin}
use Rattle.std.specs.List.Sorted.{IsSearchInRange, IsBinarySearchResult}
use Rattle.std.specs.declared.cmp.Ordering.{Ordering}
use Rattle.std.specs.declared.cmp.Ordering.TheVariants.{Less, Equal, Greater}
use Rattle.std.specs.Ordering.{ordering_index, ordering_reverse}
use Rattle.std.specs.Cmp.{alike_right}
use Rattle.std.proofs.lemmas.List.{get_or_default}
use Rattle.clus_names.specs.Folding.{name_cmp}
use Rattle.registry_defs.specs.Rising.{Rising}
use Rattle.registry_defs.proofs.Orders.{name_total, name_exact}
use Rattle.registry_tree.specs.Places.{IsAt, IsGap}

module _ {X : Type 0} where
  pub each_at : (P : X → Type 0) (xs : List X) → AllByRecursion P xs → (i : ℕ) (d : X) → i < length xs → P (get_or xs i d)
  each_at P [] h i d lt = absurd (omega arith)
  each_at P (x ∷ xs) h zero d lt = h.0
  each_at P (x ∷ xs) h (suc i) d lt = each_at P xs h.1 i d (omega arith)

  pub each_map : (P Q : X → Type 0) (f : (x : X) → P x → Q x) (xs : List X) → AllByRecursion P xs → AllByRecursion Q xs
  each_map P Q f [] h = tt
  each_map P Q f (x ∷ xs) h = (f x h.0, each_map P Q f xs h.1)

  each_take : (P : X → Type 0) (xs : List X) (i : ℕ) → i ≤ length xs → AllWithin P xs 0 i → AllByRecursion P (take i xs)
  each_take P xs zero le h = tt
  each_take P [] (suc i) le h = absurd (omega arith)
  each_take P (x ∷ xs) (suc i) le h = (h 0 x (omega arith) (omega arith), each_take P xs i (omega arith) (λ k d low high. h (suc k) d (omega arith) (omega arith)))

  each_drop : (P : X → Type 0) (xs : List X) (i : ℕ) → AllWithin P xs i (length xs) → AllByRecursion P (drop i xs)
  each_drop P [] zero h = tt
  each_drop P [] (suc i) h = tt
  each_drop P (x ∷ xs) zero h = (h 0 x (omega arith) (omega arith), each_drop P xs zero (λ k d low high. h (suc k) d (omega arith) (omega arith)))
  each_drop P (x ∷ xs) (suc i) h = each_drop P xs i (λ k d low high. h (suc k) d (omega arith) (omega arith))

-- a name below another one doesn't stand further from what is sought
step : (a b sought : List ℕ) → name_cmp a b ≡ Less → ordering_index (name_cmp a sought) ≤ ordering_index (name_cmp b sought)
step a b sought less =
    elim (name_cmp b sought) as (λ r. name_cmp b sought ≡ r → ordering_index (name_cmp a sought) ≤ ordering_index r) [
      | Less ↦ λ is. subst (λ r. ordering_index r ≤ 0) (sym (name_total.trans a b sought less is)) (omega arith)
      | Equal ↦ λ is. subst (λ r. ordering_index r ≤ 1) (sym (sym (alike_right name_total b sought a is) ∙ less)) (omega arith)
      | Greater ↦ λ is. most (name_cmp a sought)
    ] refl
  where
    most : (r : Ordering) → ordering_index r ≤ 2
    most Less = omega arith
    most Equal = omega arith
    most Greater = omega arith

module _ {X : Type 0} (name : X → List ℕ) where
  nondecreasing : (sought : List ℕ) (xs : List X) → Rising name_cmp name xs → (i j : ℕ) (d : X) → i ≤ j → j < length xs → ordering_index (name_cmp (name (get_or xs i d)) sought) ≤ ordering_index (name_cmp (name (get_or xs j d)) sought)
  nondecreasing sought [] up i j d le lt = absurd (omega arith)
  nondecreasing sought (x ∷ xs) up zero zero d le lt = omega arith
  nondecreasing sought (x ∷ xs) up zero (suc j) d le lt = step (name x) (name (get_or xs j d)) sought (each_at (λ y. name_cmp (name x) (name y) ≡ Less) xs up.0 j d (omega arith))
  nondecreasing sought (x ∷ xs) up (suc i) zero d le lt = absurd (omega arith)
  nondecreasing sought (x ∷ xs) up (suc i) (suc j) d le lt = nondecreasing sought xs up.1 i j d (omega arith) (omega arith)

  before_at : (sought : List ℕ) (xs : List X) → Rising name_cmp name xs → (i : ℕ) → i < length xs → ((d : X) → name (get_or xs i d) ≡ sought) → AllByRecursion (λ x. name_cmp (name x) sought ≡ Less) (take i xs)
  before_at sought [] up i lt same = absurd (omega arith)
  before_at sought (x ∷ xs) up zero lt same = tt
  before_at sought (x ∷ xs) up (suc i) lt same = (
    subst (λ n. name_cmp (name x) n ≡ Less) (same x) (each_at (λ y. name_cmp (name x) (name y) ≡ Less) xs up.0 i x (omega arith)),
    before_at sought xs up.1 i (omega arith) same,
  )

  after_at : (sought : List ℕ) (xs : List X) → Rising name_cmp name xs → (i : ℕ) → i < length xs → ((d : X) → name (get_or xs i d) ≡ sought) → AllByRecursion (λ x. name_cmp sought (name x) ≡ Less) (drop (suc i) xs)
  after_at sought [] up i lt same = absurd (omega arith)
  after_at sought (x ∷ xs) up zero lt same = subst (λ n. AllByRecursion (λ y. name_cmp n (name y) ≡ Less) xs) (same x) up.0
  after_at sought (x ∷ xs) up (suc i) lt same = after_at sought xs up.1 i (omega arith) same

  pub searched : (xs : List X) → Rising name_cmp name xs → (sought : List ℕ) (r : Result ℕ ℕ) → IsSearchInRange r (length xs) → IsBinarySearchResult (λ x. name_cmp (name x) sought) xs r → IfOk r (IsAt name xs sought) × IfErr r (IsGap name xs sought)
  searched xs up sought (Ok i) within found =
      let same : (d : X) → name (get_or xs i d) ≡ sought = λ d. name_exact (name (get_or xs i d)) sought (found d) in
      (record { within = within; same = same; before = before_at sought xs up i within same; after = after_at sought xs up i within same }, tt)
  searched xs up sought (Err i) within found =
      let parts = found (nondecreasing sought xs up) in (
        tt,
        record {
          within = within;
          before = each_take (λ x. name_cmp (name x) sought ≡ Less) xs i within parts.0;
          after = each_map (λ x. name_cmp (name x) sought ≡ Greater) (λ x. name_cmp sought (name x) ≡ Less)
              (λ x greater. name_total.antisymm sought (name x) ∙ ap ordering_reverse greater)
              (drop i xs) (each_drop (λ x. name_cmp (name x) sought ≡ Greater) xs i parts.1);
        },
      )

  pub at_index : (xs : List X) → Rising name_cmp name xs → (i : ℕ) (x : X) → i < length xs → x ≡ get_or xs i x → IsAt name xs (name x) i
  at_index xs up i x within is =
      let same : (d : X) → name (get_or xs i d) ≡ name x = λ d. ap name (get_or_default xs i d x within ∙ sym is) in
      record { within = within; same = same; before = before_at (name x) xs up i within same; after = after_at (name x) xs up i within same }
