-- What holds of the entries of a map, and of what is found in it, after a change.
use Rattle.std.proofs.Common.{◌≡◌, Bool, true, false, T, cond, not, List, [], ◌∷◌, Option, Some, None, refl, sym, ap, subst, ◌∙◌}
use Rattle.std.specs.Prelude.{IsTrue, IsSome, is_some}
use Rattle.std.specs.List.{AllByRecursion}
use Rattle.std.specs.declared.cmp.Ordering.{Ordering}
use Rattle.std.specs.declared.cmp.Ordering.TheVariants.{Less, Equal, Greater}
use Rattle.std.specs.Ordering.{is_eq, eq_by_cmp}
use Rattle.std.specs.Cmp.{IsTotalOrder, tied_itself}
use Rattle.std.specs.FinMap.{find, put, is_sorted, IsAntisymmetric}
use Rattle.std.specs.FinMap.Entries.{by_order, is_sorted-put, is_sorted-where_key, find-put, find-where_key}
use Rattle.registry_defs.specs.Keys.{without}
use Rattle.registry_defs.proofs.Orders.{equal, so}

pub some_of : {X : Type 0} {o p : Option X} → o ≡ p → IsSome o → IsSome p
some_of e h = ap is_some (sym e) ∙ h

pub not_none : {X : Type 0} (o : Option X) → o ≡ None → IsSome o → ⊥
not_none o e h = absurd (subst T (sym (sym (ap is_some e) ∙ h)) tt)

pub none_unless : {X : Type 0} (o : Option X) → (IsSome o → ⊥) → o ≡ None
none_unless None h = refl
none_unless (Some x) h = absurd (h refl)

pub is_none_unless : {X : Type 0} (o : Option X) → is_some o ≡ false → o ≡ None
is_none_unless None h = refl
is_none_unless (Some x) h = absurd (subst T h tt)

some_chosen : {X : Type 0} (b : Bool) (x : X) (o : Option X) → (b ≡ true → IsSome (Some x)) → IsSome o → IsSome (cond b (Some x) o)
some_chosen true x o h k = h refl
some_chosen false x o h k = k

module _ {K : Type 0} (R : K → K → Ordering) (exact : IsAntisymmetric R) where
  pub same_key : (q k : K) → eq_by_cmp R q k ≡ true → q ≡ k
  same_key q k e = exact q k (equal (R q k) e)

  pub other_key : (q k : K) → (q ≡ k → ⊥) → (b : Bool) → eq_by_cmp R q k ≡ b → b ≡ false
  other_key q k other true e = absurd (other (same_key q k e))
  other_key q k other false e = refl

module _ {K X : Type 0} (R : K → K → Ordering) (order : IsTotalOrder R) (exact : IsAntisymmetric R) where
  pub each_put : (P : K → X → Type 0) (q : K) (v : X) (es : List (K × X)) → P q v → AllByRecursion (λ e. P e.0 e.1) es → AllByRecursion (λ e. P e.0 e.1) (put R q v es)
  each_put P q v [] p h = (p, tt)
  each_put P q v (e ∷ es) p h =
      elim (R q e.0) as (λ r. R q e.0 ≡ r → AllByRecursion (λ f. P f.0 f.1) (by_order r ((q, v) ∷ e ∷ es) ((e.0, v) ∷ es) (e ∷ put R q v es))) [
        | Less ↦ λ _. (p, h)
        | Equal ↦ λ is. (subst (λ k. P k v) (exact q e.0 is) p, h.1)
        | Greater ↦ λ _. (h.0, each_put P q v es p h.1)
      ] refl

  pub each_without : (P : K → X → Type 0) (q : K) (es : List (K × X)) → AllByRecursion (λ e. P e.0 e.1) es → AllByRecursion (λ e. P e.0 e.1) (without R q es)
  each_without P q [] h = tt
  each_without P q (e ∷ es) h =
      let rest = each_without P q es h.1 in
      elim (not (eq_by_cmp R q e.0)) as (λ b. AllByRecursion (λ f. P f.0 f.1) (cond b (e ∷ without R q es) (without R q es))) [ true ↦ (h.0, rest) | false ↦ rest ]

  -- what holds of each entry holds of the one that is found
  pub found_all : (P : K → X → Type 0) (q : K) (d : X) (es : List (K × X)) → AllByRecursion (λ e. P e.0 e.1) es → find R q es ≡ Some d → P q d
  found_all P q d [] h is = absurd cc
  found_all P q d (e ∷ es) h is =
      elim (eq_by_cmp R q e.0) as (λ b. eq_by_cmp R q e.0 ≡ b → cond b (Some e.1) (find R q es) ≡ Some d → P q d) [
        | true ↦ λ same found. (let here : e.1 ≡ d = cc in subst (λ k. P k d) (sym (same_key R exact q e.0 same)) (subst (P e.0) here h.0))
        | false ↦ λ _ found. found_all P q d es h.1 found
      ] refl is

  pub found_itself : (e : K × X) (es : List (K × X)) → find R e.0 (e ∷ es) ≡ Some e.1
  found_itself e es = ap (λ r. cond (is_eq r) (Some e.1) (find R e.0 es)) (tied_itself order e.0)

  -- what holds wherever something is found holds of each entry
  pub all_found : (Q : K → Type 0) (es : List (K × X)) → ((q : K) → IsSome (find R q es) → Q q) → AllByRecursion (λ e. Q e.0) es
  all_found Q [] h = tt
  all_found Q (e ∷ es) h =
      (h e.0 (ap is_some (found_itself e es)), all_found Q es (λ q some. h q (some_chosen (eq_by_cmp R q e.0) e.1 (find R q es) (λ _. refl) some)))

  pub sorted_put : (q : K) (v : X) (es : List (K × X)) → IsTrue (is_sorted R es) → IsTrue (is_sorted R (put R q v es))
  sorted_put q v es h = so (is_sorted R (put R q v es)) (is_sorted-put R order q v es (subst T (sym h) tt))

  pub sorted_without : (q : K) (es : List (K × X)) → IsTrue (is_sorted R es) → IsTrue (is_sorted R (without R q es))
  sorted_without q es h = so (is_sorted R (without R q es)) (is_sorted-where_key R (λ k. not (eq_by_cmp R q k)) es (subst T (sym h) tt))

  pub found_put : (q k : K) (v : X) (es : List (K × X)) → find R q (put R k v es) ≡ cond (eq_by_cmp R q k) (Some v) (find R q es)
  found_put q k v es = find-put R order q k v es

  pub some_put : (q k : K) (v : X) (es : List (K × X)) → IsSome (find R q es) → IsSome (find R q (put R k v es))
  some_put q k v es h = some_of (sym (found_put q k v es)) (some_chosen (eq_by_cmp R q k) v (find R q es) (λ _. refl) h)

  pub put_is_there : (k : K) (v : X) (es : List (K × X)) → find R k (put R k v es) ≡ Some v
  put_is_there k v es = found_put k k v es ∙ ap (λ r. cond (is_eq r) (Some v) (find R k es)) (tied_itself order k)

  pub other_put : (q k : K) (v : X) (es : List (K × X)) → (q ≡ k → ⊥) → find R q (put R k v es) ≡ find R q es
  other_put q k v es other = found_put q k v es ∙ ap (λ b. cond b (Some v) (find R q es)) (other_key R exact q k other (eq_by_cmp R q k) refl)

  -- where something is found after a change, it is at the key of the change or was there
  pub either_put : (P : K → Type 0) (q k : K) (v : X) (es : List (K × X)) → P k → (IsSome (find R q es) → P q) → IsSome (find R q (put R k v es)) → P q
  either_put P q k v es here there h =
      elim (eq_by_cmp R q k) as (λ b. eq_by_cmp R q k ≡ b → IsSome (cond b (Some v) (find R q es)) → P q) [
        | true ↦ λ same _. subst P (sym (same_key R exact q k same)) here
        | false ↦ λ _ some. there some
      ] refl (some_of (found_put q k v es) h)

  pub found_without : (q k : K) (es : List (K × X)) → (q ≡ k → ⊥) → find R q (without R k es) ≡ find R q es
  found_without q k es other =
      find-where_key R (λ x. not (eq_by_cmp R k x)) q (λ x tied. ap (λ y. not (eq_by_cmp R k y)) (sym (exact q x tied))) es
      ∙ ap (λ b. cond (not b) (find R q es) None) (other_key R exact k q (λ e. other (sym e)) (eq_by_cmp R k q) refl)

  pub not_without : (k : K) (es : List (K × X)) → find R k (without R k es) ≡ None
  not_without k es =
      find-where_key R (λ x. not (eq_by_cmp R k x)) k (λ x tied. ap (λ y. not (eq_by_cmp R k y)) (sym (exact k x tied))) es
      ∙ ap (λ r. cond (not (is_eq r)) (find R k es) None) (tied_itself order k)
