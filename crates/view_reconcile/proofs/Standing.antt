-- Which views and members pass a test.
use Rattle.std.proofs.Common.{◌≡◌, ℕ, zero, suc, ◌<◌, ◌≤◌, Bool, true, false, ◌||◌, List, [], ◌∷◌, Some, None, slice_get, cond, find, nat_eq, refl, subst, ◌∙◌, arith}
use Rattle.std.specs.List.{list_any}
use Rattle.gum_messages.specs.declared.member.Member.{Member}
use Rattle.gum_messages.specs.Members.{inc_of}
use Rattle.gum_messages.specs.Places.{at_place}
use Rattle.gum_messages.specs.Views.{Ascend}

-- some thing that passes, with its index
pub any_index : {A : Type 0} (p : A → Bool) (xs : List A) → list_any p xs ≡ true → (k : ℕ) × (x : A) × (slice_get xs k ≡ Some x) × (p x ≡ true)
any_index p [] e = cc
any_index {A} p (y ∷ ys) e =
    elim (p y) as (λ (b : Bool). p y ≡ b → (b || list_any p ys) ≡ true → (k : ℕ) × (x : A) × (slice_get (y ∷ ys) k ≡ Some x) × (p x ≡ true)) [
      | true ↦ λ here h. (zero, y, refl, here)
      | false ↦ λ here h. let rest = any_index p ys h in (suc rest.0, rest.1, rest.2, rest.3)
    ] refl e

-- none passes
pub none_index : {A : Type 0} (p : A → Bool) (xs : List A) (k : ℕ) (x : A) → list_any p xs ≡ false → slice_get xs k ≡ Some x → p x ≡ false
none_index p [] k x e at = cc
none_index p (y ∷ ys) zero x e at =
    elim (p y) as (λ (b : Bool). p y ≡ b → (b || list_any p ys) ≡ false → p x ≡ false) [
      | true ↦ λ here h. cc
      | false ↦ λ here h. cc
    ] refl e
none_index p (y ∷ ys) (suc k) x e at =
    elim (p y) as (λ (b : Bool). (b || list_any p ys) ≡ false → p x ≡ false) [
      | true ↦ λ h. cc
      | false ↦ λ h. none_index p ys k x h at
    ] e

pub none_place : {A : Type 0} (p : A → Bool) (xs : List A) (k : ℕ) (x : A) → list_any p xs ≡ false → at_place xs k ≡ Some x → p x ≡ false
none_place p xs zero x e at = cc
none_place p xs (suc k) x e at = none_index p xs k x e at

first_fails : (p : Member → Bool) (m : Member) (ms : List Member) → find p (m ∷ ms) ≡ None → p m ≡ false
first_fails p m ms e =
    elim (p m) as (λ (b : Bool). cond b (Some m) (find p ms) ≡ None → b ≡ false) [
      | true ↦ λ h. cc
      | false ↦ λ h. refl
    ] e

rest_none : (p : Member → Bool) (m : Member) (ms : List Member) → find p (m ∷ ms) ≡ None → find p ms ≡ None
rest_none p m ms e =
    elim (p m) as (λ (b : Bool). cond b (Some m) (find p ms) ≡ None → find p ms ≡ None) [
      | true ↦ λ h. cc
      | false ↦ λ h. h
    ] e

-- where no member is found, each that stands in the list fails the test
pub none_found : (p : Member → Bool) (ms : List Member) (node : ℕ) → find p ms ≡ None → 0 < inc_of ms node → p (record { node = node; inc = inc_of ms node }) ≡ false
none_found p [] node e h = absurd (omega arith)
none_found p (m ∷ ms) node e h =
    let test : Member → Bool → Type 0 = λ x b. p x ≡ b in
    elim (nat_eq m.node node) as (λ (b : Bool). nat_eq m.node node ≡ b → 0 < cond b m.inc (inc_of ms node) → p (record { node = node; inc = cond b m.inc (inc_of ms node) }) ≡ false) [
      | true ↦ λ same h'.
          let at_node : m.node ≡ node = grind arith in
          let fails : p m ≡ false = first_fails p m ms e in
          subst (λ (n : ℕ). p (record { node = n; inc = m.inc }) ≡ false) at_node fails
      | false ↦ λ other h'. none_found p ms node (rest_none p m ms e) h'
    ] refl h

self_stands : (x : Member) (xs : List Member) → inc_of (x ∷ xs) x.node ≡ x.inc
self_stands x xs = let same : nat_eq x.node x.node ≡ true = grind arith in rw same refl

other_stands : (x : Member) (xs : List Member) (node : ℕ) → x.node < node → inc_of (x ∷ xs) node ≡ inc_of xs node
other_stands x xs node h = let other : nat_eq x.node node ≡ false = grind arith in rw other refl

-- a member that is found passes, and its node stands in the list with its incarnation
pub record Found (p : Member → Bool) (floor : ℕ) (ms : List Member) (m : Member) : Type 0 where
  pub passes : p m ≡ true
  pub above : floor < m.node
  pub stands : inc_of ms m.node ≡ m.inc
  pub started : 1 ≤ m.inc

pub found : (p : Member → Bool) (floor : ℕ) (ms : List Member) (m : Member) → find p ms ≡ Some m → Ascend floor ms → Found p floor ms m
unfolding Ascend
found p floor [] m e up = cc
found p floor (x ∷ xs) m e up =
    elim (p x) as (λ (b : Bool). p x ≡ b → cond b (Some x) (find p xs) ≡ Some m → Found p floor (x ∷ xs) m) [
      | true ↦ λ here h. subst (λ (y : Member). Found p floor (x ∷ xs) y) (let same : x ≡ m = cc in same) (record { passes = here; above = up.0; stands = self_stands x xs; started = up.2 })
      | false ↦ λ here h.
          let rest = found p x.node xs m h up.3 in
          record {
            passes = rest.passes;
            above = let b = rest.above in let a = up.0 in omega arith;
            stands = other_stands x xs m.node rest.above ∙ rest.stands;
            started = rest.started;
          }
    ] refl e
