-- The slots of a world, one a node.
use Rattle.std.proofs.Common.{◌≡◌, ℕ, zero, suc, ◌-◌, ◌<◌, ◌≤◌, Bool, true, false, List, [], ◌∷◌, length, Option, Some, None, nat_eq, cond, if◌then◌else◌, slice_get, refl, sym, ap, ◌∙◌, subst, arith}
use Rattle.std.specs.Option.{option_flatten}
use Rattle.std.specs.Prelude.{is_none, slice_set}
use Rattle.std.proofs.lemmas.List.{length-set}
use Rattle.gum_messages.specs.Messages.{IsNode}
use Rattle.gum_messages.specs.Places.{at_place}
use Rattle.gum_messages.proofs.Placing.{place_within}
use Rattle.cluster_rules.specs.Worlds.{put}
use Rattle.cluster_member.specs.States.{MemberState}
use Rattle.cluster_node.specs.States.{NodeValue, RunningNode}
use Rattle.cluster_worlds.specs.Worlds.{WorldState, node_at, slot_of, starts_of}
use Rattle.world_laws.proofs.Tied.{Bare}

-- ---- a list with one entry replaced

suc_same : (j i : ℕ) → nat_eq (suc j) (suc i) ≡ nat_eq j i
suc_same j i = grind arith

apart : (i : ℕ) → nat_eq 0 (suc i) ≡ false
apart i = grind arith

apart_too : (i : ℕ) → nat_eq (suc i) 0 ≡ false
apart_too i = grind arith

get_set : {A : Type 0} (xs : List A) (i j : ℕ) (s : A) → i < length xs → slice_get (slice_set xs i s) j ≡ (if nat_eq j i then Some s else slice_get xs j)
get_set [] i j s lt = absurd (omega (arith, lt))
get_set (x ∷ xs) zero zero s lt = refl
get_set (x ∷ xs) zero (suc j) s lt = rw (apart_too j) refl
get_set (x ∷ xs) (suc i) zero s lt = rw (apart i) refl
get_set (x ∷ xs) (suc i) (suc j) s lt =
    let rest : slice_get (slice_set xs i s) j ≡ (if nat_eq j i then Some s else slice_get xs j) = get_set xs i j s (let h : suc i < suc (length xs) = lt in omega (arith, h)) in
    rw (suc_same j i) rest

pub at_set : {A : Type 0} (xs : List A) (k j : ℕ) (s : A) → 1 ≤ k → k ≤ length xs → at_place (slice_set xs (k - 1) s) j ≡ (if nat_eq j k then Some s else at_place xs j)
at_set xs zero j s first last = absurd (omega (arith, first))
at_set xs (suc k) zero s first last = rw (apart k) refl
at_set xs (suc k) (suc j) s first last =
    let e : suc k - 1 ≡ k = omega arith in
    let there : slice_get (slice_set xs (suc k - 1) s) j ≡ (if nat_eq j k then Some s else slice_get xs j) = ap (λ (i : ℕ). slice_get (slice_set xs i s) j) e ∙ get_set xs k j s (omega (arith, last)) in
    rw (suc_same j k) there

-- ---- what the protocol sees of a world

abbrev pub running_member : Option RunningNode → Option MemberState
running_member None = None
running_member (Some x) = Some x.member

abbrev pub member_of : Option NodeValue → Option MemberState
member_of None = None
member_of (Some m) = running_member m.running

abbrev pub bare_of : WorldState → Bare
bare_of w = record {
  members = λ n. member_of (node_at n w);
  starts = λ n. starts_of n w;
  chain = w.chain;
  pool = w.pool;
  acks = w.acks;
  order = w.order;
  disk = w.disk;
}

pub record IsSlot (n : ℕ) (m : NodeValue) : Type 0 where
  pub number : m.number ≡ n
  pub node : RunningNode
  pub runs : m.running ≡ Some node

pub record Placed (w : WorldState) : Type 0 where
  pub nodes : length w.nodes ≡ 16
  pub starts : length w.starts ≡ 16
  pub slots : (n : ℕ) (m : NodeValue) → node_at n w ≡ Some m → IsSlot n m

-- ---- one slot changes

some_flat : {A : Type 0} (o : Option (Option A)) (a : A) → option_flatten o ≡ Some a → o ≡ Some (Some a)
some_flat None a e = absurd (cc)
some_flat (Some None) a e = absurd (cc)
some_flat (Some (Some b)) a e = ap (λ (c : Option _). Some c) e

pub node_within : (w : WorldState) (n : ℕ) (m : NodeValue) → Placed w → node_at n w ≡ Some m → IsNode n
node_within w n m p at =
    let h = place_within w.nodes n (Some m) (some_flat (at_place w.nodes n) m at) in
    record { first = h.0; last = let l = p.nodes in omega (arith, h.1, l) }

flat_if : {A : Type 0} (c : Bool) (s : Option A) (o : Option (Option A)) → option_flatten (if c then Some s else o) ≡ (if c then s else option_flatten o)
flat_if true s o = refl
flat_if false s o = refl

pub node_set : (w : WorldState) (k j : ℕ) (s : Option NodeValue) → Placed w → IsNode k → option_flatten (at_place (slice_set w.nodes (k - 1) s) j) ≡ (if nat_eq j k then s else node_at j w)
node_set w k j s p n =
    let long = p.nodes in
    ap (λ (o : Option (Option NodeValue)). option_flatten o) (at_set w.nodes k j s n.first (let l = n.last in omega (arith, l, long))) ∙ flat_if (nat_eq j k) s (at_place w.nodes j)

member_if : (c : Bool) (s o : Option NodeValue) → member_of (if c then s else o) ≡ (if c then member_of s else member_of o)
member_if true s o = refl
member_if false s o = refl

pub members_set : (w : WorldState) (k j : ℕ) (s : Option NodeValue) → Placed w → IsNode k
    → member_of (option_flatten (at_place (slice_set w.nodes (k - 1) s) j)) ≡ put (λ n. member_of (node_at n w)) k (member_of s) j
members_set w k j s p n = ap (λ (o : Option NodeValue). member_of o) (node_set w k j s p n) ∙ member_if (nat_eq j k) s (node_at j w)

slot_if : (w : WorldState) (k j : ℕ) (c : Bool) (s : Option NodeValue) (m : NodeValue) → (c ≡ true → j ≡ k) → Placed w → ((m : NodeValue) → s ≡ Some m → IsSlot k m) → (if c then s else node_at j w) ≡ Some m → IsSlot j m
slot_if w k j true s m same p new e = subst (λ (n : ℕ). IsSlot n m) (sym (same refl)) (new m e)
slot_if w k j false s m same p new e = p.slots j m e

same_number : (j k : ℕ) → nat_eq j k ≡ true → j ≡ k
same_number j k e = grind arith

pub placed_set : (w u : WorldState) (k : ℕ) (s : Option NodeValue) → Placed w → IsNode k → u.nodes ≡ slice_set w.nodes (k - 1) s → length u.starts ≡ 16 → ((m : NodeValue) → s ≡ Some m → IsSlot k m) → Placed u
placed_set w u k s p n nodes starts new = record {
  nodes = ap (λ (l : List (Option NodeValue)). length l) nodes ∙ length-set w.nodes (k - 1) s ∙ p.nodes;
  starts = starts;
  slots = λ j m at.
      let e : (if nat_eq j k then s else node_at j w) ≡ Some m = sym (ap (λ (l : List (Option NodeValue)). option_flatten (at_place l j)) nodes ∙ node_set w k j s p n) ∙ at in
      slot_if w k j (nat_eq j k) s m (same_number j k) p new e;
}

-- ---- the slot of a node behind an event

pub slot_cases : (P : Option NodeValue → Type 0) (n : NodeValue) → (n.running ≡ None → P None) → ((x : RunningNode) → n.running ≡ Some x → P (Some n)) → P (slot_of n)
slot_cases P n none some = elim n.running as (λ r. n.running ≡ r → P (cond (is_none r) None (Some n))) [
  | None ↦ λ e. none e
  | Some x ↦ λ e. some x e
] refl

pub slot_member : (n : NodeValue) → member_of (slot_of n) ≡ running_member n.running
slot_member n = slot_cases (λ (s : Option NodeValue). member_of s ≡ running_member n.running) n (λ e. ap (λ (r : Option RunningNode). running_member r) (sym e)) (λ x e. refl)

pub slot_is : (n : NodeValue) (k : ℕ) → n.number ≡ k → (m : NodeValue) → slot_of n ≡ Some m → IsSlot k m
slot_is n k number = slot_cases (λ (s : Option NodeValue). (m : NodeValue) → s ≡ Some m → IsSlot k m) n
    (λ none m e. absurd (cc))
    (λ x some m e. let q : n ≡ m = cc in subst (λ (t : NodeValue). IsSlot k t) q (record { number = number; node = x; runs = some }))
