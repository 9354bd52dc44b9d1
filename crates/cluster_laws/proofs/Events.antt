-- What an event finds: a message that stands in the pool and counts, and a node that runs.
use Rattle.std.proofs.Common.{◌≡◌, ◌≢◌, ℕ, ◌-◌, ◌<◌, true, List, Some, nat_eq, nat_lt, slice_get, sym, ap, ◌∙◌, subst}
use Rattle.gum_messages.specs.declared.view.View.{View}
use Rattle.gum_messages.specs.Members.{inc_of}
use Rattle.gum_messages.specs.Messages.{Sent}
use Rattle.gum_messages.specs.Places.{at_place}
use Rattle.gum_messages.proofs.Branches.{option_cases}
use Rattle.gum_messages.proofs.Placing.{at_place-above, place_within}
use Rattle.view_reconcile.specs.Chains.{view_in}
use Rattle.cluster_rules.specs.Machines.{Machine}
use Rattle.cluster_rules.specs.Nodes.{NodeState, members_of, number_of}
use Rattle.cluster_rules.specs.Receiving as receiving
use Rattle.cluster_rules.specs.Worlds.{World, at_node}
use Rattle.cluster_laws.proofs.Inv.{Invariant, MsgOk, NodeOk, Pooled}
use Rattle.cluster_laws.proofs.Applying.{and_true, eq_true, lt_true}

-- what stands at a place stands in the list
pub at_get : {A : Type 0} (l : List A) (k : ℕ) (a : A) → at_place l k ≡ Some a → slice_get l (k - 1) ≡ Some a
at_get l k a e = sym (at_place-above l k ((place_within l k a e).0)) ∙ e

module _ {M : Machine} where
  -- a message that counts is one of the node's own view
  pub counted_ok : (w : World M) (n : ℕ) (x : NodeState M) (p : Sent) → Invariant w → w.nodes n ≡ Some x → Pooled w p → p.to ≡ n → receiving.counts x p ≡ true → (0 < inc_of x.join.view.members p.from) × (x.join.view.number ≢ 0) × MsgOk w x.join.view p.from n p.body
  counted_ok w n x p j at po to g =
      let h : NodeOk w n x = j.nodes n x at in
      let a = and_true (nat_eq p.view (number_of x)) (nat_lt 0 (inc_of (members_of x) p.from)) g in
      let num : p.view ≡ x.join.view.number = eq_true p.view x.join.view.number a.0 in
      let pos : 0 < inc_of x.join.view.members p.from = lt_true 0 (inc_of x.join.view.members p.from) a.1 in
      let nz : x.join.view.number ≢ 0 = h.local.peopled p.from pos in
      let q : Some po.view ≡ Some x.join.view = sym po.declared ∙ ap (view_in w.chain) num ∙ (h.view nz).0 in
      let same : po.view ≡ x.join.view = cc in
      let ok : MsgOk w x.join.view p.from p.to p.body = subst (λ (v : View). MsgOk w v p.from p.to p.body) same po.ok in
      (pos, nz, subst (λ (t : ℕ). MsgOk w x.join.view p.from t p.body) to ok)

  -- what holds of a world holds of what a node's event makes of it
  pub at_keeps : (P : World M → Type 0) (w : World M) (n : ℕ) (f : NodeState M → World M) → P w → ((x : NodeState M) → w.nodes n ≡ Some x → P (f x)) → P (at_node w n f)
  at_keeps P w n f h g = option_cases P (w.nodes n) w f (λ none. h) g
