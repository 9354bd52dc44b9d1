-- What the types of the code hold in each world of a run.
use Rattle.std.proofs.Common.{◌≡◌, ℕ, ◌-◌, ◌<◌, ◌^◌, Bool, true, false, List, Option, Some, None, nat_eq, if◌then◌else◌, sym, ap, ◌∙◌, subst}
use Rattle.std.specs.Prelude.{slice_set}
use Rattle.std.specs.Option.{option_flatten}
use Rattle.gum_messages.specs.declared.view.View.{View}
use Rattle.gum_messages.specs.Members.{inc_of}
use Rattle.gum_messages.specs.Messages.{IsNode}
use Rattle.gum_messages.specs.Places.{at_place}
use Rattle.view_reconcile.specs.Chains.{view_in}
use Rattle.cluster_node.specs.States.{NodeValue, RunningNode}
use Rattle.cluster_worlds.specs.Worlds.{WorldState, node_at, slot_of}
use Rattle.client_laws.specs.Typed.{AreTyped}
use Rattle.world_laws.proofs.Slots.{Placed, node_set, slot_cases}

-- Declared incarnations have 64 bits, and clients are typed.
pub record IsTyped (w : WorldState) : Type 0 where
  pub incs : (k : ℕ) (v : View) (n : ℕ) → view_in w.chain k ≡ Some v → inc_of v.members n < 2 ^ 64
  pub clients : (n : ℕ) (m : NodeValue) (x : RunningNode) → node_at n w ≡ Some m → m.running ≡ Some x → AreTyped x.clients

-- what stands in a node's place
abbrev pub IsTypedSlot : Option NodeValue → Type 0
IsTypedSlot s = (m : NodeValue) (x : RunningNode) → s ≡ Some m → m.running ≡ Some x → AreTyped x.clients

slot_if : (w : WorldState) (j : ℕ) (c : Bool) (s : Option NodeValue) → IsTyped w → IsTypedSlot s → IsTypedSlot (if c then s else node_at j w)
slot_if w j true s t new = new
slot_if w j false s t new = t.clients j

pub typed_set : (w u : WorldState) (k : ℕ) (s : Option NodeValue) → Placed w → IsNode k → IsTyped w → u.nodes ≡ slice_set w.nodes (k - 1) s → u.chain ≡ w.chain → IsTypedSlot s → IsTyped u
typed_set w u k s p n t nodes chain new = record {
  incs = λ j v i seen. t.incs j v i (ap (λ (c : List View). view_in c j) (sym chain) ∙ seen);
  clients = λ j m x at runs.
      let e : (if nat_eq j k then s else node_at j w) ≡ Some m = sym (ap (λ (l : List (Option NodeValue)). option_flatten (at_place l j)) nodes ∙ node_set w k j s p n) ∙ at in
      slot_if w j (nat_eq j k) s t new m x e runs;
}

-- a node that goes on, and one that has stopped
pub goes_slot : (m : NodeValue) (x : RunningNode) → m.running ≡ Some x → AreTyped x.clients → IsTypedSlot (slot_of m)
goes_slot m x runs typed = slot_cases IsTypedSlot m
    (λ none n y e f. absurd (cc))
    (λ z some n y e f.
    let q : m ≡ n = cc in
    let r : x ≡ y = cc (runs, ap (λ (t : NodeValue). t.running) q, f) in
    subst (λ (t : RunningNode). AreTyped t.clients) r typed)

pub stopped_slot : (m : NodeValue) → m.running ≡ None → IsTypedSlot (slot_of m)
stopped_slot m gone = slot_cases IsTypedSlot m (λ none n y e f. absurd (cc)) (λ z some n y e f. absurd (cc (gone, some)))

pub no_typed_slot : IsTypedSlot None
no_typed_slot m x e f = absurd (cc)
