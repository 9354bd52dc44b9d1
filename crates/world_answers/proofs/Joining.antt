-- The order of the world behind an event of a member that goes on.
use Rattle.std.proofs.Common.{◌≡◌, inl, inr, ℕ, ◌+◌, ◌<◌, ◌≤◌, Bool, true, false, List, [], ◌∷◌, ◌++◌, length, Option, Some, None, nat_eq, if◌then◌else◌, refl, sym, ap, ◌∙◌, append-nil, length-append, arith}
use Rattle.std.specs.Prelude.{option_to_list, unwrap_or}
use Rattle.gum_messages.specs.Places.{at_place}
use Rattle.gum_messages.proofs.Branches.{if_cases}
use Rattle.gum_messages.proofs.Placing.{place_new}
use Rattle.update_records.specs.Entry.{Entry}
use Rattle.update_records.specs.declared.update.Update.{Update}
use Rattle.gum_core.specs.Updating as updating
use Rattle.cluster_rules.specs.Nodes.{NodeState, Out, Replica, done_of, nothing}
use Rattle.cluster_rules.specs.Updates.{may_submit, submit, submits}
use Rattle.cluster_rules.specs.Worlds.{World, acked}
use Rattle.cluster_rules.specs.declared.effect.Effect.{Effect}
use Rattle.cluster_laws.proofs.Applying.{done_at}
use Rattle.cluster_laws.proofs.Inv.{Invariant, NodeOk}
use Rattle.cluster_laws.proofs.Silent.{submit_silent}
use Rattle.registry_machine.specs.Machine.{registry_machine}
use Rattle.cluster_member.specs.States.{MemberState}
use Rattle.cluster_node.specs.Acting.{submitted_by}
use Rattle.cluster_node.specs.States.{NodeValue, RunningNode, done, last_record}
use Rattle.cluster_worlds.specs.Telling.{joined}
use Rattle.world_laws.proofs.Absorbing.{applied_is, then_replica}
use Rattle.world_laws.proofs.Coming.{Grows}
use Rattle.world_laws.proofs.Following.{Then}

-- ---- what is submitted behind an event

submit_last : (x : NodeState registry_machine) (u : Update) (z : NodeState registry_machine) → (submit x u).node ≡ Some z → z.last ≡ x.last
submit_last x u = if_cases (λ (o : Out registry_machine). (z : NodeState registry_machine) → o.node ≡ Some z → z.last ≡ x.last) (may_submit x) (submits x (updating.submitted x.core u)) (nothing x)
    (λ g z e. let q : record x { core = (updating.submitted x.core u).0 } ≡ z = cc in ap (λ (t : NodeState registry_machine). t.last) (sym q))
    (λ g z e. let q : x ≡ z = cc in ap (λ (t : NodeState registry_machine). t.last) (sym q))

then_last : (queued : Option Update) (es effects : List Effect) (m n : MemberState) → Then queued es m n effects → n.rules.last ≡ m.rules.last
then_last None es effects m n t = let q : ◌≡◌ {A = Option (NodeState registry_machine)} (Some m.rules) (Some n.rules) = t.rules in let s : m.rules ≡ n.rules = cc in ap (λ (x : NodeState registry_machine). x.last) (sym s)
then_last (Some u) es effects m n t = submit_last m.rules u n.rules t.rules

submitted_none : (queued : Option Update) (x : NodeState registry_machine) → acked (submitted_by queued x).effects ≡ []
submitted_none None x = refl
submitted_none (Some u) x = (submit_silent x u).told

-- it acknowledges nothing
pub then_acked : (queued : Option Update) (es effects : List Effect) (m n : MemberState) → Then queued es m n effects → acked effects ≡ acked es
then_acked queued es effects m n t = t.acks ∙ ap (λ (more : List (ℕ × ℕ)). acked es ++ more) (submitted_none queued m.rules) ∙ append-nil (acked es)

pub then_done : (queued : Option Update) (es effects : List Effect) (m n : MemberState) → Then queued es m n effects → done_of n.rules ≡ done_of m.rules
then_done queued es effects m n t = ap (λ (o : Option (Replica registry_machine)). elim o [ None ↦ 0 | Some r ↦ r.done ]) (then_replica queued es effects m n t)

-- ---- the order

not_next : (n m : ℕ) → n ≤ m → nat_eq n (m + 1) ≡ false
not_next n m le = grind arith

is_next : (n m : ℕ) → n ≡ m + 1 → nat_eq n (m + 1) ≡ true
is_next n m e = grind arith

none_joins : (order : List Entry) (after : NodeValue) → nat_eq (unwrap_or (done after) 0) (length order + 1) ≡ false → order ++ joined order after ≡ order
none_joins order after e = ap (λ (c : Bool). order ++ (if c then option_to_list (last_record after) else [])) e ∙ append-nil order

one_joins : (order : List Entry) (after : NodeValue) (e : Entry) → nat_eq (unwrap_or (done after) 0) (length order + 1) ≡ true → last_record after ≡ Some e → order ++ joined order after ≡ order ++ e ∷ []
one_joins order after e next last =
    ap (λ (c : Bool). order ++ (if c then option_to_list (last_record after) else [])) next ∙ ap (λ (o : Option Entry). order ++ option_to_list o) last

-- In a world of the protocol that has the member, now m, and this order.
module _ (v : World registry_machine) (j : Invariant v) (k : ℕ) (m : MemberState) (there : v.nodes k ≡ Some m.rules) (before : List Entry) (after : NodeValue) (y : RunningNode) (runs : after.running ≡ Some y)
    (replica : y.member.rules.replica ≡ m.rules.replica) (last : y.member.rules.last ≡ m.rules.last) where
  h : NodeOk v k m.rules
  h = j.nodes k m.rules there

  applied : unwrap_or (done after) 0 ≡ done_of m.rules
  applied = applied_is after y runs ∙ ap (λ (o : Option (Replica registry_machine)). elim o [ None ↦ 0 | Some r ↦ r.done ]) replica

  has_state : (o : Option (Replica registry_machine)) → m.rules.replica ≡ o → 0 < done_of m.rules → (r : Replica registry_machine) × (m.rules.replica ≡ Some r)
  has_state None e pos = absurd (let z : done_of m.rules ≡ 0 = ap (λ (o : Option (Replica registry_machine)). elim o [ None ↦ 0 | Some r ↦ r.done ]) e in omega (arith, z, pos))
  has_state (Some r) e pos = (r, e)

  pub joins : Grows before v.log.order (Some m) → before ++ joined before after ≡ v.log.order
  joins grows = elim grows [
    | inl same ↦ (
        let most : done_of m.rules ≤ length v.log.order = h.prefix.within in
        let long : length v.log.order ≡ length before = ap (λ (l : List Entry). length l) same in
        none_joins before after (not_next (unwrap_or (done after) 0) (length before) (omega (arith, applied, most, long))) ∙ sym same
        )
    | inr more ↦ (
        let q : m ≡ more.1 = cc (more.3) in
        let one : length (before ++ more.0 ∷ []) ≡ length before + 1 = length-append before (more.0 ∷ []) in
        let long : length v.log.order ≡ length before + 1 = ap (λ (l : List Entry). length l) more.2 ∙ one in
        let full : done_of m.rules ≡ length before + 1 = ap (λ (t : MemberState). done_of t.rules) q ∙ more.4 ∙ long in
        let s = has_state m.rules.replica refl (omega (arith, full)) in
        let count : s.0.done ≡ length before + 1 = sym (done_at m.rules s.0 s.1) ∙ full in
        let shows : m.rules.last ≡ Some more.0 = h.prefix.last s.0 s.1 ∙ (λ i. at_place (more.2 i) (count i)) ∙ place_new before more.0 in
        let shown : last_record after ≡ Some more.0 = ap (λ (o : Option RunningNode). elim o [ None ↦ None | Some x ↦ x.member.rules.last ]) runs ∙ last ∙ shows in
        one_joins before after more.0 (is_next (unwrap_or (done after) 0) (length before) (applied ∙ full)) shown ∙ sym more.2
        )
  ]

pub then_joins : (v : World registry_machine) (k : ℕ) (m : MemberState) (before : List Entry) (after : NodeValue) (y : RunningNode) (queued : Option Update) (es effects : List Effect) → Invariant v → v.nodes k ≡ Some m.rules
    → after.running ≡ Some y → Then queued es m y.member effects → Grows before v.log.order (Some m) → before ++ joined before after ≡ v.log.order
then_joins v k m before after y queued es effects j there runs t grows =
    joins v j k m there before after y runs (then_replica queued es effects m y.member t) (then_last queued es effects m y.member t) grows
