-- Each declared view is one: the members that an event declares are in their order.
use Rattle.std.proofs.Common.{◌≡◌, ⊎_elim, ℕ, ◌+◌, ◌^◌, ◌≤◌, true, ◌&&◌, List, [], ◌∷◌, ◌++◌, length, Some, None, is_none, nat_le, nat_lt, if◌then◌else◌, sym, subst, arith}
use Rattle.std.specs.List.{list_all}
use Rattle.gum_messages.specs.declared.member.Member.{Member}
use Rattle.gum_messages.specs.declared.view.View.{View}
use Rattle.gum_messages.specs.Members.{is_locker}
use Rattle.gum_messages.specs.Places.{at_place}
use Rattle.gum_messages.specs.Views.{Ascend, IsView}
use Rattle.gum_messages.proofs.Branches.{if_cases, option_cases}
use Rattle.gum_messages.proofs.Placing.{place_push}
use Rattle.view_reconcile.specs.Joining as joining
use Rattle.view_reconcile.specs.Chains.{fault_of, view_in}
use Rattle.cluster_rules.specs.Machines.{Machine}
use Rattle.cluster_rules.specs.Nodes.{NodeState, halts, nothing, number_of}
use Rattle.cluster_rules.specs.Updates.{may_submit, submit}
use Rattle.cluster_rules.specs.Joins.{entered, recovers, takes_view}
use Rattle.cluster_rules.specs.Receiving.{checkpoint, clock, receive, tick}
use Rattle.cluster_rules.specs.Worlds.{Checkpoint, Clock, Declare, Deliver, Die, DieInDeliver, DieInInstall, Event, Install, Opening, Read, Recovered, Refused, Start, Submit, Tick, World, absorb, ascends, claimed, deliver, die_in_deliver, die_in_install, found_log, happens, install, is_view, leave, logs, may_declare, noted, raise, reads, stopped, was_started, with_log, written}
use Rattle.cluster_laws.proofs.Applying.{and_true, lt_true}
use Rattle.cluster_laws.proofs.Events.{at_keeps}
use Rattle.cluster_laws.proofs.Starting.{started_world}

le_true : (a b : ℕ) → nat_le a b ≡ true → a ≤ b
le_true a b e = grind arith

ascends_says : (floor : ℕ) (ms : List Member) → ascends floor ms ≡ true → Ascend floor ms
unfolding Ascend
ascends_says floor [] e = tt
ascends_says floor (m ∷ ms) e =
    let a = and_true (nat_lt floor m.node) (nat_le m.node 16 && (nat_le 1 m.inc && ascends m.node ms)) e in
    let b = and_true (nat_le m.node 16) (nat_le 1 m.inc && ascends m.node ms) a.1 in
    let c = and_true (nat_le 1 m.inc) (ascends m.node ms) b.1 in
    (lt_true floor m.node a.0, le_true m.node 16 b.0, le_true 1 m.inc c.0, ascends_says m.node ms c.1)

is_view_says : (v : View) → is_view v ≡ true → IsView v
is_view_says v e = let a = and_true (nat_le 1 v.number) (ascends 0 v.members) e in record { numbered = le_true 1 v.number a.0; ascending = ascends_says 0 v.members a.1 }

module _ {M : Machine} where
  abbrev pub Shapes : World M → Type 0
  Shapes w = (k : ℕ) (v : View) → view_in w.chain k ≡ Some v → IsView v

  opened_shapes : (w : World M) (n : ℕ) (x : NodeState M) (v : View) (opening : Opening) → Shapes w → Shapes (elim opening [
    | Recovered found ↦ absorb n (recovers (entered v x) w.log.cap (found_log found w.log).order) (with_log (claimed v.number (found_log found w.log)) w)
    | Refused raised cause ↦ absorb n (halts cause) (with_log (raise raised v.number w.log) w)
  ])
  opened_shapes w n x v (Recovered found) h = h
  opened_shapes w n x v (Refused raised cause) h = h

  install_shapes : (w : World M) (n : ℕ) (x : NodeState M) (v : View) (opening : Opening) → Shapes w → Shapes (install w n x v opening)
  install_shapes w n x v opening h =
      let P : World M → Type 0 = λ u. Shapes u in
      if_cases P (takes_view x v) _ _
      (λ g. if_cases P (is_locker v.members x.join.node) _ _ (λ l. if_cases P (nat_lt v.number w.log.held) _ _ (λ f. h) (λ f. opened_shapes w n x v opening h)) (λ l. h))
      (λ g. h)

  declare_shapes : (w : World M) (v : View) → Shapes w → may_declare w v ≡ true → Shapes (record w { chain = w.chain ++ v ∷ [] })
  declare_shapes w v h g k u at = ⊎_elim
      (λ (b : view_in w.chain k ≡ Some u). h k u b)
      (λ (b : (k ≡ length w.chain + 1) × (u ≡ v)). subst (λ (t : View). IsView t) (sym b.1) (is_view_says v (and_true (is_view v) (list_all (was_started w.starts) v.members && is_none (fault_of w.chain v)) g).0))
      (place_push w.chain v k u at)

  pub shapes_keep : (w : World M) (e : Event) → Shapes w → Shapes (happens w e)
  shapes_keep w (Start n) h = option_cases (λ (u : World M). Shapes u) (w.nodes n) (started_world w n) (λ x. w) (λ none. h) (λ x some. h)
  shapes_keep w (Declare v) h = if_cases (λ (u : World M). Shapes u) (may_declare w v) _ _ (λ g. declare_shapes w v h g) (λ g. h)
  shapes_keep w (Install n v opening) h = at_keeps (λ (u : World M). Shapes u) w n (λ x. elim (view_in w.chain v) [ None ↦ w | Some u ↦ install w n x u opening ]) h
      (λ x at. option_cases (λ (u : World M). Shapes u) (view_in w.chain v) w (λ u. install w n x u opening) (λ none. h) (λ u some. install_shapes w n x u opening h))
  shapes_keep w (Deliver k answer) h = option_cases (λ (u : World M). Shapes u) (at_place w.pool k) w (λ p. deliver w p answer) (λ none. h)
      (λ p some. option_cases (λ (u : World M). Shapes u) (w.nodes p.to) w (λ x. absorb p.to (receive x p w.log.held answer).out (logs (number_of x) (receive x p w.log.held answer) w)) (λ none. h) (λ x at. h))
  shapes_keep w (Submit n u valid) h = at_keeps (λ (v : World M). Shapes v) w n (λ x. absorb n (submit x u) (noted n x u w)) h (λ x at. if_cases (λ (v : World M). Shapes v) (may_submit x) _ _ (λ g. h) (λ g. h))
  shapes_keep w (Read n) h = at_keeps (λ (v : World M). Shapes v) w n (λ x. if joining.is_open x.join then absorb n (nothing x) (reads n x w) else w) h (λ x at. if_cases (λ (v : World M). Shapes v) (joining.is_open x.join) _ _ (λ g. h) (λ g. h))
  shapes_keep w (Tick n) h = at_keeps (λ (v : World M). Shapes v) w n (λ x. absorb n (tick x) w) h (λ x at. h)
  shapes_keep w (Clock n stamp) h = if_cases (λ (v : World M). Shapes v) (nat_lt stamp (2 ^ 64)) _ _ (λ g. at_keeps (λ (v : World M). Shapes v) w n (λ x. absorb n (clock x stamp) w) h (λ x at. h)) (λ g. h)
  shapes_keep w (Checkpoint n good) h = at_keeps (λ (v : World M). Shapes v) w n (λ x. absorb n (checkpoint x w.log.held good) w) h (λ x at. h)
  shapes_keep w (Die n) h = h
  shapes_keep w (DieInDeliver k answer) h = option_cases (λ (u : World M). Shapes u) (at_place w.pool k) w (λ p. die_in_deliver w p answer) (λ none. h)
      (λ p some. option_cases (λ (u : World M). Shapes u) (w.nodes p.to) w (λ x. stopped p.to (with_log (leave (written (receive x p w.log.held answer)) (number_of x) w.log) w)) (λ none. h) (λ x at. h))
  shapes_keep w (DieInInstall n v raised) h = at_keeps (λ (u : World M). Shapes u) w n (λ x. elim (view_in w.chain v) [ None ↦ w | Some u ↦ die_in_install w n x u raised ]) h
      (λ x at. option_cases (λ (u : World M). Shapes u) (view_in w.chain v) w (λ u. die_in_install w n x u raised) (λ none. h) (λ u some. h))
