-- Ways that a world can go on: what a tick and a delivery make of it, where a view stands.
use Rattle.std.proofs.Common.{◌≡◌, ◌≢◌, ⊎_elim, ℕ, suc, ◌<◌, ◌≤◌, Bool, true, false, ◌&&◌, List, [], ◌∷◌, ◌++◌, length, Option, Some, None, nat_eq, slice_get, refl, sym, ap, ◌∙◌, subst, arith}
use Rattle.std.specs.List.{list_all}
use Rattle.gum_messages.specs.declared.view.View.{View}
use Rattle.gum_messages.specs.Members.{inc_of}
use Rattle.gum_messages.specs.Places.{at_place}
use Rattle.gum_messages.specs.Views.{IsView}
use Rattle.gum_messages.proofs.Branches.{if_cases}
use Rattle.gum_messages.specs.Messages.{Sent}
use Rattle.view_reconcile.specs.Joining.{ReconcileState}
use Rattle.view_reconcile.specs.Joining as joining
use Rattle.cluster_rules.specs.Nodes.{acknowledges, NodeState, Out, becomes, number_of}
use Rattle.cluster_rules.specs.Machines.{Machine, IsMachine}
use Rattle.cluster_rules.specs.declared.effect.Effect.{Effect}
use Rattle.cluster_rules.specs.Updates.{Logged, Written, unlogged}
use Rattle.cluster_rules.specs.Receiving.{receive, tick}
use Rattle.cluster_rules.specs.Worlds.{Deliver, Event, Log, Tick, World, absorb, deliver, happens, logs, put, run, sent, with_log}
use Rattle.cluster_rules.specs.Progress.{Leads, Runs, goes_on}
use Rattle.cluster_laws.proofs.Moves.{put_cases, slice_get_back}
use Rattle.cluster_laws.proofs.Applying.{eq_true}
use Rattle.cluster_laws.proofs.Orders.{run_append}
use Rattle.cluster_laws.proofs.Sound.{Sound, sound_keeps}

all_append : (f : Event → Bool) (a b : List Event) → list_all f a ≡ true → list_all f b ≡ true → list_all f (a ++ b) ≡ true
all_append f [] b h g = g
all_append f (x ∷ a) b h g = split (f x) (list_all f a) (list_all f (a ++ b)) h (λ e. all_append f a b e g)
  where
    split : (p q r : Bool) → (p && q) ≡ true → (q ≡ true → r ≡ true) → (p && r) ≡ true
    split true q r e k = k e
    split false q r e k = cc

module _ {M : Machine} where
  pub leads_now : (f : Event → Bool) (w : World M) (Q : World M → Type 0) → Q w → Leads f w Q
  leads_now f w Q q = record { events = []; going = refl; ends = q }

  pub leads_then : (f : Event → Bool) (w : World M) (Q R : World M → Type 0) → Leads f w Q → ((u : World M) → Q u → Leads f u R) → Leads f w R
  leads_then f w Q R h k =
      let g : Leads f (run h.events w) R = k (run h.events w) h.ends in
      record {
        events = h.events ++ g.events;
        going = all_append f h.events g.events h.going g.going;
        ends = subst R (sym (run_append h.events g.events w)) g.ends;
      }

  -- one event
  pub leads_one : (w : World M) (e : Event) (u : World M) (Q : World M → Type 0) → goes_on e ≡ true → happens w e ≡ u → Q u → Leads goes_on w Q
  leads_one w e u Q g q h = record { events = e ∷ []; going = rw g refl; ends = subst Q (sym q) h }

  -- A message that was sent
  pub record Held (w : World M) (p : Sent) : Type 0 where
    pub at : ℕ
    pub there : at_place w.pool at ≡ Some p

  pub held_at : (w : World M) (p : Sent) (k : ℕ) → slice_get w.pool k ≡ Some p → Held w p
  held_at w p k e = record { at = suc k; there = e }

  pub sent_held : (w : World M) (n : ℕ) (o : Out M) (p : Sent) (k : ℕ) → slice_get (sent o.effects) k ≡ Some p → Held (absorb n o w) p
  sent_held w n o p k e =
      let j = slice_get_back w.pool (sent o.effects) k p e in
      held_at (absorb n o w) p j.0 j.1

  -- A world in which one node became y, and the log l; what its client was told
  abbrev pub turned_to : World M → Log → ℕ → NodeState M → Option M.Outcome → List Effect → World M
  turned_to w l n y outcome es = absorb n (acknowledges y outcome es) (with_log l w)

  abbrev pub turned : World M → Log → ℕ → NodeState M → List Effect → World M
  turned w l n y es = turned_to w l n y None es

  pub tick_is : (w : World M) (n : ℕ) (x : NodeState M) → w.nodes n ≡ Some x → happens w (Tick n) ≡ turned w w.log n x (tick x).effects
  tick_is w n x at = ap (λ (o : Option (NodeState M)). elim o [ None ↦ w | Some x ↦ absorb n (tick x) w ]) at

  pub deliver_is : (w : World M) (p : Sent) (x : NodeState M) → (h : Held w p) → w.nodes p.to ≡ Some x → happens w (Deliver h.at Written) ≡ absorb p.to (receive x p w.log.held Written).out (logs (number_of x) (receive x p w.log.held Written) w)
  deliver_is w p x h at =
      ap (λ (o : Option Sent). elim o [ None ↦ w | Some p ↦ deliver w p Written ]) h.there
      ∙ ap (λ (o : Option (NodeState M)). elim o [ None ↦ w | Some x ↦ absorb p.to (receive x p w.log.held Written).out (logs (number_of x) (receive x p w.log.held Written) w) ]) at

  -- one that calls no log
  pub still_is : (w : World M) (p : Sent) (x : NodeState M) (o : Out M) → (h : Held w p) → w.nodes p.to ≡ Some x → receive x p w.log.held Written ≡ unlogged o → happens w (Deliver h.at Written) ≡ absorb p.to o w
  still_is w p x o h at r = deliver_is w p x h at ∙ ap (λ (d : Logged M). absorb p.to d.out (logs (number_of x) d w)) r

  pub quiet_is : (w : World M) (p : Sent) (x y : NodeState M) (es : List Effect) → (h : Held w p) → w.nodes p.to ≡ Some x → receive x p w.log.held Written ≡ unlogged (becomes y es) → happens w (Deliver h.at Written) ≡ turned w w.log p.to y es
  quiet_is w p x y es h at r = deliver_is w p x h at ∙ ap (λ (d : Logged M). absorb p.to d.out (logs (number_of x) d w)) r

  -- What a function shows of a node
  abbrev pub shown : {A : Type 0} → (NodeState M → A) → A → Option (NodeState M) → A
  shown f d o = elim o [ None ↦ d | Some x ↦ f x ]

  pub put_self : (f : ℕ → Option (NodeState M)) (n : ℕ) (v : Option (NodeState M)) → put f n v n ≡ v
  put_self f n v = grind arith

  pub shown_same : {A : Type 0} (f : NodeState M → A) (d : A) (g : ℕ → Option (NodeState M)) (n : ℕ) (x y : NodeState M) → g n ≡ Some x → f y ≡ f x → (m : ℕ) → shown f d (put g n (Some y) m) ≡ shown f d (g m)
  shown_same f d g n x y at e m = if_cases (λ (o : Option (NodeState M)). shown f d o ≡ shown f d (g m)) (nat_eq m n) _ _
      (λ q. let same : m ≡ n = eq_true m n q in e ∙ sym (ap (λ (o : Option (NodeState M)). shown f d o) (ap g same ∙ at)))
      (λ q. refl)

  pub queue_less : (g : ℕ → Option (NodeState M)) (n : ℕ) (x y : NodeState M) → g n ≡ Some x → length y.core.queue ≤ length x.core.queue → (m : ℕ) → shown (λ (z : NodeState M). length z.core.queue) 0 (put g n (Some y) m) ≤ shown (λ (z : NodeState M). length z.core.queue) 0 (g m)
  queue_less g n x y at e m = if_cases (λ (o : Option (NodeState M)). shown (λ (z : NodeState M). length z.core.queue) 0 o ≤ shown (λ (z : NodeState M). length z.core.queue) 0 (g m)) (nat_eq m n) _ _
      (λ q.
      let same : m ≡ n = eq_true m n q in
      let s : shown (λ (z : NodeState M). length z.core.queue) 0 (g m) ≡ length x.core.queue = ap (λ (o : Option (NodeState M)). shown (λ (z : NodeState M). length z.core.queue) 0 o) (ap g same ∙ at) in
      omega (arith, e, s))
      (λ q. omega arith)

  -- A view that stands in a world of a run
  pub record Stand (w : World M) (v : View) : Type 0 where
    pub sound : Sound w
    pub shape : IsView v
    pub held : w.log.held ≡ v.number
    pub member : (n : ℕ) → 0 < inc_of v.members n → (x : NodeState M) × Runs w v n x

  -- one event that moves one node in its view, and may lengthen the log
  stand_turned : IsMachine M → (w : World M) (v : View) (e : Event) (l : Log) (n : ℕ) (x y : NodeState M) (out : Option M.Outcome) (es : List Effect) → Stand w v → happens w e ≡ turned_to w l n y out es → w.nodes n ≡ Some x → y.join.view ≡ x.join.view → y.join.inc ≡ x.join.inc → l.held ≡ w.log.held → Stand (turned_to w l n y out es) v
  stand_turned law w v e l n x y out es h q at jv ji held = record {
    sound = subst (λ (u : World M). Sound u) q (sound_keeps law w e h.sound);
    shape = h.shape;
    held = held ∙ h.held;
    member = λ m lt.
        let o = h.member m lt in
        let P : Option (NodeState M) → Type 0 = λ o. (z : NodeState M) × (o ≡ Some z) × (z.join.inc ≡ inc_of v.members m) × (z.join.view ≡ v) in
        let r : P (put w.nodes n (Some y) m) = if_cases P (nat_eq m n) _ _
        (λ q.
        let xs : Some o.0 ≡ Some x = sym o.1.node ∙ ap w.nodes (eq_true m n q) ∙ at in
        let xo : o.0 ≡ x = cc in
        (y, refl, ji ∙ ap (λ (t : NodeState M). t.join.inc) (sym xo) ∙ o.1.inc, jv ∙ ap (λ (t : NodeState M). t.join.view) (sym xo) ∙ o.1.view))
        (λ q. (o.0, o.1.node, o.1.inc, o.1.view)) in
        (r.0, record { node = r.1; inc = r.2; view = r.3 });
  }

  leads_turned : (w : World M) (e : Event) (u : World M) (Q : World M → Type 0) → goes_on e ≡ true → happens w e ≡ u → Leads goes_on u Q → Leads goes_on w Q
  leads_turned w e u Q g q k = leads_then goes_on w (λ (t : World M). t ≡ u) Q (leads_one w e u (λ (t : World M). t ≡ u) g q refl) (λ t r. subst (λ (t : World M). Leads goes_on t Q) (sym r) k)

  pub move_to : IsMachine M → (w : World M) (v : View) (e : Event) (n : ℕ) (x y : NodeState M) (out : Option M.Outcome) (es : List Effect) (Q : World M → Type 0) → goes_on e ≡ true → Stand w v → happens w e ≡ turned_to w w.log n y out es → w.nodes n ≡ Some x → y.join.view ≡ x.join.view → y.join.inc ≡ x.join.inc → (Stand (turned_to w w.log n y out es) v → Leads goes_on (turned_to w w.log n y out es) Q) → Leads goes_on w Q
  move_to law w v e n x y out es Q g h q at jv ji k = leads_turned w e (turned_to w w.log n y out es) Q g q (k (stand_turned law w v e w.log n x y out es h q at jv ji refl))

  pub move : IsMachine M → (w : World M) (v : View) (e : Event) (n : ℕ) (x y : NodeState M) (es : List Effect) (Q : World M → Type 0) → goes_on e ≡ true → Stand w v → happens w e ≡ turned w w.log n y es → w.nodes n ≡ Some x → y.join.view ≡ x.join.view → y.join.inc ≡ x.join.inc → (Stand (turned w w.log n y es) v → Leads goes_on (turned w w.log n y es) Q) → Leads goes_on w Q
  move law w v e n x y es Q g h q at jv ji k = move_to law w v e n x y None es Q g h q at jv ji k

  -- One that is open at each member
  pub record Live (w : World M) (v : View) : Type 0 where
    pub stand : Stand w v
    pub open_ : (n : ℕ) (x : NodeState M) → 0 < inc_of v.members n → w.nodes n ≡ Some x → joining.is_open x.join ≡ true

  live_turned : IsMachine M → (w : World M) (v : View) (e : Event) (l : Log) (n : ℕ) (x y : NodeState M) (out : Option M.Outcome) (es : List Effect) → Live w v → happens w e ≡ turned_to w l n y out es → w.nodes n ≡ Some x → y.join ≡ x.join → l.held ≡ w.log.held → Live (turned_to w l n y out es) v
  live_turned law w v e l n x y out es h q at same held = record {
    stand = stand_turned law w v e l n x y out es h.stand q at (ap (λ (t : ReconcileState). t.view) same) (ap (λ (t : ReconcileState). t.inc) same) held;
    open_ = λ m z lt s. ⊎_elim
        (λ (c : (m ≡ n) × (Some y ≡ Some z)). let g : y ≡ z = cc in subst (λ (t : NodeState M). joining.is_open t.join ≡ true) g (ap joining.is_open same ∙ h.open_ n x (subst (λ (a : ℕ). 0 < inc_of v.members a) c.0 lt) at))
        (λ (c : (m ≢ n) × (w.nodes m ≡ Some z)). h.open_ m z lt c.1)
        (put_cases w.nodes n (Some y) m z s);
  }

  pub go_to : IsMachine M → (w : World M) (v : View) (e : Event) (l : Log) (n : ℕ) (x y : NodeState M) (out : Option M.Outcome) (es : List Effect) (Q : World M → Type 0) → goes_on e ≡ true → Live w v → happens w e ≡ turned_to w l n y out es → w.nodes n ≡ Some x → y.join ≡ x.join → l.held ≡ w.log.held → (Live (turned_to w l n y out es) v → Leads goes_on (turned_to w l n y out es) Q) → Leads goes_on w Q
  go_to law w v e l n x y out es Q g h q at same held k = leads_turned w e (turned_to w l n y out es) Q g q (k (live_turned law w v e l n x y out es h q at same held))

  pub go : IsMachine M → (w : World M) (v : View) (e : Event) (l : Log) (n : ℕ) (x y : NodeState M) (es : List Effect) (Q : World M → Type 0) → goes_on e ≡ true → Live w v → happens w e ≡ turned w l n y es → w.nodes n ≡ Some x → y.join ≡ x.join → l.held ≡ w.log.held → (Live (turned w l n y es) v → Leads goes_on (turned w l n y es) Q) → Leads goes_on w Q
  go law w v e l n x y es Q g h q at same held k = go_to law w v e l n x y None es Q g h q at same held k
