-- Every run is safe, and keeps what was acknowledged.
use Rattle.std.proofs.Common.{◌≡◌, ◌≢◌, ℕ, ◌+◌, ◌-◌, ◌<◌, ◌≤◌, ◌^◌, true, List, [], ◌∷◌, length, Option, Some, None, nat_lt, if◌then◌else◌, refl, sym, ap, ◌∙◌, subst, arith}
use Rattle.gum_messages.specs.declared.view.View.{View}
use Rattle.gum_messages.specs.Members.{inc_of}
use Rattle.gum_messages.specs.Places.{at_place}
use Rattle.gum_messages.proofs.Branches.{if_cases, option_cases}
use Rattle.gum_messages.proofs.Placing.{place_within}
use Rattle.update_records.specs.declared.update.Update.{Update}
use Rattle.view_reconcile.specs.Joining.{ReconcileState}
use Rattle.view_reconcile.specs.Joining as joining
use Rattle.view_reconcile.specs.Chains.{view_in}
use Rattle.cluster_rules.specs.Machines.{Machine, IsMachine}
use Rattle.gum_messages.specs.declared.body.Body.{Body}
use Rattle.gum_messages.specs.declared.body.Body.TheVariants.{Ask, Granted, Apply, Applied, Release, Offer, Need, Piece, Ready, OpenView}
use Rattle.gum_messages.specs.Messages.{Sent}
use Rattle.cluster_rules.specs.Nodes.{NodeState, done_of, fresh, nothing, number_of}
use Rattle.cluster_rules.specs.Updates.{Answer, Logged, may_submit, submit}
use Rattle.cluster_rules.specs.Receiving.{checkpoint, clock, receive, tick}
use Rattle.cluster_rules.specs.Receiving as receiving
use Rattle.cluster_rules.specs.Worlds.{Checkpoint, Clock, Declare, Deliver, Die, DieInDeliver, DieInInstall, Event, Install, Read, Start, Submit, Tick, World, absorb, deliver, die_in_deliver, die_in_install, happens, install, leave, logs, may_declare, noted, opening, put, reads, run, stopped, with_log, written}
use Rattle.cluster_rules.specs.Promises.{Kept, Safe, Steady}
use Rattle.cluster_laws.proofs.Inv.{AckOk, AllReached, Fitting, Invariant, MsgOk, NodeOk, Pooled}
use Rattle.cluster_laws.proofs.Moves.{none_acked, none_told, stay_keeps}
use Rattle.cluster_laws.proofs.Applying.{done_at, state_of}
use Rattle.cluster_laws.proofs.HeadRules.{on_applied_keeps, on_granted_keeps, open_is_ready, open_reached, submit_keeps}
use Rattle.cluster_laws.proofs.Applying.{on_apply_keeps}
use Rattle.cluster_laws.proofs.Locking.{on_release_keeps}
use Rattle.cluster_laws.proofs.Offering.{on_need_keeps, on_offer_keeps, on_piece_keeps}
use Rattle.cluster_laws.proofs.Opening.{on_open_view_keeps, on_ready_keeps}
use Rattle.cluster_laws.proofs.Asking.{Dies, Keeps, ask_dies, on_ask_keeps}
use Rattle.cluster_laws.proofs.Stopping.{stop_keeps}
use Rattle.cluster_laws.proofs.Installing.{die_in_install_keeps, install_keeps}
use Rattle.cluster_laws.proofs.Starting.{declare_keeps, start_keeps, started_world}
use Rattle.cluster_laws.proofs.Ticking.{checkpoint_keeps, clock_keeps, read_keeps, tick_keeps}
use Rattle.cluster_laws.proofs.Histories.{told_keeps}
use Rattle.cluster_laws.proofs.Events.{at_get, at_keeps, counted_ok}
use Rattle.cluster_laws.proofs.Fitting.{happens_fits, opening_fits}
use Rattle.cluster_laws.proofs.Lockers.{Lockers, checkpoint_stays, install_lockers, lockers_absorb, lockers_stay, receive_stays, stays_same, submit_stays}

module _ {M : Machine} where
  -- A message comes
  hears_keeps : IsMachine M → (w : World M) (n : ℕ) (x : NodeState M) (from : ℕ) (b : Body) (answer : Answer) → Invariant w → Fitting w → w.nodes n ≡ Some x → 0 < inc_of x.join.view.members from → x.join.view.number ≢ 0 → (joining.locks x.join ≡ true → joining.is_ready x.join ≡ true) → MsgOk w x.join.view from n b → Keeps w n x (receiving.hears x from b w.log.held answer)
  hears_keeps law w n x from (Ask q u) answer j fi at pos nz lr ok = on_ask_keeps w n x from q u answer j at pos ok
  hears_keeps law w n x from (Granted r) answer j fi at pos nz lr ok = (on_granted_keeps w n x from r j at nz ok).0
  hears_keeps law w n x from (Apply r) answer j fi at pos nz lr ok = on_apply_keeps w n x from r j at ok
  hears_keeps law w n x from (Applied k) answer j fi at pos nz lr ok = (on_applied_keeps w n x from k j at ok).0
  hears_keeps law w n x from (Release q) answer j fi at pos nz lr ok = on_release_keeps w n x from q j at pos ok
  hears_keeps law w n x from (Offer c cap last) answer j fi at pos nz lr ok = on_offer_keeps w n x from c cap last j at nz ok
  hears_keeps law w n x from (Need offset) answer j fi at pos nz lr ok = on_need_keeps w n x from offset j at nz lr
  hears_keeps law w n x from (Piece total offset bytes) answer j fi at pos nz lr ok = on_piece_keeps law w n x from total offset bytes j fi at nz ok
  hears_keeps law w n x from Ready answer j fi at pos nz lr ok = (on_ready_keeps w n x from j at nz ok).0
  hears_keeps law w n x from OpenView answer j fi at pos nz lr ok = (on_open_view_keeps w n x from j at ok).0

  hears_dies : (w : World M) (n : ℕ) (x : NodeState M) (from : ℕ) (b : Body) (answer : Answer) → Invariant w → w.nodes n ≡ Some x → 0 < inc_of x.join.view.members from → MsgOk w x.join.view from n b → Dies w n x (receiving.hears x from b w.log.held answer)
  hears_dies w n x from (Ask q u) answer j at pos ok = ask_dies w n x from q u answer j at pos ok
  hears_dies w n x from (Granted r) answer j at pos ok = stop_keeps w n j
  hears_dies w n x from (Apply r) answer j at pos ok = stop_keeps w n j
  hears_dies w n x from (Applied k) answer j at pos ok = stop_keeps w n j
  hears_dies w n x from (Release q) answer j at pos ok = stop_keeps w n j
  hears_dies w n x from (Offer c cap last) answer j at pos ok = stop_keeps w n j
  hears_dies w n x from (Need offset) answer j at pos ok = stop_keeps w n j
  hears_dies w n x from (Piece total offset bytes) answer j at pos ok = stop_keeps w n j
  hears_dies w n x from Ready answer j at pos ok = stop_keeps w n j
  hears_dies w n x from OpenView answer j at pos ok = stop_keeps w n j

  pub receive_keeps : IsMachine M → (w : World M) (n : ℕ) (x : NodeState M) (p : Sent) (answer : Answer) → Invariant w → Fitting w → Lockers w → w.nodes n ≡ Some x → Pooled w p → p.to ≡ n → Keeps w n x (receive x p w.log.held answer)
  receive_keeps law w n x p answer j fi lo at po to =
      if_cases (λ (d : Logged M). Keeps w n x d) (receiving.counts x p) _ _
      (λ g. let c = counted_ok w n x p j at po to g in hears_keeps law w n x p.from p.body answer j fi at c.0 c.1 (λ l. lo n x at l c.1) c.2)
      (λ g. stay_keeps w n x j at)

  pub receive_dies : (w : World M) (n : ℕ) (x : NodeState M) (p : Sent) (answer : Answer) → Invariant w → w.nodes n ≡ Some x → Pooled w p → p.to ≡ n → Dies w n x (receive x p w.log.held answer)
  receive_dies w n x p answer j at po to =
      if_cases (λ (d : Logged M). Dies w n x d) (receiving.counts x p) _ _
      (λ g. let c = counted_ok w n x p j at po to g in hears_dies w n x p.from p.body answer j at c.0 c.2)
      (λ g. stop_keeps w n j)

  -- Each event
  view_at_number : (w : World M) (v : ℕ) (u : View) → Invariant w → view_in w.chain v ≡ Some u → view_in w.chain u.number ≡ Some u
  view_at_number w v u j e = ap (view_in w.chain) (j.chain.chain.numbered v u e) ∙ e

  pub happens_keeps : IsMachine M → (w : World M) (e : Event) → Invariant w → Fitting w → Lockers w → Invariant (happens w e)
  happens_keeps law w (Start n) j fi lo = option_cases (λ (u : World M). Invariant u) (w.nodes n) (started_world w n) (λ x. w) (λ none. start_keeps w n j none) (λ x some. j)
  happens_keeps law w (Declare v) j fi lo = if_cases (λ (u : World M). Invariant u) (may_declare w v) _ _ (λ g. declare_keeps w v j g) (λ g. j)
  happens_keeps law w (Install n v opening) j fi lo = at_keeps (λ (u : World M). Invariant u) w n (λ x. elim (view_in w.chain v) [ None ↦ w | Some u ↦ install w n x u opening ]) j
      (λ x at. option_cases (λ (u : World M). Invariant u) (view_in w.chain v) w (λ u. install w n x u opening) (λ none. j) (λ u some. install_keeps law w n x u opening j at (view_at_number w v u j some)))
  happens_keeps law w (Deliver k answer) j fi lo = option_cases (λ (u : World M). Invariant u) (at_place w.pool k) w (λ p. deliver w p answer) (λ none. j)
      (λ p some. option_cases (λ (u : World M). Invariant u) (w.nodes p.to) w (λ x. absorb p.to (receive x p w.log.held answer).out (logs (number_of x) (receive x p w.log.held answer) w)) (λ none. j)
      (λ x at. told_keeps (logs (number_of x) (receive x p w.log.held answer) w) p.to (receive x p w.log.held answer).out (receive_keeps law w p.to x p answer j fi lo at (j.pool (k - 1) p (at_get w.pool k p some)) refl)))
  happens_keeps law w (Submit n u valid) j fi lo = at_keeps (λ (v : World M). Invariant v) w n (λ x. absorb n (submit x u) (noted n x u w)) j (λ x at. told_keeps (noted n x u w) n (submit x u) (submit_keeps w n x u j at))
  happens_keeps law w (Read n) j fi lo = at_keeps (λ (v : World M). Invariant v) w n (λ x. if joining.is_open x.join then absorb n (nothing x) (reads n x w) else w) j (λ x at. if_cases (λ (v : World M). Invariant v) (joining.is_open x.join) _ _ (λ op. read_keeps w n x j at op) (λ op. j))
  happens_keeps law w (Tick n) j fi lo = at_keeps (λ (v : World M). Invariant v) w n (λ x. absorb n (tick x) w) j (λ x at. told_keeps w n (tick x) (tick_keeps law w n x j at (lo n x at)))
  happens_keeps law w (Clock n stamp) j fi lo = if_cases (λ (v : World M). Invariant v) (nat_lt stamp (2 ^ 64)) _ _ (λ g. at_keeps (λ (v : World M). Invariant v) w n (λ x. absorb n (clock x stamp) w) j (λ x at. clock_keeps w n x stamp j at)) (λ g. j)
  happens_keeps law w (Checkpoint n good) j fi lo = at_keeps (λ (v : World M). Invariant v) w n (λ x. absorb n (checkpoint x w.log.held good) w) j (λ x at. told_keeps w n (checkpoint x w.log.held good) (checkpoint_keeps w n x good j at))
  happens_keeps law w (Die n) j fi lo = stop_keeps w n j
  happens_keeps law w (DieInDeliver k answer) j fi lo = option_cases (λ (u : World M). Invariant u) (at_place w.pool k) w (λ p. die_in_deliver w p answer) (λ none. j)
      (λ p some. option_cases (λ (u : World M). Invariant u) (w.nodes p.to) w (λ x. stopped p.to (with_log (leave (written (receive x p w.log.held answer)) (number_of x) w.log) w)) (λ none. j)
      (λ x at. receive_dies w p.to x p answer j at (j.pool (k - 1) p (at_get w.pool k p some)) refl))
  happens_keeps law w (DieInInstall n v raised) j fi lo = at_keeps (λ (u : World M). Invariant u) w n (λ x. elim (view_in w.chain v) [ None ↦ w | Some u ↦ die_in_install w n x u raised ]) j
      (λ x at. option_cases (λ (u : World M). Invariant u) (view_in w.chain v) w (λ u. die_in_install w n x u raised) (λ none. j) (λ u some. die_in_install_keeps w n x u raised j at (view_at_number w v u j some)))

  -- the lockers
  noted_nodes : (w : World M) (n : ℕ) (x : NodeState M) (u : Update) → (noted n x u w).nodes ≡ w.nodes
  noted_nodes w n x u = if_cases (λ (v : World M). v.nodes ≡ w.nodes) (may_submit x) _ _ (λ g. refl) (λ g. refl)

  fewer_lockers : (w w' : World M) (n : ℕ) → Lockers w → w'.nodes ≡ put w.nodes n None → Lockers w'
  fewer_lockers w w' n lo e = lockers_absorb w w' n None lo e (λ y q. absurd (cc))

  pub lockers_keep : (w : World M) (e : Event) → Lockers w → Lockers (happens w e)
  lockers_keep w (Start n) lo = option_cases (λ (u : World M). Lockers u) (w.nodes n) (started_world w n) (λ x. w)
      (λ none. lockers_absorb w (started_world w n) n (Some (fresh M n (w.starts n + 1))) lo refl (λ y q lk nz. absurd (let e : fresh M n (w.starts n + 1) ≡ y = cc in nz (ap (λ (t : NodeState M). t.join.view.number) (sym e)))))
      (λ x some. lo)
  lockers_keep w (Declare v) lo = if_cases (λ (u : World M). Lockers u) (may_declare w v) _ _ (λ g. lo) (λ g. lo)
  lockers_keep w (Install n v opening) lo = at_keeps (λ (u : World M). Lockers u) w n (λ x. elim (view_in w.chain v) [ None ↦ w | Some u ↦ install w n x u opening ]) lo
      (λ x at. option_cases (λ (u : World M). Lockers u) (view_in w.chain v) w (λ u. install w n x u opening) (λ none. lo) (λ u some. install_lockers w n x u opening lo at))
  lockers_keep w (Deliver k answer) lo = option_cases (λ (u : World M). Lockers u) (at_place w.pool k) w (λ p. deliver w p answer) (λ none. lo)
      (λ p some. option_cases (λ (u : World M). Lockers u) (w.nodes p.to) w (λ x. absorb p.to (receive x p w.log.held answer).out (logs (number_of x) (receive x p w.log.held answer) w)) (λ none. lo)
      (λ x at. lockers_stay w (absorb p.to (receive x p w.log.held answer).out (logs (number_of x) (receive x p w.log.held answer) w)) p.to x (receive x p w.log.held answer).out.node lo at refl (receive_stays x p w.log.held answer)))
  lockers_keep w (Submit n u valid) lo = at_keeps (λ (v : World M). Lockers v) w n (λ x. absorb n (submit x u) (noted n x u w)) lo (λ x at. lockers_stay w (absorb n (submit x u) (noted n x u w)) n x (submit x u).node lo at (ap (λ (f : ℕ → Option (NodeState M)). put f n (submit x u).node) (noted_nodes w n x u)) (submit_stays x u))
  lockers_keep w (Read n) lo = at_keeps (λ (v : World M). Lockers v) w n (λ x. if joining.is_open x.join then absorb n (nothing x) (reads n x w) else w) lo (λ x at. if_cases (λ (v : World M). Lockers v) (joining.is_open x.join) _ _ (λ op. lockers_stay w (absorb n (nothing x) (reads n x w)) n x (Some x) lo at refl (stays_same x x refl refl)) (λ op. lo))
  lockers_keep w (Tick n) lo = at_keeps (λ (v : World M). Lockers v) w n (λ x. absorb n (tick x) w) lo (λ x at. lockers_stay w (absorb n (tick x) w) n x (Some x) lo at refl (stays_same x x refl refl))
  lockers_keep w (Clock n stamp) lo = if_cases (λ (v : World M). Lockers v) (nat_lt stamp (2 ^ 64)) _ _ (λ g. at_keeps (λ (v : World M). Lockers v) w n (λ x. absorb n (clock x stamp) w) lo
      (λ x at. lockers_absorb w (absorb n (clock x stamp) w) n (Some (record x { stamp = stamp })) lo refl (λ y q. let e : record x { stamp = stamp } ≡ y = cc in subst (λ (t : NodeState M). joining.locks t.join ≡ true → t.join.view.number ≢ 0 → joining.is_ready t.join ≡ true) e (lo n x at)))) (λ g. lo)
  lockers_keep w (Checkpoint n good) lo = at_keeps (λ (v : World M). Lockers v) w n (λ x. absorb n (checkpoint x w.log.held good) w) lo (λ x at. lockers_stay w (absorb n (checkpoint x w.log.held good) w) n x (checkpoint x w.log.held good).node lo at refl (checkpoint_stays x w.log.held good))
  lockers_keep w (Die n) lo = fewer_lockers w (stopped n w) n lo refl
  lockers_keep w (DieInDeliver k answer) lo = option_cases (λ (u : World M). Lockers u) (at_place w.pool k) w (λ p. die_in_deliver w p answer) (λ none. lo)
      (λ p some. option_cases (λ (u : World M). Lockers u) (w.nodes p.to) w (λ x. stopped p.to (with_log (leave (written (receive x p w.log.held answer)) (number_of x) w.log) w)) (λ none. lo)
      (λ x at. fewer_lockers w (stopped p.to (with_log (leave (written (receive x p w.log.held answer)) (number_of x) w.log) w)) p.to lo refl))
  lockers_keep w (DieInInstall n v raised) lo = at_keeps (λ (u : World M). Lockers u) w n (λ x. elim (view_in w.chain v) [ None ↦ w | Some u ↦ die_in_install w n x u raised ]) lo
      (λ x at. option_cases (λ (u : World M). Lockers u) (view_in w.chain v) w (λ u. die_in_install w n x u raised) (λ none. lo) (λ u some. fewer_lockers w (die_in_install w n x u raised) n lo refl))

module _ (M : Machine) where
  pub opening_ok : (cap : ℕ) → Invariant (opening M cap)
  opening_ok cap = record {
    chain = record {
      chain = record {
        numbered = λ a v e. absurd (none_in a v e);
        peopled = λ a v e. absurd (none_in a v e);
        unbroken = λ a b c u v t n i e. absurd (none_in a u e);
        rising = λ a b u v n e. absurd (none_in a u e);
      };
      started = λ v n u e. absurd (none_in v u e);
      locker = λ v u e. absurd (none_in v u e);
    };
    log = record {
      places = λ k r e. absurd (none_in k r e);
      ids = λ r s h. absurd (none_in r.place r h.at);
      asked = λ r h. absurd (none_in r.place r h.at);
      logged = λ r h. absurd (none_in r.place r h.at);
      requested = λ r h. absurd (none_in r.place r h.at);
      doubt_requested = λ r e. absurd (cc);
      unasked = λ n i lt. refl;
      doubt = λ r e. absurd (cc);
      doubt_view = λ r e. absurd (cc);
      counts = λ v c e. absurd (cc);
      recovered = λ r h. absurd (none_in r.place r h.at);
      doubt_recovered = λ r e. absurd (cc);
      rising = λ v u c d e. absurd (cc);
      early = λ v c r e. absurd (cc);
      ordered = λ r s h. absurd (none_in r.place r h.at);
      by_held = λ r h. absurd (none_in r.place r h.at);
      doubt_held = λ r e. absurd (cc);
      doubt_last = λ r s e. absurd (cc);
      doubt_low = λ r u c e. absurd (cc);
      bounds = λ v c r e. absurd (cc);
      held = λ nz. absurd (nz refl);
    };
    nodes = λ n x e. absurd (cc);
    owner = λ n x o. absurd (let e : ◌≡◌ {A = Option (NodeState M)} None (Some x) = o.runs in cc);
    pool = λ k p e. none_told (λ (p : Sent). Pooled (opening M cap) p) k p e;
    acks = λ a v k e. none_acked (λ (v k : ℕ). AckOk (opening M cap) v k) a v k e;
    points = λ a p e. absurd (cc);
    steady = λ a b p q e. absurd (cc);
  }
    where
      none_in : {A : Type 0} (k : ℕ) (a : A) → at_place [] k ≡ Some a → ⊥
      none_in k a e = let h = place_within [] k a e in omega (arith, h.0, h.1)

  -- what every world of a run has
  pub record Holds (w : World M) : Type 0 where
    pub invariant : Invariant w
    pub fitting : Fitting w
    pub lockers : Lockers w

  pub opening_holds : (cap : ℕ) → M.IsCap cap → Holds (opening M cap)
  opening_holds cap is_cap = record { invariant = opening_ok cap; fitting = opening_fits M cap is_cap; lockers = λ n x e. absurd (cc) }

  pub happens_holds : IsMachine M → (w : World M) (e : Event) → Holds w → Holds (happens w e)
  happens_holds law w e h = record {
    invariant = happens_keeps law w e h.invariant h.fitting h.lockers;
    fitting = happens_fits law w e h.invariant h.fitting;
    lockers = lockers_keep w e h.lockers;
  }

  pub run_keeps : IsMachine M → (es : List Event) (w : World M) → Holds w → Holds (run es w)
  run_keeps law [] w h = h
  run_keeps law (e ∷ es) w h = run_keeps law es (happens w e) (happens_holds law w e h)

  pub run_holds : IsMachine M → (cap : ℕ) (es : List Event) → M.IsCap cap → Holds (run es (opening M cap))
  run_holds law cap es is_cap = run_keeps law es (opening M cap) (opening_holds cap is_cap)

  pub safe : (w : World M) → Invariant w → Fitting w → Safe w
  safe w j fi = record {
    within = λ n x r at e. let h : NodeOk w n x = j.nodes n x at in omega (arith, h.prefix.within, done_at x r e);
    registry = λ n x r at e. (j.nodes n x at).prefix.registry r e;
    places = j.log.places;
    ids = λ a b d e at_a at_b same.
        let pa : d.place ≡ a = j.log.places a d at_a in
        let pb : e.place ≡ b = j.log.places b e at_b in
        sym pa ∙ j.log.ids d e (record { at = ap (at_place w.log.order) pa ∙ at_a }) (record { at = ap (at_place w.log.order) pb ∙ at_b }) (λ i. (same i).node) (λ i. (same i).inc) (λ i. (same i).req) ∙ pb;
    updates = λ k e at. j.log.requested e (record { at = ap (at_place w.log.order) (j.log.places k e at) ∙ at });
    fits = fi.log.records;
    next = λ e d. (j.log.doubt e d).0;
    next_fits = fi.log.doubt;
    apart = λ d e k dt at same.
        let pe : e.place ≡ k = j.log.places k e at in
        let here : at_place w.log.order e.place ≡ Some e = ap (at_place w.log.order) pe ∙ at in
        let no : length w.log.order < e.place = (j.log.doubt d dt).3.none e here (record { node = λ i. (sym same i).node; inc = λ i. (sym same i).inc; req = λ i. (sym same i).req }) in
        omega (arith, no, (place_within w.log.order e.place e here).1);
  }

  pub kept : (w : World M) → Invariant w → Kept w
  kept w j = record {
    stands = λ v k a e. (j.acks (a - 1) v k (at_get w.acks a (v, k) e)).place;
    applied = λ v k a n x e at op le.
        let h : NodeOk w n x = j.nodes n x at in
        let rd : joining.is_ready x.join ≡ true = open_is_ready x.join op in
        let s = state_of x (h.prefix.ready_state rd).0 in
        let all : AllReached w x.join.view.members k = open_reached w n x (a - 1) v k j at op rd (at_get w.acks a (v, k) e) le in
        let d : k ≤ done_of x = (all.each n x.join.inc (h.view (h.local.ready_view rd)).1 h.local.positive).done x at refl in
        (s.0, s.1, omega (arith, d, done_at x s.0 s.1));
  }

  pub steady : (w : World M) → Invariant w → Steady w
  steady w j = record { rises = λ a b p q ea eb le nd ic. j.steady (a - 1) (b - 1) p q (at_get w.points a p ea) (at_get w.points b q eb) (omega arith) nd ic }

  -- The theorem
  pub all_safe : IsMachine M → (cap : ℕ) (es : List Event) → M.IsCap cap → Safe (run es (opening M cap))
  all_safe law cap es is_cap = let h = run_holds law cap es is_cap in safe (run es (opening M cap)) h.invariant h.fitting

  pub all_kept : IsMachine M → (cap : ℕ) (es : List Event) → M.IsCap cap → Kept (run es (opening M cap))
  all_kept law cap es is_cap = kept (run es (opening M cap)) (run_holds law cap es is_cap).invariant

  pub all_steady : IsMachine M → (cap : ℕ) (es : List Event) → M.IsCap cap → Steady (run es (opening M cap))
  all_steady law cap es is_cap = steady (run es (opening M cap)) (run_holds law cap es is_cap).invariant
