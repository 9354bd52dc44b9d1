-- Every run answers its requests as it should: event by event.
use Rattle.std.proofs.Common.{◌≡◌, ◌≢◌, inl, ℕ, zero, suc, ◌-◌, ◌≤◌, ◌^◌, true, ◌&&◌, List, [], ◌∷◌, ◌++◌, Some, None, nat_lt, if◌then◌else◌, slice_get, refl, sym, ap, ◌∙◌, subst, append-nil}
use Rattle.gum_messages.specs.declared.body.Body.{Body}
use Rattle.gum_messages.specs.declared.body.Body.TheVariants.{Ask, Granted, Apply, Applied, Release, Offer, Need, Piece, Ready, OpenView}
use Rattle.gum_messages.specs.declared.view.View.{View}
use Rattle.gum_messages.specs.Members.{is_locker}
use Rattle.gum_messages.specs.Messages.{Sent}
use Rattle.gum_messages.specs.Places.{at_place}
use Rattle.gum_messages.proofs.Branches.{if_cases, option_cases}
use Rattle.update_records.specs.declared.update.Update.{Update}
use Rattle.view_reconcile.specs.Joining as joining
use Rattle.view_reconcile.specs.Chains.{view_in}
use Rattle.cluster_rules.specs.declared.effect.HaltCause.TheVariants as halt
use Rattle.cluster_rules.specs.Machines.{Machine, IsMachine}
use Rattle.cluster_rules.specs.Nodes.{NodeState, Out, done_of, halts, nothing, number_of}
use Rattle.cluster_rules.specs.Promises.{Answered}
use Rattle.cluster_rules.specs.Updates.{Answer, Logged, may_submit, submit}
use Rattle.cluster_rules.specs.Joins.{entered, recovers, takes_view}
use Rattle.cluster_rules.specs.Receiving.{checkpoint, clock, receive, tick}
use Rattle.cluster_rules.specs.Receiving as receiving
use Rattle.cluster_rules.specs.Worlds.{Checkpoint, Clock, Declare, Deliver, Die, DieInDeliver, DieInInstall, Event, Install, Log, Opening, Point, Read, Recovered, Refused, Start, Submit, Tick, World, absorb, append, claimed, deliver, die_in_deliver, die_in_install, found_log, happens, install, leave, logs, may_declare, noted, opening, opens_log, raise, reads, run, stopped, with_log, written}
use Rattle.cluster_laws.proofs.Inv.{Invariant, MsgOk}
use Rattle.cluster_laws.proofs.Applying.{lt_false}
use Rattle.cluster_laws.proofs.Recovering.{entered_is, taken_view}
use Rattle.cluster_laws.proofs.HeadRules.{on_applied_keeps, on_granted_keeps}
use Rattle.cluster_laws.proofs.Opening.{on_open_view_keeps, on_ready_keeps}
use Rattle.cluster_laws.proofs.Installing.{found_recovers, takes_says}
use Rattle.cluster_laws.proofs.Starting.{started_world}
use Rattle.cluster_laws.proofs.Ticking.{tick_told}
use Rattle.cluster_laws.proofs.Events.{at_get, at_keeps, counted_ok}
use Rattle.cluster_laws.proofs.Orders.{GrewLog, append_grew, found_grew, leave_grew, log_same, raise_grew}
use Rattle.cluster_laws.proofs.Theorem.{Holds, happens_holds, opening_holds}
use Rattle.cluster_laws.proofs.Telling.{Quiet, Tells, still}
use Rattle.cluster_laws.proofs.Silent.{apply_silent, ask_silent, checkpoint_silent, need_silent, offer_silent, piece_silent, release_silent, submit_silent}
use Rattle.cluster_laws.proofs.Answering.{Answering, answered_, opening_answers, quiet_step, start_step, stops_step, tells_grow, tells_step}

module _ {M : Machine} where
  -- A message comes
  hears_tells : (w : World M) (n : ℕ) (x : NodeState M) (from : ℕ) (b : Body) (answer : Answer) → Invariant w → w.nodes n ≡ Some x → x.join.view.number ≢ 0 → MsgOk w x.join.view from n b → Tells w.log.cap w.log.order n x.join.inc x.core.passed (receiving.hears x from b w.log.held answer).out
  hears_tells w n x from (Ask q u) answer j at nz ok = inl (ask_silent x from q u w.log.held answer)
  hears_tells w n x from (Granted r) answer j at nz ok = (on_granted_keeps w n x from r j at nz ok).1
  hears_tells w n x from (Apply r) answer j at nz ok = inl (apply_silent x from r)
  hears_tells w n x from (Applied k) answer j at nz ok = (on_applied_keeps w n x from k j at ok).1
  hears_tells w n x from (Release q) answer j at nz ok = inl (release_silent x from q)
  hears_tells w n x from (Offer c cap last) answer j at nz ok = inl (offer_silent x from (record { count = c; cap = cap; last = last }))
  hears_tells w n x from (Need offset) answer j at nz ok = inl (need_silent x from offset)
  hears_tells w n x from (Piece total offset bytes) answer j at nz ok = inl (piece_silent x total offset bytes)
  hears_tells w n x from Ready answer j at nz ok = (on_ready_keeps w n x from j at nz ok).1
  hears_tells w n x from OpenView answer j at nz ok = (on_open_view_keeps w n x from j at ok).1

  receive_tells : (w : World M) (k : ℕ) (x : NodeState M) (p : Sent) (answer : Answer) → Invariant w → at_place w.pool k ≡ Some p → w.nodes p.to ≡ Some x → Tells w.log.cap w.log.order p.to x.join.inc x.core.passed (receive x p w.log.held answer).out
  receive_tells w k x p answer j some at =
      if_cases (λ (d : Logged M). Tells w.log.cap w.log.order p.to x.join.inc x.core.passed d.out) (receiving.counts x p) _ _
      (λ g. let c = counted_ok w p.to x p j at (j.pool (k - 1) p (at_get w.pool k p some)) refl g in hears_tells w p.to x p.from p.body answer j at c.1 c.2)
      (λ g. inl (still x [] refl))

  deliver_answers : (w : World M) (k : ℕ) (x : NodeState M) (p : Sent) (answer : Answer) → Invariant w → Answering w → at_place w.pool k ≡ Some p → w.nodes p.to ≡ Some x → Answering (absorb p.to (receive x p w.log.held answer).out (logs (number_of x) (receive x p w.log.held answer) w))
  deliver_answers w k x p answer j an some at =
      let d : Logged M = receive x p w.log.held answer in
      let w' : World M = absorb p.to d.out (logs (number_of x) d w) in
      let g : GrewLog w.log w'.log = leave_grew w.log (append d.appended (number_of x) w.log) d.doubtful (number_of x) (append_grew w.log d.appended (number_of x)) in
      tells_step w w' p.to x d.out an at (j.nodes p.to x at).inc refl refl refl g (tells_grow w.log w'.log p.to x.join.inc x.core.passed d.out g (receive_tells w k x p answer j some at))

  -- A view is installed
  opens_answers : IsMachine M → (w : World M) (n : ℕ) (x : NodeState M) (v : View) (opening : Opening) → Invariant w → Answering w → w.nodes n ≡ Some x → takes_view x v ≡ true → view_in w.chain v.number ≡ Some v → is_locker v.members x.join.node ≡ true → w.log.held ≤ v.number → Answering (elim opening [
    | Recovered found ↦ absorb n (recovers (entered v x) w.log.cap (found_log found w.log).order) (with_log (claimed v.number (found_log found w.log)) w)
    | Refused raised cause ↦ absorb n (halts cause) (with_log (raise raised v.number w.log) w)
  ])
  opens_answers law w n x v (Recovered found) j an at g decl lk le =
      let s = takes_says w n x v (j.nodes n x at) g in
      let f : GrewLog w.log (found_log found w.log) = found_grew w.log found in
      let t = (found_recovers law w n x v found j at s.0 decl s.1 lk le).1 in
      subst (λ (y : NodeState M). Answering (absorb n (recovers y w.log.cap (found_log found w.log).order) (with_log (claimed v.number (found_log found w.log)) w))) (sym (entered_is x v g))
      (tells_step w (absorb n (recovers (taken_view v x) w.log.cap (found_log found w.log).order) (with_log (claimed v.number (found_log found w.log)) w)) n x (recovers (taken_view v x) w.log.cap (found_log found w.log).order) an at (j.nodes n x at).inc refl refl refl
      (record { order = f.order; cap = f.cap })
      (subst (λ (c : ℕ). Tells c (found_log found w.log).order n x.join.inc x.core.passed (recovers (taken_view v x) w.log.cap (found_log found w.log).order)) (sym f.cap) t))
  opens_answers law w n x v (Refused raised cause) j an at g decl lk le = stops_step w (absorb n (halts cause) (with_log (raise raised v.number w.log) w)) n an refl refl refl (raise_grew w.log raised v.number)

  install_answers : IsMachine M → (w : World M) (n : ℕ) (x : NodeState M) (v : View) (opening : Opening) → Invariant w → Answering w → w.nodes n ≡ Some x → view_in w.chain v.number ≡ Some v → Answering (install w n x v opening)
  install_answers law w n x v opening j an at decl =
      let P : World M → Type 0 = λ u. Answering u in
      if_cases P (takes_view x v) _ _
      (λ g. if_cases P (is_locker v.members x.join.node) _ _
      (λ lk. if_cases P (nat_lt v.number w.log.held) _ _
      (λ f. stops_step w (absorb n (halts (halt.Fenced w.log.held)) w) n an refl refl refl (log_same w.log))
      (λ f. opens_answers law w n x v opening j an at g decl lk (lt_false v.number w.log.held f)))
      (λ lk. tells_step w (absorb n (nothing (entered v x)) w) n x (nothing (entered v x)) an at (j.nodes n x at).inc refl refl refl (log_same w.log)
      (inl (subst (λ (y : NodeState M). Quiet x.join.inc x.core.passed (nothing y)) (sym (entered_is x v g)) (still (taken_view v x) [] refl)))))
      (λ g. an)

  -- A reader
  read_answers : (w : World M) (n : ℕ) (x : NodeState M) → Answering w → w.nodes n ≡ Some x → Answering (absorb n (nothing x) (reads n x w))
  read_answers w n x an at =
      let pt : Point M = record { node = n; inc = x.join.inc; place = done_of x; req = 0; outcome = None } in
      quiet_step w (absorb n (nothing x) (reads n x w)) n (Some x) (pt ∷ []) an refl refl (append-nil (w.points ++ pt ∷ [])) (log_same w.log)
      (λ k p e. reader k p e)
      (λ y e. let q : x ≡ y = cc in (x, at, ap (λ (t : NodeState M). t.join.inc) (sym q), ap (λ (t : NodeState M). t.core.passed) (sym q)))
    where
      reader : (k : ℕ) (p : Point M) → slice_get (record { node = n; inc = x.join.inc; place = done_of x; req = 0; outcome = None } ∷ []) k ≡ Some p → p.req ≡ 0
      reader zero p e = let q : record { node = n; inc = x.join.inc; place = done_of x; req = 0; outcome = None } ≡ p = cc in ap (λ (t : Point M). t.req) (sym q)
      reader (suc k) p e = absurd (cc)

  same_step : (w : World M) (n : ℕ) (x : NodeState M) (o : Out M) → Invariant w → Answering w → w.nodes n ≡ Some x → Quiet x.join.inc x.core.passed o → Answering (absorb n o w)
  same_step w n x o j an at q = tells_step w (absorb n o w) n x o an at (j.nodes n x at).inc refl refl refl (log_same w.log) (inl q)

  submit_answers : (w : World M) (n : ℕ) (x : NodeState M) (u : Update) → Invariant w → Answering w → w.nodes n ≡ Some x → Answering (absorb n (submit x u) (noted n x u w))
  submit_answers w n x u j an at =
      if_cases (λ (v : World M). Answering (absorb n (submit x u) v)) (may_submit x) _ _
      (λ g. let r = same in record { stands = r.stands; rises = r.rises; none_left_out = r.none_left_out; started = r.started; passed = r.passed; told = r.told })
      (λ g. same)
    where
      same : Answering (absorb n (submit x u) w)
      same = same_step w n x (submit x u) j an at (submit_silent x u)

  stopped_answers : (w : World M) (n : ℕ) (log : Log) → Answering w → GrewLog w.log log → Answering (stopped n (with_log log w))
  stopped_answers w n log an g = stops_step w (stopped n (with_log log w)) n an refl refl (sym (append-nil w.points)) g

  pub happens_answers : IsMachine M → (w : World M) (e : Event) → Holds M w → Answering w → Answering (happens w e)
  happens_answers law w (Start n) h an = option_cases (λ (u : World M). Answering u) (w.nodes n) (started_world w n) (λ x. w) (λ none. start_step w n none an) (λ x some. an)
  happens_answers law w (Declare v) h an = if_cases (λ (u : World M). Answering u) (may_declare w v) _ _ (λ g. record { stands = an.stands; rises = an.rises; none_left_out = an.none_left_out; started = an.started; passed = an.passed; told = an.told }) (λ g. an)
  happens_answers law w (Install n v opening) h an = at_keeps (λ (u : World M). Answering u) w n (λ x. elim (view_in w.chain v) [ None ↦ w | Some u ↦ install w n x u opening ]) an
      (λ x at. option_cases (λ (u : World M). Answering u) (view_in w.chain v) w (λ u. install w n x u opening) (λ none. an)
      (λ u some. install_answers law w n x u opening h.invariant an at (ap (view_in w.chain) (h.invariant.chain.chain.numbered v u some) ∙ some)))
  happens_answers law w (Deliver k answer) h an = option_cases (λ (u : World M). Answering u) (at_place w.pool k) w (λ p. deliver w p answer) (λ none. an)
      (λ p some. option_cases (λ (u : World M). Answering u) (w.nodes p.to) w (λ x. absorb p.to (receive x p w.log.held answer).out (logs (number_of x) (receive x p w.log.held answer) w)) (λ none. an)
      (λ x at. deliver_answers w k x p answer h.invariant an some at))
  happens_answers law w (Submit n u valid) h an = at_keeps (λ (v : World M). Answering v) w n (λ x. absorb n (submit x u) (noted n x u w)) an (λ x at. submit_answers w n x u h.invariant an at)
  happens_answers law w (Read n) h an = at_keeps (λ (v : World M). Answering v) w n (λ x. if joining.is_open x.join then absorb n (nothing x) (reads n x w) else w) an
      (λ x at. if_cases (λ (v : World M). Answering v) (joining.is_open x.join) _ _ (λ op. read_answers w n x an at) (λ op. an))
  happens_answers law w (Tick n) h an = at_keeps (λ (v : World M). Answering v) w n (λ x. absorb n (tick x) w) an (λ x at. same_step w n x (tick x) h.invariant an at (still x (tick x).effects (tick_told law w n x h.invariant at (h.lockers n x at)).quiet))
  happens_answers law w (Clock n stamp) h an = if_cases (λ (v : World M). Answering v) (nat_lt stamp (2 ^ 64)) _ _ (λ g. at_keeps (λ (v : World M). Answering v) w n (λ x. absorb n (clock x stamp) w) an (λ x at. same_step w n x (clock x stamp) h.invariant an at (still (record x { stamp = stamp }) [] refl))) (λ g. an)
  happens_answers law w (Checkpoint n good) h an = at_keeps (λ (v : World M). Answering v) w n (λ x. absorb n (checkpoint x w.log.held good) w) an (λ x at. same_step w n x (checkpoint x w.log.held good) h.invariant an at (checkpoint_silent x w.log.held good))
  happens_answers law w (Die n) h an = stopped_answers w n w.log an (log_same w.log)
  happens_answers law w (DieInDeliver k answer) h an = option_cases (λ (u : World M). Answering u) (at_place w.pool k) w (λ p. die_in_deliver w p answer) (λ none. an)
      (λ p some. option_cases (λ (u : World M). Answering u) (w.nodes p.to) w (λ x. stopped p.to (with_log (leave (written (receive x p w.log.held answer)) (number_of x) w.log) w)) (λ none. an)
      (λ x at. stopped_answers w p.to (leave (written (receive x p w.log.held answer)) (number_of x) w.log) an (leave_grew w.log w.log (written (receive x p w.log.held answer)) (number_of x) (log_same w.log))))
  happens_answers law w (DieInInstall n v raised) h an = at_keeps (λ (u : World M). Answering u) w n (λ x. elim (view_in w.chain v) [ None ↦ w | Some u ↦ die_in_install w n x u raised ]) an
      (λ x at. option_cases (λ (u : World M). Answering u) (view_in w.chain v) w (λ u. die_in_install w n x u raised) (λ none. an) (λ u some. stopped_answers w n (raise (opens_log w x u && raised) u.number w.log) an (raise_grew w.log (opens_log w x u && raised) u.number)))

  run_answers : IsMachine M → (es : List Event) (w : World M) → Holds M w → Answering w → Answering (run es w)
  run_answers law [] w h an = an
  run_answers law (e ∷ es) w h an = run_answers law es (happens w e) (happens_holds M law w e h) (happens_answers law w e h an)

module _ (M : Machine) where
  pub all_answered : IsMachine M → (cap : ℕ) (es : List Event) → M.IsCap cap → Answered (run es (opening M cap))
  all_answered law cap es is_cap = answered_ (run es (opening M cap)) (run_answers law es (opening M cap) (opening_holds M cap is_cap) (opening_answers M cap))
