-- What the machine asks of the world stays: a record is appended only where it fits, by its update that a node took as a
-- valid one, by a place that the order has, and by the stamp of the node that logs it.
use Rattle.std.proofs.Common.{◌≡◌, ◌≢◌, ⊎_elim, ℕ, zero, suc, ◌+◌, ◌-◌, ◌<◌, ◌^◌, Bool, true, false, ◌&&◌, List, [], ◌∷◌, ◌++◌, length, Option, Some, None, nat_eq, nat_lt, if◌then◌else◌, slice_get, refl, sym, ap, ◌∙◌, subst, arith}
use Rattle.std.specs.List.{AllByRecursion}
use Rattle.gum_messages.specs.declared.body.Body.{Body}
use Rattle.gum_messages.specs.declared.body.Body.TheVariants.{Ask, Granted, Apply, Applied, Release, Offer, Need, Piece, Ready, OpenView}
use Rattle.gum_messages.specs.declared.view.View.{View}
use Rattle.gum_messages.specs.Members.{inc_of, is_locker, is_member}
use Rattle.gum_messages.specs.Messages.{Sent}
use Rattle.gum_messages.specs.Places.{at_place}
use Rattle.gum_messages.proofs.Branches.{if_cases, option_cases}
use Rattle.update_records.specs.Entry.{Entry}
use Rattle.update_records.specs.Limits.{IsUpdate}
use Rattle.update_records.specs.declared.update.Update.{Update}
use Rattle.gum_core.specs.declared.decision.Decision.{Decision}
use Rattle.gum_core.proofs.Cases.{asked_cases}
use Rattle.view_reconcile.specs.Joining as joining
use Rattle.view_reconcile.specs.Chains.{view_in}
use Rattle.cluster_rules.specs.declared.effect.HaltCause.TheVariants as halt
use Rattle.cluster_rules.specs.Machines.{Machine, IsMachine}
use Rattle.cluster_rules.specs.Nodes.{NodeState, Out, done_of, fresh, halts, nothing, number_of, tells}
use Rattle.cluster_rules.specs.Updates.{Answer, InDoubt, Logged, Unwritten, Written, answers, entry_for, has_logged, may_submit, submit, unlogged}
use Rattle.cluster_rules.specs.Joins.{entered, recovers, takes_view}
use Rattle.cluster_rules.specs.Receiving.{checkpoint, clock, receive, tick}
use Rattle.cluster_rules.specs.Receiving as receiving
use Rattle.cluster_rules.specs.Worlds.{Checkpoint, Clock, Declare, Deliver, Die, DieInDeliver, DieInInstall, Event, Install, Log, Opening, Read, Recovered, Refused, Start, Submit, Tick, World, absorb, append, claimed, deliver, die_in_deliver, die_in_install, found_log, happens, install, leave, logs, may_declare, noted, opening, opens_log, put, raise, reads, stopped, with_log, written}
use Rattle.cluster_laws.proofs.Inv.{Fitting, FittingLog, Invariant, MsgOk}
use Rattle.cluster_laws.proofs.Moves.{put_cases}
use Rattle.cluster_laws.proofs.Applying.{and_true, lt_true}
use Rattle.cluster_laws.proofs.Events.{at_get, at_keeps, counted_ok}
use Rattle.cluster_laws.proofs.Lockers.{StaysAt, checkpoint_stays, receive_stays, recovers_ready, stays_same, submit_stays}
use Rattle.cluster_laws.proofs.Recovering.{entered_is, taken_view}
use Rattle.cluster_laws.proofs.Starting.{started_world}

all_snoc : {A : Type 0} (P : A → Type 0) (l : List A) (a : A) → AllByRecursion P l → P a → AllByRecursion P (l ++ a ∷ [])
all_snoc P [] a h p = (p, tt)
all_snoc P (b ∷ l) a h p = (h.0, all_snoc P l a h.1 p)

all_get : {A : Type 0} (P : A → Type 0) (l : List A) (k : ℕ) (a : A) → AllByRecursion P l → slice_get l k ≡ Some a → P a
all_get P [] k a h e = absurd (cc)
all_get P (b ∷ l) zero a h e = let q : b ≡ a = cc in subst P q h.0
all_get P (b ∷ l) (suc k) a h e = all_get P l k a h.1 e

-- a node that moved, among the others
some_put : {A : Type 0} (P : A → Type 0) (f : ℕ → Option A) (n : ℕ) (o : Option A) → ((m : ℕ) (z : A) → f m ≡ Some z → P z) → ((y : A) → o ≡ Some y → P y) → (m : ℕ) (z : A) → put f n o m ≡ Some z → P z
some_put P f n o h own m z e = ⊎_elim
    (λ (c : (m ≡ n) × (o ≡ Some z)). own z c.1)
    (λ (c : (m ≢ n) × (f m ≡ Some z)). h m z c.1)
    (put_cases f n o m z e)

-- Logs
module _ (M : Machine) where
  abbrev Fits : Log → Type 0
  Fits l = FittingLog M l.cap l.order l.doubtful

  append_fits : (l : Log) (o : Option Entry) (v : ℕ) → Fits l → ((e : Entry) → o ≡ Some e → M.Fits e) → Fits (append o v l)
  append_fits l None v h new = h
  append_fits l (Some e) v h new = record { is_cap = h.is_cap; records = all_snoc M.Fits l.order e h.records (new e refl); doubt = h.doubt }

  leave_fits : (l : Log) (o : Option Entry) (v : ℕ) → Fits l → ((e : Entry) → o ≡ Some e → M.Fits e) → Fits (leave o v l)
  leave_fits l None v h new = h
  leave_fits l (Some e) v h new = record { is_cap = h.is_cap; records = h.records; doubt = λ r q. new r q }

  found_fits : (l : Log) (found : Bool) → Fits l → Fits (found_log found l)
  found_fits l found h = option_cases (λ (m : Log). Fits m) l.doubtful l (λ e. if found
      then record l { order = l.order ++ e ∷ []; view_at = put l.view_at (length l.order + 1) l.doubtful_view; doubtful = None }
      else record l { doubtful = None })
      (λ none. h)
      (λ e some. if_cases (λ (m : Log). Fits m) found _ _
      (λ t. record { is_cap = h.is_cap; records = all_snoc M.Fits l.order e h.records (h.doubt e some); doubt = λ r q. absurd (cc) })
      (λ t. record { is_cap = h.is_cap; records = h.records; doubt = λ r q. absurd (cc) }))

  raise_fits : (l : Log) (raised : Bool) (v : ℕ) → Fits l → Fits (raise raised v l)
  raise_fits l true v h = h
  raise_fits l false v h = h

  -- what a rule logs, or may have logged
  record LogsOnly (P : Entry → Type 0) (d : Logged M) : Type 0 where
    appended : (e : Entry) → d.appended ≡ Some e → P e
    doubtful : (e : Entry) → d.doubtful ≡ Some e → P e

  nothing_logged : (P : Entry → Type 0) (o : Out M) → LogsOnly P (unlogged o)
  nothing_logged P o = record { appended = λ e q. absurd (cc); doubtful = λ e q. absurd (cc) }

  written_only : (P : Entry → Type 0) (d : Logged M) → LogsOnly P d → (e : Entry) → written d ≡ Some e → P e
  written_only P d h e = option_cases (λ (o : Option Entry). o ≡ Some e → P e) d.appended d.doubtful (λ e. Some e) (λ none q. h.doubtful e q) (λ a some q. h.appended e (some ∙ q))

  answer_logs : (x : NodeState M) (P : Entry → Type 0) (e : Entry) (answer : Answer) → P e → LogsOnly P (elim answer [
    | Written ↦ record { out = tells (has_logged x e) e.id.node (Granted e); appended = Some e; doubtful = None }
    | InDoubt ↦ record { out = halts halt.Disk; appended = None; doubtful = Some e }
    | Unwritten ↦ unlogged (halts halt.Disk)
  ])
  answer_logs x P e Written p = record { appended = λ a q. let g : e ≡ a = cc in subst P g p; doubtful = λ a q. absurd (cc) }
  answer_logs x P e InDoubt p = record { appended = λ a q. absurd (cc); doubtful = λ a q. let g : e ≡ a = cc in subst P g p }
  answer_logs x P e Unwritten p = nothing_logged P (halts halt.Disk)

module _ {M : Machine} where
  -- the record of an Ask fits
  ask_logs : IsMachine M → (w : World M) (n : ℕ) (x : NodeState M) (from q : ℕ) (u : Update) (answer : Answer) → Fitting w → w.nodes n ≡ Some x → MsgOk w x.join.view from n (Ask q u) → LogsOnly M M.Fits (receiving.hears x from (Ask q u) w.log.held answer)
  ask_logs law w n x from q u answer fi at ok =
      let P : Logged M → Type 0 = λ d. LogsOnly M M.Fits d in
      let valid : IsUpdate u = all_at (w.requests from (inc_of x.join.view.members from)) q (fi.updates from (inc_of x.join.view.members from)) ok.4 in
      asked_cases (λ (d : Decision). P (answers x u w.log.held answer d)) x.core from q (done_of x)
      (nothing_logged M M.Fits (nothing x))
      (λ a b c d room. if_cases P (nat_lt (number_of x) w.log.held) _ _
      (λ g. nothing_logged M M.Fits (halts (halt.Fenced w.log.held)))
      (λ g. answer_logs M x M.Fits (entry_for x from q u) answer (law.fits (entry_for x from q u) (omega arith) (omega arith) (fi.stamps n x at) valid)))
      (λ a b l c d e. nothing_logged M M.Fits _)
    where
      all_at : (l : List Update) (k : ℕ) → AllByRecursion IsUpdate l → at_place l k ≡ Some u → IsUpdate u
      all_at l zero h e = absurd (cc)
      all_at l (suc k) h e = all_get IsUpdate l k u h e

  hears_logs : IsMachine M → (w : World M) (n : ℕ) (x : NodeState M) (from : ℕ) (b : Body) (answer : Answer) → Fitting w → w.nodes n ≡ Some x → MsgOk w x.join.view from n b → LogsOnly M M.Fits (receiving.hears x from b w.log.held answer)
  hears_logs law w n x from (Ask q u) answer fi at ok = ask_logs law w n x from q u answer fi at ok
  hears_logs law w n x from (Granted r) answer fi at ok = nothing_logged M M.Fits _
  hears_logs law w n x from (Apply r) answer fi at ok = nothing_logged M M.Fits _
  hears_logs law w n x from (Applied k) answer fi at ok = nothing_logged M M.Fits _
  hears_logs law w n x from (Release q) answer fi at ok = nothing_logged M M.Fits _
  hears_logs law w n x from (Offer c cap last) answer fi at ok = nothing_logged M M.Fits _
  hears_logs law w n x from (Need offset) answer fi at ok = nothing_logged M M.Fits _
  hears_logs law w n x from (Piece total offset bytes) answer fi at ok = nothing_logged M M.Fits _
  hears_logs law w n x from Ready answer fi at ok = nothing_logged M M.Fits _
  hears_logs law w n x from OpenView answer fi at ok = nothing_logged M M.Fits _

  receive_logs : IsMachine M → (w : World M) (k : ℕ) (x : NodeState M) (p : Sent) (answer : Answer) → Invariant w → Fitting w → at_place w.pool k ≡ Some p → w.nodes p.to ≡ Some x → LogsOnly M M.Fits (receive x p w.log.held answer)
  receive_logs law w k x p answer j fi some at =
      if_cases (λ (d : Logged M). LogsOnly M M.Fits d) (receiving.counts x p) _ _
      (λ g. hears_logs law w p.to x p.from p.body answer fi at (counted_ok w p.to x p j at (j.pool (k - 1) p (at_get w.pool k p some)) refl g).2)
      (λ g. nothing_logged M M.Fits (nothing x))

  -- Worlds: a node moved, and its stamp is as before
  moves_fits : (w w' : World M) (n : ℕ) (x : NodeState M) (o : Option (NodeState M)) → Fitting w → w.nodes n ≡ Some x → w'.nodes ≡ put w.nodes n o → w'.requests ≡ w.requests → Fits M w'.log → ((y : NodeState M) → o ≡ Some y → y.stamp ≡ x.stamp) → Fitting w'
  moves_fits w w' n x o fi at nodes requests log same = record {
    log = log;
    updates = λ m i. subst (λ (f : ℕ → ℕ → List Update). AllByRecursion IsUpdate (f m i)) (sym requests) (fi.updates m i);
    stamps = λ m z e. some_put (λ (t : NodeState M). t.stamp < 2 ^ 64) w.nodes n o fi.stamps (λ y q. subst (λ (s : ℕ). s < 2 ^ 64) (sym (same y q)) (fi.stamps n x at)) m z ((λ i. sym nodes i m) ∙ e);
  }

  stays_fits : (w w' : World M) (n : ℕ) (x : NodeState M) (o : Option (NodeState M)) → Fitting w → w.nodes n ≡ Some x → w'.nodes ≡ put w.nodes n o → w'.requests ≡ w.requests → Fits M w'.log → StaysAt x o → Fitting w'
  stays_fits w w' n x o fi at nodes requests log s = moves_fits w w' n x o fi at nodes requests log (λ y q. (s y q).1)

  stops_fits : (w : World M) (n : ℕ) (log : Log) → Fitting w → Fits M log → Fitting (stopped n (with_log log w))
  stops_fits w n log fi fits = record { log = fits; updates = fi.updates; stamps = λ m z e. some_put (λ (t : NodeState M). t.stamp < 2 ^ 64) w.nodes n None fi.stamps (λ y q. absurd (cc)) m z e }

  keeps_fits : (w : World M) (n : ℕ) (x : NodeState M) (es : Out M) → Fitting w → w.nodes n ≡ Some x → StaysAt x es.node → Fitting (absorb n es w)
  keeps_fits w n x o fi at s = stays_fits w (absorb n o w) n x o.node fi at refl refl fi.log s

  submit_fits : (w : World M) (n : ℕ) (x : NodeState M) (u : Update) → IsUpdate u → Fitting w → w.nodes n ≡ Some x → Fitting (absorb n (submit x u) (noted n x u w))
  submit_fits w n x u valid fi at =
      if_cases (λ (v : World M). Fitting (absorb n (submit x u) v)) (may_submit x) _ _
      (λ g. record {
        log = fi.log;
        updates = λ m i. noted_valid m i;
        stamps = moved_.stamps;
      })
      (λ g. moved_)
    where
      moved_ : Fitting (absorb n (submit x u) w)
      moved_ = keeps_fits w n x (submit x u) fi at (submit_stays x u)

      noted_valid : (m i : ℕ) → AllByRecursion IsUpdate (put w.requests n (put (w.requests n) x.join.inc (w.requests n x.join.inc ++ u ∷ [])) m i)
      noted_valid m i =
          if_cases (λ (f : ℕ → List Update). AllByRecursion IsUpdate (f i)) (nat_eq m n) (put (w.requests n) x.join.inc (w.requests n x.join.inc ++ u ∷ [])) (w.requests m)
          (λ a. if_cases (λ (l : List Update). AllByRecursion IsUpdate l) (nat_eq i x.join.inc) (w.requests n x.join.inc ++ u ∷ []) (w.requests n i)
          (λ b. all_snoc IsUpdate (w.requests n x.join.inc) u (fi.updates n x.join.inc) valid)
          (λ b. fi.updates n i))
          (λ a. fi.updates m i)

  opens_fits : (w : World M) (n : ℕ) (x : NodeState M) (v : View) (opening : Opening) → Fitting w → w.nodes n ≡ Some x → takes_view x v ≡ true → Fitting (elim opening [
    | Recovered found ↦ absorb n (recovers (entered v x) w.log.cap (found_log found w.log).order) (with_log (claimed v.number (found_log found w.log)) w)
    | Refused raised cause ↦ absorb n (halts cause) (with_log (raise raised v.number w.log) w)
  ])
  opens_fits w n x v (Recovered found) fi at g =
      let f : FittingLog M (found_log found w.log).cap (found_log found w.log).order (found_log found w.log).doubtful = found_fits M w.log found fi.log in
      let up : x.join.view.number < v.number = lt_true x.join.view.number v.number (and_true (nat_lt x.join.view.number v.number) (is_member v.members x.join.node x.join.inc) g).0 in
      let ready = recovers_ready (taken_view v x) w.log.cap (found_log found w.log).order (λ e. absurd (omega arith)) refl in
      subst (λ (y : NodeState M). Fitting (absorb n (recovers y w.log.cap (found_log found w.log).order) (with_log (claimed v.number (found_log found w.log)) w))) (sym (entered_is x v g))
      (moves_fits w (absorb n (recovers (taken_view v x) w.log.cap (found_log found w.log).order) (with_log (claimed v.number (found_log found w.log)) w)) n x (recovers (taken_view v x) w.log.cap (found_log found w.log).order).node fi at refl refl
      (record { is_cap = f.is_cap; records = f.records; doubt = f.doubt })
      (λ y q. (ready y q).1))
  opens_fits w n x v (Refused raised cause) fi at g = moves_fits w (absorb n (halts cause) (with_log (raise raised v.number w.log) w)) n x None fi at refl refl (raise_fits M w.log raised v.number fi.log) (λ y q. absurd (cc))

  install_fits : (w : World M) (n : ℕ) (x : NodeState M) (v : View) (opening : Opening) → Fitting w → w.nodes n ≡ Some x → Fitting (install w n x v opening)
  install_fits w n x v opening fi at =
      let P : World M → Type 0 = λ u. Fitting u in
      if_cases P (takes_view x v) _ _
      (λ g. if_cases P (is_locker v.members x.join.node) _ _
      (λ lk. if_cases P (nat_lt v.number w.log.held) _ _
      (λ f. moves_fits w (absorb n (halts (halt.Fenced w.log.held)) w) n x None fi at refl refl fi.log (λ y q. absurd (cc)))
      (λ f. opens_fits w n x v opening fi at g))
      (λ lk. moves_fits w (absorb n (nothing (entered v x)) w) n x (Some (entered v x)) fi at refl refl fi.log (λ y q. let e : entered v x ≡ y = cc in ap (λ (t : NodeState M). t.stamp) (sym e))))
      (λ g. fi)

  clock_fits : (w : World M) (n : ℕ) (x : NodeState M) (stamp : ℕ) → Fitting w → stamp < 2 ^ 64 → Fitting (absorb n (clock x stamp) w)
  clock_fits w n x stamp fi low = record {
    log = fi.log;
    updates = fi.updates;
    stamps = some_put (λ (t : NodeState M). t.stamp < 2 ^ 64) w.nodes n (Some (record x { stamp = stamp })) fi.stamps (λ y q. let e : record x { stamp = stamp } ≡ y = cc in subst (λ (t : NodeState M). t.stamp < 2 ^ 64) e low);
  }

  start_fits : (w : World M) (n : ℕ) → Fitting w → Fitting (started_world w n)
  start_fits w n fi = record {
    log = fi.log;
    updates = fi.updates;
    stamps = some_put (λ (t : NodeState M). t.stamp < 2 ^ 64) w.nodes n (Some (fresh M n (w.starts n + 1))) fi.stamps (λ y q. let e : fresh M n (w.starts n + 1) ≡ y = cc in subst (λ (t : NodeState M). t.stamp < 2 ^ 64) e (omega arith));
  }

  same_fits : (x : NodeState M) → StaysAt x (Some x)
  same_fits x = stays_same x x refl refl

  pub happens_fits : IsMachine M → (w : World M) (e : Event) → Invariant w → Fitting w → Fitting (happens w e)
  happens_fits law w (Start n) j fi = option_cases (λ (u : World M). Fitting u) (w.nodes n) (started_world w n) (λ x. w) (λ none. start_fits w n fi) (λ x some. fi)
  happens_fits law w (Declare v) j fi = if_cases (λ (u : World M). Fitting u) (may_declare w v) _ _ (λ g. record { log = fi.log; updates = fi.updates; stamps = fi.stamps }) (λ g. fi)
  happens_fits law w (Install n v opening) j fi = at_keeps (λ (u : World M). Fitting u) w n (λ x. elim (view_in w.chain v) [ None ↦ w | Some u ↦ install w n x u opening ]) fi
      (λ x at. option_cases (λ (u : World M). Fitting u) (view_in w.chain v) w (λ u. install w n x u opening) (λ none. fi) (λ u some. install_fits w n x u opening fi at))
  happens_fits law w (Deliver k answer) j fi = option_cases (λ (u : World M). Fitting u) (at_place w.pool k) w (λ p. deliver w p answer) (λ none. fi)
      (λ p some. option_cases (λ (u : World M). Fitting u) (w.nodes p.to) w (λ x. absorb p.to (receive x p w.log.held answer).out (logs (number_of x) (receive x p w.log.held answer) w)) (λ none. fi)
      (λ x at.
      let d : Logged M = receive x p w.log.held answer in
      let l = receive_logs law w k x p answer j fi some at in
      stays_fits w (absorb p.to d.out (logs (number_of x) d w)) p.to x d.out.node fi at refl refl
      (leave_fits M (append d.appended (number_of x) w.log) d.doubtful (number_of x) (append_fits M w.log d.appended (number_of x) fi.log l.appended) l.doubtful)
      (receive_stays x p w.log.held answer)))
  happens_fits law w (Submit n u valid) j fi = at_keeps (λ (v : World M). Fitting v) w n (λ x. absorb n (submit x u) (noted n x u w)) fi (λ x at. submit_fits w n x u valid fi at)
  happens_fits law w (Read n) j fi = at_keeps (λ (v : World M). Fitting v) w n (λ x. if joining.is_open x.join then absorb n (nothing x) (reads n x w) else w) fi
      (λ x at. if_cases (λ (v : World M). Fitting v) (joining.is_open x.join) _ _ (λ op. stays_fits w (absorb n (nothing x) (reads n x w)) n x (Some x) fi at refl refl fi.log (same_fits x)) (λ op. fi))
  happens_fits law w (Tick n) j fi = at_keeps (λ (v : World M). Fitting v) w n (λ x. absorb n (tick x) w) fi (λ x at. keeps_fits w n x (tick x) fi at (same_fits x))
  happens_fits law w (Clock n stamp) j fi = if_cases (λ (v : World M). Fitting v) (nat_lt stamp (2 ^ 64)) _ _ (λ g. at_keeps (λ (v : World M). Fitting v) w n (λ x. absorb n (clock x stamp) w) fi (λ x at. clock_fits w n x stamp fi (lt_true stamp (2 ^ 64) g))) (λ g. fi)
  happens_fits law w (Checkpoint n good) j fi = at_keeps (λ (v : World M). Fitting v) w n (λ x. absorb n (checkpoint x w.log.held good) w) fi (λ x at. keeps_fits w n x (checkpoint x w.log.held good) fi at (checkpoint_stays x w.log.held good))
  happens_fits law w (Die n) j fi = stops_fits w n w.log fi fi.log
  happens_fits law w (DieInDeliver k answer) j fi = option_cases (λ (u : World M). Fitting u) (at_place w.pool k) w (λ p. die_in_deliver w p answer) (λ none. fi)
      (λ p some. option_cases (λ (u : World M). Fitting u) (w.nodes p.to) w (λ x. stopped p.to (with_log (leave (written (receive x p w.log.held answer)) (number_of x) w.log) w)) (λ none. fi)
      (λ x at. stops_fits w p.to (leave (written (receive x p w.log.held answer)) (number_of x) w.log) fi
      (leave_fits M w.log (written (receive x p w.log.held answer)) (number_of x) fi.log (written_only M M.Fits (receive x p w.log.held answer) (receive_logs law w k x p answer j fi some at)))))
  happens_fits law w (DieInInstall n v raised) j fi = at_keeps (λ (u : World M). Fitting u) w n (λ x. elim (view_in w.chain v) [ None ↦ w | Some u ↦ die_in_install w n x u raised ]) fi
      (λ x at. option_cases (λ (u : World M). Fitting u) (view_in w.chain v) w (λ u. die_in_install w n x u raised) (λ none. fi) (λ u some. stops_fits w n (raise (opens_log w x u && raised) u.number w.log) fi (raise_fits M w.log (opens_log w x u && raised) u.number fi.log)))

pub opening_fits : (M : Machine) (cap : ℕ) → M.IsCap cap → Fitting (opening M cap)
opening_fits M cap is_cap = record { log = record { is_cap = is_cap; records = tt; doubt = λ r e. absurd (cc) }; updates = λ n i. tt; stamps = λ n x e. absurd (cc) }
