-- The rule for an Ask, whole.
use Rattle.std.proofs.Common.{◌≡◌, ℕ, ◌+◌, ◌<◌, ◌≤◌, true, List, [], ◌∷◌, ◌++◌, length, Some, None, nat_lt, refl, sym, ap, ◌∙◌, subst, arith}
use Rattle.gum_messages.specs.Members.{inc_of, is_locker, locker_of}
use Rattle.gum_messages.specs.Places.{at_place}
use Rattle.gum_messages.proofs.Branches.{if_cases, option_cases}
use Rattle.update_records.specs.Entry.{Entry}
use Rattle.update_records.specs.declared.update.Update.{Update}
use Rattle.gum_core.specs.declared.lock.Lock.{Lock}
use Rattle.gum_core.specs.declared.decision.Decision.{Decision}
use Rattle.gum_core.specs.Updating.{CoreState, greatest_of}
use Rattle.gum_core.specs.Updating as updating
use Rattle.view_reconcile.specs.Joining.{ReconcileState}
use Rattle.view_reconcile.specs.Joining as joining
use Rattle.cluster_rules.specs.declared.effect.HaltCause.TheVariants as halt
use Rattle.cluster_rules.specs.Machines.{Machine}
use Rattle.gum_messages.specs.declared.body.Body.TheVariants.{Ask, Granted}
use Rattle.cluster_rules.specs.declared.effect.Effect.{Effect}
use Rattle.cluster_rules.specs.declared.effect.Effect.TheVariants.{Send}
use Rattle.cluster_rules.specs.Nodes.{NodeState, Out, Replica, done_of, halts, nothing, number_of, packet, tells}
use Rattle.cluster_rules.specs.Updates.{Answer, InDoubt, Logged, Unwritten, Written, answers, entry_for, has_logged, on_ask, unlogged}
use Rattle.cluster_rules.specs.Worlds.{Log, World, append, leave, logs, put, stopped, with_log, written}
use Rattle.cluster_laws.proofs.History.{absorbed}
use Rattle.cluster_laws.proofs.Inv.{Invariant, MsgOk, NodeOk, Pooled, Reached}
use Rattle.cluster_laws.proofs.Moves.{moved, reached_self, stay_keeps, stay_sends, told}
use Rattle.cluster_laws.proofs.Applying.{done_at, locker_is, lt_false, state_of}
use Rattle.gum_core.proofs.Cases.{asked_cases}
use Rattle.cluster_laws.proofs.HeadRules.{open_is_ready}
use Rattle.cluster_laws.proofs.Growth.{plus}
use Rattle.cluster_laws.proofs.Appending.{Fresh, append_keeps}
use Rattle.cluster_laws.proofs.Stopping.{fail_keeps, halt_keeps, stop_keeps}

pub appended_log : (l : Log) (r : Entry) (v : ℕ) → l.doubtful ≡ None → plus l r v ≡ append (Some r) v l
appended_log l r v e = λ i. record l { order = l.order ++ r ∷ []; view_at = put l.view_at (length l.order + 1) v; doubtful = sym e i }

module _ {M : Machine} where
  -- the core's locker is the view's
  pub core_locks : (w : World M) (n : ℕ) (x : NodeState M) → NodeOk w n x → updating.locks x.core ≡ joining.locks x.join
  core_locks w n x h = λ i. is_locker (h.local.core_members i) ((h.local.core_node ∙ sym h.local.node) i)

  -- an open locker that isn't fenced, and a request that it hasn't logged
  pub ask_fresh : (w : World M) (n : ℕ) (x : NodeState M) (from q : ℕ) (u : Update) → Invariant w → w.nodes n ≡ Some x → joining.is_open x.join ≡ true → joining.locks x.join ≡ true → x.core.lock ≡ None → greatest_of x.core from < q → w.log.held ≤ x.join.view.number → 0 < inc_of x.join.view.members from → MsgOk w x.join.view from n (Ask q u)
      → (s : Replica M) × Fresh w n x s (entry_for x from q u)
  ask_fresh w n x from q u j at op lk free next held pos ok =
      let h : NodeOk w n x = j.nodes n x at in
      let rd : joining.is_ready x.join ≡ true = open_is_ready x.join op in
      let st = h.prefix.ready_state rd in
      let s = state_of x st.0 in
      let c = j.log.counts x.join.view.number st.1 st.2 in (
        s.0,
        record {
          owner = record { runs = at; ready = rd; locker = lk; held = omega (arith, c.1) };
          state = s.1;
          open_ = op;
          free = free;
          place = ap (λ (k : ℕ). k + 1) (done_at x s.0 s.1);
          inc = refl;
          member = pos;
          next = next;
          asked = ok.3;
          requested = ok.4;
          count = ok.0;
          counted = ok.1;
          new = ok.2;
        },
      )

  -- the record of the lock's holder goes to it again
  pub granted_ok : (w : World M) (n : ℕ) (x : NodeState M) (l : Lock) (e : Entry) (es : List Effect) → Invariant w → w.nodes n ≡ Some x → x.core.lock ≡ Some l → x.last ≡ Some e → Pooled (moved w n x es) (packet x l.node (Granted e))
  granted_ok w n x l e es j at lk la =
      let h : NodeOk w n x = j.nodes n x at in
      let t = h.lock l lk in
      let rd : joining.is_ready x.join ≡ true = open_is_ready x.join t.0 in
      let s = state_of x (h.prefix.ready_state rd).0 in
      let q : Some t.2 ≡ Some e = sym t.3 ∙ ap (at_place w.log.order) (done_at x s.0 s.1) ∙ sym (h.prefix.last s.0 s.1) ∙ la in
      let same : t.2 ≡ e = cc in
      let pl : t.2.place ≡ done_of x = j.log.places (done_of x) t.2 t.3 in
      let me : locker_of x.join.view.members ≡ n = locker_is x.join.view.members x.join.node t.1 ∙ h.local.node in
      let rc : Reached (moved w n x es) n (inc_of x.join.view.members n) t.2.place = reached_self w n x es (inc_of x.join.view.members n) t.2.place (omega (arith, h.inc, (h.view (h.local.ready_view rd)).1)) (omega (arith, pl)) in
      told w n x x es l.node (Granted e) h (h.local.ready_view rd) refl refl (subst (λ (e : Entry). MsgOk (moved w n x es) x.join.view n l.node (Granted e)) same
      (record { at = t.4.at; view = t.4.view }, t.5, t.6, subst (λ (k : ℕ). Reached (moved w n x es) k (inc_of x.join.view.members k) t.2.place) (sym me) rc))

  abbrev pub Keeps : World M → ℕ → NodeState M → Logged M → Type 0
  Keeps w n x d = Invariant (absorbed n d.out (logs x.join.view.number d w))

  abbrev pub Dies : World M → ℕ → NodeState M → Logged M → Type 0
  Dies w n x d = Invariant (stopped n (with_log (leave (written d) x.join.view.number w.log) w))

  answer_keeps : (w : World M) (n : ℕ) (x : NodeState M) (s : Replica M) (e : Entry) (answer : Answer) → Invariant w → Fresh w n x s e → Keeps w n x (elim answer [
    | Written ↦ record { out = tells (has_logged x e) e.id.node (Granted e); appended = Some e; doubtful = None }
    | InDoubt ↦ record { out = halts halt.Disk; appended = None; doubtful = Some e }
    | Unwritten ↦ unlogged (halts halt.Disk)
  ])
  answer_keeps w n x s e Written j f = subst (λ (l : Log). Invariant (absorbed n (tells (has_logged x e) e.id.node (Granted e)) (with_log l w))) (appended_log w.log e x.join.view.number (j.owner n x f.owner).sure) (append_keeps w n x s e j f)
  answer_keeps w n x s e InDoubt j f = halt_keeps (with_log (record w.log { doubtful = Some e; doubtful_view = x.join.view.number }) w) n (fail_keeps w n x s e j f)
  answer_keeps w n x s e Unwritten j f = halt_keeps w n (stop_keeps w n j)

  answer_dies : (w : World M) (n : ℕ) (x : NodeState M) (s : Replica M) (e : Entry) (answer : Answer) → Invariant w → Fresh w n x s e → Dies w n x (elim answer [
    | Written ↦ record { out = tells (has_logged x e) e.id.node (Granted e); appended = Some e; doubtful = None }
    | InDoubt ↦ record { out = halts halt.Disk; appended = None; doubtful = Some e }
    | Unwritten ↦ unlogged (halts halt.Disk)
  ])
  answer_dies w n x s e Written j f = fail_keeps w n x s e j f
  answer_dies w n x s e InDoubt j f = fail_keeps w n x s e j f
  answer_dies w n x s e Unwritten j f = stop_keeps w n j

  pub on_ask_keeps : (w : World M) (n : ℕ) (x : NodeState M) (from q : ℕ) (u : Update) (answer : Answer) → Invariant w → w.nodes n ≡ Some x → 0 < inc_of x.join.view.members from → MsgOk w x.join.view from n (Ask q u) → Keeps w n x (on_ask x from q u w.log.held answer)
  on_ask_keeps w n x from q u answer j at pos ok =
      let h : NodeOk w n x = j.nodes n x at in
      asked_cases (λ (d : Decision). Keeps w n x (answers x u w.log.held answer d)) x.core from q (done_of x)
      (stay_keeps w n x j at)
      (λ op lk free next low. if_cases (λ (d : Logged M). Keeps w n x d) (nat_lt (number_of x) w.log.held) _ _
      (λ g. halt_keeps w n (stop_keeps w n j))
      (λ g.
      let f = ask_fresh w n x from q u j at (sym h.local.core_open ∙ op) (sym (core_locks w n x h) ∙ lk) free next (lt_false x.join.view.number w.log.held g) pos ok in
      answer_keeps w n x f.0 (entry_for x from q u) answer j f.1))
      (λ op lk l held ln lq. option_cases (λ (o : Out M). Keeps w n x (unlogged o)) x.last (nothing x) (λ e. tells x from (Granted e))
      (λ none. stay_keeps w n x j at)
      (λ e some. subst (λ (to : ℕ). Invariant (absorbed n (tells x to (Granted e)) w)) ln (stay_sends w n x l.node (Granted e) j at (granted_ok w n x l e (Send (packet x l.node (Granted e)) ∷ []) j at held some))))

  -- a death inside it
  pub ask_dies : (w : World M) (n : ℕ) (x : NodeState M) (from q : ℕ) (u : Update) (answer : Answer) → Invariant w → w.nodes n ≡ Some x → 0 < inc_of x.join.view.members from → MsgOk w x.join.view from n (Ask q u) → Dies w n x (on_ask x from q u w.log.held answer)
  ask_dies w n x from q u answer j at pos ok =
      let h : NodeOk w n x = j.nodes n x at in
      asked_cases (λ (d : Decision). Dies w n x (answers x u w.log.held answer d)) x.core from q (done_of x)
      (stop_keeps w n j)
      (λ op lk free next low. if_cases (λ (d : Logged M). Dies w n x d) (nat_lt (number_of x) w.log.held) _ _
      (λ g. stop_keeps w n j)
      (λ g.
      let f = ask_fresh w n x from q u j at (sym h.local.core_open ∙ op) (sym (core_locks w n x h) ∙ lk) free next (lt_false x.join.view.number w.log.held g) pos ok in
      answer_dies w n x f.0 (entry_for x from q u) answer j f.1))
      (λ op lk l held ln lq. stop_keeps w n j)
