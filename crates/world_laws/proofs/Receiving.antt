-- A message comes.
use Rattle.std.proofs.Common.{◌≡◌, ◌≢◌, ⊎_elim, inl, inr, ℕ, ◌<◌, ◌≤◌, Bool, true, false, List, [], ◌∷◌, ◌++◌, length, Option, Some, None, nat_lt, Result, Ok, Err, OnOk, refl, sym, ap, ◌∙◌, subst, arith}
use Rattle.std.specs.List.{AllByRecursion}
use Rattle.update_records.specs.Entry.{Entry, IsRecord, record_text}
use Rattle.gum_messages.specs.Messages.{Sent}
use Rattle.gum_messages.specs.Places.{at_place}
use Rattle.view_reconcile.specs.Joining as joining
use Rattle.disk_core.specs.Crashes.{Crashed}
use Rattle.disk_core.specs.Views.{DiskView}
use Rattle.quorum_log.specs.Logs.{LogValue}
use Rattle.cluster_rules.specs.Joins.{last_of}
use Rattle.gum_messages.specs.declared.body.Body.TheVariants.{Granted}
use Rattle.cluster_rules.specs.declared.effect.HaltCause.{HaltCause}
use Rattle.cluster_rules.specs.declared.effect.HaltCause.TheVariants as halt
use Rattle.cluster_rules.specs.Nodes.{NodeState, Out, halts, number_of, tells}
use Rattle.cluster_rules.specs.Updates.{Answer, InDoubt, Logged, Unwritten, Written, has_logged, unlogged, writes}
use Rattle.cluster_rules.specs.Receiving.{receive}
use Rattle.cluster_rules.specs.Worlds.{Deliver, DieInDeliver, Log, World, absorb, acked, append, deliver, die_in_deliver, happens, leave, logs, put, sent, stopped, with_log, written}
use Rattle.cluster_laws.proofs.Applying.{done_at, lt_false, lt_true, state_of}
use Rattle.cluster_laws.proofs.Asking.{core_locks}
use Rattle.cluster_laws.proofs.HeadRules.{open_is_ready}
use Rattle.cluster_laws.proofs.Inv.{NodeOk, Owner, OwnerOk}
use Rattle.cluster_laws.proofs.Lockers.{StaysAt, receive_stays}
use Rattle.registry_machine.specs.Machine.{registry_machine}
use Rattle.log_order.specs.OrderLaws.{IsNext, state_text}
use Rattle.log_order.specs.Orders.{last_text}
use Rattle.log_order.specs.Refinement.{Owns, Refines}
use Rattle.log_order.proofs.Crashes.{crashed_refines}
use Rattle.single_rules.specs.Logging.{to_log}
use Rattle.record_log.specs.declared.fault.AddFault.{AddFault}
use Rattle.record_log.specs.declared.fault.AddFault.TheVariants as add
use Rattle.record_log.specs.Adding.{Adds, is_due}
use Rattle.cluster_member.specs.declared.stop.Stop.{Stop}
use Rattle.cluster_member.specs.declared.stop.Stop.TheVariants as stop
use Rattle.cluster_member.specs.Events.{Comes, Receives}
use Rattle.cluster_member.specs.Logging.{Logs, answer_of, answer_to, last_bytes, log_after, log_left, state_bytes}
use Rattle.cluster_member.specs.States.{MemberState}
use Rattle.member_rules.specs.declared.told.Told.{Told}
use Rattle.world_laws.proofs.Births.{Born, absorb_born}
use Rattle.world_laws.proofs.Coming.{Grows, Sufficed, WentOn, comes_left, halted, kept_ok, left, left_keeps, left_ok, no_memory, own_left, own_none, went_on}
use Rattle.world_laws.proofs.Coming as coming
use Rattle.world_laws.proofs.Deciding.{LogsNone, logs_open, receive_decides}
use Rattle.world_laws.proofs.Quiet.{node_at, others_apart, quiet_ties, same_now}
use Rattle.world_laws.proofs.Records.{Bounded, Good, all_records, good_keeps, next_is}
use Rattle.world_laws.proofs.Crashing.{dies}
use Rattle.world_laws.proofs.Refusing.{Stands, adds_refused, stands_here, stands_now}
use Rattle.world_laws.proofs.Tied.{Abstracts, Bare, IsLogOfView, Leaves, absorb_ties, left_at, moved, none_own, rules_in, same_logs, stop_ties}
use Rattle.world_laws.proofs.Writing.{Added, adds, state_is}

-- ---- the worlds that a delivery leads to

abbrev pub delivered : World registry_machine → Sent → NodeState registry_machine → Answer → World registry_machine
delivered w p x answer = absorb p.to (receive x p w.log.held answer).out (logs (number_of x) (receive x p w.log.held answer) w)

pub deliver_is : (w : World registry_machine) (k : ℕ) (p : Sent) (x : NodeState registry_machine) (answer : Answer) → at_place w.pool k ≡ Some p → w.nodes p.to ≡ Some x
    → happens w (Deliver k answer) ≡ delivered w p x answer
deliver_is w k p x answer at there =
    ap (λ (o : Option Sent). elim o [ None ↦ w | Some q ↦ deliver w q answer ]) at
    ∙ ap (λ (o : Option (NodeState registry_machine)). elim o [ None ↦ w | Some x ↦ absorb p.to (receive x p w.log.held answer).out (logs (number_of x) (receive x p w.log.held answer) w) ]) there

-- ---- a locker that logs

-- What is known of a node that adds a record to its log.
pub record Logger (w : World registry_machine) (n : ℕ) (x : NodeState registry_machine) : Type 0 where
  pub ready : joining.is_ready x.join ≡ true
  pub locks : joining.locks x.join ≡ true
  pub least : number_of x ≤ w.log.held

pub logger : (w : World registry_machine) (n : ℕ) (x : NodeState registry_machine) → Good w → w.nodes n ≡ Some x → joining.is_open x.join ≡ true → joining.locks x.join ≡ true → Logger w n x
logger w n x g at opened locks =
    let h : NodeOk w n x = g.holds.invariant.nodes n x at in
    let ready = open_is_ready x.join opened in
    let st = h.prefix.ready_state ready in
    record { ready = ready; locks = locks; least = (g.holds.invariant.log.counts x.join.view.number st.1 st.2).1 }

-- It owns the log where its view is the one that claimed it last.
pub record OwnerNow (w : World registry_machine) (n : ℕ) (m : MemberState) : Type 0 where
  pub owner : Owner w n m.rules
  pub ok : OwnerOk w n m.rules
  pub state : state_bytes m ≡ state_text w.log.cap w.log.order
  pub last : last_bytes m ≡ last_text (last_of w.log.order)
  pub records : AllByRecursion IsRecord w.log.order

pub owner_now : (w : World registry_machine) (n : ℕ) (m : MemberState) → Good w → Bounded w.chain → w.nodes n ≡ Some m.rules → Logger w n m.rules → number_of m.rules ≡ w.log.held → OwnerNow w n m
owner_now w n m g b at l held =
    let x = m.rules in
    let owner : Owner w n x = record { runs = at; ready = l.ready; locker = l.locks; held = held } in
    let ok : OwnerOk w n x = g.holds.invariant.owner n x owner in
    let h : NodeOk w n x = g.holds.invariant.nodes n x at in
    let all = all_records w g b in
    let s = state_of x (h.prefix.ready_state l.ready).0 in
    let done : s.0.done ≡ length w.log.order = sym (done_at x s.0 s.1) ∙ ok.all_done in
    record {
      owner = owner;
      ok = ok;
      state = state_is w.log.cap w.log.order x.replica s.0 s.1 (h.prefix.registry s.0 s.1) done g.holds.fitting.log.is_cap all;
      last = ap last_text (h.prefix.last s.0 s.1 ∙ ap (at_place w.log.order) done);
      records = all;
    }

pub due_version : (old : LogValue) (count : ℕ) → is_due old count ≡ false → old.version ≡ 2
due_version old count e = grind arith

writes_fenced : (x : NodeState registry_machine) (e : Entry) (held : ℕ) (answer : Answer) → nat_lt (number_of x) held ≡ true → writes x e held answer ≡ unlogged (halts (halt.Fenced held))
writes_fenced x e held answer low = rw low refl

-- what an answer makes of a record at the owner of the log
abbrev answered : NodeState registry_machine → Entry → Answer → Logged registry_machine
answered x e answer = elim answer [
  | Written ↦ record { out = tells (has_logged x e) e.id.node (Granted e); appended = Some e; doubtful = None }
  | InDoubt ↦ record { out = halts halt.Disk; appended = None; doubtful = Some e }
  | Unwritten ↦ unlogged (halts halt.Disk)
]

writes_owned : (x : NodeState registry_machine) (e : Entry) (held : ℕ) (answer : Answer) → nat_lt (number_of x) held ≡ false → writes x e held answer ≡ answered x e answer
writes_owned x e held answer high = rw high refl

at_self : {A : Type 0} (f : ℕ → Option A) (n : ℕ) (o : Option A) → put f n o n ≡ o
at_self f n o = grind arith

module _ (cap : ℕ) (b : Bare) (w : World registry_machine) (k : ℕ) (p : Sent) (m : MemberState) (a : Abstracts cap b w) (g : Good w) (bd : Bounded w.chain) (at : at_place w.pool k ≡ Some p) (there : b.members p.to ≡ Some m) where
  node_is : w.nodes p.to ≡ Some m.rules
  node_is = node_at cap b w p.to m a there

  -- what a delivery comes to
  abbrev pub behind : Logged registry_machine → World registry_machine
  behind d = absorb p.to d.out (logs (number_of m.rules) d w)

  pub is_behind : (answer : Answer) → happens w (Deliver k answer) ≡ behind (receive m.rules p w.log.held answer)
  is_behind answer = deliver_is w k p m.rules answer at node_is

  pub record Came (came : Result Told Stop) (y : MemberState) (d : DiskView) : Type 0 where
    pub answer : Answer
    pub ties : Abstracts cap (moved b p.to (left came y) (coming.tells came) (happens w (Deliver k answer)).log.order d) (happens w (Deliver k answer))
    pub grows : Grows b.order (happens w (Deliver k answer)).log.order (left came y)

  -- the same of the world that it leads to
  came_to : (came : Result Told Stop) (y : MemberState) (d : DiskView) (answer : Answer) (r : Logged registry_machine) → receive m.rules p w.log.held answer ≡ r
      → Abstracts cap (moved b p.to (left came y) (coming.tells came) (behind r).log.order d) (behind r) → Grows b.order (behind r).log.order (left came y) → Came came y d
  came_to came y d answer r is ties grows =
      let whole : happens w (Deliver k answer) ≡ behind r = is_behind answer ∙ ap (λ (l : Logged registry_machine). behind l) is in
      record {
        answer = answer;
        ties = subst (λ (u : World registry_machine). Abstracts cap (moved b p.to (left came y) (coming.tells came) u.log.order d) u) (sym whole) ties;
        grows = subst (λ (u : World registry_machine). Grows b.order u.log.order (left came y)) (sym whole) grows;
      }

  -- the log and the order are as before
  came_quiet : (came : Result Told Stop) (y : MemberState) (d : DiskView) (answer : Answer) (r : Logged registry_machine) → receive m.rules p w.log.held answer ≡ r
      → Abstracts cap (moved b p.to (left came y) (coming.tells came) b.order d) (behind r) → Came came y d
  came_quiet came y d answer r is ties =
      came_to came y d answer r is (subst (λ (order : List Entry). Abstracts cap (moved b p.to (left came y) (coming.tells came) order d) (behind r)) (sym ties.order) ties) (inl ties.order)

  -- ---- nothing is logged

  silent : (came : Result Told Stop) (y : MemberState) (d : DiskView) → LogsNone (to_log m.rules p) (receive m.rules p w.log.held Written) → d ≡ b.disk
      → Comes (receive m.rules p w.log.held Written).out came y.rules → OnOk came (y.log ≡ m.log) → Sufficed came → Came came y d
  silent came y d none same comes kept s =
      let r = receive m.rules p w.log.held Written in
      let c = comes_left r.out came y s comes in
      let log : (logs (number_of m.rules) r w).log ≡ w.log = λ i. leave (none.doubtful i) (number_of m.rules) (append (none.appended i) (number_of m.rules) w.log) in
      let stays : StaysAt m.rules (rules_in (left came y)) = subst (λ (o : Option (NodeState registry_machine)). StaysAt m.rules o) c.0 (receive_stays m.rules p w.log.held Written) in
      came_quiet came y d Written r refl
      (quiet_ties cap b w (logs (number_of m.rules) r w) p.to (left came y) r.out (coming.tells came) d a (same_logs (logs (number_of m.rules) r w).log w) log (same_now b.disk d same) (left_keeps b p.to m y came there stays kept) c.0 (ap sent c.1) (ap acked c.1))

  -- ---- a record is to be logged

  module _ (e : Entry) (old : LogValue) (logged : to_log m.rules p ≡ Some e) (had : m.log ≡ Some old) where
    writes_as : (answer : Answer) → receive m.rules p w.log.held answer ≡ writes m.rules e w.log.held answer
    writes_as answer = ⊎_elim
        (λ (n : LogsNone (to_log m.rules p) (receive m.rules p w.log.held answer)). absurd (no_entry n.entry_is))
        (λ (o : (f : Entry) × (to_log m.rules p ≡ Some f) × (receive m.rules p w.log.held answer ≡ writes m.rules f w.log.held answer)).
        o.2 ∙ ap (λ (f : Entry). writes m.rules f w.log.held answer) (same o.0 o.1))
        (receive_decides m.rules p w.log.held answer)
      where
        no_entry : to_log m.rules p ≡ None → ⊥
        no_entry none = cc (none, logged)

        same : (f : Entry) → to_log m.rules p ≡ Some f → f ≡ e
        same f is = cc (is, logged)

    is_logger : Logger w p.to m.rules
    is_logger =
        let h : NodeOk w p.to m.rules = g.holds.invariant.nodes p.to m.rules node_is in
        let o = logs_open m.rules p e logged in
        logger w p.to m.rules g node_is (sym h.local.core_open ∙ o.0) (sym (core_locks w p.to m.rules h) ∙ o.1)

    log_is : IsLogOfView m old
    log_is = a.logs p.to m old there had

    apart_at : (l : Log) (d : DiskView) → number_of m.rules ≡ l.held → (j : ℕ) (z : MemberState) (log : LogValue) → j ≢ p.to → b.members j ≡ Some z → z.log ≡ Some log → number_of z.rules ≡ l.held → Owns l d log
    apart_at l d held = others_apart cap b w p.to m.rules l d a g.holds.invariant node_is is_logger.locks log_is.numbered held

    -- a greater view has claimed the log
    fenced : (came : Result Told Stop) (y : MemberState) (d : DiskView) (added : Result LogValue AddFault) → nat_lt (number_of m.rules) w.log.held ≡ true
        → Adds (is_due old (length (record_text e))) old (state_bytes m) (last_bytes m) (record_text e) b.disk added d
        → Comes (receive m.rules p w.log.held (answer_of added)).out came y.rules → Sufficed came → Came came y d
    fenced came y d added low adds comes s =
        let r : Logged registry_machine = unlogged (halts (halt.Fenced w.log.held)) in
        let is : receive m.rules p w.log.held (answer_of added) ≡ r = writes_as (answer_of added) ∙ writes_fenced m.rules e w.log.held (answer_of added) low in
        let c = comes_left r.out came y s (subst (λ (l : Logged registry_machine). Comes l.out came y.rules) is comes) in
        let lt : old.claim < b.disk.current.held = let n = lt_true (number_of m.rules) w.log.held low in omega (arith, n, log_is.claim, a.refines.now.0) in
        let none = halted came y c.0 in
        let rf = adds_refused (is_due old (length (record_text e))) old (state_bytes m) (last_bytes m) (record_text e) b.disk d added a.refines.tells lt adds in
        came_quiet came y d (answer_of added) r is
        (quiet_ties cap b w (logs (number_of m.rules) r w) p.to (left came y) r.out (coming.tells came) d a (same_logs w.log w) refl (stands_now b.disk d rf.stands rf.tells) (λ z f. absurd (cc (none, f))) c.0 (ap sent c.1) (ap acked c.1))

    -- ---- the log is its own

    module _ (high : nat_lt (number_of m.rules) w.log.held ≡ false) where
      held_is : number_of m.rules ≡ w.log.held
      held_is = let n = lt_false (number_of m.rules) w.log.held high in omega (arith, n, is_logger.least)

      now : OwnerNow w p.to m
      now = owner_now w p.to m g bd node_is is_logger held_is

      owns : Owns w.log b.disk old
      owns = a.owns p.to m old there had held_is

      abbrev appends : Logged registry_machine
      appends = record { out = tells (has_logged m.rules e) e.id.node (Granted e); appended = Some e; doubtful = None }

      is_written : receive m.rules p w.log.held Written ≡ appends
      is_written = writes_as Written ∙ writes_owned m.rules e w.log.held Written high

      next : IsNext w.log.order e
      next =
          let whole : happens w (Deliver k Written) ≡ behind appends = is_behind Written ∙ ap (λ (l : Logged registry_machine). behind l) is_written in
          next_is w (happens w (Deliver k Written)) e (ap (λ (u : World registry_machine). u.log.order) whole) (good_keeps w (Deliver k Written) g)
          (subst (λ (u : World registry_machine). Bounded u.chain) (sym whole) bd)

      pub added_is : (d : DiskView) (added : Result LogValue AddFault) → Adds (is_due old (length (record_text e))) old (state_bytes m) (last_bytes m) (record_text e) b.disk added d
          → Added w.log e (number_of m.rules) old b.disk d added
      added_is d added is =
          adds (is_due old (length (record_text e))) w.log e (number_of m.rules) old b.disk d added a.refines owns now.records next (due_version old (length (record_text e)))
          (subst (λ (last : List ℕ). Adds (is_due old (length (record_text e))) old (state_text w.log.cap w.log.order) last (record_text e) b.disk added d) now.last
          (subst (λ (state : List ℕ). Adds (is_due old (length (record_text e))) old state (last_bytes m) (record_text e) b.disk added d) now.state is))

      good : (came : Result Told Stop) (y : MemberState) (d : DiskView) (new : LogValue) → Added w.log e (number_of m.rules) old b.disk d (Ok new)
          → Comes (receive m.rules p w.log.held Written).out came y.rules → OnOk came (y.log ≡ Some new) → Sufficed came → Came came y d
      good came y d new is comes kept s =
          let l : Log = append (Some e) (number_of m.rules) w.log in
          let c = comes_left appends.out came y s (subst (λ (l : Logged registry_machine). Comes l.out came y.rules) is_written comes) in
          let went = went_on came y (has_logged m.rules e) c.0 in
          let join : y.rules.join ≡ m.rules.join = ap (λ (x : NodeState registry_machine). x.join) went.rules in
          let number : number_of y.rules ≡ number_of m.rules = ap (λ (x : NodeState registry_machine). number_of x) went.rules in
          let w' : World registry_machine = behind appends in
          let leaves : Leaves b w p.to (left came y) l d = record {
            cap_is = refl;
            refines = is.comes.0;
            own = own_left came y l d (λ told log ok has.
                let q : new ≡ log = cc (has, kept_ok came told (y.log ≡ Some new) ok kept) in
                subst (λ (t : LogValue). IsLogOfView y t × (number_of y.rules ≡ l.held → Owns l d t)) q (
                  record { claim = is.comes.2 ∙ log_is.claim ∙ sym number; locks = ap (λ (x : NodeState registry_machine). joining.locks x.join) went.rules ∙ is_logger.locks; numbered = λ z. log_is.numbered (sym number ∙ z) },
                  λ held. is.comes.1,
                ));
            others = apart_at l d held_is;
          } in
          let good' : Good (happens w (Deliver k Written)) = good_keeps w (Deliver k Written) g in
          let there' : Good w' = subst (λ (u : World registry_machine). Good u) (is_behind Written ∙ ap (λ (l : Logged registry_machine). behind l) is_written) good' in
          let ties = absorb_ties cap b w (logs (number_of m.rules) appends w) p.to (left came y) appends.out (coming.tells came) l d a (same_logs l w) refl leaves c.0 (ap sent c.1) (ap acked c.1) in
          let here : w'.nodes p.to ≡ Some y.rules = ties.nodes p.to ∙ ap rules_in (at_self b.members p.to (left came y)) ∙ ap rules_in (left_ok came y went.told went.came_is) in
          let owner : Owner w' p.to y.rules = record {
            runs = here;
            ready = ap (λ (x : NodeState registry_machine). joining.is_ready x.join) went.rules ∙ is_logger.ready;
            locker = ap (λ (x : NodeState registry_machine). joining.locks x.join) went.rules ∙ is_logger.locks;
            held = number ∙ held_is;
          } in
          came_to came y d Written appends is_written ties
          (inr (e, y, ap (λ (order : List Entry). order ++ e ∷ []) a.order, left_ok came y went.told went.came_is, (there'.holds.invariant.owner p.to y.rules owner).all_done))

      fails : (came : Result Told Stop) (y : MemberState) (d : DiskView) (answer : Answer) (l : Log) (r : Logged registry_machine) (cause : HaltCause) → receive m.rules p w.log.held answer ≡ r → r.out ≡ halts cause
          → (logs (number_of m.rules) r w).log ≡ l → l.order ≡ w.log.order → l.cap ≡ w.log.cap → l.held ≡ w.log.held → Refines l d → Comes (receive m.rules p w.log.held answer).out came y.rules → Sufficed came → Came came y d
      fails came y d answer l r cause is out log order same_cap held refines comes s =
          let c = comes_left r.out came y s (subst (λ (l : Logged registry_machine). Comes l.out came y.rules) is comes) in
          let none : left came y ≡ None = halted came y (ap (λ (o : Out registry_machine). o.node) (sym out) ∙ c.0) in
          let leaves : Leaves b w p.to (left came y) l d = record { cap_is = same_cap; refines = refines; own = own_none (left came y) l d none; others = apart_at l d (held_is ∙ sym held) } in
          let ties = absorb_ties cap b w (logs (number_of m.rules) r w) p.to (left came y) r.out (coming.tells came) l d a (same_logs (logs (number_of m.rules) r w).log w) log leaves c.0 (ap sent c.1) (ap acked c.1) in
          came_quiet came y d answer r is (subst (λ (o : List Entry). Abstracts cap (moved b p.to (left came y) (coming.tells came) o d) (behind r)) (order ∙ a.order) ties)

      owned : (came : Result Told Stop) (y : MemberState) (d : DiskView) (added : Result LogValue AddFault) → Added w.log e (number_of m.rules) old b.disk d added
          → Comes (receive m.rules p w.log.held (answer_of added)).out came y.rules → (added ≡ Err add.Memory → came ≡ Err stop.Memory) → OnOk came (y.log ≡ log_after added) → Sufficed came → Came came y d
      owned came y d (Ok new) is comes memory kept s = good came y d new is comes kept s
      owned came y d (Err (add.Append fault)) is comes memory kept s =
          fails came y d InDoubt (leave (Some e) (number_of m.rules) w.log) (record { out = halts halt.Disk; appended = None; doubtful = Some e }) halt.Disk (writes_as InDoubt ∙ writes_owned m.rules e w.log.held InDoubt high) refl refl refl refl refl is.comes comes s
      owned came y d (Err (add.Checkpoint fault)) is comes memory kept s =
          fails came y d Unwritten w.log (unlogged (halts halt.Disk)) halt.Disk (writes_as Unwritten ∙ writes_owned m.rules e w.log.held Unwritten high) refl refl refl refl refl is.comes comes s
      owned came y d (Err add.Memory) is comes memory kept s = absurd (no_memory came s (memory refl))

    logs_one : (came : Result Told Stop) (y : MemberState) (d : DiskView) (added : Result LogValue AddFault) → Adds (is_due old (length (record_text e))) old (state_bytes m) (last_bytes m) (record_text e) b.disk added d
        → Comes (receive m.rules p w.log.held (answer_of added)).out came y.rules → (added ≡ Err add.Memory → came ≡ Err stop.Memory) → OnOk came (y.log ≡ log_after added) → Sufficed came → Came came y d
    logs_one came y d added is comes memory kept s = by (nat_lt (number_of m.rules) w.log.held) refl
      where
        by : (c : Bool) → nat_lt (number_of m.rules) w.log.held ≡ c → Came came y d
        by true low = fenced came y d added low is comes s
        by false high = owned high came y d added (added_is high d added is) comes memory kept s

  pub receives : (came : Result Told Stop) (y : MemberState) (d : DiskView) → Receives b.disk m p came y d → Sufficed came → Came came y d
  receives came y d r s =
      by (to_log m.rules p) r.added refl r.logs (subst (λ (held : ℕ). Comes (receive m.rules p held (answer_to r.added)).out came y.rules) a.refines.now.0 r.comes) r.memory r.kept
    where
      by : (o : Option Entry) (added : Option (Result LogValue AddFault)) → to_log m.rules p ≡ o → Logs o m b.disk added d → Comes (receive m.rules p w.log.held (answer_to added)).out came y.rules
          → (added ≡ Some (Err add.Memory) → came ≡ Err stop.Memory) → OnOk came (y.log ≡ log_left m.log added) → Came came y d
      by None None is logs comes memory kept = ⊎_elim
          (λ (n : LogsNone (to_log m.rules p) (receive m.rules p w.log.held Written)). silent came y d n logs comes kept s)
          (λ (l : (f : Entry) × (to_log m.rules p ≡ Some f) × (receive m.rules p w.log.held Written ≡ writes m.rules f w.log.held Written)). absurd (cc (is, l.1)))
          (receive_decides m.rules p w.log.held Written)
      by (Some e) (Some added) is logs comes memory kept = logs_one e logs.0 is logs.1 came y d added logs.2 comes (λ q. memory (ap (λ (x : Result LogValue AddFault). Some x) q)) kept s
      by None (Some added) is logs comes memory kept = absurd logs
      by (Some e) None is logs comes memory kept = absurd logs

  -- what is told of an acknowledged head, whatever the log answered
  pub receives_born : (came : Result Told Stop) (y : MemberState) (d : DiskView) → Receives b.disk m p came y d → Born came
  receives_born came y d r =
      let answer : Answer = answer_to r.added in
      let out : Out registry_machine = (receive m.rules p w.log.held answer).out in
      let comes : Comes out came y.rules = subst (λ (held : ℕ). Comes (receive m.rules p held answer).out came y.rules) a.refines.now.0 r.comes in
      absorb_born (logs (number_of m.rules) (receive m.rules p w.log.held answer) w) p.to m.rules out came y.rules node_is
      (subst (λ (u : World registry_machine). Good u) (is_behind answer) (good_keeps w (Deliver k answer) g)) comes

  -- ---- the node dies inside it

  -- the record of the delivery, where it had one
  abbrev pub dead : Option Entry → World registry_machine
  dead entry = stopped p.to (with_log (leave entry (number_of m.rules) w.log) w)

  dead_is : (entry : Option Entry) → written (receive m.rules p w.log.held Written) ≡ entry → happens w (DieInDeliver k Written) ≡ dead entry
  dead_is entry is =
      ap (λ (o : Option Sent). elim o [ None ↦ w | Some q ↦ die_in_deliver w q Written ]) at
      ∙ ap (λ (o : Option (NodeState registry_machine)). elim o [ None ↦ w | Some x ↦ stopped p.to (with_log (leave (written (receive x p w.log.held Written)) (number_of x) w.log) w) ]) node_is
      ∙ ap dead is

  dies_quiet : (d x : DiskView) (calls : ℕ) (bytes : List ℕ) → written (receive m.rules p w.log.held Written) ≡ None → Stands b.disk d → d.tells ≡ b.disk.tells → b.disk.past ≡ [] → Crashed d calls bytes x
      → Abstracts cap (left_at b p.to None b.order x) (happens w (DieInDeliver k Written))
  dies_quiet d x calls bytes none stands tells past crashed =
      subst (λ (u : World registry_machine). Abstracts cap (left_at b p.to None b.order x) u) (sym (dead_is None none)) (dies cap b w p.to d x calls bytes a stands tells past crashed)

  none_written : (r : Logged registry_machine) → r.appended ≡ None → r.doubtful ≡ None → written r ≡ None
  none_written r x y = ap (λ (o : Option Entry). elim o [ None ↦ r.doubtful | Some e ↦ Some e ]) x ∙ y

  module _ (e : Entry) (old : LogValue) (logged : to_log m.rules p ≡ Some e) (had : m.log ≡ Some old) where
    dies_fenced : (d x : DiskView) (added : Result LogValue AddFault) (calls : ℕ) (bytes : List ℕ) → nat_lt (number_of m.rules) w.log.held ≡ true
        → Adds (is_due old (length (record_text e))) old (state_bytes m) (last_bytes m) (record_text e) b.disk added d → b.disk.past ≡ [] → Crashed d calls bytes x
        → Abstracts cap (left_at b p.to None b.order x) (happens w (DieInDeliver k Written))
    dies_fenced d x added calls bytes low adds past crashed =
        let is : receive m.rules p w.log.held Written ≡ unlogged (halts (halt.Fenced w.log.held)) = writes_as e old logged had Written ∙ writes_fenced m.rules e w.log.held Written low in
        let lt : old.claim < b.disk.current.held = let n = lt_true (number_of m.rules) w.log.held low in omega (arith, n, (log_is e old logged had).claim, a.refines.now.0) in
        let rf = adds_refused (is_due old (length (record_text e))) old (state_bytes m) (last_bytes m) (record_text e) b.disk d added a.refines.tells lt adds in
        dies_quiet d x calls bytes (ap (λ (r : Logged registry_machine). written r) is) rf.stands rf.tells past crashed

    dies_owned : (d x : DiskView) (added : Result LogValue AddFault) (calls : ℕ) (bytes : List ℕ) (high : nat_lt (number_of m.rules) w.log.held ≡ false)
        → Adds (is_due old (length (record_text e))) old (state_bytes m) (last_bytes m) (record_text e) b.disk added d → b.disk.past ≡ [] → Crashed d calls bytes x
        → Abstracts cap (left_at b p.to None b.order x) (happens w (DieInDeliver k Written))
    dies_owned d x added calls bytes high adds past crashed =
        let is = added_is e old logged had high d added adds in
        let l : Log = leave (Some e) (number_of m.rules) w.log in
        let entry : written (receive m.rules p w.log.held Written) ≡ Some e = ap (λ (r : Logged registry_machine). written r) (is_written e old logged had high) in
        let leaves : Leaves b w p.to None l x = record {
          cap_is = refl;
          refines = crashed_refines l b.disk d x calls bytes is.tells past is.moments crashed;
          own = none_own l x;
          others = apart_at e old logged had l x (held_is e old logged had high);
        } in
        let ties : Abstracts cap (left_at b p.to None w.log.order x) (dead (Some e)) = stop_ties cap b w p.to l x a leaves in
        subst (λ (u : World registry_machine). Abstracts cap (left_at b p.to None b.order x) u) (sym (dead_is (Some e) entry))
        (subst (λ (order : List Entry). Abstracts cap (left_at b p.to None order x) (dead (Some e))) a.order ties)

  pub receive_dies : (came : Result Told Stop) (y : MemberState) (d x : DiskView) (calls : ℕ) (bytes : List ℕ) → Receives b.disk m p came y d → b.disk.past ≡ [] → Crashed d calls bytes x
      → Abstracts cap (left_at b p.to None b.order x) (happens w (DieInDeliver k Written))
  receive_dies came y d x calls bytes r past crashed = by (to_log m.rules p) r.added refl r.logs
    where
      by : (o : Option Entry) (added : Option (Result LogValue AddFault)) → to_log m.rules p ≡ o → Logs o m b.disk added d → Abstracts cap (left_at b p.to None b.order x) (happens w (DieInDeliver k Written))
      by None None is logs = ⊎_elim
          (λ (n : LogsNone (to_log m.rules p) (receive m.rules p w.log.held Written)).
          dies_quiet d x calls bytes (none_written (receive m.rules p w.log.held Written) n.appended n.doubtful) (stands_here b.disk d logs) (ap (λ (u : DiskView). u.tells) logs) past crashed)
          (λ (l : (f : Entry) × (to_log m.rules p ≡ Some f) × (receive m.rules p w.log.held Written ≡ writes m.rules f w.log.held Written)). absurd (cc (is, l.1)))
          (receive_decides m.rules p w.log.held Written)
      by (Some e) (Some added) is logs = fenced_or (nat_lt (number_of m.rules) w.log.held) refl
        where
          fenced_or : (c : Bool) → nat_lt (number_of m.rules) w.log.held ≡ c → Abstracts cap (left_at b p.to None b.order x) (happens w (DieInDeliver k Written))
          fenced_or true low = dies_fenced e logs.0 is logs.1 d x added calls bytes low logs.2 past crashed
          fenced_or false high = dies_owned e logs.0 is logs.1 d x added calls bytes high logs.2 past crashed
      by None (Some added) is logs = absurd logs
      by (Some e) None is logs = absurd logs
