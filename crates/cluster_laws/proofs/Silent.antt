-- The rules in which no head leaves its queue.
use Rattle.std.proofs.Common.{◌≡◌, ℕ, ◌+◌, Bool, true, false, not, ◌&&◌, List, [], ◌++◌, length, Some, None, nat_eq, nat_lt, unwrap_or, if◌then◌else◌, refl}
use Rattle.gum_messages.proofs.Branches.{if_cases, option_cases}
use Rattle.update_records.specs.Entry.{Entry}
use Rattle.update_records.specs.declared.update.Update.{Update}
use Rattle.gum_core.specs.declared.decision.Decision.{Decision}
use Rattle.gum_core.specs.Updating.{CoreState}
use Rattle.gum_core.specs.Updating as updating
use Rattle.gum_core.proofs.Cases.{applying_cases, asked_cases, released_cases}
use Rattle.view_reconcile.specs.declared.stage.Stage.TheVariants as stage
use Rattle.view_reconcile.specs.declared.step.Step.{Step}
use Rattle.view_reconcile.specs.Joining.{ReconcileState}
use Rattle.view_reconcile.specs.Joining as joining
use Rattle.view_reconcile.proofs.Cases.{becomes_ready_cases, offered_cases, pulled_cases}
use Rattle.gum_messages.specs.declared.body.Body.TheVariants.{Granted, Need}
use Rattle.cluster_rules.specs.declared.effect.HaltCause.TheVariants as halt
use Rattle.cluster_rules.specs.declared.offering.Offering.{Offering}
use Rattle.cluster_rules.specs.Machines.{Machine}
use Rattle.cluster_rules.specs.Nodes.{NodeState, Out, done_of, halts, locker_at, nothing, number_of, place_of, tells}
use Rattle.cluster_rules.specs.Updates.{Answer, InDoubt, Logged, Unwritten, Written, answers, applied, applies, asked_for, entry_for, has_logged, may_submit, on_apply, on_ask, on_release, submit, unlogged}
use Rattle.cluster_rules.specs.Joins.{follows, gathers, joined, known_done, on_need, on_offer, on_piece, piece, says_ready, sends_piece, with_replica}
use Rattle.cluster_rules.specs.Receiving.{checkpoint}
use Rattle.cluster_laws.proofs.Heads.{asks_acks}
use Rattle.cluster_laws.proofs.Telling.{Quiet, quiet_as, quiet_halts, still}

-- the incarnation stays, whatever stage is come to
pub ready_inc : (s : ReconcileState) → (joining.becomes_ready s).0.inc ≡ s.inc
ready_inc s = becomes_ready_cases (λ (r : ReconcileState × Step). r.0.inc ≡ s.inc) s (λ a. refl) (λ a. refl)

module _ {M : Machine} where
  abbrev pub Silent : NodeState M → Out M → Type 0
  Silent x o = Quiet x.join.inc x.core.passed o

  pub submit_silent : (x : NodeState M) (u : Update) → Silent x (submit x u)
  submit_silent x u =
      let y : NodeState M = record x { core = (updating.submitted x.core u).0 } in
      if_cases (λ (o : Out M). Silent x o) (may_submit x) _ _ (λ g. still y _ (asks_acks y (asked_for (updating.first_ask x.core)))) (λ g. still x [] refl)

  pub apply_silent : (x : NodeState M) (from : ℕ) (e : Entry) → Silent x (on_apply x from e)
  apply_silent x from e = if_cases (λ (o : Out M). Silent x o) (joining.is_ready x.join && not (joining.locks x.join)) _ _
      (λ g. applying_cases (λ (d : Decision). Silent x (applies x from e d)) (done_of x) e.place (λ a. still (applied e x) _ refl) (λ a. still x _ refl) (λ a. still x [] refl))
      (λ g. still x [] refl)

  answer_silent : (x : NodeState M) (e : Entry) (answer : Answer) → let l : Logged M = elim answer [
    | Written ↦ record { out = tells (has_logged x e) e.id.node (Granted e); appended = Some e; doubtful = None }
    | InDoubt ↦ record { out = halts halt.Disk; appended = None; doubtful = Some e }
    | Unwritten ↦ unlogged (halts halt.Disk)
  ] in Silent x l.out
  answer_silent x e Written = still (has_logged x e) _ refl
  answer_silent x e InDoubt = quiet_halts x.join.inc x.core.passed halt.Disk
  answer_silent x e Unwritten = quiet_halts x.join.inc x.core.passed halt.Disk

  pub ask_silent : (x : NodeState M) (from q : ℕ) (u : Update) (held : ℕ) (answer : Answer) → Silent x (on_ask x from q u held answer).out
  ask_silent x from q u held answer = asked_cases (λ (d : Decision). Silent x (answers x u held answer d).out) x.core from q (done_of x)
      (still x [] refl)
      (λ a b c d e. if_cases (λ (l : Logged M). Silent x l.out) (nat_lt (number_of x) held) _ _ (λ f. quiet_halts x.join.inc x.core.passed (halt.Fenced held)) (λ f. answer_silent x (entry_for x from q u) answer))
      (λ a b l c d e. option_cases (λ (o : Out M). Silent x o) x.last (nothing x) (λ t. tells x from (Granted t)) (λ none. still x [] refl) (λ t some. still x _ refl))

  pub release_silent : (x : NodeState M) (from q : ℕ) → Silent x (on_release x from q)
  release_silent x from q = released_cases (λ (r : CoreState × Decision). Silent x (nothing (record x { core = r.0 }))) x.core from q (still x [] refl) (λ a l b c d. still (record x { core = record x.core { lock = None } }) [] refl)

  pub offer_silent : (x : NodeState M) (from : ℕ) (o : Offering) → Silent x (on_offer x from o)
  offer_silent x from o =
      let P : Out M → Type 0 = λ a. Silent x a in
      if_cases P (nat_eq from (locker_at x) && not (joining.locks x.join)) _ _
      (λ g. if_cases P (joining.is_ready x.join) _ _
      (λ rd. still x _ refl)
      (λ nr. offered_cases (λ (r : ReconcileState × Step). P (follows x o r)) x.join o.count (place_of o.last) (known_done x)
      (λ z. still x [] refl)
      (λ z rd. if_cases (λ (s : Step). P (follows x o (x.join, s))) (joining.locks x.join) _ _ (λ a. still x [] refl) (λ a. still (joined x o.count o.last x.join) _ refl))
      (λ z r all. becomes_ready_cases (λ (r : ReconcileState × Step). P (follows x o r)) x.join
      (λ a. still x [] refl)
      (λ a. still (joined x o.count o.last (record x.join { stage = stage.Ready })) _ refl))
      (λ z r k a b c. option_cases P o.last (nothing x) (λ e. says_ready (joined (applied e x) o.count o.last (joining.taken (record x.join { stage = stage.Taking }) true).0))
      (λ none. still x [] refl)
      (λ e some. quiet_as x.join.inc x.core.passed (joined (applied e x) o.count o.last (joining.taken (record x.join { stage = stage.Taking }) true).0) _ refl (ready_inc (record x.join { stage = stage.Taking })) refl))
      (λ z r.
      let got : ℕ = unwrap_or (joining.pulled_bytes x.join) 0 in
      let t : ReconcileState = (joining.pulls_on x.join).0 in
      if_cases (λ (y : NodeState M). P (tells y (locker_at x) (Need got))) (nat_eq got 0) _ _
      (λ b. still (record x { join = t; offer = Some o; bytes = [] }) _ refl)
      (λ b. still (record x { join = t }) _ refl))))
      (λ g. still x [] refl)

  pub need_silent : (x : NodeState M) (from offset : ℕ) → Silent x (on_need x from offset)
  need_silent x from offset =
      let P : Out M → Type 0 = λ a. Silent x a in
      option_cases P x.replica (nothing x) (λ r. if joining.locks x.join && not (joining.is_open x.join) then sends_piece x from (M.encode r.registry) offset else nothing x)
      (λ none. still x [] refl)
      (λ r some. if_cases P (joining.locks x.join && not (joining.is_open x.join)) _ _
      (λ g. option_cases P (joining.piece_length (length (M.encode r.registry)) offset) (nothing x) (λ c. tells x from (piece (M.encode r.registry) offset c)) (λ none. still x [] refl) (λ c e. still x _ refl))
      (λ g. still x [] refl))

  pub piece_silent : (x : NodeState M) (total offset : ℕ) (bytes : List ℕ) → Silent x (on_piece x total offset bytes)
  piece_silent x total offset bytes =
      pulled_cases (λ (r : ReconcileState × Step). Silent x (gathers x bytes r)) x.join total offset (length bytes)
      (still x [] refl)
      (λ e lt. still (record x { join = record x.join { stage = stage.Pulling (offset + length bytes) }; bytes = x.bytes ++ bytes }) _ refl)
      (λ e le.
      let s : ReconcileState = record x.join { stage = stage.Taking } in
      option_cases (λ (o : Out M). Silent x o) x.offer (nothing x) (λ o. elim (M.decode o.cap (x.bytes ++ bytes)) [
        | Some registry ↦ says_ready (joined (with_replica x registry o.count) o.count o.last (joining.taken s true).0)
        | None ↦ tells (record x { join = (joining.taken s false).0; bytes = [] }) (locker_at x) (Need 0)
      ])
      (λ none. still x [] refl)
      (λ o some. option_cases (λ (o : Out M). Silent x o) (M.decode o.cap (x.bytes ++ bytes)) (tells (record x { join = (joining.taken s false).0; bytes = [] }) (locker_at x) (Need 0)) (λ registry. says_ready (joined (with_replica x registry o.count) o.count o.last (joining.taken s true).0))
      (λ none. still (record x { join = (joining.taken s false).0; bytes = [] }) _ refl)
      (λ registry there. quiet_as x.join.inc x.core.passed (joined (with_replica x registry o.count) o.count o.last (joining.taken s true).0) _ refl (ready_inc s) refl)))

  pub checkpoint_silent : (x : NodeState M) (held : ℕ) (good : Bool) → Silent x (checkpoint x held good)
  checkpoint_silent x held good =
      let P : Out M → Type 0 = λ a. Silent x a in
      if_cases P (x.core.is_open && updating.locks x.core) _ _
      (λ g. if_cases P (nat_lt (number_of x) held) _ _
      (λ f. quiet_halts x.join.inc x.core.passed (halt.Fenced held))
      (λ f. if_cases P good _ _ (λ b. still x [] refl) (λ b. quiet_halts x.join.inc x.core.passed halt.Disk)))
      (λ g. still x [] refl)
