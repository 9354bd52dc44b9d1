-- Where a message is delivered or a node ticks nothing is taken back.
use Rattle.std.proofs.Common.{◌≡◌, ◌⊎◌, inl, inr, ⊎_elim, ℕ, zero, suc, ◌+◌, ◌-◌, ◌<◌, ◌≤◌, Bool, true, false, not, ◌&&◌, List, [], ◌∷◌, ◌++◌, length, take, drop, Option, Some, None, nat_eq, nat_lt, unwrap_or, if◌then◌else◌, slice_get, slice_set, refl, sym, ap, ◌∙◌, subst, arith, take-add, take_all}
use Rattle.std.proofs.lemmas.List.{append-nil}
use Rattle.gum_messages.specs.Members.{index_of}
use Rattle.gum_messages.specs.Places.{at_place}
use Rattle.gum_messages.specs.Messages.{Sent}
use Rattle.gum_messages.specs.declared.body.Body.{Body}
use Rattle.gum_messages.specs.declared.body.Body.TheVariants.{Ask, Granted, Apply, Applied, Release, Offer, Need, Piece, Ready, OpenView}
use Rattle.gum_messages.proofs.Branches.{if_cases, option_cases}
use Rattle.update_records.specs.Entry.{Entry}
use Rattle.update_records.specs.declared.update.Update.{Update}
use Rattle.gum_core.specs.declared.decision.Decision.{Decision}
use Rattle.gum_core.specs.Updating.{CoreState}
use Rattle.gum_core.specs.Updating as updating
use Rattle.gum_core.proofs.Cases.{applied_cases, applying_cases, asked_cases, granted_cases, released_cases, spread_cases}
use Rattle.gum_core.proofs.Cases.{opened_cases as core_opened_cases}
use Rattle.view_reconcile.specs.declared.stage.Stage.{Stage}
use Rattle.view_reconcile.specs.declared.stage.Stage.TheVariants as stage
use Rattle.view_reconcile.specs.declared.step.Step.{Step}
use Rattle.view_reconcile.specs.Joining.{ReconcileState}
use Rattle.view_reconcile.specs.Joining as joining
use Rattle.view_reconcile.proofs.Cases.{becomes_ready_cases, offered_cases, opened_cases, pulled_cases, readied_cases}
use Rattle.cluster_rules.specs.Progress.{PullsOn, Monotone, goes_on}
use Rattle.cluster_rules.specs.declared.offering.Offering.{Offering}
use Rattle.cluster_rules.specs.Machines.{Machine, IsMachine, registry_at}
use Rattle.cluster_rules.specs.Nodes.{NodeState, Out, Replica, done_of, locker_at, nothing, number_of, place_of, tells}
use Rattle.cluster_rules.specs.Updates.{InDoubt, Logged, Unwritten, Written, answers, applied, applies, begins, entry_for, has_logged, on_applied, on_apply, on_ask, on_granted, on_release, opens, proceeds, replica_after, without_head}
use Rattle.cluster_rules.specs.Joins.{follows, gathers, joined, known_done, marks_ready, on_need, on_offer, on_open_view, on_piece, on_ready, piece, says_ready, sends_piece, with_replica}
use Rattle.cluster_rules.specs.Receiving as receiving
use Rattle.cluster_rules.specs.Receiving.{receive, tick}
use Rattle.cluster_rules.specs.Worlds.{Checkpoint, Clock, Declare, Deliver, Die, DieInDeliver, DieInInstall, Event, Install, Read, Start, Submit, Tick, World, absorb, deliver, happens, logs, opening, put, run}
use Rattle.cluster_laws.proofs.Inv.{MsgOk, NodeOk, state_bytes}
use Rattle.cluster_laws.proofs.Applying.{and_true, eq_true, locker_not, lt_true, not_true}
use Rattle.cluster_laws.proofs.Cores.{Measured}
use Rattle.cluster_laws.proofs.Events.{at_get, at_keeps, counted_ok}
use Rattle.cluster_laws.proofs.HeadRules.{open_is_ready}
use Rattle.cluster_laws.proofs.Offering.{all_take, pulling_unready}
use Rattle.cluster_laws.proofs.Sound.{Sound, all_sound, sound_keeps}

pulled_stage : (s : ReconcileState) (got : ℕ) → joining.pulled_bytes s ≡ Some got → s.stage ≡ stage.Pulling got
pulled_stage s got = by s.stage
  where
    by : (t : Stage) → (elim t as (λ _. Option ℕ) [ stage.Pulling got ↦ Some got | _ ↦ None ]) ≡ Some got → t ≡ stage.Pulling got
    by stage.Waiting e = absurd (cc)
    by (stage.Pulling k) e = let q : k ≡ got = cc in ap (λ (a : ℕ). stage.Pulling a) q
    by stage.Taking e = absurd (cc)
    by stage.Ready e = absurd (cc)
    by stage.Open e = absurd (cc)

-- what stands in a list of marks stays where another is set
mark_stays : (l : List Bool) (i j : ℕ) → unwrap_or (slice_get l i) false ≡ true → unwrap_or (slice_get (slice_set l j true) i) false ≡ true
mark_stays [] i j e = absurd (cc)
mark_stays (b ∷ l) zero zero e = refl
mark_stays (b ∷ l) zero (suc j) e = e
mark_stays (b ∷ l) (suc i) zero e = e
mark_stays (b ∷ l) (suc i) (suc j) e = mark_stays l i j e

no_bytes : (l : List ℕ) → length l ≡ 0 → [] ≡ l ++ []
no_bytes [] e = refl
no_bytes (a ∷ l) e = absurd (omega (arith, e))

module _ {M : Machine} where
  -- What the rule alone shows of a step
  record Goes (x y : NodeState M) : Type 0 where
    view : y.join.view ≡ x.join.view
    records : done_of x ≤ done_of y
    pulled : (got : ℕ) → joining.pulled_bytes x.join ≡ Some got → (joining.is_ready y.join ≡ true) ⊎ PullsOn x y got
    ready : joining.is_ready x.join ≡ true → joining.is_ready y.join ≡ true
    marks : (m : ℕ) → joining.is_marked x.join m ≡ true → joining.is_marked y.join m ≡ true
    opened : joining.is_open x.join ≡ true → joining.is_open y.join ≡ true
    finished : x.core.passed ≤ y.core.passed

  abbrev Proceeds : ℕ → NodeState M → Option (NodeState M) → Type 0
  Proceeds held x o = ((y : NodeState M) × (o ≡ Some y) × Goes x y) ⊎ ((o ≡ None) × (number_of x < held))

  on_as : (held : ℕ) (x y : NodeState M) → Goes x y → Proceeds held x (Some y)
  on_as held x y g = inl (y, refl, g)

  -- the joining is as before
  same_join : (x y : NodeState M) → y.join ≡ x.join → y.bytes ≡ x.bytes → done_of x ≤ done_of y → x.core.passed ≤ y.core.passed → Goes x y
  same_join x y j b d p = record {
    view = ap (λ (t : ReconcileState). t.view) j;
    records = d;
    pulled = λ got e. inr (record { more = []; count = ap joining.pulled_bytes j ∙ e ∙ ap (λ (k : ℕ). Some k) (omega arith); bytes = b ∙ sym (append-nil x.bytes) });
    ready = λ r. ap joining.is_ready j ∙ r;
    marks = λ m r. ap (λ (t : ReconcileState). joining.is_marked t m) j ∙ r;
    opened = λ r. ap joining.is_open j ∙ r;
    finished = p;
  }

  same_on : (held : ℕ) (x y : NodeState M) → y.join ≡ x.join → y.bytes ≡ x.bytes → done_of x ≤ done_of y → x.core.passed ≤ y.core.passed → Proceeds held x (Some y)
  same_on held x y j b d p = on_as held x y (same_join x y j b d p)

  stays_on : (held : ℕ) (x : NodeState M) → Proceeds held x (Some x)
  stays_on held x = same_on held x x refl refl (omega arith) (omega arith)

  done_grows : (e : Entry) (x : NodeState M) → done_of x ≤ done_of (applied e x)
  done_grows e x = by x.replica
    where
      by : (o : Option (Replica M)) → (elim o [ None ↦ 0 | Some r ↦ r.done ]) ≤ (elim (replica_after e o) [ None ↦ 0 | Some r ↦ r.done ])
      by None = omega arith
      by (Some r) = omega arith

  -- a node that wasn't ready becomes so
  ready_goes : (x y : NodeState M) (st : Stage) → joining.is_ready x.join ≡ false → joining.is_ready (record x.join { stage = st }) ≡ true → y.join ≡ record x.join { stage = st } → done_of x ≤ done_of y → x.core.passed ≤ y.core.passed → Goes x y
  ready_goes x y st nr rd j d p = record {
    view = ap (λ (t : ReconcileState). t.view) j;
    records = d;
    pulled = λ got e. inl (ap joining.is_ready j ∙ rd);
    ready = λ r. ap joining.is_ready j ∙ rd;
    marks = λ m r. ap (λ (t : ReconcileState). joining.is_marked t m) j ∙ r;
    opened = λ r. absurd (locker_not (joining.is_ready x.join) (open_is_ready x.join r) nr);
    finished = p;
  }

  taken_on : (held : ℕ) (x z : NodeState M) (c : ℕ) (last : Option Entry) → joining.is_ready x.join ≡ false → done_of x ≤ done_of z → x.core.passed ≤ z.core.passed → Proceeds held x (Some (joined z c last (joining.taken (record x.join { stage = stage.Taking }) true).0))
  taken_on held x z c last nr d p = becomes_ready_cases (λ (r : ReconcileState × Step). Proceeds held x (Some (joined z c last r.0))) (record x.join { stage = stage.Taking })
      (λ a. on_as held x (joined z c last (record x.join { stage = stage.Open })) (ready_goes x (joined z c last (record x.join { stage = stage.Open })) stage.Open nr refl refl d p))
      (λ a. on_as held x (joined z c last (record x.join { stage = stage.Ready })) (ready_goes x (joined z c last (record x.join { stage = stage.Ready })) stage.Ready nr refl refl d p))

  -- Global update
  proceeds_on : (held : ℕ) (x : NodeState M) (e : Entry) (place at : ℕ) → Proceeds held x (proceeds x e (updating.spread x.core place at)).node
  proceeds_on held x e place at = spread_cases (λ (t : CoreState × Decision). Proceeds held x (proceeds x e t).node) x.core place at
      (λ none. same_on held x (without_head x (updating.finished x.core place).0) refl refl (omega arith) (omega arith))
      (λ to there. same_on held x (record x { core = record x.core { spreading = Some (record { place = place; at = at }) }; spreads = Some e }) refl refl (omega arith) (omega arith))

  granted_on : (held : ℕ) (x : NodeState M) (e : Entry) → Proceeds held x (on_granted x e).node
  granted_on held x e = granted_cases (λ (t : CoreState × Decision). Proceeds held x (proceeds x e t).node) x.core e.id.req e.place
      (stays_on held x) (λ a b c d. proceeds_on held x e e.place 0) (λ a b c. stays_on held x)

  applied_on : (held : ℕ) (x : NodeState M) (from place : ℕ) → Proceeds held x (on_applied x from place).node
  applied_on held x from place = option_cases (λ (o : Out M). Proceeds held x o.node) x.spreads (nothing x) (λ e. proceeds x e (updating.applied x.core from place))
      (λ none. stays_on held x)
      (λ e has. applied_cases (λ (t : CoreState × Decision). Proceeds held x (proceeds x e t).node) x.core from place (stays_on held x) (λ s a b c. proceeds_on held x e place (s.at + 1)))

  apply_on : (held : ℕ) (x : NodeState M) (from : ℕ) (e : Entry) → Proceeds held x (on_apply x from e).node
  apply_on held x from e = if_cases (λ (o : Out M). Proceeds held x o.node) (joining.is_ready x.join && not (joining.locks x.join)) _ _
      (λ g. applying_cases (λ (d : Decision). Proceeds held x (applies x from e d).node) (done_of x) e.place (λ a. same_on held x (applied e x) refl refl (done_grows e x) (omega arith)) (λ a. stays_on held x) (λ a. stays_on held x))
      (λ g. stays_on held x)

  -- the one rule that may stop a node: its view has lost the log
  ask_on : (held : ℕ) (x : NodeState M) (from q : ℕ) (u : Update) → Proceeds held x (on_ask x from q u held Written).out.node
  ask_on held x from q u = asked_cases (λ (d : Decision). Proceeds held x (answers x u held Written d).out.node) x.core from q (done_of x)
      (stays_on held x)
      (λ a b c d e. if_cases (λ (l : Logged M). Proceeds held x l.out.node) (nat_lt (number_of x) held) _ _
      (λ f. inr (refl, lt_true (number_of x) held f))
      (λ f. same_on held x (has_logged x (entry_for x from q u)) refl refl (done_grows (entry_for x from q u) x) (omega arith)))
      (λ a b l c d e. option_cases (λ (o : Out M). Proceeds held x o.node) x.last (nothing x) (λ t. tells x from (Granted t)) (λ none. stays_on held x) (λ t some. stays_on held x))

  release_on : (held : ℕ) (x : NodeState M) (from q : ℕ) → Proceeds held x (on_release x from q).node
  release_on held x from q = released_cases (λ (r : CoreState × Decision). Proceeds held x (Some (record x { core = r.0 }))) x.core from q (stays_on held x) (λ a l b c d. same_on held x (record x { core = record x.core { lock = None } }) refl refl (omega arith) (omega arith))

  -- Joining
  begins_on : (held : ℕ) (x z : NodeState M) → ((y : NodeState M) → y.join ≡ z.join → done_of y ≡ done_of z → z.core.passed ≤ y.core.passed → Goes x y) → Proceeds held x (begins z (updating.opened z.core z.settled)).node
  begins_on held x z f = core_opened_cases (λ (t : CoreState × Decision). Proceeds held x (begins z t).node) z.core z.settled
      (λ e. on_as held x (record z { core = record z.core { is_open = true } }) (f (record z { core = record z.core { is_open = true } }) refl refl (omega arith)))
      (λ some none. on_as held x (record z { core = record z.core { is_open = true } }) (f (record z { core = record z.core { is_open = true } }) refl refl (omega arith)))
      (λ some k set_. on_as held x (without_head z (updating.finished (record z.core { is_open = true }) k).0) (f (without_head z (updating.finished (record z.core { is_open = true }) k).0) refl refl (omega arith)))

  pulls_on : (held : ℕ) (x : NodeState M) (o : Offering) → Measured x → joining.is_ready x.join ≡ false → joining.locks x.join ≡ false → Proceeds held x (follows x o (joining.pulls_on x.join)).node
  pulls_on held x o me nr nl =
      let got : ℕ = unwrap_or (joining.pulled_bytes x.join) 0 in
      let t : ReconcileState = (joining.pulls_on x.join).0 in
      let bytes_is : (g : ℕ) → joining.pulled_bytes x.join ≡ Some g → got ≡ g = λ g e. ap (λ (a : Option ℕ). unwrap_or a 0) e in
      let tb : joining.pulled_bytes t ≡ Some got = ap (λ (c : Bool). joining.pulled_bytes (record x.join { stage = if c then stage.Taking else stage.Pulling got })) nl in
      let goes : (y : NodeState M) → y.join ≡ t → y.core ≡ x.core → done_of y ≡ done_of x → ((g : ℕ) → joining.pulled_bytes x.join ≡ Some g → y.bytes ≡ x.bytes ++ []) → Goes x y = λ y yj yc yd yb. record {
        view = ap (λ (s : ReconcileState). s.view) yj;
        records = omega (arith, yd);
        pulled = λ g e. inr (record { more = []; count = ap joining.pulled_bytes yj ∙ tb ∙ ap (λ (k : ℕ). Some k) (bytes_is g e ∙ omega arith); bytes = yb g e });
        ready = λ r. absurd (locker_not (joining.is_ready x.join) r nr);
        marks = λ m r. ap (λ (s : ReconcileState). joining.is_marked s m) yj ∙ r;
        opened = λ r. absurd (locker_not (joining.is_ready x.join) (open_is_ready x.join r) nr);
        finished = let q : y.core.passed ≡ x.core.passed = ap (λ (c : CoreState). c.passed) yc in omega (arith, q);
      } in
      if_cases (λ (z : NodeState M). Proceeds held x (tells z (locker_at x) (Need got)).node) (nat_eq got 0) _ _
      (λ b. on_as held x (record x { join = t; offer = Some o; bytes = [] }) (goes (record x { join = t; offer = Some o; bytes = [] }) refl refl refl (λ g e. no_bytes x.bytes (me g (pulled_stage x.join g e) ∙ sym (bytes_is g e) ∙ eq_true got 0 b))))
      (λ b. on_as held x (record x { join = t }) (goes (record x { join = t }) refl refl refl (λ g e. sym (append-nil x.bytes))))

  offer_on : (held : ℕ) (x : NodeState M) (from : ℕ) (o : Offering) → Measured x → Proceeds held x (on_offer x from o).node
  offer_on held x from o me =
      let P : Out M → Type 0 = λ a. Proceeds held x a.node in
      if_cases P (nat_eq from (locker_at x) && not (joining.locks x.join)) _ _
      (λ g.
      let nl : joining.locks x.join ≡ false = not_true (joining.locks x.join) (and_true (nat_eq from (locker_at x)) (not (joining.locks x.join)) g).1 in
      if_cases P (joining.is_ready x.join) _ _
      (λ rd. stays_on held x)
      (λ nr. offered_cases (λ (r : ReconcileState × Step). P (follows x o r)) x.join o.count (place_of o.last) (known_done x)
      (λ z. stays_on held x)
      (λ z rd. absurd (locker_not (joining.is_ready x.join) rd nr))
      (λ z r all. becomes_ready_cases (λ (r : ReconcileState × Step). P (follows x o r)) x.join
      (λ a. stays_on held x)
      (λ a. on_as held x (joined x o.count o.last (record x.join { stage = stage.Ready })) (ready_goes x (joined x o.count o.last (record x.join { stage = stage.Ready })) stage.Ready nr refl refl (omega arith) (omega arith))))
      (λ z r k a b c. option_cases P o.last (nothing x) (λ e. says_ready (joined (applied e x) o.count o.last (joining.taken (record x.join { stage = stage.Taking }) true).0))
      (λ none. stays_on held x)
      (λ e some. taken_on held x (applied e x) o.count o.last nr (done_grows e x) (omega arith)))
      (λ z r. pulls_on held x o me nr nl)))
      (λ g. stays_on held x)

  need_on : (held : ℕ) (x : NodeState M) (from offset : ℕ) → Proceeds held x (on_need x from offset).node
  need_on held x from offset =
      let P : Out M → Type 0 = λ a. Proceeds held x a.node in
      option_cases P x.replica (nothing x) (λ r. if joining.locks x.join && not (joining.is_open x.join) then sends_piece x from (M.encode r.registry) offset else nothing x)
      (λ none. stays_on held x)
      (λ r some. if_cases P (joining.locks x.join && not (joining.is_open x.join)) _ _
      (λ g. option_cases P (joining.piece_length (length (M.encode r.registry)) offset) (nothing x) (λ c. tells x from (piece (M.encode r.registry) offset c)) (λ none. stays_on held x) (λ c e. stays_on held x))
      (λ g. stays_on held x))

  -- the whole state reads back
  whole_decodes : IsMachine M → (w : World M) (n : ℕ) (x : NodeState M) (from total offset : ℕ) (bytes : List ℕ) (o : Offering) → Sound w → w.nodes n ≡ Some x → MsgOk w x.join.view from n (Piece total offset bytes) → x.join.stage ≡ stage.Pulling offset → total ≤ offset + length bytes → x.offer ≡ Some o → M.decode o.cap (x.bytes ++ bytes) ≡ Some (registry_at M w.log.cap w.log.order o.count)
  whole_decodes law w n x from total offset bytes o s at ok e le of =
      let h : NodeOk w n x = s.inv.nodes n x at in
      let q = h.prefix.pulled offset e in
      let same : Some o ≡ Some q.0 = sym of ∙ q.1 in
      let oq : o ≡ q.0 = cc in
      let p = h.prefix.pull o of in
      let ct : Some ok.0 ≡ Some o.count = sym ok.1 ∙ p.1 in
      let c : ok.0 ≡ o.count = cc in
      let S : List ℕ = state_bytes w o.count in
      let had : x.bytes ≡ take offset S = q.2 ∙ ap (λ (a : Offering). take offset (state_bytes w a.count)) (sym oq) in
      let came : bytes ≡ take (length bytes) (drop offset S) = ok.3 ∙ ap (λ (a : ℕ). take (length bytes) (drop offset (state_bytes w a))) c in
      let size : length S ≤ offset + length bytes = omega (arith, le, ok.2, ap (λ (a : ℕ). length (state_bytes w a)) c) in
      let all : x.bytes ++ bytes ≡ S = (λ i. had i ++ came i) ∙ sym (take-add offset (length bytes) S) ∙ take_all (offset + length bytes) S size in
      (λ i. M.decode (p.2 i) (all i)) ∙ law.reads_back w.log.cap (take o.count w.log.order) s.fitting.log.is_cap (all_take M.Fits o.count w.log.order s.fitting.log.records)

  piece_on : IsMachine M → (w : World M) (n : ℕ) (x : NodeState M) (from total offset : ℕ) (bytes : List ℕ) → Sound w → w.nodes n ≡ Some x → MsgOk w x.join.view from n (Piece total offset bytes) → Proceeds w.log.held x (on_piece x total offset bytes).node
  piece_on law w n x from total offset bytes s at ok =
      let held : ℕ = w.log.held in
      let h : NodeOk w n x = s.inv.nodes n x at in
      pulled_cases (λ (r : ReconcileState × Step). Proceeds held x (gathers x bytes r).node) x.join total offset (length bytes)
      (stays_on held x)
      (λ e lt.
      let nr : joining.is_ready x.join ≡ false = pulling_unready x.join offset e in
      on_as held x (record x { join = record x.join { stage = stage.Pulling (offset + length bytes) }; bytes = x.bytes ++ bytes }) (record {
        view = refl;
        records = omega arith;
        pulled = λ got g. inr (record { more = bytes; count = ap (λ (k : ℕ). Some (k + length bytes)) (same offset got (sym e ∙ pulled_stage x.join got g)); bytes = refl });
        ready = λ r. absurd (locker_not (joining.is_ready x.join) r nr);
        marks = λ m r. r;
        opened = λ r. absurd (locker_not (joining.is_ready x.join) (open_is_ready x.join r) nr);
        finished = omega arith;
      }))
      (λ e le.
      let nr : joining.is_ready x.join ≡ false = pulling_unready x.join offset e in
      let t : ReconcileState = record x.join { stage = stage.Taking } in
      option_cases (λ (o : Out M). Proceeds held x o.node) x.offer (nothing x) (λ o. elim (M.decode o.cap (x.bytes ++ bytes)) [
        | Some registry ↦ says_ready (joined (with_replica x registry o.count) o.count o.last (joining.taken t true).0)
        | None ↦ tells (record x { join = (joining.taken t false).0; bytes = [] }) (locker_at x) (Need 0)
      ])
      (λ none. stays_on held x)
      (λ o some. option_cases (λ (o : Out M). Proceeds held x o.node) (M.decode o.cap (x.bytes ++ bytes)) (tells (record x { join = (joining.taken t false).0; bytes = [] }) (locker_at x) (Need 0)) (λ registry. says_ready (joined (with_replica x registry o.count) o.count o.last (joining.taken t true).0))
      (λ none. absurd (read (sym none ∙ whole_decodes law w n x from total offset bytes o s at ok e le some)))
      (λ registry there. taken_on held x (with_replica x registry o.count) o.count o.last nr (h.prefix.unready o.count (h.prefix.pull o some).1 nr) (omega arith))))
    where
      same : (a b : ℕ) → stage.Pulling a ≡ stage.Pulling b → a ≡ b
      same a b e = cc

      read : {A : Type 0} {a : A} → None ≡ Some a → ⊥
      read e = cc

  ready_on : (held : ℕ) (x : NodeState M) (from : ℕ) → Proceeds held x (on_ready x from).node
  ready_on held x from = readied_cases (λ (r : ReconcileState × Step). Proceeds held x (marks_ready x r).node) x.join from
      (λ l. stays_on held x)
      (λ l o. stays_on held x)
      (λ l o a.
      let rd : joining.is_ready x.join ≡ true = (and_true (joining.is_ready (joining.marked x.join from)) (joining.all_counted (joining.marked x.join from)) a).0 in
      begins_on held x (record x { join = record (joining.marked x.join from) { stage = stage.Open } }) (λ y j d p. record {
        view = ap (λ (t : ReconcileState). t.view) j;
        records = omega (arith, d);
        pulled = λ got e. inl (ap joining.is_ready j);
        ready = λ r. ap joining.is_ready j;
        marks = λ m r. ap (λ (t : ReconcileState). joining.is_marked t m) j ∙ marked m r;
        opened = λ r. ap joining.is_open j;
        finished = p;
      }))
      (λ l o a. on_as held x (record x { join = joining.marked x.join from }) (record {
        view = refl;
        records = omega arith;
        pulled = λ got e. inr (record { more = []; count = e ∙ ap (λ (k : ℕ). Some k) (omega arith); bytes = sym (append-nil x.bytes) });
        ready = λ r. r;
        marks = marked;
        opened = λ r. r;
        finished = omega arith;
      }))
    where
      marked : (m : ℕ) → joining.is_marked x.join m ≡ true → joining.is_marked (joining.marked x.join from) m ≡ true
      marked m r = mark_stays x.join.ready (index_of x.join.view.members m) (index_of x.join.view.members from) r

  open_view_on : (held : ℕ) (x : NodeState M) (from : ℕ) → Proceeds held x (on_open_view x from).node
  open_view_on held x from =
      let Q : Out M → Type 0 = λ o. Proceeds held x o.node in
      opened_cases (λ (r : ReconcileState × Bool). Q (if nat_eq from (locker_at x) && r.1 then opens (record x { join = r.0 }) else nothing x)) x.join
      (λ rd shut. if_cases Q (nat_eq from (locker_at x) && true) _ _
      (λ g. begins_on held x (record x { join = record x.join { stage = stage.Open } }) (λ y j d p. record {
        view = ap (λ (t : ReconcileState). t.view) j;
        records = omega (arith, d);
        pulled = λ got e. inl (ap joining.is_ready j);
        ready = λ r. ap joining.is_ready j;
        marks = λ m r. ap (λ (t : ReconcileState). joining.is_marked t m) j ∙ r;
        opened = λ r. ap joining.is_open j;
        finished = p;
      }))
      (λ g. stays_on held x))
      (if_cases Q (nat_eq from (locker_at x) && false) _ _ (λ g. absurd (let e : ◌≡◌ {A = Bool} false true = (and_true (nat_eq from (locker_at x)) false g).1 in cc)) (λ g. stays_on held x))

  hears_on : IsMachine M → (w : World M) (n : ℕ) (x : NodeState M) (from : ℕ) (b : Body) → Sound w → w.nodes n ≡ Some x → MsgOk w x.join.view from n b → Proceeds w.log.held x (receiving.hears x from b w.log.held Written).out.node
  hears_on law w n x from (Ask q u) s at ok = ask_on w.log.held x from q u
  hears_on law w n x from (Granted r) s at ok = granted_on w.log.held x r
  hears_on law w n x from (Apply r) s at ok = apply_on w.log.held x from r
  hears_on law w n x from (Applied k) s at ok = applied_on w.log.held x from k
  hears_on law w n x from (Release q) s at ok = release_on w.log.held x from q
  hears_on law w n x from (Offer c cap last) s at ok = offer_on w.log.held x from (record { count = c; cap = cap; last = last }) (s.cores n x at).1
  hears_on law w n x from (Need offset) s at ok = need_on w.log.held x from offset
  hears_on law w n x from (Piece total offset bytes) s at ok = piece_on law w n x from total offset bytes s at ok
  hears_on law w n x from Ready s at ok = ready_on w.log.held x from
  hears_on law w n x from OpenView s at ok = open_view_on w.log.held x from

  receive_on : IsMachine M → (w : World M) (k : ℕ) (x : NodeState M) (p : Sent) → Sound w → at_place w.pool k ≡ Some p → w.nodes p.to ≡ Some x → Proceeds w.log.held x (receive x p w.log.held Written).out.node
  receive_on law w k x p s some at = if_cases (λ (d : Logged M). Proceeds w.log.held x d.out.node) (receiving.counts x p) _ _
      (λ g. hears_on law w p.to x p.from p.body s at (counted_ok w p.to x p s.inv at (s.inv.pool (k - 1) p (at_get w.pool k p some)) refl g).2)
      (λ g. stays_on w.log.held x)

  -- Worlds: one node moves, the others stay
  placed : (held : ℕ) (f : ℕ → Option (NodeState M)) (m : ℕ) (z : NodeState M) (o : Option (NodeState M)) → f m ≡ Some z → Proceeds held z o → (n : ℕ) (x : NodeState M) → f n ≡ Some x → Proceeds held x (put f m o n)
  placed held f m z o zat on n x at = if_cases (λ (t : Option (NodeState M)). Proceeds held x t) (nat_eq n m) o (f n)
      (λ q. let e : Some z ≡ Some x = sym zat ∙ ap f (sym (eq_true n m q)) ∙ at in let same : z ≡ x = cc in subst (λ (t : NodeState M). Proceeds held t o) same on)
      (λ q. inl (x, at, same_join x x refl refl (omega arith) (omega arith)))

  -- what doesn't move: the requests, and how often nodes were started
  record Proceeded (w : World M) (n : ℕ) (x : NodeState M) (u : World M) : Type 0 where
    node : Proceeds w.log.held x (u.nodes n)
    requests : u.requests ≡ w.requests
    starts : u.starts ≡ w.starts

  event_on : IsMachine M → (w : World M) (e : Event) (n : ℕ) (x : NodeState M) → Sound w → goes_on e ≡ true → w.nodes n ≡ Some x → Proceeded w n x (happens w e)
  event_on law w e n x s g at = by e g
    where
      still : Proceeded w n x w
      still = record { node = inl (x, at, same_join x x refl refl (omega arith) (omega arith)); requests = refl; starts = refl }

      by : (e : Event) → goes_on e ≡ true → Proceeded w n x (happens w e)
      by (Tick m) g = at_keeps (λ (u : World M). Proceeded w n x u) w m (λ x. absorb m (tick x) w) still (λ z zat. record { node = placed w.log.held w.nodes m z (Some z) zat (stays_on w.log.held z) n x at; requests = refl; starts = refl })
      by (Deliver k Written) g = option_cases (λ (u : World M). Proceeded w n x u) (at_place w.pool k) w (λ p. deliver w p Written) (λ none. still)
          (λ p some. option_cases (λ (u : World M). Proceeded w n x u) (w.nodes p.to) w (λ x. absorb p.to (receive x p w.log.held Written).out (logs (number_of x) (receive x p w.log.held Written) w)) (λ none. still)
          (λ z zat. record { node = placed w.log.held w.nodes p.to z (receive z p w.log.held Written).out.node zat (receive_on law w k z p s some zat) n x at; requests = refl; starts = refl }))
      by (Deliver k InDoubt) g = absurd (cc)
      by (Deliver k Unwritten) g = absurd (cc)
      by (Start m) g = absurd (cc)
      by (Declare v) g = absurd (cc)
      by (Install m v o) g = absurd (cc)
      by (Submit m u valid) g = absurd (cc)
      by (Read m) g = absurd (cc)
      by (Clock m stamp) g = absurd (cc)
      by (Checkpoint m good) g = absurd (cc)
      by (Die m) g = absurd (cc)
      by (DieInDeliver k answer) g = absurd (cc)
      by (DieInInstall m v raised) g = absurd (cc)

  sound_monotone : IsMachine M → (w : World M) → Sound w → Monotone w
  sound_monotone law w s e n x g at =
      let o : Proceeded w n x (happens w e) = event_on law w e n x s g at in
      let t : Sound (happens w e) = sound_keeps law w e s in
      ⊎_elim
      (λ (a : (y : NodeState M) × ((happens w e).nodes n ≡ Some y) × Goes x y).
      let y : NodeState M = a.0 in
      let f : Goes x y = a.2 in
      let hx : NodeOk w n x = s.inv.nodes n x at in
      let hy : NodeOk (happens w e) n y = t.inv.nodes n y a.1 in
      let inc : y.join.inc ≡ x.join.inc = hy.inc ∙ ap (λ (c : ℕ → ℕ). c n) o.starts ∙ sym hx.inc in
      let taken : length ((happens w e).requests n y.join.inc) ≡ length (w.requests n x.join.inc) = λ i. length (o.requests i n (inc i)) in
      inl (y, a.1, record { view = f.view; records = f.records; pulled = f.pulled; ready = f.ready; marks = f.marks; opened = f.opened; finished = f.finished; queued = sym hy.all_requests ∙ taken ∙ hx.all_requests }))
      (λ (a : ((happens w e).nodes n ≡ None) × (number_of x < w.log.held)). inr a)
      o.node

module _ (M : Machine) where
  pub all_monotone : IsMachine M → (cap : ℕ) (es : List Event) → M.IsCap cap → Monotone (run es (opening M cap))
  all_monotone law cap es is_cap = sound_monotone law (run es (opening M cap)) (all_sound M law cap es is_cap)
