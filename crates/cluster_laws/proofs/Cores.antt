-- What each core keeps besides: the requests that it counts as logged stand in the order, and whom it awaits is there.
use Rattle.std.proofs.lemmas.List.{length-append}
use Rattle.std.proofs.Common.{unwrap_or, ◌^◌, ◌≡◌, ◌≢◌, ⊎_elim, ℕ, ◌+◌, ◌<◌, ◌≤◌, Bool, true, false, not, ◌&&◌, List, [], ◌∷◌, ◌++◌, length, Option, Some, None, nat_eq, nat_lt, if◌then◌else◌, refl, sym, ap, ◌∙◌, subst, arith}
use Rattle.gum_messages.proofs.Placing.{place_new, place_old}
use Rattle.gum_messages.specs.declared.view.View.{View}
use Rattle.gum_messages.specs.Members.{is_locker, inc_of}
use Rattle.gum_messages.proofs.Branches.{if_cases, option_cases}
use Rattle.gum_messages.specs.declared.body.Body.{Body}
use Rattle.gum_messages.specs.Messages.{Sent}
use Rattle.gum_messages.specs.declared.body.Body.TheVariants.{Ask, Granted, Apply, Applied, Release, Offer, Need, Piece, Ready, OpenView}
use Rattle.gum_messages.specs.declared.member.Member.{Member}
use Rattle.gum_messages.specs.Places.{at_place}
use Rattle.update_records.specs.Entry.{Entry}
use Rattle.update_records.specs.declared.update.Update.{Update}
use Rattle.gum_core.proofs.Logging.{greatest_kept, greatest_logged, greatest_entered}
use Rattle.gum_core.specs.Updating.{receiver, CoreState, greatest_of}
use Rattle.gum_core.specs.declared.decision.Decision.{Decision}
use Rattle.gum_core.specs.Updating as updating
use Rattle.gum_core.proofs.Cases.{applied_cases, applying_cases, asked_cases, granted_cases, spread_cases, released_cases}
use Rattle.gum_core.proofs.Cases.{opened_cases as core_opened_cases}
use Rattle.gum_core.specs.declared.spreading.Spreading.{Spreading}
use Rattle.view_reconcile.specs.declared.stage.Stage.{Stage}
use Rattle.view_reconcile.specs.declared.stage.Stage.TheVariants as stage
use Rattle.view_reconcile.specs.declared.step.Step.{Step}
use Rattle.view_reconcile.specs.Joining.{ReconcileState}
use Rattle.view_reconcile.specs.Joining as joining
use Rattle.view_reconcile.proofs.Cases.{becomes_ready_cases, offered_cases, opened_cases, pulled_cases, readied_cases}
use Rattle.view_reconcile.specs.Chains.{view_in}
use Rattle.cluster_rules.specs.Machines.{Machine, registry_at}
use Rattle.cluster_rules.specs.declared.offering.Offering.{Offering}
use Rattle.cluster_rules.specs.declared.effect.HaltCause.{HaltCause}
use Rattle.cluster_rules.specs.declared.effect.HaltCause.TheVariants as halt
use Rattle.cluster_rules.specs.Nodes.{NodeState, fresh, members_of, Out, done_of, halts, locker_at, nothing, number_of, place_of, tells}
use Rattle.cluster_rules.specs.Updates.{Answer, InDoubt, Logged, Unwritten, Written, answers, applied, applies, begins, entry_for, has_logged, may_submit, on_applied, on_apply, on_ask, on_granted, opens, proceeds, submit, unlogged, without_head}
use Rattle.cluster_rules.specs.Joins.{done_within, entered, follows, gathers, goes_on, hears_itself, joined, known_done, last_of, marks_ready, on_need, on_offer, on_open_view, on_piece, on_ready, piece, recovers, says_ready, sends_piece, takes_view, with_replica}
use Rattle.cluster_rules.specs.Receiving.{checkpoint, clock, receive, tick}
use Rattle.cluster_rules.specs.Receiving as receiving
use Rattle.cluster_rules.specs.Worlds.{Opening, Recovered, Refused, World, absorb, claimed, found_log, install, opening, put, raise, with_log, Checkpoint, Clock, Declare, Deliver, Die, DieInDeliver, DieInInstall, Event, Install, Log, Read, Start, Submit, Tick, append, deliver, die_in_deliver, die_in_install, happens, leave, logs, may_declare, noted, opens_log, reads, stopped, written}
use Rattle.cluster_laws.proofs.Applying.{eq_true, and_true, locker_not, lt_true}
use Rattle.cluster_laws.proofs.Moves.{put_cases}
use Rattle.cluster_laws.proofs.Inv.{Has, Invariant, NodeOk, OwnerOk, Stands}
use Rattle.cluster_laws.proofs.HeadRules.{open_is_ready}
use Rattle.cluster_laws.proofs.Orders.{Extends, GrewLog, append_grew, found_grew, leave_grew, log_same, raise_grew}
use Rattle.cluster_laws.proofs.Events.{at_keeps}
use Rattle.cluster_laws.proofs.Starting.{started_world}
use Rattle.cluster_laws.proofs.Recovering.{entered_is, taken_view}
use Rattle.cluster_laws.proofs.Offering.{has_bytes, place_is}

-- What each core keeps besides: a request that it counts as logged stands in the order, and whom it awaits is there
pub record CoreOk (l : Log) (c : CoreState) : Type 0 where
  pub greatest : (m : ℕ) → 0 < inc_of c.members m → 0 < greatest_of c m → (r : Entry) × Stands l r × Has r m (inc_of c.members m) (greatest_of c m)
  pub awaits : (s : Spreading) → c.spreading ≡ Some s → (to : ℕ) × (receiver c s.at ≡ Some to)

-- the record of a request that is logged now
pub new_core : (l : Log) (e : Entry) (n : ℕ) (c : CoreState) (m req place : ℕ) → CoreOk l c → e.place ≡ length l.order + 1 → length c.greatest ≡ length c.members → Has e m (inc_of c.members m) req → 0 < inc_of c.members m → CoreOk (append (Some e) n l) (updating.logged c m req place).0
new_core l e n c m req place h pl ent has lm = record {
  greatest = λ k lt g. elim (nat_eq k m) as (λ (b : Bool). nat_eq k m ≡ b → (r : Entry) × Stands (append (Some e) n l) r × Has r k (inc_of c.members k) (greatest_of (updating.logged c m req place).0 k)) [
    | true ↦ λ same.
        let km : k ≡ m = eq_true k m same in
        let gr : greatest_of (updating.logged c m req place).0 k ≡ req = ap (λ (a : ℕ). greatest_of (updating.logged c m req place).0 a) km ∙ greatest_logged c m req place ent lm in (
          e,
          record { at = ap (λ (a : ℕ). at_place (l.order ++ e ∷ []) a) pl ∙ place_new l.order e },
          record { node = has.node ∙ sym km; inc = has.inc ∙ ap (λ (a : ℕ). inc_of c.members a) (sym km); req = has.req ∙ sym gr },
        )
    | false ↦ λ other.
        let apart : k ≢ m = eq_false k m other in
        let gr : greatest_of (updating.logged c m req place).0 k ≡ greatest_of c k = greatest_kept c m req place k lt apart in
        let r = h.greatest k lt (subst (λ (a : ℕ). 0 < a) gr g) in
        (r.0, record { at = place_old l.order e r.0.place r.0 r.1.at }, record { node = r.2.node; inc = r.2.inc; req = r.2.req ∙ sym gr })
  ] refl;
  awaits = h.awaits;
}
  where
    eq_false : (a b : ℕ) → nat_eq a b ≡ false → a ≢ b
    eq_false a b e = grind arith

finish_core : (l : Log) (c : CoreState) (place : ℕ) → CoreOk l c → CoreOk l (updating.finished c place).0
finish_core l c place h = record { greatest = h.greatest; awaits = λ s e. absurd (cc) }

open_core : (l : Log) (c : CoreState) → CoreOk l c → CoreOk l (record c { is_open = true })
open_core l c h = record { greatest = h.greatest; awaits = h.awaits }

spread_core : (l : Log) (c : CoreState) (place at : ℕ) → CoreOk l c → (to : ℕ) → updating.receiver c at ≡ Some to → CoreOk l (record c { spreading = Some (record { place = place; at = at }) })
spread_core l c place at h to rc = record {
  greatest = h.greatest;
  awaits = λ s n. (to, let q : record { place = place; at = at } ≡ s = cc in subst (λ (t : Spreading). updating.receiver c t.at ≡ Some to) q rc);
}

release_core : (l : Log) (c : CoreState) (from req : ℕ) → CoreOk l c → CoreOk l (updating.released c from req).0
release_core l c from req h = released_cases (λ (r : CoreState × Decision). CoreOk l r.0) c from req h (λ a k b d e. record { greatest = h.greatest; awaits = h.awaits })

enter_core : (l : Log) (c : CoreState) (v : View) → CoreOk l (updating.entered c v)
enter_core l c v = record { greatest = λ m lt g. absurd (let z : greatest_of (updating.entered c v) m ≡ 0 = greatest_entered c v m in omega (arith, g, z)); awaits = λ s e. absurd (cc) }

-- a log that grew keeps what cores say of the order
pub grown_core : (l m : Log) (c : CoreState) → GrewLog l m → CoreOk l c → CoreOk m c
grown_core l m c g h = record {
  greatest = λ k lt p. let r = h.greatest k lt p in (r.0, record { at = ⊎_elim (λ (e : m.order ≡ l.order). ap (λ (o : List Entry). at_place o r.0.place) e ∙ r.1.at) (λ (e : (s : Entry) × (m.order ≡ l.order ++ s ∷ [])). ap (λ (o : List Entry). at_place o r.0.place) e.1 ∙ place_old l.order e.0 r.0.place r.0 r.1.at) g.order }, r.2);
  awaits = h.awaits;
}

-- a stage in which so many bytes were pulled
pulls_says : (locks : Bool) (got k : ℕ) → (if locks then stage.Taking else stage.Pulling got) ≡ stage.Pulling k → got ≡ k
pulls_says true got k e = absurd (cc)
pulls_says false got k e = cc

module _ {M : Machine} where
  -- it has as many bytes of the state that it pulls as it counts
  abbrev pub Measured : NodeState M → Type 0
  Measured x = (got : ℕ) → x.join.stage ≡ stage.Pulling got → length x.bytes ≡ got

  abbrev pub Counted : Log → NodeState M → Type 0
  Counted l x = CoreOk l x.core × Measured x

  abbrev pub StaysAt : Log → Option (NodeState M) → Type 0
  StaysAt l o = (y : NodeState M) → o ≡ Some y → Counted l y

  abbrev pub Stays : Log → Out M → Type 0
  Stays l o = StaysAt l o.node

  stays_as : (l : Log) (y : NodeState M) → Counted l y → StaysAt l (Some y)
  stays_as l y f z e = let q : y ≡ z = cc in subst (λ (t : NodeState M). Counted l t) q f

  stays_halts : (l : Log) → StaysAt l None
  stays_halts l y e = absurd (cc)

  -- Global update
  submit_stays : (l : Log) (x : NodeState M) (u : Update) → Counted l x → Stays l (submit x u)
  submit_stays l x u c = if_cases (λ (o : Out M). Stays l o) (may_submit x) _ _ (λ g. stays_as l (record x { core = (updating.submitted x.core u).0 }) (record { greatest = c.0.greatest; awaits = c.0.awaits }, c.1)) (λ g. stays_as l x c)

  begins_stays : (l : Log) (y : NodeState M) → Counted l y → StaysAt l (begins y (updating.opened y.core y.settled)).node
  begins_stays l y c = core_opened_cases (λ (t : CoreState × Decision). StaysAt l (begins y t).node) y.core y.settled
      (λ e. stays_as l (record y { core = record y.core { is_open = true } }) (open_core l y.core c.0, c.1))
      (λ some none. stays_as l (record y { core = record y.core { is_open = true } }) (open_core l y.core c.0, c.1))
      (λ some k set_. stays_as l (without_head y (updating.finished (record y.core { is_open = true }) k).0) (finish_core l (record y.core { is_open = true }) k (open_core l y.core c.0), c.1))

  proceeds_stays : (l : Log) (x : NodeState M) (e : Entry) (place at : ℕ) → Counted l x → Stays l (proceeds x e (updating.spread x.core place at))
  proceeds_stays l x e place at c = spread_cases (λ (t : CoreState × Decision). Stays l (proceeds x e t)) x.core place at
      (λ none. stays_as l (without_head x (updating.finished x.core place).0) (finish_core l x.core place c.0, c.1))
      (λ to there. stays_as l (record x { core = record x.core { spreading = Some (record { place = place; at = at }) }; spreads = Some e }) (spread_core l x.core place at c.0 to there, c.1))

  granted_stays : (l : Log) (x : NodeState M) (e : Entry) → Counted l x → Stays l (on_granted x e)
  granted_stays l x e k = granted_cases (λ (t : CoreState × Decision). Stays l (proceeds x e t)) x.core e.id.req e.place
      (stays_as l x k) (λ a b c d. proceeds_stays l x e e.place 0 k) (λ a b c. stays_as l x k)

  applied_stays : (l : Log) (x : NodeState M) (from place : ℕ) → Counted l x → Stays l (on_applied x from place)
  applied_stays l x from place k = option_cases (λ (o : Out M). Stays l o) x.spreads (nothing x) (λ e. proceeds x e (updating.applied x.core from place))
      (λ none. stays_as l x k)
      (λ e has. applied_cases (λ (t : CoreState × Decision). Stays l (proceeds x e t)) x.core from place (stays_as l x k) (λ s a b c. proceeds_stays l x e place (s.at + 1) k))

  apply_stays : (l : Log) (x : NodeState M) (from : ℕ) (e : Entry) → Counted l x → Stays l (on_apply x from e)
  apply_stays l x from e k = if_cases (λ (o : Out M). Stays l o) (joining.is_ready x.join && not (joining.locks x.join)) _ _
      (λ g. applying_cases (λ (d : Decision). Stays l (applies x from e d)) (done_of x) e.place (λ a. stays_as l (applied e x) k) (λ a. stays_as l x k) (λ a. stays_as l x k))
      (λ g. stays_as l x k)

  -- what is left with the log that it leaves
  abbrev Left : Log → ℕ → Logged M → Type 0
  Left l v d = StaysAt (leave d.doubtful v (append d.appended v l)) d.out.node

  ask_stays : (w : World M) (n : ℕ) (x : NodeState M) (from q : ℕ) (u : Update) (answer : Answer) → Invariant w → w.nodes n ≡ Some x → 0 < inc_of x.join.view.members from → Counted w.log x → Left w.log (number_of x) (on_ask x from q u w.log.held answer)
  ask_stays w n x from q u answer j at pos k =
      let h : NodeOk w n x = j.nodes n x at in
      asked_cases (λ (d : Decision). Left w.log (number_of x) (answers x u w.log.held answer d)) x.core from q (done_of x)
      (stays_as w.log x k)
      (λ op lk c d e. if_cases (λ (d : Logged M). Left w.log (number_of x) d) (nat_lt (number_of x) w.log.held) _ _ (λ f. stays_halts w.log) (λ f.
      let jo : joining.is_open x.join ≡ true = sym h.local.core_open ∙ op in
      let rd : joining.is_ready x.join ≡ true = open_is_ready x.join jo in
      let rs = h.prefix.ready_state rd in
      let ct = j.log.counts x.join.view.number rs.1 rs.2 in
      let le : x.join.view.number ≤ w.log.held = ct.1 in
      let eq : x.join.view.number ≡ w.log.held = both x.join.view.number w.log.held le f in
      let lks : joining.locks x.join ≡ true = ap (λ (ms : List Member). is_locker ms x.join.node) (sym h.local.core_members) ∙ ap (λ (a : ℕ). is_locker x.core.members a) (h.local.node ∙ sym h.local.core_node) ∙ lk in
      let ow : OwnerOk w n x = j.owner n x (record { runs = at; ready = rd; locker = lks; held = eq }) in
      let r : Entry = entry_for x from q u in
      answered answer (new_core w.log r (number_of x) x.core from q r.place k.0 (ap (λ (b : ℕ). b + 1) ow.all_done) h.local.entries (record { node = refl; inc = ap (λ (ms : List Member). inc_of ms from) (sym h.local.core_members); req = refl }) (subst (λ (ms : List Member). 0 < inc_of ms from) (sym h.local.core_members) pos))))
      (λ a b l c d e. option_cases (λ (o : Out M). Stays w.log o) x.last (nothing x) (λ t. tells x from (Granted t)) (λ none. stays_as w.log x k) (λ t some. stays_as w.log x k))
    where
      both : (a b : ℕ) → a ≤ b → nat_lt a b ≡ false → a ≡ b
      both a b le e = grind arith

      answered : (answer : Answer) → CoreOk (append (Some (entry_for x from q u)) (number_of x) w.log) (updating.logged x.core from q (done_of x + 1)).0 → let e : Entry = entry_for x from q u in let l : Logged M = elim answer [
        | Written ↦ record { out = tells (has_logged x e) e.id.node (Granted e); appended = Some e; doubtful = None }
        | InDoubt ↦ record { out = halts halt.Disk; appended = None; doubtful = Some e }
        | Unwritten ↦ unlogged (halts halt.Disk)
      ] in Left w.log (number_of x) l
      answered Written c = stays_as (append (Some (entry_for x from q u)) (number_of x) w.log) (has_logged x (entry_for x from q u)) (c, k.1)
      answered InDoubt c = stays_halts (leave (Some (entry_for x from q u)) (number_of x) w.log)
      answered Unwritten c = stays_halts w.log

  -- Joining
  taken_stays : (l : Log) (x : NodeState M) (s : ReconcileState) (o : Offering) → CoreOk l x.core → StaysAt l (Some (joined x o.count o.last (joining.taken (record s { stage = stage.Taking }) true).0))
  taken_stays l x s o c = becomes_ready_cases (λ (r : ReconcileState × Step). StaysAt l (Some (joined x o.count o.last r.0))) (record s { stage = stage.Taking })
      (λ a. stays_as l (joined x o.count o.last (record s { stage = stage.Open })) (c, λ got e. absurd (cc)))
      (λ a. stays_as l (joined x o.count o.last (record s { stage = stage.Ready })) (c, λ got e. absurd (cc)))

  pulls_stays : (l : Log) (x : NodeState M) (o : Offering) → Counted l x → Stays l (follows x o (joining.pulls_on x.join))
  pulls_stays l x o kc =
      let got : ℕ = unwrap_or (joining.pulled_bytes x.join) 0 in
      let t : ReconcileState = (joining.pulls_on x.join).0 in
      if_cases (λ (y : NodeState M). Stays l (tells y (locker_at x) (Need got))) (nat_eq got 0) _ _
      (λ b. stays_as l (record x { join = t; offer = Some o; bytes = [] }) (kc.0, λ k e. sym (eq_true got 0 b) ∙ pulls_says (joining.locks x.join) got k e))
      (λ b. stays_as l (record x { join = t }) (kc.0, λ k e. kc.1 got (has_bytes x.join b) ∙ pulls_says (joining.locks x.join) got k e))

  offer_stays : (l : Log) (x : NodeState M) (from : ℕ) (o : Offering) → Counted l x → Stays l (on_offer x from o)
  offer_stays l x from o kc =
      let P : Out M → Type 0 = λ a. Stays l a in
      if_cases P (nat_eq from (locker_at x) && not (joining.locks x.join)) _ _
      (λ g.
      if_cases P (joining.is_ready x.join) _ _
      (λ rd. stays_as l x kc)
      (λ nr. offered_cases (λ (r : ReconcileState × Step). P (follows x o r)) x.join o.count (place_of o.last) (known_done x)
      (λ z. stays_as l x kc)
      (λ z rd. absurd (locker_not (joining.is_ready x.join) rd nr))
      (λ z r all. becomes_ready_cases (λ (r : ReconcileState × Step). P (follows x o r)) x.join
      (λ a. stays_as l x kc)
      (λ a. stays_as l (joined x o.count o.last (record x.join { stage = stage.Ready })) (kc.0, λ got e. absurd (cc))))
      (λ z r k a b c. option_cases P o.last (nothing x) (λ e. says_ready (joined (applied e x) o.count o.last (joining.taken (record x.join { stage = stage.Taking }) true).0))
      (λ none. stays_as l x kc)
      (λ e some. taken_stays l (applied e x) x.join o kc.0))
      (λ z r. pulls_stays l x o kc)))
      (λ g. stays_as l x kc)

  need_stays : (l : Log) (x : NodeState M) (from offset : ℕ) → Counted l x → Stays l (on_need x from offset)
  need_stays l x from offset kc =
      let P : Out M → Type 0 = λ a. Stays l a in
      option_cases P x.replica (nothing x) (λ r. if joining.locks x.join && not (joining.is_open x.join) then sends_piece x from (M.encode r.registry) offset else nothing x)
      (λ none. stays_as l x kc)
      (λ r some. if_cases P (joining.locks x.join && not (joining.is_open x.join)) _ _
      (λ g. option_cases P (joining.piece_length (length (M.encode r.registry)) offset) (nothing x) (λ c. tells x from (piece (M.encode r.registry) offset c)) (λ none. stays_as l x kc) (λ c e. stays_as l x kc))
      (λ g. stays_as l x kc))

  -- a pulling node isn't a ready locker
  piece_stays : (l : Log) (x : NodeState M) (total offset : ℕ) (bytes : List ℕ) → Counted l x → Stays l (on_piece x total offset bytes)
  piece_stays l x total offset bytes kc =
      pulled_cases (λ (r : ReconcileState × Step). Stays l (gathers x bytes r)) x.join total offset (length bytes)
      (stays_as l x kc)
      (λ e lt. stays_as l (record x { join = record x.join { stage = stage.Pulling (offset + length bytes) }; bytes = x.bytes ++ bytes }) (kc.0, λ got g. more offset got (kc.1 offset e) g))
      (λ e le.
      let s : ReconcileState = record x.join { stage = stage.Taking } in
      option_cases (λ (o : Out M). Stays l o) x.offer (nothing x) (λ o. elim (M.decode o.cap (x.bytes ++ bytes)) [
        | Some registry ↦ says_ready (joined (with_replica x registry o.count) o.count o.last (joining.taken s true).0)
        | None ↦ tells (record x { join = (joining.taken s false).0; bytes = [] }) (locker_at x) (Need 0)
      ])
      (λ none. stays_as l x kc)
      (λ o some. option_cases (λ (o : Out M). Stays l o) (M.decode o.cap (x.bytes ++ bytes)) (tells (record x { join = (joining.taken s false).0; bytes = [] }) (locker_at x) (Need 0)) (λ registry. says_ready (joined (with_replica x registry o.count) o.count o.last (joining.taken s true).0))
      (λ none. stays_as l (record x { join = (joining.taken s false).0; bytes = [] }) (kc.0, λ got g. pulls_says (joining.locks x.join) 0 got g))
      (λ registry there. taken_stays l (with_replica x registry o.count) x.join o kc.0)))
    where
      more : (offset got : ℕ) → length x.bytes ≡ offset → stage.Pulling (offset + length bytes) ≡ stage.Pulling got → length (x.bytes ++ bytes) ≡ got
      more offset got e g = let q : offset + length bytes ≡ got = cc in length-append x.bytes bytes ∙ ap (λ (k : ℕ). k + length bytes) e ∙ q

  ready_stays : (l : Log) (x : NodeState M) (from : ℕ) → Counted l x → Stays l (on_ready x from)
  ready_stays l x from kc = readied_cases (λ (r : ReconcileState × Step). Stays l (marks_ready x r)) x.join from
      (λ lk. stays_as l x kc)
      (λ lk o. stays_as l x kc)
      (λ lk o a. begins_stays l (record x { join = record (joining.marked x.join from) { stage = stage.Open } }) (kc.0, λ got e. absurd (cc)))
      (λ lk o a. stays_as l (record x { join = joining.marked x.join from }) kc)

  open_view_stays : (l : Log) (x : NodeState M) (from : ℕ) → Counted l x → Stays l (on_open_view x from)
  open_view_stays l x from kc =
      let Q : Out M → Type 0 = λ o. Stays l o in
      opened_cases (λ (r : ReconcileState × Bool). Q (if nat_eq from (locker_at x) && r.1 then opens (record x { join = r.0 }) else nothing x)) x.join
      (λ rd shut. if_cases Q (nat_eq from (locker_at x) && true) _ _ (λ g. begins_stays l (record x { join = record x.join { stage = stage.Open } }) (kc.0, λ got e. absurd (cc))) (λ g. stays_as l x kc))
      (if_cases Q (nat_eq from (locker_at x) && false) _ _ (λ g. begins_stays l x kc) (λ g. stays_as l x kc))

  hears_stays : (w : World M) (n : ℕ) (x : NodeState M) (from : ℕ) (b : Body) (answer : Answer) → Invariant w → w.nodes n ≡ Some x → 0 < inc_of x.join.view.members from → Counted w.log x → Left w.log (number_of x) (receiving.hears x from b w.log.held answer)
  hears_stays w n x from (Ask q u) answer j at pos k = ask_stays w n x from q u answer j at pos k
  hears_stays w n x from (Granted e) answer j at pos k = granted_stays w.log x e k
  hears_stays w n x from (Apply e) answer j at pos k = apply_stays w.log x from e k
  hears_stays w n x from (Applied p) answer j at pos k = applied_stays w.log x from p k
  hears_stays w n x from (Release q) answer j at pos k = stays_as w.log (record x { core = (updating.released x.core from q).0 }) (release_core w.log x.core from q k.0, k.1)
  hears_stays w n x from (Offer c cap last) answer j at pos k = offer_stays w.log x from (record { count = c; cap = cap; last = last }) k
  hears_stays w n x from (Need offset) answer j at pos k = need_stays w.log x from offset k
  hears_stays w n x from (Piece total offset bytes) answer j at pos k = piece_stays w.log x total offset bytes k
  hears_stays w n x from Ready answer j at pos k = ready_stays w.log x from k
  hears_stays w n x from OpenView answer j at pos k = open_view_stays w.log x from k

  receive_stays : (w : World M) (n : ℕ) (x : NodeState M) (p : Sent) (answer : Answer) → Invariant w → w.nodes n ≡ Some x → Counted w.log x → Left w.log (number_of x) (receive x p w.log.held answer)
  receive_stays w n x p answer j at k = if_cases (λ (d : Logged M). Left w.log (number_of x) d) (receiving.counts x p) _ _
      (λ g. hears_stays w n x p.from p.body answer j at (lt_true 0 (inc_of (members_of x) p.from) (and_true (nat_eq p.view (number_of x)) (nat_lt 0 (inc_of (members_of x) p.from)) g).1) k)
      (λ g. stays_as w.log x k)

  checkpoint_stays : (l : Log) (x : NodeState M) (held : ℕ) (good : Bool) → Counted l x → Stays l (checkpoint x held good)
  checkpoint_stays l x held good k =
      let P : Out M → Type 0 = λ a. Stays l a in
      if_cases P (x.core.is_open && updating.locks x.core) _ _
      (λ g. if_cases P (nat_lt (number_of x) held) _ _ (λ f. stays_halts l) (λ f. if_cases P good _ _ (λ b. stays_as l x k) (λ b. stays_halts l)))
      (λ g. stays_as l x k)

  -- Recovery
  opens_stays : (l : Log) (y : NodeState M) → Counted l y → StaysAt l (opens y).node
  opens_stays l y k = begins_stays l y k

  goes_stays : (l : Log) (x z : NodeState M) (o : Offering) (t : Stage) → Counted l z → StaysAt l (goes_on (joined z o.count o.last (joining.becomes_ready (record x.join { stage = t })).0) o (joining.becomes_ready (record x.join { stage = t })).1).node
  goes_stays l x z o t k = becomes_ready_cases (λ (r : ReconcileState × Step). StaysAt l (goes_on (joined z o.count o.last r.0) o r.1).node) (record x.join { stage = t })
      (λ a. opens_stays l (joined z o.count o.last (record x.join { stage = stage.Open })) (k.0, λ got e. absurd (cc)))
      (λ a. stays_as l (joined z o.count o.last (record x.join { stage = stage.Ready })) (k.0, λ got e. absurd (cc)))

  recovers_stays : (l : Log) (x : NodeState M) (cap : ℕ) (order : List Entry) → x.bytes ≡ [] → Counted l x → StaysAt l (recovers x cap order).node
  recovers_stays l x cap order none k =
      let o : Offering = record { count = length order; cap = cap; last = last_of order } in
      let registry : M.Registry = registry_at M cap order (length order) in
      let P : ReconcileState × Step → Type 0 = λ r. StaysAt l (hears_itself x o registry r).node in
      let same : Counted l (joined x o.count o.last x.join) = (k.0, λ got e. ap (λ (b : List ℕ). length b) (sym none) ∙ k.1 got e) in
      offered_cases P x.join o.count (place_of o.last) (done_within x cap)
      (λ z. stays_as l (joined x o.count o.last x.join) same)
      (λ z rd. if_cases (λ (s : Step). StaysAt l (hears_itself x o registry (x.join, s)).node) (joining.locks x.join) _ _ (λ g. stays_as l (joined x o.count o.last x.join) same) (λ g. stays_as l (joined x o.count o.last x.join) same))
      (λ z r all. becomes_ready_cases P x.join
      (λ a. opens_stays l (joined x o.count o.last (record x.join { stage = stage.Open })) (k.0, λ got e. absurd (cc)))
      (λ a. stays_as l (joined x o.count o.last (record x.join { stage = stage.Ready })) (k.0, λ got e. absurd (cc))))
      (λ z r q a b c.
      let e = place_is o.last o.count c in
      let taking : ReconcileState = record x.join { stage = stage.Taking } in
      let R : Option Entry → Type 0 = λ t. let u : Out M = elim t [ None ↦ nothing x | Some d ↦ goes_on (joined (applied d x) o.count o.last (joining.taken taking true).0) o (joining.taken taking true).1 ] in StaysAt l u.node in
      subst R (sym e.1) (goes_stays l x (applied e.0 x) o stage.Taking k))
      (λ z r. goes_stays l x (with_replica x registry o.count) o (if joining.locks x.join then stage.Taking else stage.Pulling (unwrap_or (joining.pulled_bytes x.join) 0)) k)

  -- The cores of a world
  abbrev pub Cores : World M → Type 0
  Cores w = (n : ℕ) (x : NodeState M) → w.nodes n ≡ Some x → Counted w.log x

  -- one node leaves o, and the log grew
  cores_put : (w u : World M) (n : ℕ) (o : Option (NodeState M)) → Cores w → Extends w u → u.nodes ≡ put w.nodes n o → StaysAt u.log o → Cores u
  cores_put w u n o h g e s m z at = ⊎_elim
      (λ (c : (m ≡ n) × (o ≡ Some z)). s z c.1)
      (λ (c : (m ≢ n) × (w.nodes m ≡ Some z)). (let k = h m z c.1 in (grown_core w.log u.log z.core g k.0, k.1)))
      (put_cases w.nodes n o m z ((λ i. sym e i m) ∙ at))

  cores_same : (w u : World M) → Cores w → Extends w u → u.nodes ≡ w.nodes → Cores u
  cores_same w u h g e n x at = let k = h n x ((λ i. sym e i n) ∙ at) in (grown_core w.log u.log x.core g k.0, k.1)

  noted_nodes : (w : World M) (n : ℕ) (x : NodeState M) (u : Update) → ((noted n x u w).nodes ≡ w.nodes) × ((noted n x u w).log ≡ w.log)
  noted_nodes w n x u = if_cases (λ (v : World M). (v.nodes ≡ w.nodes) × (v.log ≡ w.log)) (may_submit x) _ _ (λ g. (refl, refl)) (λ g. (refl, refl))

  install_cores : (w : World M) (n : ℕ) (x : NodeState M) (v : View) (opening : Opening) → Cores w → w.nodes n ≡ Some x → Cores (install w n x v opening)
  install_cores w n x v opening h at =
      let P : World M → Type 0 = λ u. Cores u in
      if_cases P (takes_view x v) _ _
      (λ g.
      let dies : (c : HaltCause) (u : World M) → u.nodes ≡ w.nodes → GrewLog w.log u.log → Cores (absorb n (halts c) u) = λ c u e r. cores_put w (absorb n (halts c) u) n None h r (ap (λ (f : ℕ → Option (NodeState M)). put f n None) e) (stays_halts u.log) in
      if_cases P (is_locker v.members x.join.node) _ _
      (λ lk. if_cases P (nat_lt v.number w.log.held) _ _
      (λ f. dies (halt.Fenced w.log.held) w refl (log_same w.log))
      (λ f. opened opening g dies))
      (λ nl. subst (λ (y : NodeState M). Cores (absorb n (nothing y) w)) (sym (entered_is x v g)) (cores_put w (absorb n (nothing (taken_view v x)) w) n (Some (taken_view v x)) h (log_same w.log) refl (stays_as w.log (taken_view v x) (enter_core w.log x.core v, λ got e. absurd (cc))))))
      (λ g. h)
    where
      opened : (opening : Opening) → takes_view x v ≡ true → ((c : HaltCause) (u : World M) → u.nodes ≡ w.nodes → GrewLog w.log u.log → Cores (absorb n (halts c) u)) → Cores (elim opening [
        | Recovered found ↦ absorb n (recovers (entered v x) w.log.cap (found_log found w.log).order) (with_log (claimed v.number (found_log found w.log)) w)
        | Refused raised cause ↦ absorb n (halts cause) (with_log (raise raised v.number w.log) w)
      ])
      opened (Recovered found) g dies =
          let l : Log = claimed v.number (found_log found w.log) in
          let fg = found_grew w.log found in
          subst (λ (y : NodeState M). Cores (absorb n (recovers y w.log.cap (found_log found w.log).order) (with_log l w))) (sym (entered_is x v g))
          (cores_put w (absorb n (recovers (taken_view v x) w.log.cap (found_log found w.log).order) (with_log l w)) n (recovers (taken_view v x) w.log.cap (found_log found w.log).order).node h (record { order = fg.order; cap = fg.cap }) refl
          (recovers_stays l (taken_view v x) w.log.cap (found_log found w.log).order refl (enter_core l x.core v, λ got e. absurd (cc))))
      opened (Refused raised cause) g dies = dies cause (with_log (raise raised v.number w.log) w) refl (raise_grew w.log raised v.number)

  pub cores_keep : (w : World M) (e : Event) → Invariant w → Cores w → Cores (happens w e)
  cores_keep w (Start n) j h = option_cases (λ (u : World M). Cores u) (w.nodes n) (started_world w n) (λ x. w)
      (λ none. cores_put w (started_world w n) n (Some (fresh M n (w.starts n + 1))) h (log_same w.log) refl (stays_as w.log (fresh M n (w.starts n + 1)) (record { greatest = λ m lt g. absurd (omega (arith, lt)); awaits = λ s e. absurd (cc) }, λ got e. absurd (cc))))
      (λ x some. h)
  cores_keep w (Declare v) j h = if_cases (λ (u : World M). Cores u) (may_declare w v) _ _ (λ g. h) (λ g. h)
  cores_keep w (Install n v opening) j h = at_keeps (λ (u : World M). Cores u) w n (λ x. elim (view_in w.chain v) [ None ↦ w | Some u ↦ install w n x u opening ]) h
      (λ x at. option_cases (λ (u : World M). Cores u) (view_in w.chain v) w (λ u. install w n x u opening) (λ none. h) (λ u some. install_cores w n x u opening h at))
  cores_keep w (Deliver k answer) j h = option_cases (λ (u : World M). Cores u) (at_place w.pool k) w (λ p. deliver w p answer) (λ none. h)
      (λ p some. option_cases (λ (u : World M). Cores u) (w.nodes p.to) w (λ x. absorb p.to (receive x p w.log.held answer).out (logs (number_of x) (receive x p w.log.held answer) w)) (λ none. h)
      (λ x at. cores_put w (absorb p.to (receive x p w.log.held answer).out (logs (number_of x) (receive x p w.log.held answer) w)) p.to (receive x p w.log.held answer).out.node h
      (leave_grew w.log (append (receive x p w.log.held answer).appended (number_of x) w.log) (receive x p w.log.held answer).doubtful (number_of x) (append_grew w.log (receive x p w.log.held answer).appended (number_of x)))
      refl (receive_stays w p.to x p answer j at (h p.to x at))))
  cores_keep w (Submit n u valid) j h = at_keeps (λ (v : World M). Cores v) w n (λ x. absorb n (submit x u) (noted n x u w)) h (λ x at.
      let nn = noted_nodes w n x u in
      cores_put w (absorb n (submit x u) (noted n x u w)) n (submit x u).node h (subst (λ (l : Log). GrewLog w.log l) (sym nn.1) (log_same w.log)) (ap (λ (f : ℕ → Option (NodeState M)). put f n (submit x u).node) nn.0) (submit_stays (noted n x u w).log x u (subst (λ (l : Log). Counted l x) (sym nn.1) (h n x at))))
  cores_keep w (Read n) j h = at_keeps (λ (v : World M). Cores v) w n (λ x. if joining.is_open x.join then absorb n (nothing x) (reads n x w) else w) h (λ x at. if_cases (λ (v : World M). Cores v) (joining.is_open x.join) _ _ (λ op. cores_put w (absorb n (nothing x) (reads n x w)) n (Some x) h (log_same w.log) refl (stays_as w.log x (h n x at))) (λ op. h))
  cores_keep w (Tick n) j h = at_keeps (λ (v : World M). Cores v) w n (λ x. absorb n (tick x) w) h (λ x at. cores_put w (absorb n (tick x) w) n (Some x) h (log_same w.log) refl (stays_as w.log x (h n x at)))
  cores_keep w (Clock n stamp) j h = if_cases (λ (v : World M). Cores v) (nat_lt stamp (2 ^ 64)) _ _ (λ g. at_keeps (λ (v : World M). Cores v) w n (λ x. absorb n (clock x stamp) w) h (λ x at. cores_put w (absorb n (clock x stamp) w) n (Some (record x { stamp = stamp })) h (log_same w.log) refl (stays_as w.log (record x { stamp = stamp }) (h n x at)))) (λ g. h)
  cores_keep w (Checkpoint n good) j h = at_keeps (λ (v : World M). Cores v) w n (λ x. absorb n (checkpoint x w.log.held good) w) h (λ x at. cores_put w (absorb n (checkpoint x w.log.held good) w) n (checkpoint x w.log.held good).node h (log_same w.log) refl (checkpoint_stays w.log x w.log.held good (h n x at)))
  cores_keep w (Die n) j h = cores_put w (stopped n w) n None h (log_same w.log) refl (stays_halts w.log)
  cores_keep w (DieInDeliver k answer) j h = option_cases (λ (u : World M). Cores u) (at_place w.pool k) w (λ p. die_in_deliver w p answer) (λ none. h)
      (λ p some. option_cases (λ (u : World M). Cores u) (w.nodes p.to) w (λ x. stopped p.to (with_log (leave (written (receive x p w.log.held answer)) (number_of x) w.log) w)) (λ none. h)
      (λ x at. cores_put w (stopped p.to (with_log (leave (written (receive x p w.log.held answer)) (number_of x) w.log) w)) p.to None h (leave_grew w.log w.log (written (receive x p w.log.held answer)) (number_of x) (log_same w.log)) refl (stays_halts (leave (written (receive x p w.log.held answer)) (number_of x) w.log))))
  cores_keep w (DieInInstall n v raised) j h = at_keeps (λ (u : World M). Cores u) w n (λ x. elim (view_in w.chain v) [ None ↦ w | Some u ↦ die_in_install w n x u raised ]) h
      (λ x at. option_cases (λ (u : World M). Cores u) (view_in w.chain v) w (λ u. die_in_install w n x u raised) (λ none. h) (λ u some. cores_put w (die_in_install w n x u raised) n None h (raise_grew w.log (opens_log w x u && raised) u.number) refl (stays_halts (die_in_install w n x u raised).log)))
