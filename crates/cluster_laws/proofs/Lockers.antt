-- A locker that stands in a view is ready: it became so in the event in which it took the view. A node's stamp is the
-- clock's alone to change.
use Rattle.std.proofs.Common.{◌≡◌, ◌≢◌, ⊎_elim, ℕ, ◌+◌, ◌<◌, Bool, true, false, not, ◌&&◌, List, [], ◌++◌, length, Option, Some, None, nat_eq, nat_lt, unwrap_or, if◌then◌else◌, refl, sym, ap, ◌∙◌, subst, arith}
use Rattle.gum_messages.specs.declared.view.View.{View}
use Rattle.gum_messages.specs.Members.{is_locker, is_member}
use Rattle.gum_messages.proofs.Branches.{if_cases, option_cases}
use Rattle.update_records.specs.Entry.{Entry}
use Rattle.update_records.specs.declared.update.Update.{Update}
use Rattle.gum_core.specs.declared.decision.Decision.{Decision}
use Rattle.gum_core.specs.Updating.{CoreState, greatest_of}
use Rattle.gum_core.specs.Updating as updating
use Rattle.view_reconcile.specs.declared.stage.Stage.{Stage}
use Rattle.view_reconcile.specs.declared.stage.Stage.TheVariants as stage
use Rattle.view_reconcile.specs.declared.step.Step.{Step}
use Rattle.view_reconcile.specs.Joining.{ReconcileState}
use Rattle.view_reconcile.specs.Joining as joining
use Rattle.cluster_rules.specs.declared.effect.HaltCause.TheVariants as halt
use Rattle.cluster_rules.specs.Machines.{Machine, registry_at}
use Rattle.gum_messages.specs.declared.body.Body.{Body}
use Rattle.gum_messages.specs.declared.body.Body.TheVariants.{Ask, Granted, Apply, Applied, Release, Offer, Need, Piece, Ready, OpenView}
use Rattle.gum_messages.specs.Messages.{Sent}
use Rattle.cluster_rules.specs.declared.offering.Offering.{Offering}
use Rattle.cluster_rules.specs.Nodes.{NodeState, Out, done_of, halts, locker_at, nothing, number_of, place_of, tells}
use Rattle.cluster_rules.specs.Updates.{Answer, InDoubt, Logged, Unwritten, Written, answers, applied, applies, begins, entry_for, has_logged, may_submit, on_applied, on_apply, on_ask, on_granted, opens, proceeds, submit, unlogged, without_head}
use Rattle.cluster_rules.specs.Joins.{done_within, entered, follows, gathers, goes_on, hears_itself, joined, known_done, last_of, marks_ready, on_need, on_offer, on_open_view, on_piece, on_ready, piece, recovers, says_ready, sends_piece, takes_view, with_replica}
use Rattle.cluster_rules.specs.Receiving.{checkpoint, clock, receive, tick}
use Rattle.cluster_rules.specs.Receiving as receiving
use Rattle.cluster_rules.specs.Worlds.{Opening, Recovered, Refused, World, absorb, claimed, found_log, install, opening, put, raise, with_log}
use Rattle.cluster_laws.proofs.Moves.{put_cases}
use Rattle.cluster_laws.proofs.Applying.{and_true, locker_not, lt_true, not_true}
use Rattle.gum_core.proofs.Cases.{applied_cases, applying_cases, asked_cases, granted_cases, spread_cases}
use Rattle.gum_core.proofs.Cases.{opened_cases as core_opened_cases}
use Rattle.view_reconcile.proofs.Cases.{becomes_ready_cases, offered_cases, opened_cases, pulled_cases, readied_cases}
use Rattle.cluster_laws.proofs.Recovering.{entered_is, taken_view}
use Rattle.cluster_laws.proofs.Offering.{place_is}

-- a step of joining in which a locker stays ready
abbrev pub Follows : ReconcileState → ReconcileState → Type 0
Follows s t = (t.view ≡ s.view) × (t.node ≡ s.node) × (joining.locks s ≡ true → joining.is_ready s ≡ true → joining.is_ready t ≡ true)

pub follows_refl : (s : ReconcileState) → Follows s s
follows_refl s = (refl, refl, λ l r. r)

pub follows_ready : (s t : ReconcileState) → t.view ≡ s.view → t.node ≡ s.node → joining.is_ready t ≡ true → Follows s t
follows_ready s t v n r = (v, n, λ a b. r)

pub taken_follows : (s : ReconcileState) (t : Stage) → Follows s (joining.taken (record s { stage = t }) true).0
taken_follows s t = becomes_ready_cases (λ (r : ReconcileState × Step). Follows s r.0) (record s { stage = t }) (λ a. (refl, refl, λ l r. refl)) (λ a. (refl, refl, λ l r. refl))

module _ {M : Machine} where
  -- what is left runs on in its view and with its stamp, or stopped
  abbrev pub StaysAt : NodeState M → Option (NodeState M) → Type 0
  StaysAt x o = (y : NodeState M) → o ≡ Some y → Follows x.join y.join × (y.stamp ≡ x.stamp)

  abbrev pub Stays : NodeState M → Out M → Type 0
  Stays x o = StaysAt x o.node

  pub stays_as : (x y : NodeState M) → Follows x.join y.join → y.stamp ≡ x.stamp → StaysAt x (Some y)
  stays_as x y f st z e = let q : y ≡ z = cc in subst (λ (t : NodeState M). Follows x.join t.join × (t.stamp ≡ x.stamp)) q (f, st)

  pub stays_same : (x y : NodeState M) → y.join ≡ x.join → y.stamp ≡ x.stamp → StaysAt x (Some y)
  stays_same x y e st = stays_as x y (subst (λ (t : ReconcileState). Follows x.join t) (sym e) (follows_refl x.join)) st

  pub stays_halts : (x : NodeState M) → StaysAt x None
  stays_halts x y e = absurd (cc)

  -- Global update
  pub submit_stays : (x : NodeState M) (u : Update) → Stays x (submit x u)
  submit_stays x u = if_cases (λ (o : Out M). Stays x o) (may_submit x) _ _ (λ g. stays_same x (record x { core = (updating.submitted x.core u).0 }) refl refl) (λ g. stays_same x x refl refl)

  pub begins_stays : (x y : NodeState M) → Follows x.join y.join → y.stamp ≡ x.stamp → StaysAt x (begins y (updating.opened y.core y.settled)).node
  begins_stays x y f st = core_opened_cases (λ (t : CoreState × Decision). StaysAt x (begins y t).node) y.core y.settled
      (λ e. stays_as x (record y { core = record y.core { is_open = true } }) f st)
      (λ some none. stays_as x (record y { core = record y.core { is_open = true } }) f st)
      (λ some k set_. stays_as x (without_head y (updating.finished (record y.core { is_open = true }) k).0) f st)

  pub proceeds_stays : (x : NodeState M) (e : Entry) (place at : ℕ) → Stays x (proceeds x e (updating.spread x.core place at))
  proceeds_stays x e place at = spread_cases (λ (t : CoreState × Decision). Stays x (proceeds x e t)) x.core place at
      (λ none. stays_same x (without_head x (updating.finished x.core place).0) refl refl)
      (λ to there. stays_same x (record x { core = record x.core { spreading = Some (record { place = place; at = at }) }; spreads = Some e }) refl refl)

  pub granted_stays : (x : NodeState M) (e : Entry) → Stays x (on_granted x e)
  granted_stays x e = granted_cases (λ (t : CoreState × Decision). Stays x (proceeds x e t)) x.core e.id.req e.place
      (stays_same x x refl refl) (λ a b c d. proceeds_stays x e e.place 0) (λ a b c. stays_same x x refl refl)

  pub applied_stays : (x : NodeState M) (from place : ℕ) → Stays x (on_applied x from place)
  applied_stays x from place = option_cases (λ (o : Out M). Stays x o) x.spreads (nothing x) (λ e. proceeds x e (updating.applied x.core from place))
      (λ none. stays_same x x refl refl)
      (λ e has. applied_cases (λ (t : CoreState × Decision). Stays x (proceeds x e t)) x.core from place (stays_same x x refl refl) (λ s a b c. proceeds_stays x e place (s.at + 1)))

  pub apply_stays : (x : NodeState M) (from : ℕ) (e : Entry) → Stays x (on_apply x from e)
  apply_stays x from e = if_cases (λ (o : Out M). Stays x o) (joining.is_ready x.join && not (joining.locks x.join)) _ _
      (λ g. applying_cases (λ (d : Decision). Stays x (applies x from e d)) (done_of x) e.place (λ a. stays_same x (applied e x) refl refl) (λ a. stays_same x x refl refl) (λ a. stays_same x x refl refl))
      (λ g. stays_same x x refl refl)

  answer_stays : (x : NodeState M) (e : Entry) (answer : Answer) → let l : Logged M = elim answer [
    | Written ↦ record { out = tells (has_logged x e) e.id.node (Granted e); appended = Some e; doubtful = None }
    | InDoubt ↦ record { out = halts halt.Disk; appended = None; doubtful = Some e }
    | Unwritten ↦ unlogged (halts halt.Disk)
  ] in Stays x l.out
  answer_stays x e Written = stays_same x (has_logged x e) refl refl
  answer_stays x e InDoubt = stays_halts x
  answer_stays x e Unwritten = stays_halts x

  pub ask_stays : (x : NodeState M) (from q : ℕ) (u : Update) (held : ℕ) (answer : Answer) → Stays x (on_ask x from q u held answer).out
  ask_stays x from q u held answer = asked_cases (λ (d : Decision). Stays x (answers x u held answer d).out) x.core from q (done_of x)
      (stays_same x x refl refl)
      (λ a b c d e. if_cases (λ (l : Logged M). Stays x l.out) (nat_lt (number_of x) held) _ _ (λ f. stays_halts x) (λ f. answer_stays x (entry_for x from q u) answer))
      (λ a b l c d e. option_cases (λ (o : Out M). Stays x o) x.last (nothing x) (λ t. tells x from (Granted t)) (λ none. stays_same x x refl refl) (λ t some. stays_same x x refl refl))

  -- Joining
  pub offer_stays : (x : NodeState M) (from : ℕ) (o : Offering) → Stays x (on_offer x from o)
  offer_stays x from o =
      let P : Out M → Type 0 = λ a. Stays x a in
      if_cases P (nat_eq from (locker_at x) && not (joining.locks x.join)) _ _
      (λ g.
      let nl : joining.locks x.join ≡ false = not_true (joining.locks x.join) (and_true (nat_eq from (locker_at x)) (not (joining.locks x.join)) g).1 in
      let other : (t : ReconcileState) → t.view ≡ x.join.view → t.node ≡ x.join.node → Follows x.join t = λ t v n. (v, n, λ l r. absurd (locker_not (joining.locks x.join) l nl)) in
      if_cases P (joining.is_ready x.join) _ _
      (λ rd. stays_same x x refl refl)
      (λ nr. offered_cases (λ (r : ReconcileState × Step). P (follows x o r)) x.join o.count (place_of o.last) (known_done x)
      (λ z. stays_same x x refl refl)
      (λ z rd. absurd (locker_not (joining.is_ready x.join) rd nr))
      (λ z r all. becomes_ready_cases (λ (r : ReconcileState × Step). P (follows x o r)) x.join
      (λ a. stays_same x x refl refl)
      (λ a. stays_as x (joined x o.count o.last (record x.join { stage = stage.Ready })) (other (record x.join { stage = stage.Ready }) refl refl) refl))
      (λ z r k a b c. option_cases P o.last (nothing x) (λ e. says_ready (joined (applied e x) o.count o.last (joining.taken (record x.join { stage = stage.Taking }) true).0))
      (λ none. stays_same x x refl refl)
      (λ e some. stays_as x (joined (applied e x) o.count o.last (joining.taken (record x.join { stage = stage.Taking }) true).0) (taken_follows x.join stage.Taking) refl))
      (λ z r.
      let got : ℕ = unwrap_or (joining.pulled_bytes x.join) 0 in
      let t : ReconcileState = (joining.pulls_on x.join).0 in
      if_cases (λ (y : NodeState M). P (tells y (locker_at x) (Need got))) (nat_eq got 0) _ _
      (λ b. stays_as x (record x { join = t; offer = Some o; bytes = [] }) (other t refl refl) refl)
      (λ b. stays_as x (record x { join = t }) (other t refl refl) refl))))
      (λ g. stays_same x x refl refl)

  pub need_stays : (x : NodeState M) (from offset : ℕ) → Stays x (on_need x from offset)
  need_stays x from offset =
      let P : Out M → Type 0 = λ a. Stays x a in
      option_cases P x.replica (nothing x) (λ r. if joining.locks x.join && not (joining.is_open x.join) then sends_piece x from (M.encode r.registry) offset else nothing x)
      (λ none. stays_same x x refl refl)
      (λ r some. if_cases P (joining.locks x.join && not (joining.is_open x.join)) _ _
      (λ g. option_cases P (joining.piece_length (length (M.encode r.registry)) offset) (nothing x) (λ c. tells x from (piece (M.encode r.registry) offset c)) (λ none. stays_same x x refl refl) (λ c e. stays_same x x refl refl))
      (λ g. stays_same x x refl refl))

  -- a pulling node isn't a ready locker
  pub piece_stays : (x : NodeState M) (total offset : ℕ) (bytes : List ℕ) → Stays x (on_piece x total offset bytes)
  piece_stays x total offset bytes =
      let unready : (got : ℕ) → x.join.stage ≡ stage.Pulling got → joining.is_ready x.join ≡ false = λ got e. ap (λ (t : Stage). elim t [ stage.Ready ↦ true | stage.Open ↦ true | _ ↦ false ]) e in
      let other : (got : ℕ) → x.join.stage ≡ stage.Pulling got → (t : ReconcileState) → t.view ≡ x.join.view → t.node ≡ x.join.node → Follows x.join t = λ got e t v n. (v, n, λ l r. absurd (locker_not (joining.is_ready x.join) r (unready got e))) in
      pulled_cases (λ (r : ReconcileState × Step). Stays x (gathers x bytes r)) x.join total offset (length bytes)
      (stays_same x x refl refl)
      (λ e lt. stays_as x (record x { join = record x.join { stage = stage.Pulling (offset + length bytes) }; bytes = x.bytes ++ bytes }) (other offset e (record x.join { stage = stage.Pulling (offset + length bytes) }) refl refl) refl)
      (λ e le.
      let s : ReconcileState = record x.join { stage = stage.Taking } in
      option_cases (λ (o : Out M). Stays x o) x.offer (nothing x) (λ o. elim (M.decode o.cap (x.bytes ++ bytes)) [
        | Some registry ↦ says_ready (joined (with_replica x registry o.count) o.count o.last (joining.taken s true).0)
        | None ↦ tells (record x { join = (joining.taken s false).0; bytes = [] }) (locker_at x) (Need 0)
      ])
      (λ none. stays_same x x refl refl)
      (λ o some. option_cases (λ (o : Out M). Stays x o) (M.decode o.cap (x.bytes ++ bytes)) (tells (record x { join = (joining.taken s false).0; bytes = [] }) (locker_at x) (Need 0)) (λ registry. says_ready (joined (with_replica x registry o.count) o.count o.last (joining.taken s true).0))
      (λ none. stays_as x (record x { join = (joining.taken s false).0; bytes = [] }) (other offset e (joining.pulls s).0 refl refl) refl)
      (λ registry there. stays_as x (joined (with_replica x registry o.count) o.count o.last (joining.taken s true).0) (taken_follows x.join stage.Taking) refl)))

  pub ready_stays : (x : NodeState M) (from : ℕ) → Stays x (on_ready x from)
  ready_stays x from = readied_cases (λ (r : ReconcileState × Step). Stays x (marks_ready x r)) x.join from
      (λ l. stays_same x x refl refl)
      (λ l o. stays_same x x refl refl)
      (λ l o a. begins_stays x (record x { join = record (joining.marked x.join from) { stage = stage.Open } }) (refl, refl, λ l r. refl) refl)
      (λ l o a. stays_as x (record x { join = joining.marked x.join from }) (refl, refl, λ l r. r) refl)

  pub open_view_stays : (x : NodeState M) (from : ℕ) → Stays x (on_open_view x from)
  open_view_stays x from =
      let Q : Out M → Type 0 = λ o. Stays x o in
      opened_cases (λ (r : ReconcileState × Bool). Q (if nat_eq from (locker_at x) && r.1 then opens (record x { join = r.0 }) else nothing x)) x.join
      (λ rd shut. if_cases Q (nat_eq from (locker_at x) && true) _ _ (λ g. begins_stays x (record x { join = record x.join { stage = stage.Open } }) (refl, refl, λ l r. refl) refl) (λ g. stays_same x x refl refl))
      (if_cases Q (nat_eq from (locker_at x) && false) _ _ (λ g. begins_stays x x (follows_refl x.join) refl) (λ g. stays_same x x refl refl))

  hears_stays : (x : NodeState M) (from : ℕ) (b : Body) (held : ℕ) (answer : Answer) → Stays x (receiving.hears x from b held answer).out
  hears_stays x from (Ask q u) held answer = ask_stays x from q u held answer
  hears_stays x from (Granted e) held answer = granted_stays x e
  hears_stays x from (Apply e) held answer = apply_stays x from e
  hears_stays x from (Applied k) held answer = applied_stays x from k
  hears_stays x from (Release q) held answer = stays_same x (record x { core = (updating.released x.core from q).0 }) refl refl
  hears_stays x from (Offer c cap last) held answer = offer_stays x from (record { count = c; cap = cap; last = last })
  hears_stays x from (Need offset) held answer = need_stays x from offset
  hears_stays x from (Piece total offset bytes) held answer = piece_stays x total offset bytes
  hears_stays x from Ready held answer = ready_stays x from
  hears_stays x from OpenView held answer = open_view_stays x from

  pub receive_stays : (x : NodeState M) (p : Sent) (held : ℕ) (answer : Answer) → Stays x (receive x p held answer).out
  receive_stays x p held answer = if_cases (λ (d : Logged M). Stays x d.out) (receiving.counts x p) _ _ (λ g. hears_stays x p.from p.body held answer) (λ g. stays_same x x refl refl)

  pub checkpoint_stays : (x : NodeState M) (held : ℕ) (good : Bool) → Stays x (checkpoint x held good)
  checkpoint_stays x held good =
      let P : Out M → Type 0 = λ a. Stays x a in
      if_cases P (x.core.is_open && updating.locks x.core) _ _
      (λ g. if_cases P (nat_lt (number_of x) held) _ _ (λ f. stays_halts x) (λ f. if_cases P good _ _ (λ b. stays_same x x refl refl) (λ b. stays_halts x)))
      (λ g. stays_same x x refl refl)

  -- Recovery
  abbrev pub IsReady : NodeState M → Option (NodeState M) → Type 0
  IsReady x o = (y : NodeState M) → o ≡ Some y → (joining.is_ready y.join ≡ true) × (y.stamp ≡ x.stamp)

  pub ready_as : (x y : NodeState M) → joining.is_ready y.join ≡ true → y.stamp ≡ x.stamp → IsReady x (Some y)
  ready_as x y r st z e = let q : y ≡ z = cc in subst (λ (t : NodeState M). (joining.is_ready t.join ≡ true) × (t.stamp ≡ x.stamp)) q (r, st)

  pub opens_ready : (x y : NodeState M) → joining.is_ready y.join ≡ true → y.stamp ≡ x.stamp → IsReady x (opens y).node
  opens_ready x y r st = core_opened_cases (λ (t : CoreState × Decision). IsReady x (begins y t).node) y.core y.settled
      (λ e. ready_as x (record y { core = record y.core { is_open = true } }) r st)
      (λ some none. ready_as x (record y { core = record y.core { is_open = true } }) r st)
      (λ some k set_. ready_as x (without_head y (updating.finished (record y.core { is_open = true }) k).0) r st)

  pub goes_ready : (x z : NodeState M) (o : Offering) (t : Stage) → z.stamp ≡ x.stamp → IsReady x (goes_on (joined z o.count o.last (joining.becomes_ready (record x.join { stage = t })).0) o (joining.becomes_ready (record x.join { stage = t })).1).node
  goes_ready x z o t st = becomes_ready_cases (λ (r : ReconcileState × Step). IsReady x (goes_on (joined z o.count o.last r.0) o r.1).node) (record x.join { stage = t })
      (λ a. opens_ready x (joined z o.count o.last (record x.join { stage = stage.Open })) refl st)
      (λ a. ready_as x (joined z o.count o.last (record x.join { stage = stage.Ready })) refl st)

  pub recovers_ready : (x : NodeState M) (cap : ℕ) (order : List Entry) → x.join.view.number ≢ 0 → joining.is_ready x.join ≡ false → IsReady x (recovers x cap order).node
  recovers_ready x cap order nz nr =
      let o : Offering = record { count = length order; cap = cap; last = last_of order } in
      let registry : M.Registry = registry_at M cap order (length order) in
      let P : ReconcileState × Step → Type 0 = λ r. IsReady x (hears_itself x o registry r).node in
      offered_cases P x.join o.count (place_of o.last) (done_within x cap)
      (λ z. absurd (nz z))
      (λ z rd. absurd (locker_not (joining.is_ready x.join) rd nr))
      (λ z r all. becomes_ready_cases P x.join
      (λ a. opens_ready x (joined x o.count o.last (record x.join { stage = stage.Open })) refl refl)
      (λ a. ready_as x (joined x o.count o.last (record x.join { stage = stage.Ready })) refl refl))
      (λ z r k a b c.
      let e = place_is o.last o.count c in
      let taking : ReconcileState = record x.join { stage = stage.Taking } in
      let R : Option Entry → Type 0 = λ l. let t : Out M = elim l [ None ↦ nothing x | Some d ↦ goes_on (joined (applied d x) o.count o.last (joining.taken taking true).0) o (joining.taken taking true).1 ] in IsReady x t.node in
      subst R (sym e.1) (goes_ready x (applied e.0 x) o stage.Taking refl))
      (λ z r. goes_ready x (with_replica x registry o.count) o (if joining.locks x.join then stage.Taking else stage.Pulling (unwrap_or (joining.pulled_bytes x.join) 0)) refl)

  -- every locker that stands in a view is ready
  abbrev pub Lockers : World M → Type 0
  Lockers w = (n : ℕ) (x : NodeState M) → w.nodes n ≡ Some x → joining.locks x.join ≡ true → x.join.view.number ≢ 0 → joining.is_ready x.join ≡ true

  -- what a node leaves
  pub lockers_absorb : (w w' : World M) (n : ℕ) (o : Option (NodeState M)) → Lockers w → w'.nodes ≡ put w.nodes n o → ((y : NodeState M) → o ≡ Some y → joining.locks y.join ≡ true → y.join.view.number ≢ 0 → joining.is_ready y.join ≡ true) → Lockers w'
  lockers_absorb w w' n o h e f m z at = ⊎_elim
      (λ (c : (m ≡ n) × (o ≡ Some z)). f z c.1)
      (λ (c : (m ≢ n) × (w.nodes m ≡ Some z)). h m z c.1)
      (put_cases w.nodes n o m z ((λ i. sym e i m) ∙ at))

  pub lockers_stay : (w w' : World M) (n : ℕ) (x : NodeState M) (o : Option (NodeState M)) → Lockers w → w.nodes n ≡ Some x → w'.nodes ≡ put w.nodes n o → StaysAt x o → Lockers w'
  lockers_stay w w' n x o h at e s = lockers_absorb w w' n o h e (λ y q lk nz.
      let f : Follows x.join y.join = (s y q).0 in
      let same : joining.locks x.join ≡ joining.locks y.join = λ i. is_locker (sym f.0 i).members (sym f.1 i) in
      let nx : x.join.view.number ≢ 0 = λ z. nz (ap (λ (v : View). v.number) f.0 ∙ z) in
      f.2 (same ∙ lk) (h n x at (same ∙ lk) nx))

  pub install_lockers : (w : World M) (n : ℕ) (x : NodeState M) (v : View) (opening : Opening) → Lockers w → w.nodes n ≡ Some x → Lockers (install w n x v opening)
  install_lockers w n x v opening h at =
      let P : World M → Type 0 = λ u. Lockers u in
      if_cases P (takes_view x v) _ _
      (λ g.
      let up : x.join.view.number < v.number = lt_true x.join.view.number v.number (and_true (nat_lt x.join.view.number v.number) (is_member v.members x.join.node x.join.inc) g).0 in
      let nz : v.number ≢ 0 = λ e. absurd (omega arith) in
      let dies : (u : World M) → u.nodes ≡ w.nodes → Lockers (absorb n (halts halt.Disk) u) = λ u e. lockers_absorb w (absorb n (halts halt.Disk) u) n None h (ap (λ (f : ℕ → Option (NodeState M)). put f n None) e) (λ y q. absurd (cc)) in
      if_cases P (is_locker v.members x.join.node) _ _
      (λ lk. if_cases P (nat_lt v.number w.log.held) _ _
      (λ f. dies w refl)
      (λ f. opened_lockers opening g nz dies))
      (λ nl. subst (λ (y : NodeState M). Lockers (absorb n (nothing y) w)) (sym (entered_is x v g)) (lockers_absorb w (absorb n (nothing (taken_view v x)) w) n (Some (taken_view v x)) h refl (λ y q lk z.
      let e : taken_view v x ≡ y = cc in
      let l : is_locker v.members x.join.node ≡ true = ap (λ (t : NodeState M). joining.locks t.join) e ∙ lk in
      absurd (locker_not (is_locker v.members x.join.node) l nl)))))
      (λ g. h)
    where
      opened_lockers : (opening : Opening) → takes_view x v ≡ true → v.number ≢ 0 → ((u : World M) → u.nodes ≡ w.nodes → Lockers (absorb n (halts halt.Disk) u)) → Lockers (elim opening [
        | Recovered found ↦ absorb n (recovers (entered v x) w.log.cap (found_log found w.log).order) (with_log (claimed v.number (found_log found w.log)) w)
        | Refused raised cause ↦ absorb n (halts cause) (with_log (raise raised v.number w.log) w)
      ])
      opened_lockers (Recovered found) g nz dies = subst (λ (y : NodeState M). Lockers (absorb n (recovers y w.log.cap (found_log found w.log).order) (with_log (claimed v.number (found_log found w.log)) w))) (sym (entered_is x v g))
          (lockers_absorb w (absorb n (recovers (taken_view v x) w.log.cap (found_log found w.log).order) (with_log (claimed v.number (found_log found w.log)) w)) n (recovers (taken_view v x) w.log.cap (found_log found w.log).order).node h refl
          (λ y q lk z. (recovers_ready (taken_view v x) w.log.cap (found_log found w.log).order nz refl y q).0))
      opened_lockers (Refused raised cause) g nz dies = dies (with_log (raise raised v.number w.log) w) refl
