-- The rules for Granted, Applied and a submitted update.
use Rattle.std.proofs.Common.{◌≡◌, ◌≢◌, ◌⊎◌, inl, inr, ⊎_elim, ℕ, zero, suc, ◌+◌, ◌<◌, ◌≤◌, Bool, true, false, ◌&&◌, List, [], ◌∷◌, ◌++◌, length, Option, Some, None, nat_eq, nat_lt, cond, if◌then◌else◌, slice_get, refl, sym, ap, ◌∙◌, subst, length-append, arith}
use Rattle.std.proofs.lemmas.Bool.{cases_lt}
use Rattle.gum_messages.specs.declared.member.Member.{Member}
use Rattle.gum_messages.specs.declared.view.View.{View}
use Rattle.gum_messages.specs.Members.{inc_of, locker_of, spread_of}
use Rattle.gum_messages.specs.Places.{at_place}
use Rattle.gum_messages.proofs.Branches.{if_cases, option_cases}
use Rattle.gum_messages.proofs.Placing.{get_push, get_within, place_new, place_old}
use Rattle.update_records.specs.Entry.{Entry}
use Rattle.update_records.specs.declared.update.Update.{Update}
use Rattle.gum_core.specs.declared.spreading.Spreading.{Spreading}
use Rattle.gum_core.specs.declared.decision.Decision.{Decision}
use Rattle.gum_core.specs.declared.decision.Decision.TheVariants as decision
use Rattle.gum_core.specs.Updating.{CoreState, greatest_of}
use Rattle.gum_core.specs.Updating as updating
use Rattle.view_reconcile.specs.declared.stage.Stage.{Stage}
use Rattle.view_reconcile.specs.declared.stage.Stage.TheVariants as stage
use Rattle.view_reconcile.specs.Joining.{ReconcileState}
use Rattle.view_reconcile.specs.Joining as joining
use Rattle.view_reconcile.specs.Chains.{view_in}
use Rattle.cluster_rules.specs.Machines.{Machine}
use Rattle.gum_messages.specs.declared.body.Body.TheVariants.{Ask, Granted, Apply, Applied, Release}
use Rattle.gum_messages.specs.Messages.{Sent}
use Rattle.cluster_rules.specs.declared.effect.Effect.{Effect}
use Rattle.cluster_rules.specs.declared.effect.Effect.TheVariants.{Send}
use Rattle.cluster_rules.specs.Nodes.{NodeState, Out, asks, locker_at, nothing, packet}
use Rattle.cluster_rules.specs.Updates.{asked_for, may_submit, on_applied, on_granted, proceeds, submit, submits}
use Rattle.cluster_rules.specs.Worlds.{World, acked, noted, put}
use Rattle.cluster_laws.proofs.History.{absorbed}
use Rattle.cluster_laws.proofs.Inv.{AckOk, AllReached, Asked, Has, Invariant, MemberOk, MsgOk, NodeOk, Owner, OwnerOk, Pooled, Reached, Requested, Stands, WasReady, at_head, greatest_asked, waits}
use Rattle.cluster_laws.proofs.Stable.{AskedOnly, Ext, Grown, all_reached, asks_most, grown_refl, reached, was_ready}
use Rattle.cluster_laws.proofs.Moves.{quiet_points, ext_on, move_on, with_history, at_self, ext_absorb, moved, none_acked, one_told, put_cases, self_node, slice_get_front, stay_keeps, stay_sends, told}
use Rattle.cluster_laws.proofs.Applying.{and_true, length_some, eq_true}
use Rattle.gum_core.proofs.Cases.{applied_cases, granted_cases, receiver_says, spread_cases}
use Rattle.cluster_laws.proofs.Heads.{SpreadOk, append_some, asks_acks, asks_told, asked_head, empty_asks, full_asks, head_keeps, headed}
use Rattle.cluster_laws.proofs.Finish.{Done}
use Rattle.cluster_laws.proofs.Telling.{Good, finish_good, still}

-- each member is the locker or stands in the spreading order
pub cover_spread : (ms : List Member) (n : ℕ) → 0 < inc_of ms n → (j : ℕ) × (m : Member) × (slice_get ms j ≡ Some m) × (m.node ≡ n)
cover_spread [] n h = absurd (omega arith)
cover_spread (m ∷ ms) n h = elim (nat_eq m.node n) as (λ (b : Bool). nat_eq m.node n ≡ b → 0 < cond b m.inc (inc_of ms n) → (j : ℕ) × (k : Member) × (slice_get (m ∷ ms) j ≡ Some k) × (k.node ≡ n)) [
  | true ↦ λ e g. (zero, m, refl, eq_true m.node n e)
  | false ↦ λ e g. let r = cover_spread ms n g in (suc r.0, r.1, r.2, r.3)
] refl h

pub cover : (ms : List Member) (n : ℕ) → 0 < inc_of ms n → (n ≡ locker_of ms) ⊎ ((j : ℕ) × (m : Member) × (slice_get (spread_of ms) j ≡ Some m) × (m.node ≡ n))
cover [] n h = absurd (omega arith)
cover (m ∷ ms) n h = elim (nat_eq m.node n) as (λ (b : Bool). nat_eq m.node n ≡ b → 0 < cond b m.inc (inc_of ms n) → (n ≡ m.node) ⊎ ((j : ℕ) × (k : Member) × (slice_get ms j ≡ Some k) × (k.node ≡ n))) [
  | true ↦ λ e g. inl (sym (eq_true m.node n e))
  | false ↦ λ e g. inr (cover_spread ms n g)
] refl h

pub get_none : {A : Type 0} (l : List A) (k : ℕ) → slice_get l k ≡ None → length l ≤ k
get_none [] k e = omega arith
get_none (x ∷ l) zero e = cc
get_none (x ∷ l) (suc k) e = let h : length l ≤ k = get_none l k e in omega arith

pub receiver_none : (c : CoreState) (at : ℕ) → updating.receiver c at ≡ None → length (spread_of c.members) ≤ at
receiver_none c at e = option_cases (λ (o : Option ℕ). o ≡ None → length (spread_of c.members) ≤ at) (slice_get (spread_of c.members) at) None (λ m. Some m.node) (λ none f. get_none (spread_of c.members) at none) (λ m some f. absurd (cc)) e

pub open_is_ready : (s : ReconcileState) → joining.is_open s ≡ true → joining.is_ready s ≡ true
open_is_ready s e = go s.stage e
  where
    go : (t : Stage) → (elim t [ stage.Open ↦ true | _ ↦ false ]) ≡ true → (elim t [ stage.Ready ↦ true | stage.Open ↦ true | _ ↦ false ]) ≡ true
    go stage.Waiting e = cc
    go (stage.Pulling k) e = cc
    go stage.Taking e = cc
    go stage.Ready e = cc
    go stage.Open e = refl

pub asked_some : (b : Bool) (a req : ℕ) → asked_for (cond b (decision.Ask a) decision.Nothing) ≡ Some req → (b ≡ true) × (a ≡ req)
asked_some true a req e = (refl, cc)
asked_some false a req e = cc

module _ {M : Machine} where
  -- everybody has a record that the locker and each member behind it has
  pub all_have : (w : World M) (ms : List Member) (k : ℕ) → Reached w (locker_of ms) (inc_of ms (locker_of ms)) k → ((j : ℕ) (m : Member) → slice_get (spread_of ms) j ≡ Some m → Reached w m.node (inc_of ms m.node) k) → AllReached w ms k
  all_have w ms k first others = record {
    each = λ n i e pos. ⊎_elim
        (λ (c : n ≡ locker_of ms). let f : Reached w n (inc_of ms n) k = subst (λ (t : ℕ). Reached w t (inc_of ms t) k) (sym c) first in subst (λ (t : ℕ). Reached w n t k) e f)
        (λ (c : (j : ℕ) × (m : Member) × (slice_get (spread_of ms) j ≡ Some m) × (m.node ≡ n)). let f : Reached w n (inc_of ms n) k = subst (λ (t : ℕ). Reached w t (inc_of ms t) k) c.3 (others c.0 c.1 c.2) in subst (λ (t : ℕ). Reached w n t k) e f)
        (cover ms n (subst (λ (t : ℕ). 0 < t) (sym e) pos));
  }

  -- the members of an open node's view have what was acknowledged
  pub open_reached : (w : World M) (n : ℕ) (x : NodeState M) (a v k : ℕ) → Invariant w → w.nodes n ≡ Some x → joining.is_open x.join ≡ true → joining.is_ready x.join ≡ true → slice_get w.acks a ≡ Some (v, k) → v ≤ x.join.view.number → AllReached w x.join.view.members k
  open_reached w n x a v k j at op rd e le =
      let h : NodeOk w n x = j.nodes n x at in
      let d = h.view (h.local.ready_view rd) in
      let k_ok : AckOk w v k = j.acks a v k e in
      ⊎_elim
      (λ (b : v < x.join.view.number). record {
        each = λ m i f pos.
            let r : WasReady w m (inc_of x.join.view.members m) x.join.view.number = h.all_ready op m (subst (λ (t : ℕ). 0 < t) (sym f) pos) in
            let low : k ≤ r.count = k_ok.later x.join.view.number r.count r.counted b in
            record { started = subst (λ (t : ℕ). t ≤ w.starts m) f r.reached.started; done = λ y ay same. omega (arith, low, r.reached.done y ay (same ∙ sym f)) };
      })
      (λ (b : x.join.view.number ≤ v).
      let same : v ≡ x.join.view.number = omega arith in
      let vw : Some k_ok.view ≡ Some x.join.view = sym k_ok.declared ∙ ap (view_in w.chain) same ∙ d.0 in
      let vw2 : k_ok.view ≡ x.join.view = cc in
      subst (λ (u : View). AllReached w u.members k) vw2 k_ok.members)
      (cases_lt v x.join.view.number)

  -- a record that is being spread can be finished
  pub spread_done : (w : World M) (n : ℕ) (x : NodeState M) (r : Entry) (p : ℕ) → Invariant w → w.nodes n ≡ Some x → x.core.queue ≢ [] → Has r n x.join.inc (at_head x) → SpreadOk w n x r p → length (spread_of x.core.members) ≤ p → Done w n x r
  spread_done w n x r p j at f id s le =
      let h : NodeOk w n x = j.nodes n x at in
      let le2 : length (spread_of x.join.view.members) ≤ p = subst (λ (ms : List Member). length (spread_of ms) ≤ p) h.local.core_members le in
      record {
        ready = open_is_ready x.join s.0;
        full = f;
        stands = record { at = s.1.at };
        id = id;
        later = λ u c i b. j.log.bounds u c r i (record { at = s.1.at }) (omega (arith, s.1.view));
        members = all_have w x.join.view.members r.place s.2 (λ i m e. s.3 i m (omega (arith, get_within (spread_of x.join.view.members) i m e, le2)) e);
      }

  -- the record goes to the next member, or is finished
  pub spread_keeps : (w : World M) (n : ℕ) (x : NodeState M) (r : Entry) (p : ℕ) → Invariant w → w.nodes n ≡ Some x → x.core.queue ≢ [] → Has r n x.join.inc (at_head x) → SpreadOk w n x r p → Good w n x (proceeds x r (updating.spread x.core r.place p))
  spread_keeps w n x r p j at f id s =
      let h : NodeOk w n x = j.nodes n x at in
      spread_cases (λ (t : CoreState × Decision). Good w n x (proceeds x r t)) x.core r.place p
      (λ none. finish_good w n x r j at (spread_done w n x r p j at f id s (receiver_none x.core p none)))
      (λ to there.
      let sp : Spreading = record { place = r.place; at = p } in
      let y : NodeState M = headed x x.core.passed x.core.queue (Some sp) (Some r) x.settled x.outcome in
      let es : List Effect = Send (packet y to (Apply r)) ∷ [] in (
        head_keeps w n x x.core.passed x.core.queue (Some sp) (Some r) x.settled x.outcome es j at (record {
          more = omega arith;
          keeps_settled = λ k e. inl e;
          points = quiet_points w n y es refl;
          more_asks = omega arith;
          still = λ e q z. z;
          new = λ a wt st i. (wt, refl);
          new_doubt = λ a wt st i. (wt, refl);
          idle = λ e. absurd (f e);
          settled = h.settled;
          unsettled = h.local.unsettled;
          full_state = λ f. h.local.full_state f;
          queued = h.queued;
          all_requests = refl;
          outcome = h.outcome;
          spreading = λ t e. let q : sp ≡ t = cc in subst (λ (t : Spreading). (a : Entry) × (Some r ≡ Some a) × (a.place ≡ t.place) × Has a n x.join.inc (at_head x) × SpreadOk w n x a t.at) q (r, refl, refl, id, s);
          finished = λ q lt le. absurd (omega arith);
          messages = one_told (λ (q : Sent). Pooled (moved w n y es) q) (packet y to (Apply r)) (told w n x y es to (Apply r) h (h.local.ready_view (open_is_ready x.join s.0)) refl refl (record { at = s.1.at; view = s.1.view }));
          acks = none_acked (λ (a b : ℕ). AckOk (moved w n y es) a b);
        }),
        inl (still y es refl),
      ))

  pub on_granted_keeps : (w : World M) (n : ℕ) (x : NodeState M) (from : ℕ) (r : Entry) → Invariant w → w.nodes n ≡ Some x → x.join.view.number ≢ 0 → MsgOk w x.join.view from n (Granted r) → Good w n x (on_granted x r)
  on_granted_keeps w n x from r j at nz ok =
      let h : NodeOk w n x = j.nodes n x at in
      let here : inc_of x.join.view.members n ≡ x.join.inc = (h.view nz).1 in
      granted_cases (λ (t : CoreState × Decision). Good w n x (proceeds x r t)) x.core r.id.req r.place
      (stay_keeps w n x j at, inl (still x [] refl))
      (λ op full rq none. spread_keeps w n x r 0 j at (length_some x.core.queue full) (record { node = ok.1; inc = ok.2 ∙ here; req = rq }) (sym h.local.core_open ∙ op, ok.0, ok.3, λ i m b e. absurd (omega arith)))
      (λ op pos le.
      let jo : joining.is_open x.join ≡ true = sym h.local.core_open ∙ op in
      let rd : joining.is_ready x.join ≡ true = open_is_ready x.join jo in
      let t = h.finished r.id.req pos le in
      let es : List Effect = Send (packet x (locker_at x) (Release r.id.req)) ∷ [] in (
        stay_sends w n x (locker_at x) (Release r.id.req) j at (told w n x x es (locker_at x) (Release r.id.req) h nz refl refl (
          record { started = omega (arith, h.inc, here); passed = λ z e same. self_node w n x es (λ (q : NodeState M). r.id.req ≤ q.core.passed) le z e },
          t.0,
          record { at = t.3.at },
          record { node = t.4.node; inc = t.4.inc ∙ sym here; req = t.4.req },
          all_reached w (moved w n x es) x.join.view.members t.0.place (ext_absorb w n x x es at (grown_refl x)) (open_reached w n x t.1 t.2 t.0.place j at jo rd t.5 t.6),
        )),
        inl (still x es refl),
      ))

  pub on_applied_keeps : (w : World M) (n : ℕ) (x : NodeState M) (from place : ℕ) → Invariant w → w.nodes n ≡ Some x → MsgOk w x.join.view from n (Applied place) → Good w n x (on_applied x from place)
  on_applied_keeps w n x from place j at ok =
      let h : NodeOk w n x = j.nodes n x at in
      option_cases (λ (o : Out M). Good w n x o) x.spreads (nothing x) (λ e. proceeds x e (updating.applied x.core from place))
      (λ none. (stay_keeps w n x j at, inl (still x [] refl)))
      (λ e has. applied_cases (λ (t : CoreState × Decision). Good w n x (proceeds x e t)) x.core from place
      (stay_keeps w n x j at, inl (still x [] refl))
      (λ s sp pl to.
      let t = h.spreading s sp in
      let q : Some t.0 ≡ Some e = sym t.1 ∙ has in
      let same : t.0 ≡ e = cc in
      let pe : place ≡ e.place = sym pl ∙ sym t.2 ∙ ap (λ (a : Entry). a.place) same in
      let full : x.core.queue ≢ [] = λ z. absurd (let u : x.core.spreading ≡ None = (h.local.idle z).0 in let v : ◌≡◌ {A = Option Spreading} (Some s) None = sym sp ∙ u in cc) in
      let m = receiver_says x.core s.at from to in
      let there : slice_get (spread_of x.join.view.members) s.at ≡ Some m.0 = subst (λ (ms : List Member). slice_get (spread_of ms) s.at ≡ Some m.0) h.local.core_members m.1 in
      let got : Reached w m.0.node (inc_of x.join.view.members m.0.node) place = subst (λ (k : ℕ). Reached w k (inc_of x.join.view.members k) place) (sym m.2) ok in
      let ok0 : SpreadOk w n x t.0 (s.at + 1) = (
        t.3,
        t.4,
        t.6,
        λ i k b f. ⊎_elim
            (λ (c : i < s.at). t.7 i k c f)
            (λ (c : s.at ≤ i).
            let z : i ≡ s.at = omega arith in
            let y : Some k ≡ Some m.0 = sym f ∙ ap (slice_get (spread_of x.join.view.members)) z ∙ there in
            let g : m.0 ≡ k = cc in
            let p0 : place ≡ t.0.place = sym pl ∙ sym t.2 in
            subst (λ (u : Member). Reached w u.node (inc_of x.join.view.members u.node) t.0.place) g (subst (λ (u : ℕ). Reached w m.0.node (inc_of x.join.view.members m.0.node) u) p0 got))
            (cases_lt i s.at),
      ) in
      let ok1 : Has e n x.join.inc (at_head x) × SpreadOk w n x e (s.at + 1) = subst (λ (a : Entry). Has a n x.join.inc (at_head x) × SpreadOk w n x a (s.at + 1)) same (t.5, ok0) in
      subst (λ (k : ℕ). Good w n x (proceeds x e (updating.spread x.core k (s.at + 1)))) (sym pe) (spread_keeps w n x e (s.at + 1) j at full ok1.0 ok1.1)))

  -- an update is submitted: it is the next request
  abbrev pub more_requests : World M → ℕ → NodeState M → Update → ℕ → ℕ → List Update
  more_requests w n x u = put w.requests n (put (w.requests n) x.join.inc (w.requests n x.join.inc ++ u ∷ []))

  pub requests_on : (w : World M) (n : ℕ) (x : NodeState M) (u : Update) (m i q : ℕ) (v : Update) → Requested w m i q v → at_place (more_requests w n x u m i) q ≡ Some v
  requests_on w n x u m i q v e =
      if_cases (λ (f : ℕ → List Update). at_place (f i) q ≡ Some v) (nat_eq m n) (put (w.requests n) x.join.inc (w.requests n x.join.inc ++ u ∷ [])) (w.requests m)
      (λ a. if_cases (λ (l : List Update). at_place l q ≡ Some v) (nat_eq i x.join.inc) (w.requests n x.join.inc ++ u ∷ []) (w.requests n i)
      (λ b. place_old (w.requests n x.join.inc) u q v (subst (λ (k : ℕ). at_place (w.requests n k) q ≡ Some v) (eq_true i x.join.inc b) (subst (λ (k : ℕ). at_place (w.requests k i) q ≡ Some v) (eq_true m n a) e)))
      (λ b. subst (λ (k : ℕ). at_place (w.requests k i) q ≡ Some v) (eq_true m n a) e))
      (λ a. e)

  own_requests : (w : World M) (n : ℕ) (x : NodeState M) (u : Update) → more_requests w n x u n x.join.inc ≡ w.requests n x.join.inc ++ u ∷ []
  own_requests w n x u = (λ i. same w.requests n (put (w.requests n) x.join.inc (w.requests n x.join.inc ++ u ∷ [])) i x.join.inc) ∙ same (w.requests n) x.join.inc (w.requests n x.join.inc ++ u ∷ [])
    where
      same : {A : Type 0} (f : ℕ → A) (n : ℕ) (v : A) → put f n v n ≡ v
      same f n v = grind arith

  other_requests : (w : World M) (n : ℕ) (x : NodeState M) (u : Update) (m : ℕ) → m ≢ n → more_requests w n x u m ≡ w.requests m
  other_requests w n x u m ne = other w.requests n (put (w.requests n) x.join.inc (w.requests n x.join.inc ++ u ∷ [])) m ne
    where
      other : {A : Type 0} (f : ℕ → A) (n : ℕ) (v : A) (m : ℕ) → m ≢ n → put f n v m ≡ f m
      other f n v m h = grind arith

  unasked_on : (w : World M) (n : ℕ) (x : NodeState M) (u : Update) → NodeOk w n x → ((m i : ℕ) → w.starts m < i → length (w.requests m i) ≡ 0) → (m i : ℕ) → w.starts m < i → length (more_requests w n x u m i) ≡ 0
  unasked_on w n x u h un m i lt =
      if_cases (λ (f : ℕ → List Update). length (f i) ≡ 0) (nat_eq m n) (put (w.requests n) x.join.inc (w.requests n x.join.inc ++ u ∷ [])) (w.requests m)
      (λ a. if_cases (λ (l : List Update). length l ≡ 0) (nat_eq i x.join.inc) (w.requests n x.join.inc ++ u ∷ []) (w.requests n i)
      (λ b. absurd (omega (arith, h.inc, eq_true i x.join.inc b, ap w.starts (eq_true m n a))))
      (λ b. subst (λ (k : ℕ). length (w.requests k i) ≡ 0) (eq_true m n a) (un m i lt)))
      (λ a. un m i lt)

  -- the node with one request more
  taken_keeps : (w : World M) (n : ℕ) (x : NodeState M) (u : Update) → Invariant w → w.nodes n ≡ Some x → may_submit x ≡ true → Invariant (absorbed n (submits x (updating.submitted x.core u)) (with_history w (more_requests w n x u) w.points))
  taken_keeps w n x u j at g =
      let h : NodeOk w n x = j.nodes n x at in
      let op : x.core.is_open ≡ true = (and_true x.core.is_open (nat_lt (x.core.passed + length x.core.queue) updating.last_request) g).0 in
      let rd : joining.is_ready x.join ≡ true = open_is_ready x.join (sym h.local.core_open ∙ op) in
      let rq : ℕ → ℕ → List Update = more_requests w n x u in
      let y : NodeState M = headed x x.core.passed (x.core.queue ++ u ∷ []) x.core.spreading x.spreads x.settled x.outcome in
      let full : y.core.queue ≢ [] = append_some x.core.queue u in
      let fy : greatest_asked y ≡ x.core.passed + 1 = full_asks y full in
      let es : List Effect = asks y (asked_for (updating.first_ask x.core)) in
      let w' : World M = moved (with_history w rq w.points) n y es in
      let gr : Grown x y = record { inc = refl; done = omega arith; passed = omega arith; asks = omega (arith, fy, asks_most x); view = omega arith; settled = λ k e. inl e; waits = λ e q z. (q, z.1) } in
      let more = requests_on w n x u in
      let e : Ext w w' = ext_on w rq w.points n x y es more at gr in
      let ao : AskedOnly w = λ r s. (j.log.asked r s).1 in
      let fresh_ : (r : Entry) → Asked w r.id.node r.id.inc r.id.req → Has r n x.join.inc (at_head y) → x.core.queue ≢ [] = λ r a id z. absurd (omega (arith, asked_head w n x r (at_head y) at a id, empty_asks x z)) in
      let waits_ : (r : Entry) → waits y → Stands w.log r → Has r n x.join.inc (at_head y) → waits x = λ r wt s id. (fresh_ r (j.log.asked r s).1 id, wt.1) in
      let len : length (x.core.queue ++ u ∷ []) ≡ length x.core.queue + 1 = length-append x.core.queue (u ∷ []) in
      let own : rq n x.join.inc ≡ w.requests n x.join.inc ++ u ∷ [] = own_requests w n x u in
      let new : at_place (rq n x.join.inc) (x.core.passed + length x.core.queue + 1) ≡ Some u = subst (λ (l : List Update). at_place l (x.core.passed + length x.core.queue + 1) ≡ Some u) (sym own) (subst (λ (k : ℕ). at_place (w.requests n x.join.inc ++ u ∷ []) (k + 1) ≡ Some u) h.all_requests (place_new (w.requests n x.join.inc) u)) in
      let queued_ : (k : ℕ) (v : Update) → slice_get (x.core.queue ++ u ∷ []) k ≡ Some v → at_place (rq n x.join.inc) (x.core.passed + (k + 1)) ≡ Some v = λ k v f. ⊎_elim
      (λ (c : slice_get x.core.queue k ≡ Some v). more n x.join.inc (x.core.passed + (k + 1)) v (h.queued k v c))
      (λ (c : (k ≡ length x.core.queue) × (v ≡ u)). subst (λ (t : ℕ). at_place (rq n x.join.inc) t ≡ Some v) (omega (arith, c.0)) (subst (λ (t : Update). at_place (rq n x.join.inc) (x.core.passed + length x.core.queue + 1) ≡ Some t) (sym c.1) new))
      (get_push x.core.queue u k v f) in
      move_on w rq w.points n x y es more (other_requests w n x u) (unasked_on w n x u h j.log.unasked) j.points j.steady j at (record {
        grown = gr;
        node = record {
          local = record {
            node = h.local.node;
            positive = h.local.positive;
            core_node = h.local.core_node;
            core_members = h.local.core_members;
            core_open = h.local.core_open;
            entries = h.local.entries;
            peopled = h.local.peopled;
            ready_view = h.local.ready_view;
            unsettled = h.local.unsettled;
            pulling = h.local.pulling;
            idle = λ q. absurd (full q);
            full_state = λ q. (h.prefix.ready_state rd).0;
          };
          prefix = h.prefix;
          inc = h.inc;
          view = h.view;
          lock = h.lock;
          settled = h.settled;
          marked = λ b c p. was_ready w w' b (inc_of x.join.view.members b) x.join.view.number e ao (h.marked b c p);
          all_ready = λ c b p. was_ready w w' b (inc_of x.join.view.members b) x.join.view.number e ao (h.all_ready c b p);
          spreading = λ s c. let t = h.spreading s c in
              (t.0, t.1, t.2, t.3, t.4, t.5, reached w w' (locker_of x.join.view.members) (inc_of x.join.view.members (locker_of x.join.view.members)) t.0.place e t.6, λ i m l f. reached w w' m.node (inc_of x.join.view.members m.node) t.0.place e (t.7 i m l f));
          waiting = λ r s v wt sr id. h.waiting r s v (waits_ r wt sr id) sr id;
          waiting_doubt = λ r s v wt sr id. h.waiting_doubt r s v (waits_ r wt sr id) sr id;
          behind = λ r c wt sr id. h.behind r c (waits_ r wt sr id) sr id;
          near_head = λ r wt sr id. h.near_head r (waits_ r wt sr id) sr id;
          near_doubt = λ r wt mb id. h.near_doubt r (fresh_ r (j.log.doubt r mb).2 id, wt.1) mb id;
          outcome = λ r q sr id. h.outcome r (fresh_ r (j.log.asked r sr).1 id) sr id;
          queued = queued_;
          all_requests = ap (λ (l : List Update). length l) own ∙ length-append (w.requests n x.join.inc) (u ∷ []) ∙ omega (arith, h.all_requests, len);
          finished = λ q p b. let f = h.finished q p b in
              (f.0, f.1, f.2, f.3, f.4, slice_get_front w.acks (acked es) f.1 (f.2, f.0.place) f.5, f.6);
        };
        messages = asks_told (λ (p : Sent). Pooled w' p) y (asked_for (updating.first_ask x.core)) (λ req v vs some full_.
            let b = asked_some (x.core.is_open && nat_eq (length x.core.queue) 0) (x.core.passed + 1) req some in
            let none : length x.core.queue ≡ 0 = eq_true (length x.core.queue) 0 (and_true x.core.is_open (nat_eq (length x.core.queue) 0) b.0).1 in
            let nz : x.join.view.number ≢ 0 = h.local.ready_view rd in
            let here : inc_of x.join.view.members n ≡ x.join.inc = (h.view nz).1 in
            let c = h.prefix.ready_state rd in
            let asked : at_place (rq n x.join.inc) req ≡ Some v = subst (λ (q : ℕ). at_place (rq n x.join.inc) q ≡ Some v) (omega (arith, b.1)) (queued_ 0 v (ap (λ (l : List Update). slice_get l 0) full_)) in
            record {
              view = x.join.view;
              declared = (h.view nz).0;
              number = refl;
              ok = subst (λ (m : ℕ). MsgOk w' x.join.view m (locker_at y) (Ask req v)) (sym h.local.node) (
                c.1,
                c.2,
                record { none = λ r s id. absurd (fresh_ r (j.log.asked r (record { at = s })).1 (record { node = id.node; inc = id.inc ∙ here; req = id.req ∙ sym b.1 }) (no_length x.core.queue none)) },
                record { started = omega (arith, h.inc, here); asks = λ z d same. self_node (with_history w rq w.points) n y es (λ (t : NodeState M). req ≤ greatest_asked t) (omega (arith, fy, b.1)) z d },
                subst (λ (i : ℕ). at_place (rq n i) req ≡ Some v) (sym here) asked,
              );
            });
        acks = λ k v p s. none_acked (λ (a b : ℕ). AckOk w' a b) k v p (subst (λ (l : List (ℕ × ℕ)). slice_get l k ≡ Some (v, p)) (asks_acks y (asked_for (updating.first_ask x.core))) s);
        points = quiet_points w n y es (asks_acks y (asked_for (updating.first_ask x.core)));
        owner = λ o.
            let ox : Owner w n x = record { runs = at; ready = o.ready; locker = o.locker; held = o.held } in
            let k : OwnerOk w n x = j.owner n x ox in
            record {
              sure = k.sure;
              all_done = k.all_done;
              closed = k.closed;
              greatest = k.greatest;
              members = λ op2 a b f i. ⊎_elim
                  (λ (d : (a ≡ n) × (Some y ≡ Some b)). at_self (λ (t : ℕ) (v : NodeState M). inc_of x.join.view.members t ≡ v.join.inc → MemberOk w.log x.core.lock t v) a n y b d.0 d.1
                  (λ q. let old = k.members op2 n x at q in record { near = old.near; free = old.free; heads = λ r wt sr id. old.heads r (waits_ r wt sr id) sr id }) i)
                  (λ (d : (a ≢ n) × (w.nodes a ≡ Some b)). k.members op2 a b d.1 i)
                  (put_cases w.nodes n (Some y) a b f);
            };
        member = λ a z ne o k op2 i. let old = k.members op2 n x at i in record { near = old.near; free = old.free; heads = λ r wt sr id. old.heads r (waits_ r wt sr id) sr id };
      })
    where
      no_length : (l : List Update) → length l ≡ 0 → l ≡ []
      no_length [] e = refl
      no_length (a ∷ as_) e = absurd (omega arith)

  pub submit_keeps : (w : World M) (n : ℕ) (x : NodeState M) (u : Update) → Invariant w → w.nodes n ≡ Some x → Invariant (absorbed n (submit x u) (noted n x u w))
  submit_keeps w n x u j at = both (may_submit x) refl
    where
      both : (b : Bool) → may_submit x ≡ b → Invariant (absorbed n (if b then submits x (updating.submitted x.core u) else nothing x) (if b then with_history w (more_requests w n x u) w.points else w))
      both true g = taken_keeps w n x u j at g
      both false g = stay_keeps w n x j at
