-- Records are applied: folds, and the rule for an Apply.
use Rattle.std.proofs.Common.{◌≡◌, ◌≢◌, inl, ⊎_elim, ℕ, zero, suc, ◌+◌, ◌-◌, ◌<◌, ◌≤◌, Bool, true, false, not, ◌&&◌, List, [], ◌∷◌, ◌++◌, length, take, Option, Some, nat_eq, nat_lt, if◌then◌else◌, slice_get, refl, sym, ap, ◌∙◌, subst, add-one, arith}
use Rattle.std.proofs.lemmas.Bool.{cases_lt}
use Rattle.gum_messages.specs.declared.member.Member.{Member}
use Rattle.gum_messages.specs.Members.{inc_of, is_locker, locker_of}
use Rattle.gum_messages.specs.Places.{at_place}
use Rattle.gum_messages.proofs.Branches.{if_cases, option_cases}
use Rattle.gum_messages.proofs.Placing.{place_within}
use Rattle.update_records.specs.Entry.{Entry}
use Rattle.update_records.specs.declared.update.Update.{Update}
use Rattle.view_reconcile.specs.Joining.{ReconcileState}
use Rattle.view_reconcile.specs.Joining as joining
use Rattle.cluster_rules.specs.Machines.{Machine, IsMachine, outcome_at, registry_at, replay}
use Rattle.gum_messages.specs.declared.body.Body.TheVariants.{Applied}
use Rattle.gum_messages.specs.Messages.{Sent}
use Rattle.cluster_rules.specs.declared.effect.Effect.{Effect}
use Rattle.cluster_rules.specs.declared.effect.Effect.TheVariants.{Send}
use Rattle.cluster_rules.specs.Nodes.{NodeState, Out, Replica, done_of, has_state, is_head, packet}
use Rattle.cluster_rules.specs.Updates.{applied, applies, on_apply, outcome_after, replica_after}
use Rattle.cluster_rules.specs.Worlds.{World}
use Rattle.cluster_laws.proofs.History.{absorbed}
use Rattle.gum_core.proofs.Cases.{applying_cases}
use Rattle.cluster_laws.proofs.Inv.{AckOk, Has, Invariant, LoggedIn, MemberOk, NodeOk, Pooled, Stands, at_head}
use Rattle.cluster_laws.proofs.Stable.{Grown}
use Rattle.cluster_laws.proofs.Moves.{quiet_points, move_keeps, moved, node_in, none_acked, one_told, reached_self, stay_keeps, stay_sends, told}

-- Guards
pub and_true : (a b : Bool) → (a && b) ≡ true → (a ≡ true) × (b ≡ true)
and_true true b e = (refl, e)
and_true false b e = cc

pub not_true : (b : Bool) → not b ≡ true → b ≡ false
not_true true e = cc
not_true false e = refl

pub eq_true : (a b : ℕ) → nat_eq a b ≡ true → a ≡ b
eq_true a b e = grind arith

pub lt_true : (a b : ℕ) → nat_lt a b ≡ true → a < b
lt_true a b e = grind arith

pub lt_false : (a b : ℕ) → nat_lt a b ≡ false → b ≤ a
lt_false a b e = grind arith

-- the locker of a list of members
pub locker_is : (ms : List Member) (n : ℕ) → is_locker ms n ≡ true → locker_of ms ≡ n
locker_is [] n e = cc
locker_is (m ∷ ms) n e = eq_true m.node n e

pub locker_not : (b : Bool) → b ≡ true → b ≡ false → ⊥
locker_not true e f = cc
locker_not false e f = cc

pub length_some : {A : Type 0} (l : List A) → 0 < length l → l ≢ []
length_some [] h = absurd (omega arith)
length_some (x ∷ xs) h = λ e. cc

-- Folds
module _ (M : Machine) where
  pub replay_snoc : (l : List Entry) (r : Entry) (g : M.Registry) → replay M (l ++ r ∷ []) g ≡ (M.apply r (replay M l g)).0
  replay_snoc [] r g = refl
  replay_snoc (x ∷ l) r g = replay_snoc l r (M.apply x g).0

  pub replay_next : (l : List Entry) (k : ℕ) (r : Entry) (g : M.Registry) → slice_get l k ≡ Some r → replay M (take (suc k) l) g ≡ (M.apply r (replay M (take k l) g)).0
  replay_next [] k r g e = absurd (cc)
  replay_next (x ∷ l) zero r g e = let q : x ≡ r = cc in ap (λ (t : Entry). (M.apply t g).0) q
  replay_next (x ∷ l) (suc k) r g e = replay_next l k r (M.apply x g).0 e

  pub fold_next : (cap : ℕ) (l : List Entry) (k : ℕ) (r : Entry) → at_place l (k + 1) ≡ Some r → registry_at M cap l (k + 1) ≡ (M.apply r (registry_at M cap l k)).0
  fold_next cap l k r e = rw add-one (replay_next l k r (M.empty cap) (rw add-one at e))

module _ {M : Machine} where
  pub done_at : (x : NodeState M) (s : Replica M) → x.replica ≡ Some s → done_of x ≡ s.done
  done_at x s e = rw e refl

  pub state_of : (x : NodeState M) → has_state x ≡ true → (s : Replica M) × (x.replica ≡ Some s)
  state_of x h = option_cases (λ (b : Bool). b ≡ true → (s : Replica M) × (x.replica ≡ Some s)) x.replica false (λ r. true) (λ a e. absurd (let z : ◌≡◌ {A = Bool} false true = e in cc)) (λ r a e. (r, a)) h

  pub is_head_has : (e : Entry) (x : NodeState M) → is_head e x ≡ true → Has e x.join.node x.join.inc (at_head x) × (x.core.queue ≢ [])
  is_head_has e x h =
      let a = and_true (nat_lt 0 (length x.core.queue)) (nat_eq e.id.node x.join.node && (nat_eq e.id.inc x.join.inc && nat_eq e.id.req (x.core.passed + 1))) h in
      let b = and_true (nat_eq e.id.node x.join.node) (nat_eq e.id.inc x.join.inc && nat_eq e.id.req (x.core.passed + 1)) a.1 in
      let c = and_true (nat_eq e.id.inc x.join.inc) (nat_eq e.id.req (x.core.passed + 1)) b.1 in
      (record { node = eq_true e.id.node x.join.node b.0; inc = eq_true e.id.inc x.join.inc c.0; req = eq_true e.id.req (x.core.passed + 1) c.1 }, length_some x.core.queue (lt_true 0 (length x.core.queue) a.0))

  pub has_is_head : (e : Entry) (x : NodeState M) → Has e x.join.node x.join.inc (at_head x) → x.core.queue ≢ [] → is_head e x ≡ true
  has_is_head e x h f = all (length x.core.queue) e.id.node x.join.node e.id.inc x.join.inc e.id.req (x.core.passed + 1) (some x.core.queue f) h.node h.inc h.req
    where
      some : (l : List Update) → l ≢ [] → 0 < length l
      some [] f = absurd (f refl)
      some (a ∷ as_) f = omega arith

      all : (k a b c d e f : ℕ) → 0 < k → a ≡ b → c ≡ d → e ≡ f → (nat_lt 0 k && (nat_eq a b && (nat_eq c d && nat_eq e f))) ≡ true
      all k a b c d e f p q r s = grind arith

  -- the capacity of a node's registry is the log's
  pub replay_cap : IsMachine M → (l : List Entry) (g : M.Registry) → M.cap (replay M l g) ≡ M.cap g
  replay_cap law [] g = refl
  replay_cap law (e ∷ l) g = replay_cap law l (M.apply e g).0 ∙ law.keeps e g

  -- the replica after one record more
  abbrev pub next_replica : Entry → Replica M → Replica M
  next_replica r s = record { registry = (M.apply r s.registry).0; done = s.done + 1 }

  pub replica_next : (x : NodeState M) (r : Entry) (s : Replica M) → x.replica ≡ Some s → replica_after r x.replica ≡ Some (next_replica r s)
  replica_next x r s e = rw e refl

  pub done_next : (x : NodeState M) (r : Entry) (s : Replica M) → x.replica ≡ Some s → done_of (applied r x) ≡ s.done + 1
  done_next x r s e = rw e refl

  pub state_next : (x : NodeState M) (r : Entry) (s : Replica M) → x.replica ≡ Some s → has_state (applied r x) ≡ true
  state_next x r s e = rw e refl

  -- the registry and the last record after the next record of the order
  pub next_registry : (w : World M) (n : ℕ) (x : NodeState M) (r : Entry) (s : Replica M) → NodeOk w n x → x.replica ≡ Some s → at_place w.log.order (s.done + 1) ≡ Some r → (t : Replica M) → replica_after r x.replica ≡ Some t → t.registry ≡ registry_at M w.log.cap w.log.order t.done
  next_registry w n x r s h st here t e =
      let q : Some (next_replica r s) ≡ Some t = sym (replica_next x r s st) ∙ e in
      let eq : next_replica r s ≡ t = cc in
      subst (λ (u : Replica M). u.registry ≡ registry_at M w.log.cap w.log.order u.done) eq (ap (λ (g : M.Registry). (M.apply r g).0) (h.prefix.registry s st) ∙ sym (fold_next M w.log.cap w.log.order s.done r here))

  pub next_last : (w : World M) (x : NodeState M) (r : Entry) (s : Replica M) → x.replica ≡ Some s → at_place w.log.order (s.done + 1) ≡ Some r → (t : Replica M) → replica_after r x.replica ≡ Some t → ◌≡◌ {A = Option Entry} (Some r) (at_place w.log.order t.done)
  next_last w x r s st here t e =
      let q : Some (next_replica r s) ≡ Some t = sym (replica_next x r s st) ∙ e in
      let eq : next_replica r s ≡ t = cc in
      subst (λ (u : Replica M). Some r ≡ at_place w.log.order u.done) eq (sym here)

  -- what came of the head, after one record more
  pub next_outcome : (w : World M) (n : ℕ) (x : NodeState M) (r : Entry) (s : Replica M) (a : Entry) → NodeOk w n x → ((r s : Entry) → Stands w.log r → Stands w.log s → r.id.node ≡ s.id.node → r.id.inc ≡ s.id.inc → r.id.req ≡ s.id.req → r.place ≡ s.place) → Stands w.log r → x.replica ≡ Some s → r.place ≡ s.done + 1 → x.core.queue ≢ [] → Stands w.log a → Has a n x.join.inc (at_head x) → a.place ≤ s.done + 1
      → (applied r x).outcome ≡ Some (outcome_at M w.log.cap w.log.order (a.place - 1) a)
  next_outcome w n x r s a h ids sr st pl f sa id le =
      let F : Option M.Outcome → Type 0 = λ o. o ≡ Some (outcome_at M w.log.cap w.log.order (a.place - 1) a) in
      ⊎_elim
      (λ (c : s.done < a.place).
      -- the record is the head's
      let ap1 : a.place ≡ s.done + 1 = omega arith in
      let q : Some a ≡ Some r = sym sa.at ∙ ap (at_place w.log.order) (ap1 ∙ sym pl) ∙ sr.at in
      let ar : a ≡ r = cc in
      let hd : is_head r x ≡ true = subst (λ (t : Entry). is_head t x ≡ true) ar (has_is_head a x (record { node = id.node ∙ sym h.local.node; inc = id.inc; req = id.req }) f) in
      let fo : s.registry ≡ registry_at M w.log.cap w.log.order (a.place - 1) = h.prefix.registry s st ∙ ap (registry_at M w.log.cap w.log.order) (omega arith) in
      let out : outcome_after r x.replica ≡ Some (M.apply r s.registry).1 = rw st refl in
      subst F (λ i. if sym hd i then outcome_after r x.replica else x.outcome) (out ∙ (λ i. Some (M.apply (sym ar i) (fo i)).1)))
      (λ (c : a.place ≤ s.done).
      let old : F x.outcome = h.outcome a f sa id (omega (arith, done_at x s st)) in
      if_cases F (is_head r x) (outcome_after r x.replica) x.outcome
      (λ b.
      let i2 = (is_head_has r x b).0 in
      absurd (omega (arith, c, pl, ids a r sa sr (id.node ∙ sym (i2.node ∙ h.local.node)) (id.inc ∙ sym i2.inc) (id.req ∙ sym i2.req))))
      (λ b. old))
      (cases_lt s.done a.place)

  -- the node that applied the next record of the order
  pub apply_node : (w : World M) (n : ℕ) (x : NodeState M) (r : Entry) (s : Replica M) → Invariant w → w.nodes n ≡ Some x → x.replica ≡ Some s → joining.is_ready x.join ≡ true → joining.locks x.join ≡ false → LoggedIn w.log r x.join.view.number → r.place ≡ s.done + 1
      → NodeOk w n (applied r x)
  apply_node w n x r s j at st rd nl lg pl =
      let h : NodeOk w n x = j.nodes n x at in
      let d : done_of x ≡ s.done = done_at x s st in
      let d' : done_of (applied r x) ≡ s.done + 1 = done_next x r s st in
      let here : at_place w.log.order (s.done + 1) ≡ Some r = subst (λ (k : ℕ). at_place w.log.order k ≡ Some r) pl lg.at in
      let within : s.done + 1 ≤ length w.log.order = (place_within w.log.order (s.done + 1) r here).1 in
      record {
        local = record {
          node = h.local.node;
          positive = h.local.positive;
          core_node = h.local.core_node;
          core_members = h.local.core_members;
          core_open = h.local.core_open;
          entries = h.local.entries;
          peopled = h.local.peopled;
          ready_view = h.local.ready_view;
          idle = h.local.idle;
          unsettled = h.local.unsettled;
          full_state = λ f. state_next x r s st;
          pulling = λ o e. absurd (locker_not (joining.is_ready x.join) rd (h.prefix.pull o e).0);
        };
        prefix = record {
          pull = h.prefix.pull;
          pulled = h.prefix.pulled;
          within = omega (arith, d', within);
          registry = next_registry w n x r s h st here;
          last = next_last w x r s st here;
          ready_state = λ c. let k = h.prefix.ready_state c in (state_next x r s st, k.1, k.2, omega (arith, k.3, d, d'));
          below = λ v c i b. omega (arith, d', j.log.bounds v c r i (record { at = lg.at }) (omega (arith, lg.view)));
          unready = λ c i f. absurd (locker_not (joining.is_ready x.join) rd f);
          closed = λ a b c. absurd (locker_not (joining.locks x.join) b nl);
        };
        inc = h.inc;
        view = h.view;
        marked = h.marked;
        all_ready = h.all_ready;
        spreading = h.spreading;
        waiting = h.waiting;
        waiting_doubt = h.waiting_doubt;
        behind = h.behind;
        queued = h.queued;
        all_requests = h.all_requests;
        finished = h.finished;
        lock = λ l e. absurd (locker_not (joining.locks x.join) (h.lock l e).1 nl);
        settled = λ k e. let t = h.settled k e in (t.0, t.1, t.2, t.3, omega (arith, t.4, d, d'), t.5);
        near_head = λ t wt sr id. omega (arith, h.near_head t wt sr id, d, d');
        near_doubt = λ t wt mb id. omega (arith, h.near_doubt t wt mb id, d, d');
        outcome = λ a f sa id le. next_outcome w n x r s a h j.log.ids (record { at = lg.at }) st pl f sa id (omega (arith, le, d'));
      }

  pub apply_grown : (x : NodeState M) (r : Entry) (s : Replica M) → x.replica ≡ Some s → Grown x (applied r x)
  apply_grown x r s st = record { inc = refl; done = omega (arith, done_at x s st, done_next x r s st); passed = omega arith; asks = omega arith; view = omega arith; settled = λ k e. inl e; waits = λ e q z. z }

  pub on_apply_keeps : (w : World M) (n : ℕ) (x : NodeState M) (from : ℕ) (r : Entry) → Invariant w → w.nodes n ≡ Some x → LoggedIn w.log r x.join.view.number → Invariant (absorbed n (on_apply x from r) w)
  on_apply_keeps w n x from r j at lg =
      let h : NodeOk w n x = j.nodes n x at in
      let P : Out M → Type 0 = λ o. Invariant (absorbed n o w) in
      if_cases P (joining.is_ready x.join && not (joining.locks x.join)) _ _
      (λ g.
      let g1 = and_true (joining.is_ready x.join) (not (joining.locks x.join)) g in
      let rd : joining.is_ready x.join ≡ true = g1.0 in
      let nl : joining.locks x.join ≡ false = not_true (joining.locks x.join) g1.1 in
      let st = state_of x (h.prefix.ready_state rd).0 in
      let d : done_of x ≡ st.0.done = done_at x st.0 st.1 in
      let nz : x.join.view.number ≢ 0 = h.local.ready_view rd in
      let here = h.view nz in
      let tells_ : (y : NodeState M) → y.join.view ≡ x.join.view → y.join.node ≡ x.join.node → r.place ≤ done_of y → Pooled (moved w n y (Send (packet y from (Applied r.place)) ∷ [])) (packet y from (Applied r.place)) =
      λ y vw nd dn. told w n x y (Send (packet y from (Applied r.place)) ∷ []) from (Applied r.place) h nz vw nd (reached_self w n y (Send (packet y from (Applied r.place)) ∷ []) (inc_of x.join.view.members n) r.place (omega (arith, h.inc, here.1)) dn) in
      applying_cases (λ dc. P (applies x from r dc)) (done_of x) r.place
      (λ pl0.
      let pl : r.place ≡ st.0.done + 1 = pl0 ∙ ap (λ (k : ℕ). k + 1) d in
      let y : NodeState M = applied r x in
      let es : List Effect = Send (packet y from (Applied r.place)) ∷ [] in
      let dn : done_of y ≡ st.0.done + 1 = done_next x r st.0 st.1 in
      let gr : Grown x y = apply_grown x r st.0 st.1 in
      move_keeps w n x y es j at (record {
        grown = gr;
        node = node_in w n x y es j at gr (apply_node w n x r st.0 j at st.1 rd nl lg pl);
        messages = one_told (λ (q : Sent). Pooled (moved w n y es) q) (packet y from (Applied r.place)) (tells_ y refl refl (omega (arith, pl, dn)));
        acks = none_acked (λ (a b : ℕ). AckOk (moved w n y es) a b);
        points = quiet_points w n y es refl;
        owner = λ o. absurd (locker_not (joining.locks x.join) o.locker nl);
        member = λ a z ne o k op i. let old : MemberOk w.log z.core.lock n x = k.members op n x at i in
            record { near = omega (arith, old.near, d, dn); free = λ f. omega (arith, old.free f, d, dn); heads = old.heads };
      }))
      (λ le. stay_sends w n x from (Applied r.place) j at (tells_ x refl refl le))
      (λ far. stay_keeps w n x j at))
      (λ g. stay_keeps w n x j at)
