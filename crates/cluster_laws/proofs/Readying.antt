-- A node becomes ready.
use Rattle.std.proofs.Common.{◌≡◌, ◌≢◌, ◌⊎◌, inl, inr, ⊎_elim, ℕ, ◌+◌, ◌-◌, ◌<◌, ◌≤◌, Bool, true, false, List, [], length, Option, Some, None, cond, if◌then◌else◌, slice_get, refl, sym, ap, ◌∙◌, subst, arith}
use Rattle.std.proofs.lemmas.Bool.{cases_lt}
use Rattle.gum_messages.specs.Members.{inc_of}
use Rattle.gum_messages.specs.Places.{at_place}
use Rattle.gum_messages.proofs.Branches.{if_cases}
use Rattle.gum_messages.proofs.Placing.{place_some}
use Rattle.update_records.specs.Entry.{Entry}
use Rattle.view_reconcile.specs.declared.stage.Stage.{Stage}
use Rattle.view_reconcile.specs.declared.stage.Stage.TheVariants as stage
use Rattle.view_reconcile.specs.Joining.{ReconcileState}
use Rattle.view_reconcile.specs.Joining as joining
use Rattle.cluster_rules.specs.Machines.{Machine, outcome_at, registry_at}
use Rattle.gum_messages.specs.Messages.{Sent}
use Rattle.cluster_rules.specs.declared.effect.Effect.{Effect}
use Rattle.cluster_rules.specs.Nodes.{NodeState, Replica, done_of, has_state}
use Rattle.cluster_rules.specs.Joins.{shows}
use Rattle.cluster_rules.specs.Worlds.{World, acked, sent}
use Rattle.cluster_laws.proofs.Inv.{AckOk, Has, Invariant, MemberOk, NodeOk, Owner, OwnerOk, Pooled, Stands, at_head, waits}
use Rattle.cluster_laws.proofs.Stable.{Grown}
use Rattle.cluster_laws.proofs.Moves.{quiet_points, move_keeps, moved, node_in, none_acked}
use Rattle.cluster_laws.proofs.Applying.{has_is_head, is_head_has, locker_not}

pub if_none : {A : Type 0} (b : Bool) (a : A) (o : Option A) → cond b (Some a) o ≡ None → (b ≡ false) × (o ≡ None)
if_none true a o e = absurd (cc)
if_none false a o e = (refl, e)

-- a stage at which a node is ready or not
pub unready_unopen : (s : ReconcileState) → joining.is_ready s ≡ false → joining.is_open s ≡ false
unready_unopen s e = go s.stage e
  where
    go : (t : Stage) → (elim t [ stage.Ready ↦ true | stage.Open ↦ true | _ ↦ false ]) ≡ false → (elim t [ stage.Open ↦ true | _ ↦ false ]) ≡ false
    go stage.Waiting e = refl
    go (stage.Pulling k) e = refl
    go stage.Taking e = refl
    go stage.Ready e = refl
    go stage.Open e = cc

module _ {M : Machine} where
  pub shows_head : (last : Option Entry) (x : NodeState M) → shows last x ≡ true → (e : Entry) × (last ≡ Some e) × Has e x.join.node x.join.inc (at_head x) × (x.core.queue ≢ [])
  shows_head None x h = absurd (cc)
  shows_head (Some e) x h = let b = is_head_has e x h in (e, refl, b.0, b.1)

  abbrev pub readied : NodeState M → Replica M → Option Entry → Option M.Outcome → NodeState M
  readied x s last out = record x { join = record x.join { stage = stage.Ready }; replica = Some s; last = last; offer = None; bytes = []; settled = if shows last x then Some s.done else x.settled; outcome = out }

  -- what came of the head is known
  abbrev pub Known : World M → ℕ → NodeState M → ℕ → Option M.Outcome → Type 0
  Known w n x done out = (r : Entry) → x.core.queue ≢ [] → Stands w.log r → Has r n x.join.inc (at_head x) → r.place ≤ done → out ≡ Some (outcome_at M w.log.cap w.log.order (r.place - 1) r)

  -- what a node that becomes ready has
  pub record Readies (w : World M) (n : ℕ) (x : NodeState M) (s : Replica M) (last : Option Entry) (out : Option M.Outcome) : Type 0 where
    pub unready : joining.is_ready x.join ≡ false
    pub view : x.join.view.number ≢ 0
    pub counted : w.log.count x.join.view.number ≡ Some s.done
    pub reg : s.registry ≡ registry_at M w.log.cap w.log.order s.done
    pub last_at : last ≡ at_place w.log.order s.done
    pub known : Known w n x s.done out

  -- a waiting head's record doesn't stand below the count of the node's view
  pub waiting_not_below : (w : World M) (n : ℕ) (x : NodeState M) (c : ℕ) (r : Entry) → Invariant w → w.nodes n ≡ Some x → x.join.view.number ≢ 0 → w.log.count x.join.view.number ≡ Some c → waits x → Stands w.log r → Has r n x.join.inc (at_head x) → r.place < c → ⊥
  waiting_not_below w n x c r j at nz i wt st id b2 =
      let h : NodeOk w n x = j.nodes n x at in
      let d = h.view nz in
      let cl : c ≤ length w.log.order = (j.log.counts x.join.view.number c i).0 in
      let e = place_some w.log.order c (omega arith) cl in
      let pl : e.0.place ≡ c = j.log.places c e.0 e.1 in
      let se : Stands w.log e.0 = record { at = ap (at_place w.log.order) pl ∙ e.1 } in
      let lr = j.log.logged r st in
      let ls = j.log.logged e.0 se in
      let o : w.log.view_at r.place ≤ w.log.view_at e.0.place = j.log.ordered r e.0 st se (omega arith) in
      let v : w.log.view_at e.0.place < x.join.view.number = j.log.early x.join.view.number c e.0 i se (omega arith) in
      h.waiting r e.0 ls.0 wt st id se (omega arith) ls.1
      (j.chain.chain.unbroken (w.log.view_at r.place) (w.log.view_at e.0.place) x.join.view.number lr.0 ls.0 x.join.view n x.join.inc lr.1 ls.1 d.0 o (omega arith) h.local.positive
      (ap (inc_of lr.0.members) (sym id.node) ∙ sym lr.2 ∙ id.inc) d.1)

  -- a node that takes a whole state at the count of its view, two records away or more, knows what came of its head
  pub far_known : (w : World M) (n : ℕ) (x : NodeState M) (c : ℕ) → Invariant w → w.nodes n ≡ Some x → x.join.view.number ≢ 0 → w.log.count x.join.view.number ≡ Some c → (has_state x ≡ true → done_of x + 1 < c) → Known w n x c x.outcome
  far_known w n x c j at nz ct far r f st id le =
      let h : NodeOk w n x = j.nodes n x at in
      let P : Type 0 = x.outcome ≡ Some (outcome_at M w.log.cap w.log.order (r.place - 1) r) in
      let near : r.place ≤ done_of x → P = λ b. h.outcome r f st id b in
      let waiting_ : x.settled ≡ None → P = λ ns.
      let nh : r.place ≤ done_of x + 1 = h.near_head r (f, ns) st id in
      let fr : done_of x + 1 < c = far (h.local.full_state f) in
      absurd (waiting_not_below w n x c r j at nz ct (f, ns) st id (omega arith)) in
      let set_ : (k : ℕ) → x.settled ≡ Some k → P = λ k e.
      let t = h.settled k e in
      let p : r.place ≡ t.0.place = j.log.ids r t.0 st t.1 (id.node ∙ sym t.3.node) (id.inc ∙ sym t.3.inc) (id.req ∙ sym t.3.req) in
      near (omega (arith, p, t.2, t.4)) in
      either x.settled waiting_ set_
    where
      either : {A : Type 0} {P : Type 0} (o : Option A) → (o ≡ None → P) → ((a : A) → o ≡ Some a → P) → P
      either None n s = n refl
      either (Some a) n s = s a refl

  pub ready_waits : (x : NodeState M) (s : Replica M) (last : Option Entry) (out : Option M.Outcome) → waits (readied x s last out) → waits x × (shows last x ≡ false)
  ready_waits x s last out wt = let b = if_none (shows last x) s.done x.settled wt.1 in ((wt.0, b.1), b.0)

  pub ready_node : (w : World M) (n : ℕ) (x : NodeState M) (s : Replica M) (last : Option Entry) (out : Option M.Outcome) → Invariant w → w.nodes n ≡ Some x → Readies w n x s last out → NodeOk w n (readied x s last out)
  ready_node w n x s last out j at k =
      let h : NodeOk w n x = j.nodes n x at in
      let y : NodeState M = readied x s last out in
      let le : s.done ≤ length w.log.order = (j.log.counts x.join.view.number s.done k.counted).0 in
      let up : done_of x ≤ s.done = h.prefix.unready s.done k.counted k.unready in
      let shut : joining.is_open x.join ≡ false = unready_unopen x.join k.unready in
      let not_open : joining.is_open x.join ≡ true → ⊥ = λ o. locker_not (joining.is_open x.join) o shut in
      let count_is : (c : ℕ) → w.log.count x.join.view.number ≡ Some c → c ≡ s.done = λ c i. let z : Some c ≡ Some s.done = sym i ∙ k.counted in cc in
      let head_id : (e : Entry) → Has e x.join.node x.join.inc (at_head x) → Has e n x.join.inc (at_head x) = λ e id. record { node = id.node ∙ h.local.node; inc = id.inc; req = id.req } in
      record {
        local = record {
          node = h.local.node;
          positive = h.local.positive;
          core_node = h.local.core_node;
          core_members = h.local.core_members;
          entries = h.local.entries;
          peopled = h.local.peopled;
          core_open = h.local.core_open ∙ shut;
          unsettled = λ c. absurd (cc);
          ready_view = λ c. k.view;
          idle = λ q. ((h.local.idle q).0, if_cases (λ (t : Option ℕ). t ≡ None) (shows last x) (Some s.done) x.settled (λ e. absurd ((shows_head last x e).3 q)) (λ e. (h.local.idle q).1));
          full_state = λ f. refl;
          pulling = λ o e. absurd (cc);
        };
        prefix = record {
          within = le;
          registry = λ t e. let q : s ≡ t = cc in subst (λ (t : Replica M). t.registry ≡ registry_at M w.log.cap w.log.order t.done) q k.reg;
          last = λ t e. let q : s ≡ t = cc in subst (λ (t : Replica M). last ≡ at_place w.log.order t.done) q k.last_at;
          ready_state = λ c. (refl, s.done, k.counted, omega arith);
          below = λ u c i b. j.log.rising x.join.view.number u s.done c k.counted i (omega arith);
          unready = λ c i b. absurd (cc);
          pull = λ o e. absurd (cc);
          pulled = λ g e. absurd (cc);
          closed = λ a b c. k.counted;
        };
        inc = h.inc;
        view = h.view;
        marked = h.marked;
        queued = h.queued;
        all_requests = h.all_requests;
        finished = h.finished;
        lock = λ l e. absurd (not_open ((h.lock l e).0));
        all_ready = λ c. absurd (cc);
        settled = λ p e. if_cases (λ (t : Option ℕ). t ≡ Some p → (r : Entry) × Stands w.log r × (r.place ≡ p) × Has r n x.join.inc (at_head x) × (p ≤ s.done) × (true ≡ true → (c : ℕ) → w.log.count x.join.view.number ≡ Some c → p ≤ c)) (shows last x) (Some s.done) x.settled
            (λ i q. let g = shows_head last x i in
            let here : at_place w.log.order s.done ≡ Some g.0 = sym k.last_at ∙ g.1 in
            let pl : g.0.place ≡ s.done = j.log.places s.done g.0 here in
            let dp : s.done ≡ p = cc in
            (g.0, record { at = ap (at_place w.log.order) pl ∙ here }, pl ∙ dp, head_id g.0 g.2, omega arith, λ a c i. omega (arith, count_is c i)))
            (λ i q. let g = h.settled p q in
            (g.0, g.1, g.2, g.3, omega (arith, g.4, up), λ a c i. omega (arith, g.4, up, count_is c i))) e;
        spreading = λ t e. absurd (not_open ((h.spreading t e).3));
        waiting = λ r t u wt st id. h.waiting r t u ((ready_waits x s last out wt).0) st id;
        waiting_doubt = λ r t u wt st id. h.waiting_doubt r t u ((ready_waits x s last out wt).0) st id;
        near_head = λ r wt st id. omega (arith, h.near_head r ((ready_waits x s last out wt).0) st id, up);
        near_doubt = λ r wt mb id. omega (arith, h.near_doubt r ((ready_waits x s last out wt).0) mb id, up);
        outcome = k.known;
        behind = λ r c wt st id rd i.
            let rw_ : waits x × (shows last x ≡ false) = ready_waits x s last out wt in
            let cs : c ≡ s.done = count_is c i in
            ⊎_elim
            (λ (b : c < r.place). b)
            (λ (b : r.place ≤ c). absurd (⊎_elim
            (λ (b2 : r.place < c). waiting_not_below w n x c r j at k.view i rw_.0 st id b2)
            (λ (b2 : c ≤ r.place).
            let pl : r.place ≡ s.done = omega arith in
            let la : last ≡ Some r = k.last_at ∙ ap (at_place w.log.order) (sym pl) ∙ st.at in
            let id2 : Has r x.join.node x.join.inc (at_head x) = record { node = id.node ∙ sym h.local.node; inc = id.inc; req = id.req } in
            let z : shows last x ≡ true = ap (λ (l : Option Entry). shows l x) la ∙ has_is_head r x id2 wt.0 in
            locker_not (shows last x) z rw_.1)
            (cases_lt r.place c)))
            (cases_lt c r.place);
      }

  pub ready_grown : (w : World M) (n : ℕ) (x : NodeState M) (s : Replica M) (last : Option Entry) (out : Option M.Outcome) → Invariant w → w.nodes n ≡ Some x → Readies w n x s last out → Grown x (readied x s last out)
  ready_grown w n x s last out j at k = record {
    inc = refl;
    done = (j.nodes n x at).prefix.unready s.done k.counted k.unready;
    passed = omega arith;
    asks = omega arith;
    view = omega arith;
    settled = λ p e. if_cases (λ (t : Option ℕ). t ≡ Some p → (x.settled ≡ Some p) ⊎ (done_of x ≤ p)) (shows last x) (Some s.done) x.settled (λ i q. let up : done_of x ≤ s.done = (j.nodes n x at).prefix.unready s.done k.counted k.unready in let dp : s.done ≡ p = cc in inr (omega arith)) (λ i q. inl q) e;
    waits = λ a b c. (ready_waits x s last out c).0;
  }

  pub ready_keeps : (w : World M) (n : ℕ) (x : NodeState M) (s : Replica M) (last : Option Entry) (out : Option M.Outcome) (es : NodeState M → List Effect) → Invariant w → w.nodes n ≡ Some x → Readies w n x s last out
      → (y : NodeState M) → y ≡ readied x s last out
      → (NodeOk (moved w n (readied x s last out) (es (readied x s last out))) n (readied x s last out) → (k : ℕ) (p : Sent) → slice_get (sent (es (readied x s last out))) k ≡ Some p → Pooled (moved w n (readied x s last out) (es (readied x s last out))) p) → acked (es (readied x s last out)) ≡ []
      → (Owner (moved w n (readied x s last out) (es (readied x s last out))) n (readied x s last out) → OwnerOk (moved w n (readied x s last out) (es (readied x s last out))) n (readied x s last out))
      → Invariant (moved w n y (es y))
  ready_keeps w n x s last out es j at k y eq ms na ow =
      let z : NodeState M = readied x s last out in
      let gr : Grown x z = ready_grown w n x s last out j at k in
      let ok : NodeOk (moved w n z (es z)) n z = node_in w n x z (es z) j at gr (ready_node w n x s last out j at k) in
      subst (λ (t : NodeState M). Invariant (moved w n t (es t))) (sym eq)
      (move_keeps w n x z (es z) j at (record {
        grown = gr;
        node = ok;
        messages = ms ok;
        acks = λ k v p q. none_acked (λ (a b : ℕ). AckOk (moved w n z (es z)) a b) k v p (subst (λ (l : List (ℕ × ℕ)). slice_get l k ≡ Some (v, p)) na q);
        owner = ow;
        points = quiet_points w n z (es z) na;
        member = λ a t ne o ko op i. let mo : MemberOk w.log t.core.lock n x = ko.members op n x at i in
            let up : done_of x ≤ s.done = gr.done in
            record {
              near = omega (arith, mo.near);
              free = λ q. omega (arith, mo.free q);
              heads = λ r wt st id. mo.heads r ((ready_waits x s last out wt).0) st id;
            };
      }))
