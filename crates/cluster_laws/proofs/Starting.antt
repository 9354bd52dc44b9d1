-- Nodes start, and views are declared.
use Rattle.std.proofs.Common.{◌≡◌, ◌≢◌, ⊎_elim, ℕ, ◌+◌, ◌<◌, ◌≤◌, Bool, true, false, ◌&&◌, List, [], ◌∷◌, ◌++◌, length, Option, Some, None, is_none, nat_eq, nat_lt, nat_le, cond, slice_get, refl, sym, ap, ◌∙◌, subst, arith}
use Rattle.gum_messages.specs.declared.member.Member.{Member}
use Rattle.gum_messages.specs.declared.view.View.{View}
use Rattle.gum_messages.specs.Members.{inc_of, locker_of}
use Rattle.gum_messages.proofs.Branches.{if_cases}
use Rattle.gum_messages.proofs.Placing.{place_new, place_old, place_push}
use Rattle.update_records.specs.declared.update.Update.{Update}
use Rattle.view_reconcile.specs.Joining.{ReconcileState}
use Rattle.view_reconcile.specs.Joining as joining
use Rattle.view_reconcile.specs.Chains.{IsChain, fault_of, view_in}
use Rattle.cluster_rules.specs.Machines.{Machine}
use Rattle.cluster_rules.specs.Nodes.{NodeState, fresh}
use Rattle.cluster_rules.specs.Worlds.{World, is_view, may_declare, put, was_started}
use Rattle.cluster_laws.proofs.Inv.{Invariant, NodeOk, Owner, OwnerOk}
use Rattle.cluster_laws.proofs.Stable.{AskedOnly, Ext, all_reached, asked_, entered_, grown_refl, longer_refl, past, pooled, reached, was_ready}
use Rattle.cluster_laws.proofs.Moves.{at_self, put_cases}
use Rattle.cluster_laws.proofs.Applying.{and_true, eq_true, lt_true}
use Rattle.std.specs.List.{list_all}
use Rattle.view_reconcile.proofs.Chaining.{stays_chain}
use Rattle.cluster_laws.proofs.Growth.{put_other, put_same}

pub started_inc : (starts : ℕ → ℕ) (ms : List Member) (n : ℕ) → list_all (was_started starts) ms ≡ true → inc_of ms n ≤ starts n
started_inc starts [] n e = omega arith
started_inc starts (m ∷ ms) n e =
    let a = and_true (was_started starts m) (list_all (was_started starts) ms) e in
    let b = and_true (nat_lt 0 m.inc) (nat_le m.inc (starts m.node)) a.0 in
    elim (nat_eq m.node n) as (λ (c : Bool). nat_eq m.node n ≡ c → cond c m.inc (inc_of ms n) ≤ starts n) [
      | true ↦ λ q. let le : m.inc ≤ starts m.node = le_true m.inc (starts m.node) b.1 in subst (λ (k : ℕ). m.inc ≤ starts k) (eq_true m.node n q) le
      | false ↦ λ q. started_inc starts ms n a.1
    ] refl
  where
    le_true : (a b : ℕ) → nat_le a b ≡ true → a ≤ b
    le_true a b e = grind arith

pub started_locker : (starts : ℕ → ℕ) (ms : List Member) → ms ≢ [] → list_all (was_started starts) ms ≡ true → 0 < inc_of ms (locker_of ms)
started_locker starts [] f e = absurd (f refl)
started_locker starts (m ∷ ms) f e =
    let a = and_true (was_started starts m) (list_all (was_started starts) ms) e in
    let b = and_true (nat_lt 0 m.inc) (nat_le m.inc (starts m.node)) a.0 in
    let same : nat_eq m.node m.node ≡ true = refl_eq m.node in
    subst (λ (c : Bool). 0 < cond c m.inc (inc_of ms m.node)) (sym same) (lt_true 0 m.inc b.0)
  where
    refl_eq : (n : ℕ) → nat_eq n n ≡ true
    refl_eq n = grind arith

pub no_update : (k : ℕ) (u : Update) → slice_get [] k ≡ Some u → ⊥
no_update k u e = cc

pub is_none_says : {A : Type 0} (o : Option A) → is_none o ≡ true → o ≡ None
is_none_says None e = refl
is_none_says (Some a) e = cc

module _ {M : Machine} where
  -- A node starts
  abbrev pub started_world : World M → ℕ → World M
  started_world w n = record w { nodes = put w.nodes n (Some (fresh M n (w.starts n + 1))); starts = put w.starts n (w.starts n + 1) }

  pub start_ext : (w : World M) (n : ℕ) → w.nodes n ≡ None → Ext w (started_world w n)
  start_ext w n off = record {
    log = longer_refl w.log;
    chain = λ v u e. e;
    starts = λ m. grows m;
    requests = λ m i q u e. e;
    nodes = λ m y at le. ⊎_elim
        (λ (c : (m ≡ n) × (Some (fresh M n (w.starts n + 1)) ≡ Some y)). absurd (let q : fresh M n (w.starts n + 1) ≡ y = cc in let i : w.starts n + 1 ≡ y.join.inc = ap (λ (t : NodeState M). t.join.inc) q in omega (arith, i, ap w.starts c.0)))
        (λ (c : (m ≢ n) × (w.nodes m ≡ Some y)). (y, c.1, grown_refl y))
        (put_cases w.nodes n (Some (fresh M n (w.starts n + 1))) m y at);
  }
    where
      grows : (m : ℕ) → w.starts m ≤ put w.starts n (w.starts n + 1) m
      grows m = if_cases (λ (k : ℕ). w.starts m ≤ k) (nat_eq m n) (w.starts n + 1) (w.starts m) (λ e. omega (arith, ap w.starts (eq_true m n e))) (λ e. omega arith)

  pub fresh_ok : (w : World M) (n : ℕ) → length (w.requests n (w.starts n + 1)) ≡ 0 → NodeOk (started_world w n) n (fresh M n (w.starts n + 1))
  fresh_ok w n un = record {
    local = record {
      node = refl;
      positive = omega arith;
      core_node = refl;
      core_members = refl;
      core_open = refl;
      entries = refl;
      peopled = λ m pos. absurd (omega arith);
      ready_view = λ c. absurd (cc);
      idle = λ e. (refl, refl);
      unsettled = λ c. refl;
      full_state = λ f. absurd (f refl);
      pulling = λ o e. absurd (cc);
    };
    prefix = record {
      within = omega arith;
      registry = λ r e. absurd (cc);
      last = λ r e. absurd (cc);
      ready_state = λ c. absurd (cc);
      below = λ v c i b. omega arith;
      unready = λ c i b. omega arith;
      pull = λ o e. absurd (cc);
      pulled = λ g e. absurd (cc);
      closed = λ a b c. absurd (cc);
    };
    inc = sym (put_same w.starts n (w.starts n + 1));
    view = λ nz. absurd (nz refl);
    lock = λ l e. absurd (cc);
    marked = λ m e pos. absurd (omega arith);
    all_ready = λ c. absurd (cc);
    settled = λ k e. absurd (cc);
    spreading = λ s e. absurd (cc);
    waiting = λ r s u wt. absurd (wt.0 refl);
    waiting_doubt = λ r s u wt. absurd (wt.0 refl);
    behind = λ r c wt. absurd (wt.0 refl);
    near_head = λ r wt. absurd (wt.0 refl);
    near_doubt = λ r wt. absurd (wt.0 refl);
    outcome = λ r f. absurd (f refl);
    queued = λ k u e. absurd (no_update k u e);
    all_requests = un;
    finished = λ q one le. absurd (omega arith);
  }

  pub start_keeps : (w : World M) (n : ℕ) → Invariant w → w.nodes n ≡ None → Invariant (started_world w n)
  start_keeps w n j off =
      let w' : World M = started_world w n in
      let y : NodeState M = fresh M n (w.starts n + 1) in
      let e : Ext w w' = start_ext w n off in
      let ao : AskedOnly w = λ r s. (j.log.asked r s).1 in
      record {
        chain = record { chain = j.chain.chain; started = λ v m u at. omega (arith, j.chain.started v m u at, e.starts m); locker = j.chain.locker };
        log = record {
          places = j.log.places;
          ids = j.log.ids;
          logged = j.log.logged;
          doubt_view = j.log.doubt_view;
          requested = j.log.requested;
          doubt_requested = j.log.doubt_requested;
          recovered = j.log.recovered;
          doubt_recovered = j.log.doubt_recovered;
          rising = j.log.rising;
          early = j.log.early;
          ordered = j.log.ordered;
          by_held = j.log.by_held;
          doubt_held = j.log.doubt_held;
          doubt_last = j.log.doubt_last;
          doubt_low = j.log.doubt_low;
          bounds = j.log.bounds;
          asked = λ r s. let a = j.log.asked r s in (a.0, asked_ w w' r.id.node r.id.inc r.id.req e a.1);
          doubt = λ r s. let a = j.log.doubt r s in (a.0, a.1, asked_ w w' r.id.node r.id.inc r.id.req e a.2, a.3);
          unasked = λ m i lt. j.log.unasked m i (omega (arith, e.starts m, lt));
          counts = λ v c s. let a = j.log.counts v c s in (a.0, a.1, a.2, a.3, entered_ w w' (locker_of a.2.members) (inc_of a.2.members (locker_of a.2.members)) v e a.4);
          held = λ s. let a = j.log.held s in (a.0, a.1, entered_ w w' (locker_of a.0.members) (inc_of a.0.members (locker_of a.0.members)) w.log.held e a.2);
        };
        nodes = λ m z at. ⊎_elim
            (λ (c : (m ≡ n) × (Some y ≡ Some z)). at_self (λ (a : ℕ) (b : NodeState M). NodeOk w' a b) m n y z c.0 c.1 (fresh_ok w n (j.log.unasked n (w.starts n + 1) (omega arith))))
            (λ (c : (m ≢ n) × (w.nodes m ≡ Some z)). let h : NodeOk w m z = j.nodes m z c.1 in record {
              local = h.local;
              prefix = h.prefix;
              view = h.view;
              lock = h.lock;
              settled = h.settled;
              waiting = h.waiting;
              waiting_doubt = h.waiting_doubt;
              behind = h.behind;
              near_head = h.near_head;
              near_doubt = h.near_doubt;
              outcome = h.outcome;
              queued = h.queued;
              all_requests = h.all_requests;
              finished = h.finished;
              inc = h.inc ∙ sym (put_other w.starts n (w.starts n + 1) m c.0);
              marked = λ b i p. was_ready w w' b (inc_of z.join.view.members b) z.join.view.number e ao (h.marked b i p);
              all_ready = λ i b p. was_ready w w' b (inc_of z.join.view.members b) z.join.view.number e ao (h.all_ready i b p);
              spreading = λ s f. let t = h.spreading s f in
                  (t.0, t.1, t.2, t.3, t.4, t.5, reached w w' (locker_of z.join.view.members) (inc_of z.join.view.members (locker_of z.join.view.members)) t.0.place e t.6, λ i b l g. reached w w' b.node (inc_of z.join.view.members b.node) t.0.place e (t.7 i b l g));
            })
            (put_cases w.nodes n (Some y) m z at);
        owner = λ m z o. ⊎_elim
            (λ (c : (m ≡ n) × (Some y ≡ Some z)). absurd (let q : y ≡ z = cc in let r : joining.is_ready y.join ≡ true = ap (λ (t : NodeState M). joining.is_ready t.join) q ∙ o.ready in cc))
            (λ (c : (m ≢ n) × (w.nodes m ≡ Some z)).
            let ox : Owner w m z = record { runs = c.1; ready = o.ready; locker = o.locker; held = o.held } in
            let k : OwnerOk w m z = j.owner m z ox in
            let h : NodeOk w m z = j.nodes m z c.1 in
            record {
              sure = k.sure;
              all_done = k.all_done;
              closed = k.closed;
              greatest = k.greatest;
              members = λ op a b at i. ⊎_elim
                  (λ (d : (a ≡ n) × (Some y ≡ Some b)). absurd (let q : y ≡ b = cc in let r : w.starts n + 1 ≡ b.join.inc = ap (λ (t : NodeState M). t.join.inc) q in omega (arith, r, i, ap w.starts d.0, j.chain.started z.join.view.number a z.join.view ((h.view (h.local.ready_view o.ready)).0))))
                  (λ (d : (a ≢ n) × (w.nodes a ≡ Some b)). k.members op a b d.1 i)
                  (put_cases w.nodes n (Some y) a b at);
            })
            (put_cases w.nodes n (Some y) m z o.runs);
        pool = λ i p s. pooled w w' p e ao (λ v c f. (j.log.counts v c f).0) (j.pool i p s);
        points = λ a p s. past w w' p.node p.inc p.place e (j.points a p s);
        steady = j.steady;
        acks = λ a v i s. let g = j.acks a v i s in record { view = g.view; declared = g.declared; place = g.place; later = g.later; members = all_reached w w' g.view.members i e g.members };
      }

  -- A view is declared
  abbrev pub declared_world : World M → View → World M
  declared_world w v = record w { chain = w.chain ++ v ∷ [] }

  pub declare_keeps : (w : World M) (v : View) → Invariant w → may_declare w v ≡ true → Invariant (declared_world w v)
  declare_keeps w v j g =
      let w' : World M = declared_world w v in
      let a = and_true (list_all (was_started w.starts) v.members) (is_none (fault_of w.chain v)) (and_true (is_view v) (list_all (was_started w.starts) v.members && is_none (fault_of w.chain v)) g).1 in
      let new : IsChain w'.chain = stays_chain w.chain v j.chain.chain (is_none_says (fault_of w.chain v) a.1) in
      let old : (k : ℕ) (u : View) → view_in w.chain k ≡ Some u → view_in w'.chain k ≡ Some u = λ k u e. place_old w.chain v k u e in
      let e : Ext w w' = record { log = longer_refl w.log; chain = old; starts = λ m. omega arith; requests = λ m i q u e. e; nodes = λ m y at le. (y, at, grown_refl y) } in
      let ao : AskedOnly w = λ r s. (j.log.asked r s).1 in
      -- a view that was declared is the same one
      let same : (k : ℕ) (u t : View) → view_in w.chain k ≡ Some u → view_in w'.chain k ≡ Some t → u ≡ t = λ k u t b c. let q : Some u ≡ Some t = sym (old k u b) ∙ c in cc in
      record {
        chain = record {
          chain = new;
          started = λ k n u at. ⊎_elim
              (λ (b : view_in w.chain k ≡ Some u). j.chain.started k n u b)
              (λ (b : (k ≡ length w.chain + 1) × (u ≡ v)). subst (λ (t : View). inc_of t.members n ≤ w.starts n) (sym b.1) (started_inc w.starts v.members n a.0))
              (place_push w.chain v k u at);
          locker = λ k u at. ⊎_elim
              (λ (b : view_in w.chain k ≡ Some u). j.chain.locker k u b)
              (λ (b : (k ≡ length w.chain + 1) × (u ≡ v)). subst (λ (t : View). 0 < inc_of t.members (locker_of t.members)) (sym b.1) (started_locker w.starts v.members (new.peopled (length w.chain + 1) v (place_new w.chain v)) a.0))
              (place_push w.chain v k u at);
        };
        log = record {
          places = j.log.places;
          ids = j.log.ids;
          requested = j.log.requested;
          doubt_requested = j.log.doubt_requested;
          unasked = j.log.unasked;
          recovered = j.log.recovered;
          doubt_recovered = j.log.doubt_recovered;
          rising = j.log.rising;
          early = j.log.early;
          ordered = j.log.ordered;
          by_held = j.log.by_held;
          doubt_held = j.log.doubt_held;
          doubt_last = j.log.doubt_last;
          doubt_low = j.log.doubt_low;
          bounds = j.log.bounds;
          asked = λ r s. let b = j.log.asked r s in (b.0, asked_ w w' r.id.node r.id.inc r.id.req e b.1);
          logged = λ r s. let b = j.log.logged r s in (b.0, old (w.log.view_at r.place) b.0 b.1, b.2, b.3);
          doubt = λ r s. let b = j.log.doubt r s in (b.0, b.1, asked_ w w' r.id.node r.id.inc r.id.req e b.2, b.3);
          doubt_view = λ r s. let b = j.log.doubt_view r s in (b.0, old w.log.doubtful_view b.0 b.1, b.2, b.3);
          counts = λ k c s. let b = j.log.counts k c s in (b.0, b.1, b.2, old k b.2 b.3, entered_ w w' (locker_of b.2.members) (inc_of b.2.members (locker_of b.2.members)) k e b.4);
          held = λ s. let b = j.log.held s in (b.0, old w.log.held b.0 b.1, entered_ w w' (locker_of b.0.members) (inc_of b.0.members (locker_of b.0.members)) w.log.held e b.2);
        };
        nodes = λ m z at. let h : NodeOk w m z = j.nodes m z at in record {
          local = h.local;
          prefix = h.prefix;
          inc = h.inc;
          lock = h.lock;
          settled = h.settled;
          behind = h.behind;
          near_head = h.near_head;
          near_doubt = h.near_doubt;
          outcome = h.outcome;
          queued = h.queued;
          all_requests = h.all_requests;
          finished = h.finished;
          view = λ nz. let b = h.view nz in (old z.join.view.number z.join.view b.0, b.1);
          marked = λ b i p. was_ready w w' b (inc_of z.join.view.members b) z.join.view.number e ao (h.marked b i p);
          all_ready = λ i b p. was_ready w w' b (inc_of z.join.view.members b) z.join.view.number e ao (h.all_ready i b p);
          spreading = λ s f. let t = h.spreading s f in
              (t.0, t.1, t.2, t.3, t.4, t.5, reached w w' (locker_of z.join.view.members) (inc_of z.join.view.members (locker_of z.join.view.members)) t.0.place e t.6, λ i b l g. reached w w' b.node (inc_of z.join.view.members b.node) t.0.place e (t.7 i b l g));
          waiting = λ r s u wt sr id ss lt vu. let b = j.log.logged s ss in subst (λ (t : View). inc_of t.members m ≢ z.join.inc) (same (w.log.view_at s.place) b.0 u b.1 vu) (h.waiting r s b.0 wt sr id ss lt b.1);
          waiting_doubt = λ r s u wt sr id q vu. let b = j.log.doubt_view s q in subst (λ (t : View). inc_of t.members m ≢ z.join.inc) (same w.log.doubtful_view b.0 u b.1 vu) (h.waiting_doubt r s b.0 wt sr id q b.1);
        };
        owner = λ m z o.
            let k : OwnerOk w m z = j.owner m z (record { runs = o.runs; ready = o.ready; locker = o.locker; held = o.held }) in
            record { sure = k.sure; all_done = k.all_done; closed = k.closed; greatest = k.greatest; members = k.members };
        pool = λ i p s. pooled w w' p e ao (λ k c f. (j.log.counts k c f).0) (j.pool i p s);
        points = λ a p s. past w w' p.node p.inc p.place e (j.points a p s);
        steady = j.steady;
        acks = λ b k i s. let h = j.acks b k i s in record { view = h.view; declared = old k h.view h.declared; place = h.place; later = h.later; members = all_reached w w' h.view.members i e h.members };
      }
