-- The open locker logs a record.
use Rattle.std.proofs.Common.{◌≡◌, ◌≢◌, ◌⊎◌, inl, inr, ⊎_elim, ℕ, ◌+◌, ◌<◌, ◌≤◌, Bool, true, false, List, [], ◌∷◌, ◌++◌, length, Option, Some, None, nat_eq, slice_get, refl, sym, ap, ◌∙◌, subst, append-nil, arith}
use Rattle.std.proofs.lemmas.Bool.{cases_lt}
use Rattle.gum_messages.specs.declared.member.Member.{Member}
use Rattle.gum_messages.specs.declared.view.View.{View}
use Rattle.gum_messages.specs.Members.{inc_of, locker_of, index_of}
use Rattle.gum_messages.specs.Places.{at_place}
use Rattle.gum_messages.proofs.Placing.{place_new}
use Rattle.update_records.specs.Entry.{Entry}
use Rattle.gum_core.specs.declared.lock.Lock.{Lock}
use Rattle.gum_core.specs.Updating.{greatest_of}
use Rattle.view_reconcile.specs.Joining.{ReconcileState}
use Rattle.view_reconcile.specs.Joining as joining
use Rattle.view_reconcile.specs.Chains.{view_in}
use Rattle.cluster_rules.specs.Machines.{Machine}
use Rattle.gum_messages.specs.declared.body.Body.TheVariants.{Granted}
use Rattle.gum_messages.specs.Messages.{Sent}
use Rattle.cluster_rules.specs.Nodes.{NodeState, Replica, done_of, packet, tells}
use Rattle.cluster_rules.specs.Updates.{has_logged}
use Rattle.cluster_rules.specs.Worlds.{World, acked, with_log}
use Rattle.cluster_laws.proofs.History.{absorbed}
use Rattle.cluster_laws.proofs.Inv.{AckOk, Asked, Invariant, LogOk, LoggedIn, MemberOk, NodeOk, NotBefore, Owner, OwnerOk, Pooled, Reached, Requested, Stands}
use Rattle.cluster_laws.proofs.Stable.{AskedOnly, Ext, Grown, grown_refl, past, pooled}
use Rattle.cluster_laws.proofs.Moves.{at_self, none_acked, one_told, put_cases, self_node, slice_get_append, slice_get_front}
use Rattle.cluster_laws.proofs.Applying.{done_at, next_outcome, done_next, eq_true, locker_is, locker_not, next_last, next_registry, state_next}
use Rattle.std.proofs.lemmas.List.{length-set}
use Rattle.gum_core.proofs.Logging.{greatest_kept, greatest_logged}
use Rattle.cluster_laws.proofs.Growth.{Grows, NewOk, ack_grows, fresh_or_old, length_snoc, log_grows, longer_plus, new_view, node_grows, plus}

pub no_more : {A : Type 0} (l : List A) (k : ℕ) (a : A) → slice_get (l ++ []) k ≡ Some a → slice_get l k ≡ Some a
no_more l k a e = ap (λ (t : List _). slice_get t k) (sym (append-nil l)) ∙ e

pub same_or_not : (a b : ℕ) → (a ≡ b) ⊎ (a ≢ b)
same_or_not a b = elim (nat_eq a b) as (λ (c : Bool). nat_eq a b ≡ c → (a ≡ b) ⊎ (a ≢ b)) [
  | true ↦ λ e. inl (eq_true a b e)
  | false ↦ λ e. inr (grind arith)
] refl

module _ {M : Machine} where
  -- there is one owner
  pub owner_unique : (w : World M) (n m : ℕ) (x z : NodeState M) → Invariant w → Owner w n x → Owner w m z → (m ≡ n) × (z.join.view ≡ x.join.view)
  owner_unique w n m x z j a b =
      let hx : NodeOk w n x = j.nodes n x a.runs in
      let hz : NodeOk w m z = j.nodes m z b.runs in
      let vx = (hx.view (hx.local.ready_view a.ready)).0 in
      let vz = (hz.view (hz.local.ready_view b.ready)).0 in
      let q : Some z.join.view ≡ Some x.join.view = sym vz ∙ ap (view_in w.chain) (b.held ∙ sym a.held) ∙ vx in
      let g : z.join.view ≡ x.join.view = cc in
      (sym (locker_is z.join.view.members z.join.node b.locker ∙ hz.local.node) ∙ ap (λ (v : View). locker_of v.members) g ∙ locker_is x.join.view.members x.join.node a.locker ∙ hx.local.node, g)

  abbrev pub appended : World M → ℕ → NodeState M → Entry → World M
  appended w n x r = absorbed n (tells (has_logged x r) r.id.node (Granted r)) (with_log (plus w.log r x.join.view.number) w)

  -- what an Ask that is to be logged has
  pub record Fresh (w : World M) (n : ℕ) (x : NodeState M) (s : Replica M) (r : Entry) : Type 0 where
    pub owner : Owner w n x
    pub state : x.replica ≡ Some s
    pub open_ : joining.is_open x.join ≡ true
    pub free : x.core.lock ≡ None
    pub place : r.place ≡ s.done + 1
    pub inc : r.id.inc ≡ inc_of x.join.view.members r.id.node
    pub member : 0 < r.id.inc
    pub next : greatest_of x.core r.id.node < r.id.req
    pub asked : Asked w r.id.node r.id.inc r.id.req
    pub requested : Requested w r.id.node r.id.inc r.id.req r.update
    pub count : ℕ
    pub counted : w.log.count x.join.view.number ≡ Some count
    pub new : NotBefore w.log r.id.node r.id.inc r.id.req count

  pub logged_grown : (x : NodeState M) (s : Replica M) (r : Entry) → x.replica ≡ Some s → Grown x (has_logged x r)
  logged_grown x s r st = record { inc = refl; done = let d : done_of (has_logged x r) ≡ s.done + 1 = done_next x r s st in omega (arith, done_at x s st, d); passed = omega arith; asks = omega arith; view = omega arith; settled = λ k e. inl e; waits = λ e q z. z }

  pub append_ext : (w : World M) (n : ℕ) (x : NodeState M) (s : Replica M) (r : Entry) → w.nodes n ≡ Some x → x.replica ≡ Some s → Ext w (appended w n x r)
  append_ext w n x s r at st = record {
    log = longer_plus M w.log r x.join.view.number;
    chain = λ v u e. e;
    starts = λ m. omega arith;
    requests = λ m i q u e. e;
    nodes = λ m z e b. ⊎_elim
        (λ (c : (m ≡ n) × (Some (has_logged x r) ≡ Some z)). (x, ap w.nodes c.0 ∙ at, let q : has_logged x r ≡ z = cc in subst (λ (t : NodeState M). Grown x t) q (logged_grown x s r st)))
        (λ (c : (m ≢ n) × (w.nodes m ≡ Some z)). (z, c.1, grown_refl z))
        (put_cases w.nodes n (Some (has_logged x r)) m z e);
  }

  pub append_grows : (w : World M) (n : ℕ) (x : NodeState M) (s : Replica M) (r : Entry) → Invariant w → Fresh w n x s r → Grows w r x.join.view (appended w n x r).nodes (appended w n x r).pool (appended w n x r).acks (appended w n x r).points
  append_grows w n x s r j f =
      let at : w.nodes n ≡ Some x = f.owner.runs in
      let h : NodeOk w n x = j.nodes n x at in
      let k : OwnerOk w n x = j.owner n x f.owner in
      record {
        ext = append_ext w n x s r at f.state;
        place = omega (arith, f.place, k.all_done, done_at x s f.state);
        view = (h.view (h.local.ready_view f.owner.ready)).0;
        told = λ a p e. slice_get_front w.acks [] a p e;
        near = λ m z zt wt id.
            let mem : inc_of x.join.view.members m ≡ z.join.inc = ap (inc_of x.join.view.members) (sym id.node) ∙ sym f.inc ∙ id.inc in
            (k.members f.open_ m z zt mem).free f.free;
        alone = λ m z a zt wt st id i.
            let o = (k.members f.open_ m z zt i).heads a wt st id in
            absurd (let q : ◌≡◌ {A = Option Lock} None (Some o.0) = sym f.free ∙ o.1 in cc);
      }

  pub append_new : (w : World M) (n : ℕ) (x : NodeState M) (s : Replica M) (r : Entry) → Invariant w → Fresh w n x s r → NewOk w r x.join.view
  append_new w n x s r j f =
      let h : NodeOk w n x = j.nodes n x f.owner.runs in
      let k : OwnerOk w n x = j.owner n x f.owner in
      let held : x.join.view.number ≡ w.log.held = f.owner.held in
      record {
        positive = omega (arith, f.next);
        asked = f.asked;
        requested = f.requested;
        new = record {
          none = λ a at id. absurd (⊎_elim
              (λ (c : f.count < a.place).
              let mem : 0 < inc_of x.core.members a.id.node = subst (λ (t : ℕ). 0 < t) (f.inc ∙ ap (inc_of x.join.view.members) (sym id.node) ∙ ap (λ (ms : List Member). inc_of ms a.id.node) (sym h.local.core_members)) f.member in
              let g : a.id.req ≤ greatest_of x.core a.id.node = k.greatest a f.count f.counted (record { at = at }) c mem in
              omega (arith, g, ap (greatest_of x.core) id.node, id.req, f.next))
              (λ (c : a.place ≤ f.count). omega (arith, f.new.none a at id))
              (cases_lt f.count a.place));
        };
        inc = f.inc;
        member = f.member;
        held = omega (arith, held);
        last = λ a st. omega (arith, held, j.log.by_held a st);
        recovered = (f.count, f.counted);
        low = λ u c i. omega (arith, held, (j.log.counts u c i).1);
      }

  pub logged_ok : (w : World M) (n : ℕ) (x : NodeState M) (s : Replica M) (r : Entry) → Invariant w → Fresh w n x s r → NodeOk (appended w n x r) n (has_logged x r)
  logged_ok w n x s r j f =
      let at : w.nodes n ≡ Some x = f.owner.runs in
      let gs = append_grows w n x s r j f in
      let w' : World M = appended w n x r in
      let y : NodeState M = has_logged x r in
      let h : NodeOk w n x = j.nodes n x at in
      let g : NodeOk w' n x = node_grows w r x.join.view w'.nodes w'.pool w'.acks w'.points n x j.log gs at h in
      let k : OwnerOk w n x = j.owner n x f.owner in
      let d : done_of x ≡ s.done = done_at x s f.state in
      let d' : done_of y ≡ s.done + 1 = done_next x r s f.state in
      let len : length w'.log.order ≡ length w.log.order + 1 = length_snoc w.log.order r in
      let here : at_place w'.log.order (s.done + 1) ≡ Some r = ap (at_place w'.log.order) (sym f.place ∙ gs.place) ∙ place_new w.log.order r in
      let lo' : LogOk w' = log_grows w r x.join.view w'.nodes w'.pool w'.acks w'.points j.log gs (append_new w n x s r j f) in
      let here2 : at_place w'.log.order (done_of y) ≡ Some r = ap (at_place w'.log.order) d' ∙ here in
      let rd : joining.is_ready x.join ≡ true = f.owner.ready in
      record {
        local = record {
          node = g.local.node;
          positive = g.local.positive;
          core_node = g.local.core_node;
          core_members = g.local.core_members;
          core_open = g.local.core_open;
          peopled = g.local.peopled;
          ready_view = g.local.ready_view;
          idle = g.local.idle;
          unsettled = g.local.unsettled;
          entries = length-set x.core.greatest (index_of x.core.members r.id.node) r.id.req ∙ h.local.entries;
          full_state = λ q. state_next x r s f.state;
          pulling = λ o e. absurd (locker_not (joining.is_ready x.join) rd (h.prefix.pull o e).0);
        };
        prefix = record {
          pull = g.prefix.pull;
          pulled = g.prefix.pulled;
          within = omega (arith, d', len, k.all_done, d);
          registry = next_registry w' n x r s g f.state here;
          last = next_last w' x r s f.state here;
          ready_state = λ c. let t = h.prefix.ready_state c in (state_next x r s f.state, t.1, t.2, omega (arith, t.3, d, d'));
          below = λ v c i b. absurd (omega (arith, b, f.owner.held, (j.log.counts v c i).1));
          unready = λ c i b. absurd (locker_not (joining.is_ready x.join) rd b);
          closed = λ a b c. absurd (locker_not (joining.is_open x.join) f.open_ c);
        };
        inc = g.inc;
        view = g.view;
        marked = g.marked;
        all_ready = g.all_ready;
        spreading = g.spreading;
        waiting = g.waiting;
        waiting_doubt = g.waiting_doubt;
        behind = g.behind;
        queued = g.queued;
        all_requests = g.all_requests;
        finished = g.finished;
        lock = λ l e.
            let q : record { node = r.id.node; req = r.id.req; place = r.place } ≡ l = cc in
            subst (λ (l : Lock). (joining.is_open x.join ≡ true) × (joining.locks x.join ≡ true) × (a : Entry) × (at_place w'.log.order (done_of y) ≡ Some a) × LoggedIn w'.log a x.join.view.number × (a.id.node ≡ l.node) × (a.id.inc ≡ inc_of x.join.view.members l.node) × (a.id.req ≡ l.req) × (a.place ≡ l.place)) q
            (f.open_, f.owner.locker, r, here2, record { at = ap (at_place w'.log.order) f.place ∙ here; view = new_view w.log r x.join.view.number r.place gs.place }, refl, f.inc, refl, refl);
        settled = λ p e. let t = g.settled p e in (t.0, t.1, t.2, t.3, omega (arith, t.4, d, d'), t.5);
        near_head = λ a wt sa id. omega (arith, g.near_head a wt sa id, d, d');
        near_doubt = λ a wt mb id. absurd (cc);
        outcome = λ a q sa id le. next_outcome w' n x r s a g lo'.ids (record { at = ap (at_place w'.log.order) f.place ∙ here }) f.state f.place q sa id (omega (arith, le, d'));
      }

  -- what the owner knows of a member, behind one record more
  pub member_after : (w : World M) (n : ℕ) (x : NodeState M) (s : Replica M) (r : Entry) → Invariant w → Fresh w n x s r → (m : ℕ) (b : NodeState M) → w.nodes m ≡ Some b → inc_of x.join.view.members m ≡ b.join.inc → MemberOk (plus w.log r x.join.view.number) (has_logged x r).core.lock m b
  member_after w n x s r j f m b at i =
      let k : OwnerOk w n x = j.owner n x f.owner in
      let old : MemberOk w.log x.core.lock m b = k.members f.open_ m b at i in
      let len : length (w.log.order ++ r ∷ []) ≡ length w.log.order + 1 = length_snoc w.log.order r in
      record {
        near = omega (arith, len, old.free f.free);
        free = λ e. absurd (cc);
        heads = λ a wt st id. ⊎_elim
            (λ (c : Stands w.log a × (a.place ≤ length w.log.order)). let o = old.heads a wt c.0 id in absurd (let q : ◌≡◌ {A = Option Lock} None (Some o.0) = sym f.free ∙ o.1 in cc))
            (λ (c : (a ≡ r) × (a.place ≡ length w.log.order + 1)). (record { node = r.id.node; req = r.id.req; place = r.place }, refl, ap (λ (t : Entry). t.id.node) (sym c.0) ∙ id.node, ap (λ (t : Entry). t.id.req) (sym c.0) ∙ id.req))
            (fresh_or_old w.log r a x.join.view.number ((append_grows w n x s r j f).place) st);
      }

  pub owner_after : (w : World M) (n : ℕ) (x : NodeState M) (s : Replica M) (r : Entry) → Invariant w → Fresh w n x s r → OwnerOk (appended w n x r) n (has_logged x r)
  owner_after w n x s r j f =
      let w' : World M = appended w n x r in
      let y : NodeState M = has_logged x r in
      let h : NodeOk w n x = j.nodes n x f.owner.runs in
      let k : OwnerOk w n x = j.owner n x f.owner in
      let gs = append_grows w n x s r j f in
      let d : done_of x ≡ s.done = done_at x s f.state in
      let d' : done_of y ≡ s.done + 1 = done_next x r s f.state in
      let len : length w'.log.order ≡ length w.log.order + 1 = length_snoc w.log.order r in
      let mem : 0 < inc_of x.core.members r.id.node = subst (λ (t : ℕ). 0 < t) (f.inc ∙ ap (λ (ms : List Member). inc_of ms r.id.node) (sym h.local.core_members)) f.member in
      let new_ : greatest_of y.core r.id.node ≡ r.id.req = greatest_logged x.core r.id.node r.id.req r.place h.local.entries mem in
      record {
        sure = refl;
        all_done = omega (arith, d, d', len, k.all_done);
        closed = λ c. absurd (locker_not (joining.is_open x.join) f.open_ c);
        greatest = λ a c i st b pos. ⊎_elim
            (λ (o : Stands w.log a × (a.place ≤ length w.log.order)).
            let old : a.id.req ≤ greatest_of x.core a.id.node = k.greatest a c i o.0 b pos in
            ⊎_elim
            (λ (e : a.id.node ≡ r.id.node). omega (arith, old, ap (greatest_of x.core) e, f.next, new_, ap (greatest_of y.core) e))
            (λ (e : a.id.node ≢ r.id.node). omega (arith, old, greatest_kept x.core r.id.node r.id.req r.place a.id.node pos e))
            (same_or_not a.id.node r.id.node))
            (λ (o : (a ≡ r) × (a.place ≡ length w.log.order + 1)). omega (arith, ap (λ (t : Entry). t.id.req) o.0, new_, ap (λ (t : Entry). greatest_of y.core t.id.node) o.0))
            (fresh_or_old w.log r a x.join.view.number gs.place st);
        members = λ op a b e i. ⊎_elim
            (λ (c : (a ≡ n) × (Some y ≡ Some b)). at_self (λ (t : ℕ) (u : NodeState M). inc_of x.join.view.members t ≡ u.join.inc → MemberOk w'.log y.core.lock t u) a n y b c.0 c.1
            (λ q. let g = member_after w n x s r j f n x f.owner.runs q in record { near = omega (arith, g.near, d, d'); free = λ z. absurd (cc); heads = g.heads }) i)
            (λ (c : (a ≢ n) × (w.nodes a ≡ Some b)). member_after w n x s r j f a b c.1 i)
            (put_cases w.nodes n (Some y) a b e);
      }

  pub append_keeps : (w : World M) (n : ℕ) (x : NodeState M) (s : Replica M) (r : Entry) → Invariant w → Fresh w n x s r → Invariant (appended w n x r)
  append_keeps w n x s r j f =
      let at : w.nodes n ≡ Some x = f.owner.runs in
      let w' : World M = appended w n x r in
      let y : NodeState M = has_logged x r in
      let gs = append_grows w n x s r j f in
      let e : Ext w w' = gs.ext in
      let h : NodeOk w n x = j.nodes n x at in
      let ao : AskedOnly w = λ r s. (j.log.asked r s).1 in
      let ok : NodeOk w' n y = logged_ok w n x s r j f in
      record {
        chain = record { chain = j.chain.chain; started = j.chain.started; locker = j.chain.locker };
        log = log_grows w r x.join.view w'.nodes w'.pool w'.acks w'.points j.log gs (append_new w n x s r j f);
        nodes = λ m z t. ⊎_elim
            (λ (c : (m ≡ n) × (Some y ≡ Some z)). at_self (λ (a : ℕ) (b : NodeState M). NodeOk w' a b) m n y z c.0 c.1 ok)
            (λ (c : (m ≢ n) × (w.nodes m ≡ Some z)). node_grows w r x.join.view w'.nodes w'.pool w'.acks w'.points m z j.log gs c.1 (j.nodes m z c.1))
            (put_cases w.nodes n (Some y) m z t);
        owner = λ m z o. ⊎_elim
            (λ (c : (m ≡ n) × (Some y ≡ Some z)). at_self (λ (a : ℕ) (b : NodeState M). OwnerOk w' a b) m n y z c.0 c.1 (owner_after w n x s r j f))
            (λ (c : (m ≢ n) × (w.nodes m ≡ Some z)). absurd (c.0 ((owner_unique w n m x z j f.owner (record { runs = c.1; ready = o.ready; locker = o.locker; held = o.held })).0)))
            (put_cases w.nodes n (Some y) m z o.runs);
        pool = λ i p t. ⊎_elim
            (λ (c : slice_get w.pool i ≡ Some p). pooled w w' p e ao (λ v c f. (j.log.counts v c f).0) (j.pool i p c))
            (λ (c : (a : ℕ) × (slice_get (packet y r.id.node (Granted r) ∷ []) a ≡ Some p)).
            let nz : x.join.view.number ≢ 0 = h.local.ready_view f.owner.ready in
            let me : locker_of x.join.view.members ≡ n = locker_is x.join.view.members x.join.node f.owner.locker ∙ h.local.node in
            let d' : done_of y ≡ s.done + 1 = done_next x r s f.state in
            let le : r.place ≤ done_of y = omega (arith, f.place, d') in
            let here : at_place w'.log.order r.place ≡ Some r = ap (at_place w'.log.order) gs.place ∙ place_new w.log.order r in
            let rc : Reached w' n (inc_of x.join.view.members n) r.place = record { started = omega (arith, h.inc, (h.view nz).1); done = λ z q same. self_node w n y [] (λ (t : NodeState M). r.place ≤ done_of t) le z q } in
            one_told (λ (q : Sent). Pooled w' q) (packet y r.id.node (Granted r)) (record {
              view = x.join.view;
              declared = (h.view nz).0;
              number = refl;
              ok = (record { at = here; view = new_view w.log r x.join.view.number r.place gs.place }, refl, f.inc, subst (λ (t : ℕ). Reached w' t (inc_of x.join.view.members t) r.place) (sym me) rc);
            }) c.0 p c.1)
            (slice_get_append w.pool (packet y r.id.node (Granted r) ∷ []) i p t);
        points = λ a p t. past w w' p.node p.inc p.place e (j.points a p (no_more w.points a p t));
        steady = λ a b p q ta tb. j.steady a b p q (no_more w.points a p ta) (no_more w.points b q tb);
        acks = λ a v k t. ⊎_elim
            (λ (c : slice_get w.acks a ≡ Some (v, k)). ack_grows w r x.join.view w'.nodes w'.pool w'.acks w'.points v k gs (j.acks a v k c))
            (λ (c : (i : ℕ) × (slice_get (acked []) i ≡ Some (v, k))). none_acked (λ (a b : ℕ). AckOk w' a b) c.0 v k c.1)
            (slice_get_append w.acks [] a (v, k) t);
      }
