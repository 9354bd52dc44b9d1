-- A world in which one node has moved and messages were sent, its log as before.
use Rattle.std.proofs.Common.{◌≡◌, ◌≢◌, ◌⊎◌, inl, inr, ⊎_elim, ℕ, zero, suc, ◌+◌, ◌<◌, ◌≤◌, Bool, true, false, List, [], ◌∷◌, ◌++◌, length, Option, Some, None, slice_get, unwrap_or, refl, sym, ap, ◌∙◌, subst, arith}
use Rattle.gum_messages.specs.declared.member.Member.{Member}
use Rattle.gum_messages.specs.declared.view.View.{View}
use Rattle.gum_messages.specs.Members.{inc_of, is_locker, locker_of, index_of}
use Rattle.gum_messages.specs.Places.{at_place}
use Rattle.update_records.specs.declared.update.Update.{Update}
use Rattle.gum_core.specs.declared.lock.Lock.{Lock}
use Rattle.gum_core.specs.Updating.{greatest_of}
use Rattle.view_reconcile.specs.declared.stage.Stage.{Stage}
use Rattle.view_reconcile.specs.Joining.{ReconcileState}
use Rattle.view_reconcile.specs.Joining as joining
use Rattle.view_reconcile.specs.Chains.{view_in}
use Rattle.cluster_rules.specs.Machines.{Machine}
use Rattle.gum_messages.specs.declared.body.Body.{Body}
use Rattle.gum_messages.specs.Messages.{Sent}
use Rattle.cluster_rules.specs.declared.effect.Effect.{Effect}
use Rattle.cluster_rules.specs.declared.effect.Effect.TheVariants.{Send}
use Rattle.cluster_rules.specs.declared.offering.Offering.{Offering}
use Rattle.cluster_rules.specs.Nodes.{NodeState, Out, becomes, done_of, nothing, packet, tells}
use Rattle.cluster_rules.specs.Worlds.{Point, World, acked, put, sent}
use Rattle.cluster_laws.proofs.History.{absorbed, answered}
use Rattle.cluster_laws.proofs.Inv.{AckOk, Invariant, Local, LogOk, MemberOk, MsgOk, NodeOk, Owner, OwnerOk, Past, Pooled, Prefix, Reached, Requested, WasReady, own}
use Rattle.cluster_laws.proofs.Stable.{AskedOnly, Ext, Grown, all_reached, asked_, entered_, grown_refl, longer_refl, past, pooled, reached, was_ready}

pub put_cases : {A : Type 0} (f : ℕ → Option A) (n : ℕ) (v : Option A) (m : ℕ) (z : A) → put f n v m ≡ Some z → ((m ≡ n) × (v ≡ Some z)) ⊎ ((m ≢ n) × (f m ≡ Some z))
put_cases f n v m z e = grind arith

pub slice_get_append : {A : Type 0} (xs ys : List A) (k : ℕ) (z : A) → slice_get (xs ++ ys) k ≡ Some z → (slice_get xs k ≡ Some z) ⊎ ((j : ℕ) × (slice_get ys j ≡ Some z))
slice_get_append [] ys k z e = inr (k, e)
slice_get_append (x ∷ xs) ys zero z e = inl e
slice_get_append (x ∷ xs) ys (suc k) z e = slice_get_append xs ys k z e

pub slice_get_front : {A : Type 0} (xs ys : List A) (k : ℕ) (p : A) → slice_get xs k ≡ Some p → slice_get (xs ++ ys) k ≡ Some p
slice_get_front [] ys k p e = absurd (cc)
slice_get_front (x ∷ xs) ys zero p e = e
slice_get_front (x ∷ xs) ys (suc k) p e = slice_get_front xs ys k p e

pub slice_get_back : {A : Type 0} (xs ys : List A) (k : ℕ) (p : A) → slice_get ys k ≡ Some p → (j : ℕ) × (slice_get (xs ++ ys) j ≡ Some p)
slice_get_back [] ys k p e = (k, e)
slice_get_back (x ∷ xs) ys k p e = let r : (j : ℕ) × (slice_get (xs ++ ys) j ≡ Some p) = slice_get_back xs ys k p e in (suc r.0, r.1)

pub slice_split : {A : Type 0} (xs ys : List A) (k : ℕ) (z : A) → slice_get (xs ++ ys) k ≡ Some z → ((k < length xs) × (slice_get xs k ≡ Some z)) ⊎ ((length xs ≤ k) × (j : ℕ) × (slice_get ys j ≡ Some z))
slice_split [] ys k z e = inr (omega arith, k, e)
slice_split (x ∷ xs) ys zero z e = inl (omega arith, e)
slice_split (x ∷ xs) ys (suc k) z e = ⊎_elim
    (λ (c : (k < length xs) × (slice_get xs k ≡ Some z)). inl (let h : k < length xs = c.0 in omega arith, c.1))
    (λ (c : (length xs ≤ k) × (j : ℕ) × (slice_get ys j ≡ Some z)). inr (let h : length xs ≤ k = c.0 in omega arith, c.1, c.2))
    (slice_split xs ys k z e)

pub answered_get : {M : Machine} (n i : ℕ) (l : List (ℕ × ℕ)) (k : ℕ) (p : Point M) → slice_get (answered {M = M} n i l) k ≡ Some p → (v : ℕ) × (slice_get l k ≡ Some (v, p.place)) × (p.node ≡ n) × (p.inc ≡ i)
answered_get n i [] k p e = absurd (no k e)
  where
    no : {A : Type 0} {p : A} (k : ℕ) → slice_get [] k ≡ Some p → ⊥
    no k e = cc
answered_get {M} n i (a ∷ l) zero p e =
    let q : record { node = n; inc = i; place = a.1; req = 0; outcome = None } ≡ p = cc in
    (a.0, ap (λ (t : Point M). Some (a.0, t.place)) q, sym (ap (λ (t : Point M). t.node) q), sym (ap (λ (t : Point M). t.inc) q))
answered_get n i (a ∷ l) (suc k) p e = answered_get n i l k p e

-- what is told, one by one
pub one_told : (P : Sent → Type 0) (p : Sent) → P p → (k : ℕ) (m : Sent) → slice_get (p ∷ []) k ≡ Some m → P m
one_told P p h zero m e = let g : p ≡ m = cc in subst P g h
one_told P p h (suc k) m e = absurd (cc)

pub two_told : (P : Sent → Type 0) (p q : Sent) → P p → P q → (k : ℕ) (m : Sent) → slice_get (p ∷ q ∷ []) k ≡ Some m → P m
two_told P p q h i zero m e = let g : p ≡ m = cc in subst P g h
two_told P p q h i (suc k) m e = one_told P q i k m e

pub none_told : (P : Sent → Type 0) (k : ℕ) (m : Sent) → slice_get (sent []) k ≡ Some m → P m
none_told P k m e = absurd (cc)

pub none_acked : (P : ℕ → ℕ → Type 0) (k v p : ℕ) → slice_get (acked []) k ≡ Some (v, p) → P v p
none_acked P k v p e = absurd (cc)

pub one_acked : (P : ℕ → ℕ → Type 0) (a b : ℕ) → P a b → (k v p : ℕ) → slice_get {X = ℕ × ℕ} ((a, b) ∷ []) k ≡ Some (v, p) → P v p
one_acked P a b h zero v p e = let g : ◌≡◌ {A = ℕ × ℕ} (a, b) (v, p) = cc in subst (λ (t : ℕ × ℕ). P t.0 t.1) g h
one_acked P a b h (suc k) v p e = absurd (cc)

module _ {M : Machine} where
  -- the world in which one node became y and told these
  abbrev pub moved : World M → ℕ → NodeState M → List Effect → World M
  moved w n y es = absorbed n (becomes y es) w

  pub at_self : (P : ℕ → NodeState M → Type 0) (a n : ℕ) (y b : NodeState M) → a ≡ n → Some y ≡ Some b → P n y → P a b
  at_self P a n y b e f p = let g : y ≡ b = cc in subst (λ (t : NodeState M). P a t) g (subst (λ (t : ℕ). P t y) (sym e) p)

  -- the world in which it also took requests
  -- the same world with another history
  abbrev pub with_history : World M → (ℕ → ℕ → List Update) → List (Point M) → World M
  with_history w rq ps = record w { requests = rq; points = ps }

  pub ext_on : (w : World M) (rq : ℕ → ℕ → List Update) (ps : List (Point M)) (n : ℕ) (x y : NodeState M) (es : List Effect) → ((m i q : ℕ) (u : Update) → Requested w m i q u → at_place (rq m i) q ≡ Some u) → w.nodes n ≡ Some x → Grown x y → Ext w (moved (with_history w rq ps) n y es)
  ext_on w rq ps n x y es more at g = record {
    log = longer_refl w.log;
    chain = λ v u e. e;
    starts = λ m. omega arith;
    requests = more;
    nodes = λ m z e s. ⊎_elim
        (λ (c : (m ≡ n) × (Some y ≡ Some z)). (x, ap w.nodes c.0 ∙ at, let q : y ≡ z = cc in subst (λ (t : NodeState M). Grown x t) q g))
        (λ (c : (m ≢ n) × (w.nodes m ≡ Some z)). (z, c.1, grown_refl z))
        (put_cases w.nodes n (Some y) m z e);
  }

  pub ext_absorb : (w : World M) (n : ℕ) (x y : NodeState M) (es : List Effect) → w.nodes n ≡ Some x → Grown x y → Ext w (moved w n y es)
  ext_absorb w n x y es at g = ext_on w w.requests w.points n x y es (λ m i q u e. e) at g

  -- a world with the same chain, starts and log
  abbrev pub beside : World M → (ℕ → Option (NodeState M)) → List Sent → List (ℕ × ℕ) → (ℕ → ℕ → List Update) → List (Point M) → World M
  beside w nodes pool acks rq ps = record w { nodes = nodes; pool = pool; acks = acks; requests = rq; points = ps }

  -- what holds of a node stays, where its world grows and has the same log
  pub node_beside : (w : World M) (nodes : ℕ → Option (NodeState M)) (pool : List Sent) (acks : List (ℕ × ℕ)) (rq : ℕ → ℕ → List Update) (ps : List (Point M)) (m : ℕ) (y : NodeState M) → Ext w (beside w nodes pool acks rq ps) → AskedOnly w → length (rq m y.join.inc) ≡ length (w.requests m y.join.inc) → ((a : ℕ) (t : ℕ × ℕ) → slice_get w.acks a ≡ Some t → slice_get acks a ≡ Some t) → NodeOk w m y → NodeOk (beside w nodes pool acks rq ps) m y
  node_beside w nodes pool acks rq ps m y e a same more h =
      let w' : World M = beside w nodes pool acks rq ps in record {
        local = h.local;
        prefix = h.prefix;
        inc = h.inc;
        view = h.view;
        lock = h.lock;
        settled = h.settled;
        waiting = h.waiting;
        waiting_doubt = h.waiting_doubt;
        behind = h.behind;
        near_head = h.near_head;
        near_doubt = h.near_doubt;
        outcome = h.outcome;
        queued = λ k u f. e.requests m y.join.inc (y.core.passed + (k + 1)) u (h.queued k u f);
        all_requests = same ∙ h.all_requests;
        marked = λ b c p. was_ready w w' b (inc_of y.join.view.members b) y.join.view.number e a (h.marked b c p);
        all_ready = λ c b p. was_ready w w' b (inc_of y.join.view.members b) y.join.view.number e a (h.all_ready c b p);
        spreading = λ s c.
            let t = h.spreading s c in
            (t.0, t.1, t.2, t.3, t.4, t.5, reached w w' (locker_of y.join.view.members) (inc_of y.join.view.members (locker_of y.join.view.members)) t.0.place e t.6, λ j b l f. reached w w' b.node (inc_of y.join.view.members b.node) t.0.place e (t.7 j b l f));
        finished = λ q p b. let f = h.finished q p b in
            (f.0, f.1, f.2, f.3, f.4, more f.1 (f.2, f.0.place) f.5, f.6);
      }

  pub node_on : (w : World M) (rq : ℕ → ℕ → List Update) (ps : List (Point M)) (n : ℕ) (o : Out M) (m : ℕ) (y : NodeState M) → Ext w (absorbed n o (with_history w rq ps)) → AskedOnly w → length (rq m y.join.inc) ≡ length (w.requests m y.join.inc) → NodeOk w m y → NodeOk (absorbed n o (with_history w rq ps)) m y
  node_on w rq ps n o m y e a same h = node_beside w (put w.nodes n o.node) (w.pool ++ sent o.effects) (w.acks ++ acked o.effects) rq (ps ++ answered n (w.starts n) (acked o.effects)) m y e a same (λ k t f. slice_get_front w.acks (acked o.effects) k t f) h

  pub node_stays : (w : World M) (n : ℕ) (o : Out M) (m : ℕ) (y : NodeState M) → Ext w (absorbed n o w) → AskedOnly w → NodeOk w m y → NodeOk (absorbed n o w) m y
  node_stays w n o m y e a h = node_on w w.requests w.points n o m y e a refl h

  pub log_beside : (w : World M) (nodes : ℕ → Option (NodeState M)) (pool : List Sent) (acks : List (ℕ × ℕ)) (rq : ℕ → ℕ → List Update) (ps : List (Point M)) → Ext w (beside w nodes pool acks rq ps) → ((m i : ℕ) → w.starts m < i → length (rq m i) ≡ 0) → LogOk w → LogOk (beside w nodes pool acks rq ps)
  log_beside w nodes pool acks rq ps e un h =
      let w' : World M = beside w nodes pool acks rq ps in record {
        places = h.places;
        ids = h.ids;
        logged = h.logged;
        doubt_view = h.doubt_view;
        recovered = h.recovered;
        doubt_recovered = h.doubt_recovered;
        rising = h.rising;
        early = h.early;
        ordered = h.ordered;
        by_held = h.by_held;
        doubt_held = h.doubt_held;
        doubt_last = h.doubt_last;
        doubt_low = h.doubt_low;
        bounds = h.bounds;
        asked = λ r s. ((h.asked r s).0, asked_ w w' r.id.node r.id.inc r.id.req e (h.asked r s).1);
        doubt = λ r s. let a = h.doubt r s in (a.0, a.1, asked_ w w' r.id.node r.id.inc r.id.req e a.2, a.3);
        requested = λ r s. e.requests r.id.node r.id.inc r.id.req r.update (h.requested r s);
        doubt_requested = λ r s. e.requests r.id.node r.id.inc r.id.req r.update (h.doubt_requested r s);
        unasked = un;
        counts = λ v c s. let a = h.counts v c s in
            (a.0, a.1, a.2, a.3, entered_ w w' (locker_of a.2.members) (inc_of a.2.members (locker_of a.2.members)) v e a.4);
        held = λ s. let a = h.held s in
            (a.0, a.1, entered_ w w' (locker_of a.0.members) (inc_of a.0.members (locker_of a.0.members)) w.log.held e a.2);
      }

  pub log_on : (w : World M) (rq : ℕ → ℕ → List Update) (ps : List (Point M)) (n : ℕ) (o : Out M) → Ext w (absorbed n o (with_history w rq ps)) → ((m i : ℕ) → w.starts m < i → length (rq m i) ≡ 0) → LogOk w → LogOk (absorbed n o (with_history w rq ps))
  log_on w rq ps n o e un h = log_beside w (put w.nodes n o.node) (w.pool ++ sent o.effects) (w.acks ++ acked o.effects) rq (ps ++ answered n (w.starts n) (acked o.effects)) e un h

  pub log_stays : (w : World M) (n : ℕ) (o : Out M) → Ext w (absorbed n o w) → LogOk w → LogOk (absorbed n o w)
  log_stays w n o e h = log_on w w.requests w.points n o e h.unasked h

  pub ack_stays : (w : World M) (n : ℕ) (o : Out M) (v k : ℕ) → Ext w (absorbed n o w) → AckOk w v k → AckOk (absorbed n o w) v k
  ack_stays w n o v k e h = record { view = h.view; declared = h.declared; place = h.place; later = h.later; members = all_reached w (absorbed n o w) h.view.members k e h.members }

  pub node_in : (w : World M) (n : ℕ) (x y : NodeState M) (es : List Effect) → Invariant w → w.nodes n ≡ Some x → Grown x y → NodeOk w n y → NodeOk (moved w n y es) n y
  node_in w n x y es j at g h = node_stays w n (becomes y es) n y (ext_absorb w n x y es at g) (λ r s. (j.log.asked r s).1) h

  -- a node that isn't open comes to another stage, and may pull something else: its view, its head and its registry stay
  abbrev pub staged : NodeState M → Stage → Bool → Option Offering → List ℕ → NodeState M
  staged x t op of bs = record x { join = record x.join { stage = t }; core = record x.core { is_open = op }; offer = of; bytes = bs }

  pub staged_ok : (w : World M) (n : ℕ) (x : NodeState M) (t : Stage) (op : Bool) (of : Option Offering) (bs : List ℕ) → NodeOk w n x → joining.is_open x.join ≡ false → Local n (own (staged x t op of bs))
      → Prefix w.log.cap w.log.order w.log.count (record x.join { stage = t }) x.replica x.last of bs
      → (joining.is_open (record x.join { stage = t }) ≡ true → (m : ℕ) → 0 < inc_of x.join.view.members m → WasReady w m (inc_of x.join.view.members m) x.join.view.number)
      → (joining.is_ready (record x.join { stage = t }) ≡ true → joining.is_ready x.join ≡ true)
      → NodeOk w n (staged x t op of bs)
  staged_ok w n x t op of bs h shut local prefix were rd =
      let not_open : joining.is_open x.join ≡ true → ⊥ = λ e. let q : true ≡ false = sym e ∙ shut in cc in record {
        local = local;
        prefix = prefix;
        inc = h.inc;
        view = h.view;
        marked = h.marked;
        waiting = h.waiting;
        waiting_doubt = h.waiting_doubt;
        near_head = h.near_head;
        near_doubt = h.near_doubt;
        outcome = h.outcome;
        queued = h.queued;
        all_requests = h.all_requests;
        finished = h.finished;
        lock = λ l e. absurd (not_open ((h.lock l e).0));
        all_ready = were;
        settled = λ k e. let g = h.settled k e in (g.0, g.1, g.2, g.3, g.4, λ a. g.5 (rd a));
        spreading = λ s e. absurd (not_open ((h.spreading s e).3));
        behind = λ r c wt st id a. h.behind r c wt st id (rd a);
      }

  -- what the moved node itself has
  pub self_node : (w : World M) (n : ℕ) (y : NodeState M) (es : List Effect) (P : NodeState M → Type 0) → P y → (z : NodeState M) → (moved w n y es).nodes n ≡ Some z → P z
  self_node w n y es P p z e = ⊎_elim
      (λ (d : (n ≡ n) × (Some y ≡ Some z)). let g : y ≡ z = cc in subst P g p)
      (λ (d : (n ≢ n) × (w.nodes n ≡ Some z)). absurd (d.0 refl))
      (put_cases w.nodes n (Some y) n z e)

  -- what an acknowledgement owes: it is the one point of the event, and no earlier point of the incarnation is above it
  pub record PointsOk (w : World M) (n : ℕ) (y : NodeState M) (es : List Effect) : Type 0 where
    pub one : (k l v p u q : ℕ) → slice_get (acked es) k ≡ Some (v, p) → slice_get (acked es) l ≡ Some (u, q) → p ≡ q
    pub each : (k v p : ℕ) → slice_get (acked es) k ≡ Some (v, p) → ((d : ℕ) → Past w n (w.starts n) d → d ≤ p) × (p ≤ done_of y) × (y.settled ≡ None)

  pub quiet_points : (w : World M) (n : ℕ) (y : NodeState M) (es : List Effect) → acked es ≡ [] → PointsOk w n y es
  quiet_points w n y es na =
      let no : (k v p : ℕ) → slice_get (acked es) k ≡ Some (v, p) → ⊥ = λ k v p e. none_acked (λ (a b : ℕ). ⊥) k v p (subst (λ (l : List (ℕ × ℕ)). slice_get l k ≡ Some (v, p)) na e) in
      record { one = λ k l v p u q e f. absurd (no k v p e); each = λ k v p e. absurd (no k v p e) }

  -- what a rule owes that moves one node and leaves the log
  pub record MoveOk (w : World M) (rq : ℕ → ℕ → List Update) (ps : List (Point M)) (n : ℕ) (x y : NodeState M) (es : List Effect) : Type 0 where
    pub grown : Grown x y
    pub node : NodeOk (moved (with_history w rq ps) n y es) n y
    pub messages : (k : ℕ) (p : Sent) → slice_get (sent es) k ≡ Some p → Pooled (moved (with_history w rq ps) n y es) p
    pub acks : (k v p : ℕ) → slice_get (acked es) k ≡ Some (v, p) → AckOk (moved (with_history w rq ps) n y es) v p
    pub owner : Owner (moved (with_history w rq ps) n y es) n y → OwnerOk (moved (with_history w rq ps) n y es) n y
    pub points : PointsOk w n y es
    pub member : (m : ℕ) (z : NodeState M) → m ≢ n → Owner w m z → OwnerOk w m z → joining.is_open z.join ≡ true → inc_of z.join.view.members n ≡ y.join.inc → MemberOk w.log z.core.lock n y

  pub move_on : (w : World M) (rq : ℕ → ℕ → List Update) (ps : List (Point M)) (n : ℕ) (x y : NodeState M) (es : List Effect) → ((m i q : ℕ) (u : Update) → Requested w m i q u → at_place (rq m i) q ≡ Some u) → ((m : ℕ) → m ≢ n → rq m ≡ w.requests m) → ((m i : ℕ) → w.starts m < i → length (rq m i) ≡ 0) → ((a : ℕ) (p : Point M) → slice_get ps a ≡ Some p → Past w p.node p.inc p.place) → ((a b : ℕ) (p q : Point M) → slice_get ps a ≡ Some p → slice_get ps b ≡ Some q → a ≤ b → p.node ≡ q.node → p.inc ≡ q.inc → p.place ≤ q.place) → Invariant w → w.nodes n ≡ Some x → MoveOk w rq ps n x y es → Invariant (moved (with_history w rq ps) n y es)
  move_on w rq ps n x y es more others un pasts steadies j at h =
      let w' : World M = moved (with_history w rq ps) n y es in
      let e : Ext w w' = ext_on w rq ps n x y es more at h.grown in
      let ao : AskedOnly w = λ r s. (j.log.asked r s).1 in
      record {
        chain = record { chain = j.chain.chain; started = j.chain.started; locker = j.chain.locker };
        log = log_on w rq ps n (becomes y es) e un j.log;
        nodes = λ m z s. ⊎_elim
            (λ (c : (m ≡ n) × (Some y ≡ Some z)). at_self (λ (a : ℕ) (b : NodeState M). NodeOk w' a b) m n y z c.0 c.1 h.node)
            (λ (c : (m ≢ n) × (w.nodes m ≡ Some z)). node_on w rq ps n (becomes y es) m z e ao (ap (λ (f : ℕ → List Update). length (f z.join.inc)) (others m c.0)) (j.nodes m z c.1))
            (put_cases w.nodes n (Some y) m z s);
        owner = λ m z s. ⊎_elim
            (λ (c : (m ≡ n) × (Some y ≡ Some z)). at_self (λ (a : ℕ) (b : NodeState M). Owner w' a b → OwnerOk w' a b) m n y z c.0 c.1 h.owner s)
            (λ (c : (m ≢ n) × (w.nodes m ≡ Some z)).
            let o : Owner w m z = record { runs = c.1; ready = s.ready; locker = s.locker; held = s.held } in
            let k : OwnerOk w m z = j.owner m z o in
            record {
              sure = k.sure;
              all_done = k.all_done;
              closed = k.closed;
              greatest = k.greatest;
              members = λ op a b f i. ⊎_elim
                  (λ (d : (a ≡ n) × (Some y ≡ Some b)). at_self (λ (t : ℕ) (u : NodeState M). inc_of z.join.view.members t ≡ u.join.inc → MemberOk w.log z.core.lock t u) a n y b d.0 d.1 (h.member m z c.0 o k op) i)
                  (λ (d : (a ≢ n) × (w.nodes a ≡ Some b)). k.members op a b d.1 i)
                  (put_cases w.nodes n (Some y) a b f);
            })
            (put_cases w.nodes n (Some y) m z s.runs);
        pool = λ k p s. ⊎_elim
            (λ (c : slice_get w.pool k ≡ Some p). pooled w w' p e ao (λ v i f. (j.log.counts v i f).0) (j.pool k p c))
            (λ (c : (i : ℕ) × (slice_get (sent es) i ≡ Some p)). h.messages c.0 p c.1)
            (slice_get_append w.pool (sent es) k p s);
        acks = λ a v k s. ⊎_elim
            (λ (c : slice_get w.acks a ≡ Some (v, k)). (let g = j.acks a v k c in record { view = g.view; declared = g.declared; place = g.place; later = g.later; members = all_reached w w' g.view.members k e g.members }))
            (λ (c : (i : ℕ) × (slice_get (acked es) i ≡ Some (v, k))). h.acks c.0 v k c.1)
            (slice_get_append w.acks (acked es) a (v, k) s);
        points = λ a p s. ⊎_elim
            (λ (c : slice_get ps a ≡ Some p). past w w' p.node p.inc p.place e (pasts a p c))
            (λ (c : (i : ℕ) × (slice_get (answered n (w.starts n) (acked es)) i ≡ Some p)).
            let g = answered_get n (w.starts n) (acked es) c.0 p c.1 in
            let o = h.points.each c.0 g.0 p.place g.1 in
            let here : Past w' n (w.starts n) p.place = record {
              started = omega arith;
              done = λ z at2 same. self_node (with_history w rq ps) n y es (λ (t : NodeState M). p.place ≤ done_of t) o.1 z at2;
              settled = λ z k at2 same. self_node (with_history w rq ps) n y es (λ (t : NodeState M). t.settled ≡ Some k → p.place ≤ k) (λ f. absurd (let q : ◌≡◌ {A = Option ℕ} None (Some k) = sym o.2 ∙ f in cc)) z at2;
            } in
            subst (λ (t : ℕ). Past w' p.node t p.place) (sym g.3) (subst (λ (t : ℕ). Past w' t (w.starts n) p.place) (sym g.2) here))
            (slice_get_append ps (answered n (w.starts n) (acked es)) a p s);
        steady = λ a b p q sa sb le nd ic. ⊎_elim
            (λ (c : (a < length ps) × (slice_get ps a ≡ Some p)). ⊎_elim
            (λ (d : (b < length ps) × (slice_get ps b ≡ Some q)). steadies a b p q c.1 d.1 le nd ic)
            (λ (d : (length ps ≤ b) × (i : ℕ) × (slice_get (answered n (w.starts n) (acked es)) i ≡ Some q)).
            let g = answered_get n (w.starts n) (acked es) d.1 q d.2 in
            let old : Past w n (w.starts n) p.place = subst (λ (t : ℕ). Past w n t p.place) (ic ∙ g.3) (subst (λ (t : ℕ). Past w t p.inc p.place) (nd ∙ g.2) (pasts a p c.1)) in
            (h.points.each d.1 g.0 q.place g.1).0 p.place old)
            (slice_split ps (answered n (w.starts n) (acked es)) b q sb))
            (λ (c : (length ps ≤ a) × (i : ℕ) × (slice_get (answered n (w.starts n) (acked es)) i ≡ Some p)). ⊎_elim
            (λ (d : (b < length ps) × (slice_get ps b ≡ Some q)). absurd (omega arith))
            (λ (d : (length ps ≤ b) × (i : ℕ) × (slice_get (answered n (w.starts n) (acked es)) i ≡ Some q)).
            let g = answered_get n (w.starts n) (acked es) c.1 p c.2 in
            let f = answered_get n (w.starts n) (acked es) d.1 q d.2 in
            omega (arith, h.points.one c.1 d.1 g.0 p.place f.0 q.place g.1 f.1))
            (slice_split ps (answered n (w.starts n) (acked es)) b q sb))
            (slice_split ps (answered n (w.starts n) (acked es)) a p sa);
      }

  pub move_keeps : (w : World M) (n : ℕ) (x y : NodeState M) (es : List Effect) → Invariant w → w.nodes n ≡ Some x → MoveOk w w.requests w.points n x y es → Invariant (moved w n y es)
  move_keeps w n x y es j at h = move_on w w.requests w.points n x y es (λ m i q u e. e) (λ m ne. refl) j.log.unasked j.points j.steady j at h

  -- a node in a view sends: its view is declared, and the message is its own
  pub told : (w : World M) (n : ℕ) (x y : NodeState M) (es : List Effect) (to : ℕ) (b : Body) → NodeOk w n x → x.join.view.number ≢ 0 → y.join.view ≡ x.join.view → y.join.node ≡ x.join.node → MsgOk (moved w n y es) x.join.view n to b → Pooled (moved w n y es) (packet y to b)
  told w n x y es to b h nz vw nd ok =
      let d = h.view nz in
      let me : n ≡ y.join.node = sym (nd ∙ h.local.node) in
      record {
        view = x.join.view;
        declared = ap (λ (v : View). view_in w.chain v.number) vw ∙ d.0;
        number = ap (λ (v : View). v.number) (sym vw);
        ok = subst (λ (m : ℕ). MsgOk (moved w n y es) x.join.view m to b) me ok;
      }

  -- what an owner keeps that its own move leaves
  pub record SameLock (x y : NodeState M) : Type 0 where
    pub ready : joining.is_ready x.join ≡ joining.is_ready y.join
    pub open_ : joining.is_open x.join ≡ joining.is_open y.join
    pub node : x.join.node ≡ y.join.node
    pub view : x.join.view ≡ y.join.view
    pub lock : x.core.lock ≡ y.core.lock
    pub members : x.core.members ≡ y.core.members
    pub greatest : x.core.greatest ≡ y.core.greatest
    pub done : done_of x ≡ done_of y

  pub same_lock : (x : NodeState M) → SameLock x x
  same_lock x = record { ready = refl; open_ = refl; node = refl; view = refl; lock = refl; members = refl; greatest = refl; done = refl }

  pub owner_moves : (w : World M) (n : ℕ) (x y : NodeState M) (es : List Effect) → Invariant w → w.nodes n ≡ Some x → SameLock x y → (Owner w n x → OwnerOk w n x → joining.is_open x.join ≡ true → inc_of x.join.view.members n ≡ y.join.inc → MemberOk w.log x.core.lock n y) → Owner (moved w n y es) n y → OwnerOk (moved w n y es) n y
  owner_moves w n x y es j at same self o =
      let lk : joining.locks x.join ≡ joining.locks y.join = λ i. is_locker (same.view i).members (same.node i) in
      let ox : Owner w n x = record { runs = at; ready = same.ready ∙ o.ready; locker = lk ∙ o.locker; held = ap (λ (v : View). v.number) same.view ∙ o.held } in
      let k : OwnerOk w n x = j.owner n x ox in
      let gr : (m : ℕ) → greatest_of x.core m ≡ greatest_of y.core m = λ m i. unwrap_or (slice_get (same.greatest i) (index_of (same.members i) m)) 0 in
      record {
        sure = k.sure;
        all_done = sym same.done ∙ k.all_done;
        closed = λ c. let h = k.closed (same.open_ ∙ c) in
            (sym same.lock ∙ h.0, subst (λ (v : View). w.log.count v.number ≡ Some (length w.log.order)) same.view h.1);
        greatest = λ r c i s b p. let q : r.id.req ≤ greatest_of x.core r.id.node = k.greatest r c (subst (λ (v : View). w.log.count v.number ≡ Some c) (sym same.view) i) s b (subst (λ (ms : List Member). 0 < inc_of ms r.id.node) (sym same.members) p) in
            subst (λ (t : ℕ). r.id.req ≤ t) (gr r.id.node) q;
        members = λ op a b f i.
            let ix : inc_of x.join.view.members a ≡ b.join.inc = subst (λ (v : View). inc_of v.members a ≡ b.join.inc) (sym same.view) i in
            subst (λ (l : Option Lock). MemberOk w.log l a b) same.lock (⊎_elim
            (λ (d : (a ≡ n) × (Some y ≡ Some b)). at_self (λ (t : ℕ) (u : NodeState M). inc_of x.join.view.members t ≡ u.join.inc → MemberOk w.log x.core.lock t u) a n y b d.0 d.1 (self ox k (same.open_ ∙ op)) ix)
            (λ (d : (a ≢ n) × (w.nodes a ≡ Some b)). k.members (same.open_ ∙ op) a b d.1 ix)
            (put_cases w.nodes n (Some y) a b f));
      }

  -- a node stays as it is, and sends at most one message
  pub stay_tells : (w : World M) (n : ℕ) (x : NodeState M) (es : List Effect) → Invariant w → w.nodes n ≡ Some x → acked es ≡ [] → ((k : ℕ) (p : Sent) → slice_get (sent es) k ≡ Some p → Pooled (moved w n x es) p) → Invariant (moved w n x es)
  stay_tells w n x es j at na ms = move_keeps w n x x es j at (record {
    grown = grown_refl x;
    node = node_in w n x x es j at (grown_refl x) (j.nodes n x at);
    messages = ms;
    acks = λ k v q s. none_acked (λ (a b : ℕ). AckOk (moved w n x es) a b) k v q (subst (λ (l : List (ℕ × ℕ)). slice_get l k ≡ Some (v, q)) na s);
    owner = owner_moves w n x x es j at (same_lock x) (λ o k op i. k.members op n x at i);
    member = λ a z ne o k op i. k.members op n x at i;
    points = quiet_points w n x es na;
  })

  pub stay_sends : (w : World M) (n : ℕ) (x : NodeState M) (to : ℕ) (b : Body) → Invariant w → w.nodes n ≡ Some x → Pooled (moved w n x (Send (packet x to b) ∷ [])) (packet x to b) → Invariant (absorbed n (tells x to b) w)
  stay_sends w n x to b j at p = stay_tells w n x (Send (packet x to b) ∷ []) j at refl (one_told (λ (q : Sent). Pooled (moved w n x (Send (packet x to b) ∷ [])) q) (packet x to b) p)

  pub stay_keeps : (w : World M) (n : ℕ) (x : NodeState M) → Invariant w → w.nodes n ≡ Some x → Invariant (absorbed n (nothing x) w)
  stay_keeps w n x j at = stay_tells w n x [] j at refl (none_told (λ (q : Sent). Pooled (moved w n x []) q))

  pub reached_self : (w : World M) (n : ℕ) (y : NodeState M) (es : List Effect) (i k : ℕ) → i ≤ w.starts n → k ≤ done_of y → Reached (moved w n y es) n i k
  reached_self w n y es i k s d = record { started = s; done = λ z e same. self_node w n y es (λ (t : NodeState M). k ≤ done_of t) d z e }
