-- The log grows by a record.
use Rattle.std.proofs.Common.{◌≡◌, ◌≢◌, ◌⊎◌, inl, inr, ⊎_elim, ℕ, zero, suc, ◌+◌, ◌-◌, ◌<◌, ◌≤◌, List, [], ◌∷◌, ◌++◌, length, take, Option, Some, None, slice_get, refl, sym, ap, ◌∙◌, subst, length-append, arith}
use Rattle.gum_messages.specs.declared.view.View.{View}
use Rattle.gum_messages.specs.Members.{inc_of, locker_of}
use Rattle.gum_messages.specs.Places.{at_place}
use Rattle.gum_messages.proofs.Placing.{place_push, place_within}
use Rattle.update_records.specs.Entry.{Entry}
use Rattle.view_reconcile.specs.Chains.{view_in}
use Rattle.cluster_rules.specs.Machines.{Machine, replay}
use Rattle.gum_messages.specs.Messages.{Sent}
use Rattle.cluster_rules.specs.Nodes.{NodeState, done_of}
use Rattle.cluster_rules.specs.Worlds.{Log, Point, World, put}
use Rattle.cluster_laws.proofs.Inv.{AckOk, Asked, Has, LogOk, NodeOk, NotBefore, Requested, Stands, at_head, waits}
use Rattle.cluster_laws.proofs.Stable.{AskedOnly, Ext, Longer, all_reached, asked_, bytes_stay, entered_, logged_in, reached, stands, was_ready}
use Rattle.cluster_laws.proofs.Applying.{done_at}
use Rattle.std.proofs.lemmas.List.{take-append-le}

pub get_before : {A : Type 0} (l ys : List A) (k : ℕ) → k < length l → slice_get (l ++ ys) k ≡ slice_get l k
get_before [] ys k h = absurd (omega arith)
get_before (x ∷ l) ys zero h = refl
get_before (x ∷ l) ys (suc k) h = get_before l ys k (omega arith)

pub at_before : {A : Type 0} (l ys : List A) (k : ℕ) → k ≤ length l → at_place (l ++ ys) k ≡ at_place l k
at_before l ys zero h = refl
at_before l ys (suc k) h = get_before l ys k h

pub length_snoc : {A : Type 0} (l : List A) (r : A) → length (l ++ r ∷ []) ≡ length l + 1
length_snoc l r = length-append l (r ∷ [])

pub put_other : {A : Type 0} (f : ℕ → A) (n : ℕ) (v : A) (m : ℕ) → m ≢ n → put f n v m ≡ f m
put_other f n v m h = grind arith

pub put_same : {A : Type 0} (f : ℕ → A) (n : ℕ) (v : A) → put f n v n ≡ v
put_same f n v = grind arith

-- a log with one record more
abbrev pub plus : Log → Entry → ℕ → Log
plus l r v = record l { order = l.order ++ r ∷ []; doubtful = None; view_at = put l.view_at (length l.order + 1) v }

pub old_view : (l : Log) (r : Entry) (v k : ℕ) → k ≤ length l.order → (plus l r v).view_at k ≡ l.view_at k
old_view l r v k h = put_other l.view_at (length l.order + 1) v k (λ e. absurd (omega arith))

pub new_view : (l : Log) (r : Entry) (v k : ℕ) → k ≡ length l.order + 1 → (plus l r v).view_at k ≡ v
new_view l r v k e = ap (put l.view_at (length l.order + 1) v) e ∙ put_same l.view_at (length l.order + 1) v

pub longer_plus : (M : Machine) (l : Log) (r : Entry) (v : ℕ) → Longer M l (plus l r v)
longer_plus M l r v = record {
  within = omega (arith, length_snoc l.order r);
  cap = refl;
  order = λ k h. at_before l.order (r ∷ []) k h;
  fold = λ k h. ap (λ (t : List Entry). replay M t (M.empty l.cap)) (take-append-le k l.order (r ∷ []) h);
  view_at = λ k h. old_view l r v k h;
  count = λ v c e. e;
}

-- a record of the longer log
pub fresh_or_old : (l : Log) (r s : Entry) (v : ℕ) → r.place ≡ length l.order + 1 → Stands (plus l r v) s → (Stands l s × (s.place ≤ length l.order)) ⊎ ((s ≡ r) × (s.place ≡ length l.order + 1))
fresh_or_old l r s v pl st = ⊎_elim
    (λ (e : at_place l.order s.place ≡ Some s). inl (record { at = e }, (place_within l.order s.place s e).1))
    (λ (e : (s.place ≡ length l.order + 1) × (s ≡ r)). inr (e.1, e.0))
    (place_push l.order r s.place s st.at)

module _ {M : Machine} where
  -- a world with one record more in the order, and perhaps other nodes, more messages and acknowledgements
  abbrev pub grown_world : World M → Entry → ℕ → (ℕ → Option (NodeState M)) → List Sent → List (ℕ × ℕ) → List (Point M) → World M
  grown_world w r v nodes pool acks points = record w { nodes = nodes; pool = pool; acks = acks; points = points; log = plus w.log r v }

  pub record Grows (w : World M) (r : Entry) (v : View) (nodes : ℕ → Option (NodeState M)) (pool : List Sent) (acks : List (ℕ × ℕ)) (points : List (Point M)) : Type 0 where
    pub ext : Ext w (grown_world w r v.number nodes pool acks points)
    pub place : r.place ≡ length w.log.order + 1
    pub view : view_in w.chain v.number ≡ Some v
    pub told : (a : ℕ) (p : ℕ × ℕ) → slice_get w.acks a ≡ Some p → slice_get acks a ≡ Some p
    pub near : (m : ℕ) (z : NodeState M) → w.nodes m ≡ Some z → waits z → Has r m z.join.inc (at_head z) → length w.log.order ≤ done_of z
    pub alone : (m : ℕ) (z : NodeState M) (s : Entry) → w.nodes m ≡ Some z → waits z → Stands w.log s → Has s m z.join.inc (at_head z) → inc_of v.members m ≢ z.join.inc

  pub node_grows : (w : World M) (r : Entry) (v : View) (nodes : ℕ → Option (NodeState M)) (pool : List Sent) (acks : List (ℕ × ℕ)) (points : List (Point M)) (m : ℕ) (z : NodeState M) → LogOk w → Grows w r v nodes pool acks points → w.nodes m ≡ Some z → NodeOk w m z → NodeOk (grown_world w r v.number nodes pool acks points) m z
  node_grows w r v nodes pool acks points m z lo gs at h =
      let w' : World M = grown_world w r v.number nodes pool acks points in
      let e : Ext w w' = gs.ext in
      let lg : Longer M w.log w'.log = e.log in
      let ao : AskedOnly w = λ r s. (lo.asked r s).1 in
      let within : length w.log.order ≤ length w'.log.order = lg.within in
      let len : length w'.log.order ≡ length w.log.order + 1 = length_snoc w.log.order r in
      record {
        local = h.local;
        prefix = record {
          ready_state = h.prefix.ready_state;
          below = h.prefix.below;
          unready = h.prefix.unready;
          closed = h.prefix.closed;
          within = omega (arith, h.prefix.within, within);
          registry = λ s f. h.prefix.registry s f ∙ sym (lg.fold s.done (omega (arith, h.prefix.within, done_at z s f)));
          last = λ s f. h.prefix.last s f ∙ sym (lg.order s.done (omega (arith, h.prefix.within, done_at z s f)));
          pull = λ o f. let p = h.prefix.pull o f in (p.0, p.1, p.2, p.3 ∙ sym (lg.order o.count ((lo.counts z.join.view.number o.count p.1).0)), p.4);
          pulled = λ g f. let p = h.prefix.pulled g f in (p.0, p.1, p.2 ∙ ap (take g) (bytes_stay w w' p.0.count e ((lo.counts z.join.view.number p.0.count ((h.prefix.pull p.0 p.1).1)).0)));
        };
        inc = h.inc;
        view = h.view;
        queued = h.queued;
        all_requests = h.all_requests;
        lock = λ l f. let t = h.lock l f in (t.0, t.1, t.2, lg.order (done_of z) h.prefix.within ∙ t.3, logged_in w.log w'.log t.2 z.join.view.number lg t.4, t.5, t.6, t.7, t.8);
        marked = λ b c p. was_ready w w' b (inc_of z.join.view.members b) z.join.view.number e ao (h.marked b c p);
        all_ready = λ c b p. was_ready w w' b (inc_of z.join.view.members b) z.join.view.number e ao (h.all_ready c b p);
        settled = λ k f. let t = h.settled k f in (t.0, stands w.log w'.log t.0 lg t.1, t.2, t.3, t.4, t.5);
        spreading = λ s f. let t = h.spreading s f in
            (t.0, t.1, t.2, t.3, logged_in w.log w'.log t.0 z.join.view.number lg t.4, t.5, reached w w' (locker_of z.join.view.members) (inc_of z.join.view.members (locker_of z.join.view.members)) t.0.place e t.6, λ i b l g. reached w w' b.node (inc_of z.join.view.members b.node) t.0.place e (t.7 i b l g));
        waiting = λ a s u wt sa id ss lt vw. ⊎_elim
            (λ (c : Stands w.log a × (a.place ≤ length w.log.order)). ⊎_elim
            (λ (d : Stands w.log s × (s.place ≤ length w.log.order)). h.waiting a s u wt c.0 id d.0 lt (ap (view_in w.chain) (sym (old_view w.log r v.number s.place d.1)) ∙ vw))
            (λ (d : (s ≡ r) × (s.place ≡ length w.log.order + 1)).
            let q : Some v ≡ Some u = sym gs.view ∙ ap (view_in w.chain) (sym (new_view w.log r v.number s.place d.1)) ∙ vw in
            let g : v ≡ u = cc in
            subst (λ (t : View). inc_of t.members m ≢ z.join.inc) g (gs.alone m z a at wt c.0 id))
            (fresh_or_old w.log r s v.number gs.place ss))
            (λ (c : (a ≡ r) × (a.place ≡ length w.log.order + 1)). absurd (omega (arith, c.1, (place_within w'.log.order s.place s ss.at).1)))
            (fresh_or_old w.log r a v.number gs.place sa);
        waiting_doubt = λ a s u wt sa id f. absurd (cc);
        behind = λ a c wt sa id rd i. ⊎_elim
            (λ (d : Stands w.log a × (a.place ≤ length w.log.order)). h.behind a c wt d.0 id rd i)
            (λ (d : (a ≡ r) × (a.place ≡ length w.log.order + 1)). omega (arith, (lo.counts z.join.view.number c i).0, d.1))
            (fresh_or_old w.log r a v.number gs.place sa);
        near_head = λ a wt sa id. ⊎_elim
            (λ (d : Stands w.log a × (a.place ≤ length w.log.order)). h.near_head a wt d.0 id)
            (λ (d : (a ≡ r) × (a.place ≡ length w.log.order + 1)). omega (arith, d.1, gs.near m z at wt (subst (λ (t : Entry). Has t m z.join.inc (at_head z)) d.0 id)))
            (fresh_or_old w.log r a v.number gs.place sa);
        near_doubt = λ a wt mb id. absurd (cc);
        outcome = λ a f sa id le. ⊎_elim
            (λ (d : Stands w.log a × (a.place ≤ length w.log.order)). h.outcome a f d.0 id le ∙ ap (λ (g : M.Registry). Some (M.apply a g).1) (sym (lg.fold (a.place - 1) (omega (arith, d.1)))))
            (λ (d : (a ≡ r) × (a.place ≡ length w.log.order + 1)). absurd (omega (arith, d.1, h.prefix.within, le)))
            (fresh_or_old w.log r a v.number gs.place sa);
        finished = λ q p b. let f = h.finished q p b in
            (f.0, f.1, f.2, stands w.log w'.log f.0 lg f.3, f.4, gs.told f.1 (f.2, f.0.place) f.5, f.6);
      }

  -- what a new record owes
  pub record NewOk (w : World M) (r : Entry) (v : View) : Type 0 where
    pub positive : 1 ≤ r.id.req
    pub asked : Asked w r.id.node r.id.inc r.id.req
    pub requested : Requested w r.id.node r.id.inc r.id.req r.update
    pub new : NotBefore w.log r.id.node r.id.inc r.id.req (length w.log.order)
    pub inc : r.id.inc ≡ inc_of v.members r.id.node
    pub member : 0 < r.id.inc
    pub held : v.number ≤ w.log.held
    pub last : (s : Entry) → Stands w.log s → w.log.view_at s.place ≤ v.number
    pub recovered : (c : ℕ) × (w.log.count v.number ≡ Some c)
    pub low : (u c : ℕ) → w.log.count u ≡ Some c → u ≤ v.number

  pub log_grows : (w : World M) (r : Entry) (v : View) (nodes : ℕ → Option (NodeState M)) (pool : List Sent) (acks : List (ℕ × ℕ)) (points : List (Point M)) → LogOk w → Grows w r v nodes pool acks points → NewOk w r v → LogOk (grown_world w r v.number nodes pool acks points)
  log_grows w r v nodes pool acks points h gs k =
      let w' : World M = grown_world w r v.number nodes pool acks points in
      let e : Ext w w' = gs.ext in
      let within : length w.log.order ≤ length w'.log.order = e.log.within in
      let Old : Entry → Type 0 = λ s. Stands w.log s × (s.place ≤ length w.log.order) in
      let New : Entry → Type 0 = λ s. (s ≡ r) × (s.place ≡ length w.log.order + 1) in
      let which : (s : Entry) → Stands w'.log s → Old s ⊎ New s = λ s st. fresh_or_old w.log r s v.number gs.place st in
      let va : (s : Entry) → Old s → w'.log.view_at s.place ≡ w.log.view_at s.place = λ s o. old_view w.log r v.number s.place o.1 in
      let vn : (s : Entry) → New s → w'.log.view_at s.place ≡ v.number = λ s o. new_view w.log r v.number s.place o.1 in
      let clash : (a s : Entry) → Old a → New s → a.id.node ≡ s.id.node → a.id.inc ≡ s.id.inc → a.id.req ≡ s.id.req → ⊥ = λ a s oa ns en ei eq.
      omega (arith, k.new.none a oa.0.at (record { node = en ∙ ap (λ (t : Entry). t.id.node) ns.0; inc = ei ∙ ap (λ (t : Entry). t.id.inc) ns.0; req = eq ∙ ap (λ (t : Entry). t.id.req) ns.0 }), oa.1) in
      record {
        places = λ i s at. ⊎_elim
            (λ (c : at_place w.log.order i ≡ Some s). h.places i s c)
            (λ (c : (i ≡ length w.log.order + 1) × (s ≡ r)). ap (λ (t : Entry). t.place) c.1 ∙ gs.place ∙ sym c.0)
            (place_push w.log.order r i s at);
        ids = λ a s sa ss en ei eq. ⊎_elim
            (λ (c : Old a). ⊎_elim (λ (d : Old s). h.ids a s c.0 d.0 en ei eq) (λ (d : New s). absurd (clash a s c d en ei eq)) (which s ss))
            (λ (c : New a). ⊎_elim (λ (d : Old s). absurd (clash s a d c (sym en) (sym ei) (sym eq))) (λ (d : New s). c.1 ∙ sym d.1) (which s ss))
            (which a sa);
        asked = λ s st. ⊎_elim
            (λ (c : Old s). let a = h.asked s c.0 in (a.0, asked_ w w' s.id.node s.id.inc s.id.req e a.1))
            (λ (c : New s). subst (λ (t : Entry). (1 ≤ t.id.req) × Asked w' t.id.node t.id.inc t.id.req) (sym c.0) (k.positive, asked_ w w' r.id.node r.id.inc r.id.req e k.asked))
            (which s st);
        logged = λ s st. ⊎_elim
            (λ (c : Old s). let a = h.logged s c.0 in (a.0, ap (view_in w.chain) (va s c) ∙ a.1, a.2, a.3))
            (λ (c : New s). (v, ap (view_in w.chain) (vn s c) ∙ gs.view, ap (λ (t : Entry). t.id.inc) c.0 ∙ k.inc ∙ ap (λ (t : Entry). inc_of v.members t.id.node) (sym c.0), subst (λ (t : Entry). 0 < t.id.inc) (sym c.0) k.member))
            (which s st);
        requested = λ s st. ⊎_elim
            (λ (c : Old s). h.requested s c.0)
            (λ (c : New s). subst (λ (t : Entry). Requested w t.id.node t.id.inc t.id.req t.update) (sym c.0) k.requested)
            (which s st);
        doubt_requested = λ s f. absurd (cc);
        unasked = h.unasked;
        doubt = λ s f. absurd (cc);
        doubt_view = λ s f. absurd (cc);
        counts = λ u c s. let a = h.counts u c s in
            (omega (arith, a.0, within), a.1, a.2, a.3, entered_ w w' (locker_of a.2.members) (inc_of a.2.members (locker_of a.2.members)) u e a.4);
        recovered = λ s st. ⊎_elim
            (λ (c : Old s). let a = h.recovered s c.0 in (a.0, ap w.log.count (va s c) ∙ a.1))
            (λ (c : New s). (k.recovered.0, ap w.log.count (vn s c) ∙ k.recovered.1))
            (which s st);
        doubt_recovered = λ s f. absurd (cc);
        rising = h.rising;
        early = λ u c s i st le. ⊎_elim
            (λ (d : Old s). omega (arith, va s d, h.early u c s i d.0 le))
            (λ (d : New s). absurd (omega (arith, d.1, (h.counts u c i).0)))
            (which s st);
        ordered = λ a s sa ss le. ⊎_elim
            (λ (c : Old a). ⊎_elim
            (λ (d : Old s). omega (arith, va a c, va s d, h.ordered a s c.0 d.0 le))
            (λ (d : New s). omega (arith, va a c, vn s d, k.last a c.0))
            (which s ss))
            (λ (c : New a). ⊎_elim
            (λ (d : Old s). absurd (omega (arith, c.1, d.1)))
            (λ (d : New s). omega (arith, vn a c, vn s d))
            (which s ss))
            (which a sa);
        by_held = λ s st. ⊎_elim
            (λ (c : Old s). omega (arith, va s c, h.by_held s c.0))
            (λ (c : New s). omega (arith, vn s c, k.held))
            (which s st);
        doubt_held = λ s f. absurd (cc);
        doubt_last = λ a s f. absurd (cc);
        doubt_low = λ s u c f. absurd (cc);
        bounds = λ u c s i st lt. ⊎_elim
            (λ (d : Old s). h.bounds u c s i d.0 (omega (arith, va s d)))
            (λ (d : New s). absurd (omega (arith, vn s d, k.low u c i)))
            (which s st);
        held = λ s. let a = h.held s in
            (a.0, a.1, entered_ w w' (locker_of a.0.members) (inc_of a.0.members (locker_of a.0.members)) w.log.held e a.2);
      }

  pub ack_grows : (w : World M) (r : Entry) (v : View) (nodes : ℕ → Option (NodeState M)) (pool : List Sent) (acks : List (ℕ × ℕ)) (points : List (Point M)) (u k : ℕ) → Grows w r v nodes pool acks points → AckOk w u k → AckOk (grown_world w r v.number nodes pool acks points) u k
  ack_grows w r v nodes pool acks points u k gs h =
      let within : length w.log.order ≤ length (grown_world w r v.number nodes pool acks points).log.order = gs.ext.log.within in
      record { view = h.view; declared = h.declared; place = omega (arith, h.place, within); later = h.later; members = all_reached w (grown_world w r v.number nodes pool acks points) h.view.members k gs.ext h.members }
