-- Nodes stop, a record may be in the log, and a claim is raised.
use Rattle.std.proofs.Common.{◌≡◌, ◌≢◌, ⊎_elim, ℕ, ◌+◌, ◌<◌, ◌≤◌, true, length, Option, Some, None, refl, sym, ◌∙◌, subst, append-nil, arith}
use Rattle.gum_messages.specs.declared.view.View.{View}
use Rattle.gum_messages.specs.Members.{inc_of, locker_of}
use Rattle.update_records.specs.Entry.{Entry}
use Rattle.view_reconcile.specs.Joining.{ReconcileState}
use Rattle.view_reconcile.specs.Joining as joining
use Rattle.view_reconcile.specs.Chains.{view_in}
use Rattle.cluster_rules.specs.declared.effect.HaltCause.TheVariants as halt
use Rattle.cluster_rules.specs.Machines.{Machine}
use Rattle.cluster_rules.specs.Nodes.{NodeState, Replica, done_of, halts}
use Rattle.cluster_rules.specs.Worlds.{World, put, stopped, with_log}
use Rattle.cluster_laws.proofs.History.{absorbed}
use Rattle.cluster_laws.proofs.Inv.{Asked, Entered, Has, Invariant, LogOk, NodeOk, NotBefore, Owner, OwnerOk, Requested, Stands, at_head, waits}
use Rattle.cluster_laws.proofs.Stable.{AskedOnly, Ext, all_reached, asked_, entered_, grown_refl, past, pooled, reached, was_ready}
use Rattle.cluster_laws.proofs.Moves.{put_cases}
use Rattle.cluster_laws.proofs.Appending.{Fresh, append_grows, append_new, owner_unique}

module _ {M : Machine} where
  -- fewer nodes run, and the log may have another record at its end and another claim
  abbrev pub less : World M → (ℕ → Option (NodeState M)) → Option Entry → ℕ → ℕ → World M
  less w nodes mb mv hd = record w { nodes = nodes; log = record w.log { doubtful = mb; doubtful_view = mv; held = hd } }

  pub record LessOk (w : World M) (nodes : ℕ → Option (NodeState M)) (mb : Option Entry) (mv hd : ℕ) : Type 0 where
    pub fewer : (m : ℕ) (z : NodeState M) → nodes m ≡ Some z → w.nodes m ≡ Some z
    pub waiting : (m : ℕ) (z : NodeState M) (a s : Entry) (u : View) → nodes m ≡ Some z → waits z → Stands w.log a → Has a m z.join.inc (at_head z) → mb ≡ Some s → view_in w.chain mv ≡ Some u → inc_of u.members m ≢ z.join.inc
    pub doubt : (r : Entry) → mb ≡ Some r → (r.place ≡ length w.log.order + 1) × (1 ≤ r.id.req) × Asked w r.id.node r.id.inc r.id.req × NotBefore w.log r.id.node r.id.inc r.id.req (length w.log.order)
    pub doubt_view : (r : Entry) → mb ≡ Some r → (u : View) × (view_in w.chain mv ≡ Some u) × (r.id.inc ≡ inc_of u.members r.id.node) × (0 < r.id.inc)
    pub doubt_requested : (r : Entry) → mb ≡ Some r → Requested w r.id.node r.id.inc r.id.req r.update
    pub doubt_held : (r : Entry) → mb ≡ Some r → mv ≤ hd
    pub doubt_last : (r s : Entry) → mb ≡ Some r → Stands w.log s → w.log.view_at s.place ≤ mv
    pub doubt_recovered : (r : Entry) → mb ≡ Some r → (c : ℕ) × (w.log.count mv ≡ Some c)
    pub doubt_low : (r : Entry) (u c : ℕ) → mb ≡ Some r → w.log.count u ≡ Some c → u ≤ mv
    pub near : (m : ℕ) (z : NodeState M) (r : Entry) → nodes m ≡ Some z → waits z → mb ≡ Some r → Has r m z.join.inc (at_head z) → length w.log.order ≤ done_of z
    pub held : w.log.held ≤ hd
    pub held_view : hd ≢ 0 → (u : View) × (view_in w.chain hd ≡ Some u) × Entered (less w nodes mb mv hd) (locker_of u.members) (inc_of u.members (locker_of u.members)) hd
    pub owner : (m : ℕ) (z : NodeState M) → nodes m ≡ Some z → joining.is_ready z.join ≡ true → joining.locks z.join ≡ true → z.join.view.number ≡ hd → (hd ≡ w.log.held) × (mb ≡ None)

  pub less_ext : (w : World M) (nodes : ℕ → Option (NodeState M)) (mb : Option Entry) (mv hd : ℕ) → LessOk w nodes mb mv hd → Ext w (less w nodes mb mv hd)
  less_ext w nodes mb mv hd k = record {
    log = record { within = omega arith; cap = refl; order = λ i h. refl; fold = λ i h. refl; view_at = λ i h. refl; count = λ v c e. e };
    chain = λ v u e. e;
    starts = λ n. omega arith;
    requests = λ m i q u e. e;
    nodes = λ n y at le. (y, k.fewer n y at, grown_refl y);
  }

  pub less_node : (w : World M) (nodes : ℕ → Option (NodeState M)) (mb : Option Entry) (mv hd : ℕ) (m : ℕ) (y : NodeState M) → LessOk w nodes mb mv hd → AskedOnly w → nodes m ≡ Some y → NodeOk w m y → NodeOk (less w nodes mb mv hd) m y
  less_node w nodes mb mv hd m y k a at h =
      let w' : World M = less w nodes mb mv hd in
      let e : Ext w w' = less_ext w nodes mb mv hd k in
      record {
        local = h.local;
        prefix = h.prefix;
        inc = h.inc;
        view = h.view;
        queued = h.queued;
        all_requests = h.all_requests;
        lock = λ l f. let t = h.lock l f in (t.0, t.1, t.2, t.3, record { at = t.4.at; view = t.4.view }, t.5, t.6, t.7, t.8);
        marked = λ b c p. was_ready w w' b (inc_of y.join.view.members b) y.join.view.number e a (h.marked b c p);
        all_ready = λ c b p. was_ready w w' b (inc_of y.join.view.members b) y.join.view.number e a (h.all_ready c b p);
        settled = λ i f. let t = h.settled i f in (t.0, record { at = t.1.at }, t.2, t.3, t.4, t.5);
        spreading = λ s f. let t = h.spreading s f in
            (t.0, t.1, t.2, t.3, record { at = t.4.at; view = t.4.view }, t.5, reached w w' (locker_of y.join.view.members) (inc_of y.join.view.members (locker_of y.join.view.members)) t.0.place e t.6, λ i b l g. reached w w' b.node (inc_of y.join.view.members b.node) t.0.place e (t.7 i b l g));
        waiting = λ r s u wt sr id ss. h.waiting r s u wt (record { at = sr.at }) id (record { at = ss.at });
        waiting_doubt = λ r s u wt sr id. k.waiting m y r s u at wt (record { at = sr.at }) id;
        behind = λ r c wt sr id. h.behind r c wt (record { at = sr.at }) id;
        near_head = λ r wt sr id. h.near_head r wt (record { at = sr.at }) id;
        near_doubt = λ r wt mb id. k.near m y r at wt mb id;
        outcome = λ r f sr id le. h.outcome r f (record { at = sr.at }) id le;
        finished = λ q p b. let f = h.finished q p b in (f.0, f.1, f.2, record { at = f.3.at }, f.4, f.5, f.6);
      }

  pub less_log : (w : World M) (nodes : ℕ → Option (NodeState M)) (mb : Option Entry) (mv hd : ℕ) → LessOk w nodes mb mv hd → LogOk w → LogOk (less w nodes mb mv hd)
  less_log w nodes mb mv hd k h =
      let w' : World M = less w nodes mb mv hd in
      let e : Ext w w' = less_ext w nodes mb mv hd k in
      let old : (s : Entry) → Stands w'.log s → Stands w.log s = λ s st. record { at = st.at } in
      record {
        places = h.places;
        ids = λ r s sr ss. h.ids r s (old r sr) (old s ss);
        asked = λ r s. let a = h.asked r (old r s) in (a.0, asked_ w w' r.id.node r.id.inc r.id.req e a.1);
        logged = λ r s. h.logged r (old r s);
        doubt = λ r f. let a = k.doubt r f in (a.0, a.1, asked_ w w' r.id.node r.id.inc r.id.req e a.2, record { none = a.3.none });
        doubt_view = k.doubt_view;
        requested = λ r s. h.requested r (old r s);
        doubt_requested = k.doubt_requested;
        unasked = h.unasked;
        counts = λ v c s. let a = h.counts v c s in (a.0, omega (arith, a.1, k.held), a.2, a.3, entered_ w w' (locker_of a.2.members) (inc_of a.2.members (locker_of a.2.members)) v e a.4);
        recovered = λ r s. h.recovered r (old r s);
        doubt_recovered = k.doubt_recovered;
        rising = h.rising;
        early = λ v c r i s. h.early v c r i (old r s);
        ordered = λ r s sr ss. h.ordered r s (old r sr) (old s ss);
        by_held = λ r s. omega (arith, h.by_held r (old r s), k.held);
        doubt_held = k.doubt_held;
        doubt_last = λ r s f ss. k.doubt_last r s f (old s ss);
        doubt_low = k.doubt_low;
        bounds = λ v c r i s. h.bounds v c r i (old r s);
        held = k.held_view;
      }

  pub less_keeps : (w : World M) (nodes : ℕ → Option (NodeState M)) (mb : Option Entry) (mv hd : ℕ) → Invariant w → LessOk w nodes mb mv hd → Invariant (less w nodes mb mv hd)
  less_keeps w nodes mb mv hd j k =
      let w' : World M = less w nodes mb mv hd in
      let e : Ext w w' = less_ext w nodes mb mv hd k in
      let ao : AskedOnly w = λ r s. (j.log.asked r s).1 in
      record {
        chain = record { chain = j.chain.chain; started = j.chain.started; locker = j.chain.locker };
        log = less_log w nodes mb mv hd k j.log;
        nodes = λ m z at. less_node w nodes mb mv hd m z k ao at (j.nodes m z (k.fewer m z at));
        owner = λ m z o.
            let f = k.owner m z o.runs o.ready o.locker o.held in
            let ox : Owner w m z = record { runs = k.fewer m z o.runs; ready = o.ready; locker = o.locker; held = o.held ∙ f.0 } in
            let g : OwnerOk w m z = j.owner m z ox in
            record {
              sure = f.1;
              all_done = g.all_done;
              closed = g.closed;
              greatest = λ r c i s. g.greatest r c i (record { at = s.at });
              members = λ op a b at i. let q = g.members op a b (k.fewer a b at) i in record { near = q.near; free = q.free; heads = λ r wt s. q.heads r wt (record { at = s.at }) };
            };
        pool = λ i p s. pooled w w' p e ao (λ v c f. (j.log.counts v c f).0) (j.pool i p s);
        points = λ a p s. past w w' p.node p.inc p.place e (j.points a p s);
        steady = j.steady;
        acks = λ a v i s. let g = j.acks a v i s in record { view = g.view; declared = g.declared; place = g.place; later = g.later; members = all_reached w w' g.view.members i e g.members };
      }

  pub without : (w : World M) (n m : ℕ) (z : NodeState M) → put w.nodes n None m ≡ Some z → (m ≢ n) × (w.nodes m ≡ Some z)
  without w n m z e = ⊎_elim
      (λ (c : (m ≡ n) × (None ≡ Some z)). absurd (cc))
      (λ (c : (m ≢ n) × (w.nodes m ≡ Some z)). c)
      (put_cases w.nodes n None m z e)

  -- what stays where nodes stop alone
  pub stop_keeps : (w : World M) (n : ℕ) → Invariant w → Invariant (stopped n w)
  stop_keeps w n j = less_keeps w (put w.nodes n None) w.log.doubtful w.log.doubtful_view w.log.held j (record {
    fewer = λ m z e. (without w n m z e).1;
    waiting = λ m z a s u e. (j.nodes m z (without w n m z e).1).waiting_doubt a s u;
    near = λ m z r e. (j.nodes m z (without w n m z e).1).near_doubt r;
    doubt = j.log.doubt;
    doubt_view = j.log.doubt_view;
    doubt_requested = j.log.doubt_requested;
    doubt_held = j.log.doubt_held;
    doubt_last = j.log.doubt_last;
    doubt_recovered = j.log.doubt_recovered;
    doubt_low = j.log.doubt_low;
    held = omega arith;
    held_view = λ nz. let a = j.log.held nz in (a.0, a.1, record { started = a.2.started; view = λ z e. a.2.view z (without w n (locker_of a.0.members) z e).1 });
    owner = λ m z e rd lk hd. (refl, (j.owner m z (record { runs = (without w n m z e).1; ready = rd; locker = lk; held = hd })).sure);
  })

  -- a node that halts tells nothing that is sent
  pub halt_same : (w : World M) (n : ℕ) → absorbed n (halts halt.Disk) w ≡ stopped n w
  halt_same w n = λ i. record w { nodes = put w.nodes n None; pool = append-nil w.pool i; acks = append-nil w.acks i; points = append-nil w.points i }

  pub halt_keeps : (w : World M) (n : ℕ) → Invariant (stopped n w) → Invariant (absorbed n (halts halt.Disk) w)
  halt_keeps w n j = subst (λ (v : World M). Invariant v) (sym (halt_same w n)) j

  -- a failed append, or a death inside one: the locker stops, and its record may be in the log
  pub fail_keeps : (w : World M) (n : ℕ) (x : NodeState M) (s : Replica M) (r : Entry) → Invariant w → Fresh w n x s r → Invariant (stopped n (with_log (record w.log { doubtful = Some r; doubtful_view = x.join.view.number }) w))
  fail_keeps w n x s r j f =
      let h : NodeOk w n x = j.nodes n x f.owner.runs in
      let gs = append_grows w n x s r j f in
      let k = append_new w n x s r j f in
      let vw = (h.view (h.local.ready_view f.owner.ready)).0 in
      let Is : Entry → Type 0 = λ a. Some r ≡ Some a in
      let is : (a : Entry) → Is a → r ≡ a = λ a e. cc in
      less_keeps w (put w.nodes n None) (Some r) x.join.view.number w.log.held j (record {
        fewer = λ m z e. (without w n m z e).1;
        waiting = λ m z a t u e wt st id q vu.
            let g : Some x.join.view ≡ Some u = sym vw ∙ vu in
            let same : x.join.view ≡ u = cc in
            subst (λ (v : View). inc_of v.members m ≢ z.join.inc) same (gs.alone m z a (without w n m z e).1 wt st id);
        near = λ m z a e wt q id. gs.near m z (without w n m z e).1 wt (subst (λ (t : Entry). Has t m z.join.inc (at_head z)) (sym (is a q)) id);
        doubt = λ a e. subst (λ (a : Entry). (a.place ≡ length w.log.order + 1) × (1 ≤ a.id.req) × Asked w a.id.node a.id.inc a.id.req × NotBefore w.log a.id.node a.id.inc a.id.req (length w.log.order)) (is a e) (gs.place, k.positive, k.asked, k.new);
        doubt_view = λ a e. subst (λ (a : Entry). (u : View) × (view_in w.chain x.join.view.number ≡ Some u) × (a.id.inc ≡ inc_of u.members a.id.node) × (0 < a.id.inc)) (is a e) (x.join.view, vw, k.inc, k.member);
        doubt_requested = λ a e. subst (λ (a : Entry). Requested w a.id.node a.id.inc a.id.req a.update) (is a e) k.requested;
        doubt_held = λ a e. k.held;
        doubt_last = λ a t e st. k.last t st;
        doubt_recovered = λ a e. k.recovered;
        doubt_low = λ a u c e i. k.low u c i;
        held = omega arith;
        held_view = λ nz. let a = j.log.held nz in (a.0, a.1, record { started = a.2.started; view = λ z e. a.2.view z (without w n (locker_of a.0.members) z e).1 });
        owner = λ m z e rd lk hd. let b = without w n m z e in absurd (b.0 ((owner_unique w n m x z j f.owner (record { runs = b.1; ready = rd; locker = lk; held = hd })).0));
      })
