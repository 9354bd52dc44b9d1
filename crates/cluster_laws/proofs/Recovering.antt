-- A view is taken, and the log is recovered.
use Rattle.std.proofs.Common.{◌≡◌, ◌≢◌, ◌⊎◌, inl, inr, ⊎_elim, ℕ, ◌+◌, ◌<◌, Bool, true, false, [], ◌∷◌, ◌++◌, length, Option, Some, None, if◌then◌else◌, replicate, refl, sym, ap, ◌∙◌, subst, arith}
use Rattle.gum_messages.specs.declared.view.View.{View}
use Rattle.gum_messages.specs.Members.{inc_of, locker_of}
use Rattle.gum_messages.proofs.Branches.{if_cases, option_cases}
use Rattle.gum_messages.proofs.Placing.{place_within}
use Rattle.update_records.specs.Entry.{Entry}
use Rattle.gum_core.specs.Updating.{CoreState, greatest_of}
use Rattle.gum_core.specs.Updating as updating
use Rattle.view_reconcile.specs.declared.stage.Stage.TheVariants as stage
use Rattle.view_reconcile.specs.Joining.{ReconcileState}
use Rattle.view_reconcile.specs.Joining as joining
use Rattle.view_reconcile.specs.Chains.{view_in}
use Rattle.cluster_rules.specs.Machines.{Machine}
use Rattle.gum_messages.specs.Messages.{Sent}
use Rattle.cluster_rules.specs.Nodes.{NodeState, done_of, nothing}
use Rattle.cluster_rules.specs.Joins.{entered, takes_view}
use Rattle.cluster_rules.specs.Worlds.{Log, World, claimed, found_log, put, with_log}
use Rattle.cluster_laws.proofs.History.{absorbed}
use Rattle.cluster_laws.proofs.Inv.{AckOk, Entered, Invariant, LogOk, MemberOk, NodeOk, Pooled}
use Rattle.cluster_laws.proofs.Stable.{AskedOnly, Ext, Grown, all_reached, asked_, entered_, grown_refl, past, pooled, reached, was_ready}
use Rattle.cluster_laws.proofs.Moves.{quiet_points, move_keeps, moved, node_in, none_acked, none_told, put_cases}
use Rattle.cluster_laws.proofs.Applying.{locker_not}
use Rattle.std.proofs.lemmas.List.{length-replicate}
use Rattle.view_reconcile.proofs.Marking.{none_marked}
use Rattle.cluster_laws.proofs.Growth.{Grows, NewOk, ack_grows, grown_world, log_grows, longer_plus, node_grows, plus, put_other}
use Rattle.cluster_laws.proofs.Stopping.{less_keeps}

module _ {M : Machine} where
  -- A view is taken
  abbrev pub taken_view : View → NodeState M → NodeState M
  taken_view v x = record x { core = updating.entered x.core v; join = record x.join { view = v; stage = stage.Waiting; ready = replicate (length v.members) false }; offer = None; bytes = []; spreads = None }

  pub entered_is : (x : NodeState M) (v : View) → takes_view x v ≡ true → entered v x ≡ taken_view v x
  entered_is x v g =
      let e : joining.installed x.join v ≡ (record x.join { view = v; stage = stage.Waiting; ready = replicate (length v.members) false }, true) =
      λ i. if g i then (record x.join { view = v; stage = stage.Waiting; ready = replicate (length v.members) false }, true) else (x.join, false) in
      λ i. record x { core = updating.entered x.core v; join = (e i).0; offer = None; bytes = []; spreads = None }

  pub enter_keeps : (w : World M) (n : ℕ) (x : NodeState M) (v : View) → Invariant w → w.nodes n ≡ Some x → x.join.view.number < v.number → view_in w.chain v.number ≡ Some v → inc_of v.members n ≡ x.join.inc → Invariant (absorbed n (nothing (taken_view v x)) w)
  enter_keeps w n x v j at up decl mem =
      let h : NodeOk w n x = j.nodes n x at in
      let y : NodeState M = taken_view v x in
      let gr : Grown x y = record { inc = refl; done = omega arith; passed = omega arith; asks = omega arith; view = omega arith; settled = λ k e. inl e; waits = λ e q z. z } in
      let unmarked : (m : ℕ) → joining.is_marked y.join m ≡ false = λ m. none_marked x.join v stage.Waiting (length v.members) m in
      move_keeps w n x y [] j at (record {
        grown = gr;
        node = node_in w n x y [] j at gr (record {
          local = record {
            node = h.local.node;
            positive = h.local.positive;
            core_node = h.local.core_node;
            full_state = h.local.full_state;
            core_members = refl;
            core_open = refl;
            entries = length-replicate (length v.members) 0;
            peopled = λ m pos e. absurd (omega arith);
            ready_view = λ c. absurd (cc);
            idle = λ e. (refl, (h.local.idle e).1);
            unsettled = λ c. absurd (cc);
            pulling = λ o e. absurd (cc);
          };
          prefix = record {
            within = h.prefix.within;
            registry = h.prefix.registry;
            last = h.prefix.last;
            ready_state = λ c. absurd (cc);
            below = λ u c i b. h.prefix.below u c i (omega arith);
            unready = λ c i b. h.prefix.below v.number c i up;
            pull = λ o e. absurd (cc);
            pulled = λ g e. absurd (cc);
            closed = λ a b c. absurd (cc);
          };
          inc = h.inc;
          waiting = h.waiting;
          waiting_doubt = h.waiting_doubt;
          near_head = h.near_head;
          near_doubt = h.near_doubt;
          outcome = h.outcome;
          queued = h.queued;
          all_requests = h.all_requests;
          view = λ nz. (decl, mem);
          lock = λ l e. absurd (cc);
          marked = λ m e pos. absurd (locker_not (joining.is_marked y.join m) e (unmarked m));
          all_ready = λ c. absurd (cc);
          settled = λ k e. let t = h.settled k e in (t.0, t.1, t.2, t.3, t.4, λ a. absurd (cc));
          spreading = λ s e. absurd (cc);
          behind = λ r c wt st id a. absurd (cc);
          finished = λ q p b. let f = h.finished q p b in (f.0, f.1, f.2, f.3, f.4, f.5, omega (arith, f.6));
        });
        messages = none_told (λ (p : Sent). Pooled (moved w n y []) p);
        acks = none_acked (λ (a b : ℕ). AckOk (moved w n y []) a b);
        points = quiet_points w n y [] refl;
        owner = λ o. absurd (let c : joining.is_ready y.join ≡ true = o.ready in cc);
        member = λ a z ne o k op i. let old : MemberOk w.log z.core.lock n x = k.members op n x at i in record { near = old.near; free = old.free; heads = old.heads };
      })

  -- The record in doubt
  -- it is found in the log
  pub take_keeps : (w : World M) (r : Entry) → Invariant w → w.log.doubtful ≡ Some r → Invariant (with_log (plus w.log r w.log.doubtful_view) w)
  take_keeps w r j mb =
      let d = j.log.doubt r mb in
      let dv = j.log.doubt_view r mb in
      let v : View = dv.0 in
      let num : v.number ≡ w.log.doubtful_view = j.chain.chain.numbered w.log.doubtful_view v dv.1 in
      let w' : World M = grown_world w r v.number w.nodes w.pool w.acks w.points in
      let gs : Grows w r v w.nodes w.pool w.acks w.points = record {
        ext = record { log = longer_plus M w.log r v.number; chain = λ u t e. e; starts = λ n. omega arith; requests = λ m i q u e. e; nodes = λ n y at le. (y, at, grown_refl y) };
        place = d.0;
        view = ap (view_in w.chain) num ∙ dv.1;
        told = λ a p e. e;
        near = λ m z at wt id. (j.nodes m z at).near_doubt r wt mb id;
        alone = λ m z s at wt st id. (j.nodes m z at).waiting_doubt s r v wt st id mb dv.1;
      } in
      let nw : NewOk w r v = record {
        positive = d.1;
        asked = d.2;
        requested = j.log.doubt_requested r mb;
        new = d.3;
        inc = dv.2;
        member = dv.3;
        held = omega (arith, num, j.log.doubt_held r mb);
        last = λ s st. omega (arith, num, j.log.doubt_last r s mb st);
        recovered = (let c = j.log.doubt_recovered r mb in (c.0, ap w.log.count num ∙ c.1));
        low = λ u c i. omega (arith, num, j.log.doubt_low r u c mb i);
      } in
      let whole : Invariant w' = record {
        chain = record { chain = j.chain.chain; started = j.chain.started; locker = j.chain.locker };
        log = log_grows w r v w.nodes w.pool w.acks w.points j.log gs nw;
        nodes = λ m z at. node_grows w r v w.nodes w.pool w.acks w.points m z j.log gs at (j.nodes m z at);
        owner = λ m z o. absurd (let q : w.log.doubtful ≡ None = (j.owner m z (record { runs = o.runs; ready = o.ready; locker = o.locker; held = o.held })).sure in let e : ◌≡◌ {A = Option Entry} (Some r) None = sym mb ∙ q in cc);
        pool = λ i p s. pooled w w' p gs.ext (λ r s. (j.log.asked r s).1) (λ v c f. (j.log.counts v c f).0) (j.pool i p s);
        points = λ a p s. past w w' p.node p.inc p.place gs.ext (j.points a p s);
        steady = j.steady;
        acks = λ a u k s. ack_grows w r v w.nodes w.pool w.acks w.points u k gs (j.acks a u k s);
      } in
      subst (λ (k : ℕ). Invariant (with_log (plus w.log r k) w)) num whole

  pub drop_keeps : (w : World M) → Invariant w → Invariant (with_log (record w.log { doubtful = None }) w)
  drop_keeps w j = less_keeps w w.nodes None w.log.doubtful_view w.log.held j (record {
    fewer = λ m z e. e;
    waiting = λ m z a s u e wt st id q. absurd (cc);
    near = λ m z r e wt q. absurd (cc);
    doubt = λ r e. absurd (cc);
    doubt_view = λ r e. absurd (cc);
    doubt_requested = λ r e. absurd (cc);
    doubt_held = λ r e. absurd (cc);
    doubt_last = λ r s e. absurd (cc);
    doubt_recovered = λ r e. absurd (cc);
    doubt_low = λ r u c e. absurd (cc);
    held = omega arith;
    held_view = λ nz. let a = j.log.held nz in (a.0, a.1, record { started = a.2.started; view = a.2.view });
    owner = λ m z e rd lk hd. (refl, refl);
  })

  pub found_keeps : (w : World M) (found : Bool) → Invariant w → Invariant (with_log (found_log found w.log) w) × ((found_log found w.log).doubtful ≡ None)
  found_keeps w found j =
      let P : Log → Type 0 = λ l. Invariant (with_log l w) × (l.doubtful ≡ None) in
      option_cases P w.log.doubtful w.log (λ e. if found
      then record w.log { order = w.log.order ++ e ∷ []; view_at = put w.log.view_at (length w.log.order + 1) w.log.doubtful_view; doubtful = None }
      else record w.log { doubtful = None })
      (λ none. (j, none))
      (λ e some. if_cases P found _ _ (λ t. (take_keeps w e j some, refl)) (λ t. (drop_keeps w j, refl)))

  -- The claim: the log is recovered in a view
  pub record ClaimOk (w : World M) (v : View) : Type 0 where
    pub none : w.log.doubtful ≡ None
    pub declared : view_in w.chain v.number ≡ Some v
    pub higher : w.log.held < v.number
    pub entered_ : Entered w (locker_of v.members) (inc_of v.members (locker_of v.members)) v.number

  abbrev pub claim_world : World M → View → World M
  claim_world w v = with_log (claimed v.number w.log) w

  pub claim_ext : (w : World M) (v : View) → LogOk w → ClaimOk w v → Ext w (claim_world w v)
  claim_ext w v h k = record {
    log = record {
      within = omega arith;
      cap = refl;
      order = λ i b. refl;
      fold = λ i b. refl;
      view_at = λ i b. refl;
      count = λ u c e. put_other w.log.count v.number (Some (length w.log.order)) u (λ q. absurd (omega (arith, q, (h.counts u c e).1, k.higher))) ∙ e;
    };
    chain = λ u t e. e;
    starts = λ n. omega arith;
    requests = λ m i q u e. e;
    nodes = λ n y at le. (y, at, grown_refl y);
  }

  -- the new count, or an old one
  pub claim_count : (w : World M) (v : View) (u c : ℕ) → (claim_world w v).log.count u ≡ Some c → ((u ≡ v.number) × (length w.log.order ≡ c)) ⊎ (w.log.count u ≡ Some c)
  claim_count w v u c e = ⊎_elim
      (λ (d : (u ≡ v.number) × (Some (length w.log.order) ≡ Some c)). inl (d.0, let q : Some (length w.log.order) ≡ Some c = d.1 in cc))
      (λ (d : (u ≢ v.number) × (w.log.count u ≡ Some c)). inr d.1)
      (put_cases w.log.count v.number (Some (length w.log.order)) u c e)

  pub claim_keeps : (w : World M) (v : View) → Invariant w → ClaimOk w v → Invariant (claim_world w v)
  claim_keeps w v j k =
      let w' : World M = claim_world w v in
      let e : Ext w w' = claim_ext w v j.log k in
      let ao : AskedOnly w = λ r s. (j.log.asked r s).1 in
      let lift : (u c : ℕ) → w.log.count u ≡ Some c → w'.log.count u ≡ Some c = e.log.count in
      let none : (r : Entry) → w.log.doubtful ≡ Some r → ⊥ = λ r q. absurd (let z : ◌≡◌ {A = Option Entry} None (Some r) = sym k.none ∙ q in cc) in
      -- a ready node's count is an old one
      let ready_old : (m : ℕ) (z : NodeState M) → w.nodes m ≡ Some z → joining.is_ready z.join ≡ true → (c : ℕ) → w'.log.count z.join.view.number ≡ Some c → w.log.count z.join.view.number ≡ Some c =
      λ m z at rd c i. let a = (j.nodes m z at).prefix.ready_state rd in ⊎_elim
      (λ (d : (z.join.view.number ≡ v.number) × (length w.log.order ≡ c)). absurd (omega (arith, d.0, (j.log.counts z.join.view.number a.1 a.2).1, k.higher)))
      (λ (d : w.log.count z.join.view.number ≡ Some c). d)
      (claim_count w v z.join.view.number c i) in
      record {
        chain = record { chain = j.chain.chain; started = j.chain.started; locker = j.chain.locker };
        log = record {
          places = j.log.places;
          ids = λ r s sr ss. j.log.ids r s (record { at = sr.at }) (record { at = ss.at });
          asked = λ r s. let a = j.log.asked r (record { at = s.at }) in (a.0, asked_ w w' r.id.node r.id.inc r.id.req e a.1);
          logged = λ r s. j.log.logged r (record { at = s.at });
          doubt = λ r q. absurd (none r q);
          doubt_view = λ r q. absurd (none r q);
          requested = λ r s. j.log.requested r (record { at = s.at });
          doubt_requested = λ r q. absurd (none r q);
          unasked = j.log.unasked;
          counts = λ u c i. ⊎_elim
              (λ (d : (u ≡ v.number) × (length w.log.order ≡ c)).
              (omega (arith, d.1), omega (arith, d.0), v, ap (view_in w.chain) d.0 ∙ k.declared, subst (λ (t : ℕ). Entered w' (locker_of v.members) (inc_of v.members (locker_of v.members)) t) (sym d.0) (entered_ w w' (locker_of v.members) (inc_of v.members (locker_of v.members)) v.number e k.entered_)))
              (λ (d : w.log.count u ≡ Some c). let a = j.log.counts u c d in
              (a.0, omega (arith, a.1, k.higher), a.2, a.3, entered_ w w' (locker_of a.2.members) (inc_of a.2.members (locker_of a.2.members)) u e a.4))
              (claim_count w v u c i);
          recovered = λ r s. let a = j.log.recovered r (record { at = s.at }) in (a.0, lift (w.log.view_at r.place) a.0 a.1);
          doubt_recovered = λ r q. absurd (none r q);
          rising = λ a b c d ia ib le. ⊎_elim
              (λ (p : (a ≡ v.number) × (length w.log.order ≡ c)). ⊎_elim
              (λ (q : (b ≡ v.number) × (length w.log.order ≡ d)). omega (arith, p.1, q.1))
              (λ (q : w.log.count b ≡ Some d). absurd (omega (arith, p.0, (j.log.counts b d q).1, k.higher)))
              (claim_count w v b d ib))
              (λ (p : w.log.count a ≡ Some c). ⊎_elim
              (λ (q : (b ≡ v.number) × (length w.log.order ≡ d)). omega (arith, q.1, (j.log.counts a c p).0))
              (λ (q : w.log.count b ≡ Some d). j.log.rising a b c d p q le)
              (claim_count w v b d ib))
              (claim_count w v a c ia);
          early = λ u c s i st le. ⊎_elim
              (λ (d : (u ≡ v.number) × (length w.log.order ≡ c)). omega (arith, d.0, j.log.by_held s (record { at = st.at }), k.higher))
              (λ (d : w.log.count u ≡ Some c). j.log.early u c s d (record { at = st.at }) le)
              (claim_count w v u c i);
          ordered = λ r s sr ss. j.log.ordered r s (record { at = sr.at }) (record { at = ss.at });
          by_held = λ r s. omega (arith, j.log.by_held r (record { at = s.at }), k.higher);
          doubt_held = λ r q. absurd (none r q);
          doubt_last = λ r s q. absurd (none r q);
          doubt_low = λ r u c q. absurd (none r q);
          bounds = λ u c s i st lt. ⊎_elim
              (λ (d : (u ≡ v.number) × (length w.log.order ≡ c)). omega (arith, d.1, (place_within w.log.order s.place s st.at).1))
              (λ (d : w.log.count u ≡ Some c). j.log.bounds u c s d (record { at = st.at }) lt)
              (claim_count w v u c i);
          held = λ nz. (v, k.declared, entered_ w w' (locker_of v.members) (inc_of v.members (locker_of v.members)) v.number e k.entered_);
        };
        nodes = λ m z at. let h : NodeOk w m z = j.nodes m z at in record {
          local = h.local;
          prefix = record {
            within = h.prefix.within;
            registry = h.prefix.registry;
            last = h.prefix.last;
            ready_state = λ c. let a = h.prefix.ready_state c in (a.0, a.1, lift z.join.view.number a.1 a.2, a.3);
            below = λ u c i b. ⊎_elim
                (λ (d : (u ≡ v.number) × (length w.log.order ≡ c)). omega (arith, d.1, h.prefix.within))
                (λ (d : w.log.count u ≡ Some c). h.prefix.below u c d b)
                (claim_count w v u c i);
            unready = λ c i b. ⊎_elim
                (λ (d : (z.join.view.number ≡ v.number) × (length w.log.order ≡ c)). omega (arith, d.1, h.prefix.within))
                (λ (d : w.log.count z.join.view.number ≡ Some c). h.prefix.unready c d b)
                (claim_count w v z.join.view.number c i);
            pull = λ o f. let a = h.prefix.pull o f in (a.0, lift z.join.view.number o.count a.1, a.2, a.3, a.4);
            pulled = h.prefix.pulled;
            closed = λ a b c. lift z.join.view.number (done_of z) (h.prefix.closed a b c);
          };
          inc = h.inc;
          view = h.view;
          queued = h.queued;
          all_requests = h.all_requests;
          lock = λ l f. let t = h.lock l f in (t.0, t.1, t.2, t.3, record { at = t.4.at; view = t.4.view }, t.5, t.6, t.7, t.8);
          marked = λ b c p. was_ready w w' b (inc_of z.join.view.members b) z.join.view.number e ao (h.marked b c p);
          all_ready = λ c b p. was_ready w w' b (inc_of z.join.view.members b) z.join.view.number e ao (h.all_ready c b p);
          settled = λ i f. let t = h.settled i f in (t.0, record { at = t.1.at }, t.2, t.3, t.4, λ rd c q. t.5 rd c (ready_old m z at rd c q));
          spreading = λ s f. let t = h.spreading s f in
              (t.0, t.1, t.2, t.3, record { at = t.4.at; view = t.4.view }, t.5, reached w w' (locker_of z.join.view.members) (inc_of z.join.view.members (locker_of z.join.view.members)) t.0.place e t.6, λ i b l g. reached w w' b.node (inc_of z.join.view.members b.node) t.0.place e (t.7 i b l g));
          waiting = λ r s u wt sr id ss. h.waiting r s u wt (record { at = sr.at }) id (record { at = ss.at });
          waiting_doubt = λ r s u wt sr id q. absurd (none s q);
          behind = λ r c wt sr id rd i. h.behind r c wt (record { at = sr.at }) id rd (ready_old m z at rd c i);
          near_head = λ r wt sr id. h.near_head r wt (record { at = sr.at }) id;
          near_doubt = h.near_doubt;
          outcome = λ r f sr id le. h.outcome r f (record { at = sr.at }) id le;
          finished = λ q p b. let f = h.finished q p b in (f.0, f.1, f.2, record { at = f.3.at }, f.4, f.5, f.6);
        };
        owner = λ m z o. absurd (let a = (j.nodes m z o.runs).prefix.ready_state o.ready in omega (arith, o.held, (j.log.counts z.join.view.number a.1 a.2).1, k.higher));
        pool = λ i p s. pooled w w' p e ao (λ v c f. (j.log.counts v c f).0) (j.pool i p s);
        points = λ a p s. past w w' p.node p.inc p.place e (j.points a p s);
        steady = j.steady;
        acks = λ a u i s. let g = j.acks a u i s in record {
          view = g.view;
          declared = g.declared;
          place = g.place;
          later = λ b c q lt. ⊎_elim
              (λ (d : (b ≡ v.number) × (length w.log.order ≡ c)). omega (arith, d.1, g.place))
              (λ (d : w.log.count b ≡ Some c). g.later b c d lt)
              (claim_count w v b c q);
          members = all_reached w w' g.view.members i e g.members;
        };
      }
