-- A view opens at a node.
use Rattle.std.proofs.Common.{◌≡◌, ◌≢◌, ◌⊎◌, inl, inr, ⊎_elim, ℕ, ◌+◌, ◌<◌, ◌≤◌, Bool, true, false, ◌&&◌, ◌||◌, List, [], ◌∷◌, ◌++◌, length, drop, Option, Some, None, nat_eq, nat_lt, if◌then◌else◌, slice_get, refl, sym, ap, ◌∙◌, subst, append_assoc, arith, append-nil}
use Rattle.gum_messages.specs.declared.member.Member.{Member}
use Rattle.gum_messages.specs.Members.{inc_of, spread_of}
use Rattle.gum_messages.proofs.Branches.{if_cases}
use Rattle.gum_messages.proofs.Placing.{place_within}
use Rattle.update_records.specs.Entry.{Entry}
use Rattle.update_records.specs.declared.update.Update.{Update}
use Rattle.gum_core.specs.declared.decision.Decision.{Decision}
use Rattle.gum_core.specs.Updating.{CoreState, greatest_of}
use Rattle.gum_core.specs.Updating as updating
use Rattle.view_reconcile.specs.declared.stage.Stage.TheVariants as stage
use Rattle.view_reconcile.specs.declared.step.Step.{Step}
use Rattle.view_reconcile.specs.Joining.{ReconcileState}
use Rattle.view_reconcile.specs.Joining as joining
use Rattle.cluster_rules.specs.Machines.{Machine}
use Rattle.gum_messages.specs.declared.body.Body.{Body}
use Rattle.gum_messages.specs.declared.body.Body.TheVariants.{Ready, OpenView}
use Rattle.gum_messages.specs.Messages.{Sent}
use Rattle.cluster_rules.specs.declared.effect.Effect.{Effect}
use Rattle.cluster_rules.specs.declared.effect.Effect.TheVariants.{Acked, Batched, Closed, Halted, Opened, Reply, Send}
use Rattle.cluster_rules.specs.Nodes.{NodeState, Out, after, asks, becomes, done_of, locker_at, nothing, packet, to_each}
use Rattle.cluster_rules.specs.Updates.{begins, opens}
use Rattle.cluster_rules.specs.Joins.{marks_ready, on_open_view, on_ready, opens_view}
use Rattle.cluster_rules.specs.Worlds.{Point, World, acked, put, sent}
use Rattle.cluster_laws.proofs.History.{absorbed, answered}
use Rattle.cluster_laws.proofs.Inv.{AckOk, Has, Invariant, MemberOk, MsgOk, NodeOk, Owner, OwnerOk, Pooled, WasReady, at_head, waits}
use Rattle.cluster_laws.proofs.Stable.{Ext, Grown, grown_refl, pooled, was_ready}
use Rattle.cluster_laws.proofs.Moves.{quiet_points, at_self, ext_absorb, move_keeps, moved, node_in, none_acked, none_told, owner_moves, put_cases, staged_ok, stay_keeps, stay_sends, stay_tells, told}
use Rattle.cluster_laws.proofs.Applying.{and_true, length_some, eq_true, locker_not}
use Rattle.view_reconcile.proofs.Cases.{opened_cases, readied_cases}
use Rattle.view_reconcile.proofs.Marking.{each_counts, marked_says}
use Rattle.gum_core.proofs.Cases.{opened_cases as core_opened_cases}
use Rattle.cluster_laws.proofs.Heads.{ask_told, asks_acks, asks_told, cons_told, full_asks, head_keeps, head_requested}
use Rattle.cluster_laws.proofs.Finish.{Done, if_some, pop_ok, popped, popped_grown}
use Rattle.cluster_laws.proofs.HeadRules.{open_is_ready}
use Rattle.cluster_laws.proofs.Points.{done_outcome}
use Rattle.cluster_laws.proofs.Telling.{Good, node_is, still}

-- Two moves of one node are one
pub put_put : {A : Type 0} (f : ℕ → A) (n : ℕ) (a b : A) → put (put f n a) n b ≡ put f n b
put_put f n a b = λ i m. e m i
  where
    e : (m : ℕ) → put (put f n a) n b m ≡ put f n b m
    e m = grind arith

pub sent_append : (a b : List Effect) → sent (a ++ b) ≡ sent a ++ sent b
sent_append [] b = refl
sent_append (Send p ∷ a) b = ap (λ (l : List Sent). p ∷ l) (sent_append a b)
sent_append (Acked v k ∷ a) b = sent_append a b
sent_append (Opened v ∷ a) b = sent_append a b
sent_append (Halted c ∷ a) b = sent_append a b
sent_append (Reply c p bs ∷ a) b = sent_append a b
sent_append (Closed c d ∷ a) b = sent_append a b
sent_append (Batched q p s i ∷ a) b = sent_append a b

pub acked_append : (a b : List Effect) → acked (a ++ b) ≡ acked a ++ acked b
acked_append [] b = refl
acked_append (Send p ∷ a) b = acked_append a b
acked_append (Acked v k ∷ a) b = ap (λ (l : List (ℕ × ℕ)). (v, k) ∷ l) (acked_append a b)
acked_append (Opened v ∷ a) b = acked_append a b
acked_append (Halted c ∷ a) b = acked_append a b
acked_append (Reply c p bs ∷ a) b = acked_append a b
acked_append (Closed c d ∷ a) b = acked_append a b
acked_append (Batched q p s i ∷ a) b = acked_append a b

pub answered_append : {M : Machine} (n i : ℕ) (a b : List (ℕ × ℕ)) → answered {M = M} n i (a ++ b) ≡ answered {M = M} n i a ++ answered {M = M} n i b
answered_append n i [] b = refl
answered_append {M} n i (x ∷ a) b = ap (λ (l : List (Point M)). record { node = n; inc = i; place = x.1; req = 0; outcome = None } ∷ l) (answered_append n i a b)

or_true : (a b : Bool) → (a || b) ≡ true → (a ≡ true) ⊎ (b ≡ true)
or_true true b e = inl refl
or_true false b e = inr e

pub there_put : {A : Type 0} (f : ℕ → A) (n : ℕ) (v : A) → put f n v n ≡ v
there_put f n v = grind arith

module _ {M : Machine} where
  pub two_moves : (w : World M) (n : ℕ) (y : NodeState M) (es : List Effect) (o : Out M) → absorbed n o (moved w n y es) ≡ absorbed n (after es o) w
  two_moves w n y es o =
      let p : (w.pool ++ sent es) ++ sent o.effects ≡ w.pool ++ sent (es ++ o.effects) = append_assoc w.pool (sent es) (sent o.effects) ∙ ap (λ (l : List Sent). w.pool ++ l) (sym (sent_append es o.effects)) in
      let a : (w.acks ++ acked es) ++ acked o.effects ≡ w.acks ++ acked (es ++ o.effects) = append_assoc w.acks (acked es) (acked o.effects) ∙ ap (λ (l : List (ℕ × ℕ)). w.acks ++ l) (sym (acked_append es o.effects)) in
      let b : (w.points ++ answered n (w.starts n) (acked es)) ++ answered n (w.starts n) (acked o.effects) ≡ w.points ++ answered n (w.starts n) (acked (es ++ o.effects)) = append_assoc w.points (answered n (w.starts n) (acked es)) (answered n (w.starts n) (acked o.effects)) ∙ ap (λ (l : List (Point M)). w.points ++ l) (sym (answered_append n (w.starts n) (acked es) (acked o.effects)) ∙ ap (answered n (w.starts n)) (sym (acked_append es o.effects))) in
      λ i. record w { nodes = put_put w.nodes n (Some y) o.node i; pool = p i; acks = a i; points = b i }

  pub moved_there : (w : World M) (n : ℕ) (y : NodeState M) (es : List Effect) → (moved w n y es).nodes n ≡ Some y
  moved_there w n y es = there_put w.nodes n (Some y)

  pub no_acks : (x : NodeState M) (b : Body) (ms : List Member) → acked (to_each x b ms) ≡ []
  no_acks x b [] = refl
  no_acks x b (m ∷ ms) = no_acks x b ms

  -- each of these messages is to a member
  pub each_to : (P : Sent → Type 0) (x : NodeState M) (b : Body) (ms : List Member) → ((to : ℕ) → P (packet x to b)) → (k : ℕ) (m : Sent) → slice_get (sent (to_each x b ms)) k ≡ Some m → P m
  each_to P x b [] h = none_told P
  each_to P x b (m ∷ ms) h = cons_told P (packet x m.node b) (sent (to_each x b ms)) (h m.node) (each_to P x b ms h)

  -- what the members of a view that opens had
  abbrev pub AllWere : World M → NodeState M → Type 0
  AllWere w x = (m : ℕ) → 0 < inc_of x.join.view.members m → WasReady w m (inc_of x.join.view.members m) x.join.view.number

  abbrev pub opened_node : NodeState M → NodeState M
  opened_node x = record x { join = record x.join { stage = stage.Open }; core = record x.core { is_open = true } }

  -- the view that an owner opens has every record at every member, and no waiting head's
  pub open_member : (w : World M) (n : ℕ) (x : NodeState M) → Invariant w → OwnerOk w n x → joining.is_open x.join ≡ false → AllWere w x → (m : ℕ) (b : NodeState M) → w.nodes m ≡ Some b → inc_of x.join.view.members m ≡ b.join.inc → MemberOk w.log x.core.lock m b
  open_member w n x j k shut were m b at i =
      let pos : 0 < inc_of x.join.view.members m = subst (λ (t : ℕ). 0 < t) (sym i) (j.nodes m b at).local.positive in
      let r = were m pos in
      let c : Some r.count ≡ Some (length w.log.order) = sym r.counted ∙ (k.closed shut).1 in
      let ce : r.count ≡ length w.log.order = cc in
      let dn : r.count ≤ done_of b = r.reached.done b at (sym i) in
      record {
        near = omega (arith, ce, dn);
        free = λ e. omega (arith, ce, dn);
        heads = λ s wt st id. absurd (omega (arith, ce, r.clear.clear b s at (sym i) wt st (record { node = id.node; inc = id.inc ∙ sym i; req = id.req }), (place_within w.log.order s.place s st.at).1));
      }

  pub open_keeps : (w : World M) (n : ℕ) (x : NodeState M) (es : List Effect) → Invariant w → w.nodes n ≡ Some x → joining.is_ready x.join ≡ true → joining.is_open x.join ≡ false → x.settled ≡ None → AllWere w x → acked es ≡ []
      → ((k : ℕ) (p : Sent) → slice_get (sent es) k ≡ Some p → Pooled (moved w n (opened_node x) es) p) → Invariant (moved w n (opened_node x) es)
  open_keeps w n x es j at rd shut us were na ms =
      let h : NodeOk w n x = j.nodes n x at in
      let y : NodeState M = opened_node x in
      let gr : Grown x y = record { inc = refl; done = omega arith; passed = omega arith; asks = omega arith; view = omega arith; settled = λ k e. inl e; waits = λ e q z. z } in
      let not_unready : joining.is_ready x.join ≡ false → ⊥ = λ e. locker_not (joining.is_ready x.join) rd e in
      move_keeps w n x y es j at (record {
        grown = gr;
        node = node_in w n x y es j at gr (staged_ok w n x stage.Open true x.offer x.bytes h shut
            (record {
              node = h.local.node;
              positive = h.local.positive;
              core_node = h.local.core_node;
              core_members = h.local.core_members;
              entries = h.local.entries;
              peopled = h.local.peopled;
              idle = h.local.idle;
              full_state = h.local.full_state;
              pulling = h.local.pulling;
              core_open = refl;
              unsettled = λ c. us;
              ready_view = λ c. h.local.ready_view rd;
            })
            (record {
              within = h.prefix.within;
              registry = h.prefix.registry;
              last = h.prefix.last;
              below = h.prefix.below;
              ready_state = λ c. h.prefix.ready_state rd;
              unready = λ c i b. absurd (cc);
              pull = λ o e. absurd (not_unready ((h.prefix.pull o e).0));
              pulled = λ g e. absurd (cc);
              closed = λ a b c. absurd (cc);
            })
            (λ c. were)
            (λ c. rd));
        messages = ms;
        acks = λ k v p s. none_acked (λ (a b : ℕ). AckOk (moved w n y es) a b) k v p (subst (λ (l : List (ℕ × ℕ)). slice_get l k ≡ Some (v, p)) na s);
        points = quiet_points w n y es na;
        owner = λ o.
            let ox : Owner w n x = record { runs = at; ready = rd; locker = o.locker; held = o.held } in
            let k : OwnerOk w n x = j.owner n x ox in
            record {
              sure = k.sure;
              all_done = k.all_done;
              closed = λ c. absurd (cc);
              greatest = k.greatest;
              members = λ op a b f i. ⊎_elim
                  (λ (d : (a ≡ n) × (Some y ≡ Some b)). at_self (λ (t : ℕ) (u : NodeState M). inc_of x.join.view.members t ≡ u.join.inc → MemberOk w.log x.core.lock t u) a n y b d.0 d.1
                  (λ e. let g = open_member w n x j k shut were n x at e in record { near = g.near; free = g.free; heads = g.heads }) i)
                  (λ (d : (a ≢ n) × (w.nodes a ≡ Some b)). open_member w n x j k shut were a b d.1 i)
                  (put_cases w.nodes n (Some y) a b f);
            };
        member = λ a z ne o k op i. let old : MemberOk w.log z.core.lock n x = k.members op n x at i in record { near = old.near; free = old.free; heads = old.heads };
      })

  -- an open node asks for its head
  pub asks_keeps : (w : World M) (n : ℕ) (x : NodeState M) (next : Option ℕ) → Invariant w → w.nodes n ≡ Some x → joining.is_open x.join ≡ true → ((req : ℕ) → next ≡ Some req → req ≡ x.core.passed + 1) → Invariant (absorbed n (becomes x (asks x next)) w)
  asks_keeps w n x next j at op rq =
      let h : NodeOk w n x = j.nodes n x at in
      let rd : joining.is_ready x.join ≡ true = open_is_ready x.join op in
      let es : List Effect = asks x next in
      stay_tells w n x es j at (asks_acks x next) (asks_told (λ (p : Sent). Pooled (moved w n x es) p) x next (λ req u us some e.
      let full : x.core.queue ≢ [] = λ z. absurd (let y : ◌≡◌ {A = List Update} (u ∷ us) [] = sym e ∙ z in cc) in
      let same : req ≡ x.core.passed + 1 = rq req some in
      ask_told w n x x es req u j at (grown_refl x) refl refl refl rd (omega (arith, full_asks x full)) (head_requested w n x u us req h e same) (λ r c st id i. h.behind r c (full, h.local.unsettled op) st (record { node = id.node; inc = id.inc; req = id.req ∙ same }) rd i)))

  -- what a settled head has, where all members were ready
  pub settled_done : (w : World M) (n : ℕ) (x : NodeState M) (k : ℕ) → Invariant w → w.nodes n ≡ Some x → joining.is_ready x.join ≡ true → AllWere w x → x.core.queue ≢ [] → x.settled ≡ Some k → (r : Entry) × Done w n x r × (r.place ≡ k)
  settled_done w n x k j at rd were full set_ =
      let h : NodeOk w n x = j.nodes n x at in
      let t = h.settled k set_ in
      let c = h.prefix.ready_state rd in
      let low : k ≤ c.1 = t.5 rd c.1 c.2 in (
        t.0,
        record {
          ready = rd;
          full = full;
          stands = record { at = t.1.at };
          id = record { node = t.3.node; inc = t.3.inc; req = t.3.req };
          later = λ u d i b. omega (arith, t.2, low, j.log.rising x.join.view.number u c.1 d c.2 i (omega arith));
          members = record {
            each = λ m i f pos.
                let r = were m (subst (λ (a : ℕ). 0 < a) (sym f) pos) in
                let q : Some r.count ≡ Some c.1 = sym r.counted ∙ c.2 in
                let q2 : r.count ≡ c.1 = cc in
                record { started = subst (λ (a : ℕ). a ≤ w.starts m) f r.reached.started; done = λ y ay same. omega (arith, t.2, low, q2, r.reached.done y ay (same ∙ sym f)) };
          };
        },
        t.2,
      )

  -- an acknowledgement may stand before what was sent
  pub acked_first : (w : World M) (n : ℕ) (o : Option (NodeState M)) (es as_ : List Effect) (v k : ℕ) → acked es ≡ [] → absorbed n (record { node = o; effects = Acked v k ∷ (es ++ as_); outcome = None }) w ≡ absorbed n (record { node = o; effects = es ++ (Acked v k ∷ as_); outcome = None }) w
  acked_first w n o es as_ v k e =
      let p : sent (es ++ as_) ≡ sent (es ++ (Acked v k ∷ as_)) = sent_append es as_ ∙ sym (sent_append es (Acked v k ∷ as_)) in
      let a : (v, k) ∷ acked (es ++ as_) ≡ acked (es ++ (Acked v k ∷ as_)) =
      ap (λ (l : List (ℕ × ℕ)). (v, k) ∷ l) (acked_append es as_ ∙ ap (λ (l : List (ℕ × ℕ)). l ++ acked as_) e) ∙ sym (acked_append es (Acked v k ∷ as_) ∙ ap (λ (l : List (ℕ × ℕ)). l ++ ((v, k) ∷ acked as_)) e) in
      λ i. record w { nodes = put w.nodes n o; pool = w.pool ++ p i; acks = w.acks ++ a i; points = w.points ++ answered n (w.starts n) (a i) }

  -- a message of a node, as its world already has it
  pub told_here : (w : World M) (n : ℕ) (x : NodeState M) (to : ℕ) (b : Body) → NodeOk w n x → x.join.view.number ≢ 0 → MsgOk w x.join.view n to b → Pooled w (packet x to b)
  told_here w n x to b h nz ok = record { view = x.join.view; declared = (h.view nz).0; number = refl; ok = subst (λ (m : ℕ). MsgOk w x.join.view m to b) (sym h.local.node) ok }

  pub pooled_on : (w w' : World M) (p : Sent) → Invariant w → Ext w w' → Pooled w p → Pooled w' p
  pooled_on w w' p j e = pooled w w' p e (λ r s. (j.log.asked r s).1) (λ v c f. (j.log.counts v c f).0)

  pub opened_grown : (x : NodeState M) → Grown x (opened_node x)
  opened_grown x = record { inc = refl; done = omega arith; passed = omega arith; asks = omega arith; view = omega arith; settled = λ k e. inl e; waits = λ e q z. z }

  -- it opens, and sends what its world has already
  pub opens_first : (w : World M) (n : ℕ) (x : NodeState M) (es : List Effect) → Invariant w → w.nodes n ≡ Some x → joining.is_ready x.join ≡ true → joining.is_open x.join ≡ false → x.settled ≡ None → AllWere w x → acked es ≡ [] → ((k : ℕ) (p : Sent) → slice_get (sent es) k ≡ Some p → Pooled w p) → Invariant (moved w n (opened_node x) es)
  opens_first w n x es j at rd shut us were na ms =
      open_keeps w n x es j at rd shut us were na (λ k p s. pooled_on w (moved w n (opened_node x) es) p j (ext_absorb w n x (opened_node x) es at (opened_grown x)) (ms k p s))

  -- a settled head is acknowledged, before the view opens
  pub pops_keeps : (w : World M) (n : ℕ) (x : NodeState M) (k : ℕ) → Invariant w → w.nodes n ≡ Some x → joining.is_ready x.join ≡ true → AllWere w x → x.core.queue ≢ [] → x.settled ≡ Some k → Invariant (moved w n (popped x) (Acked x.join.view.number k ∷ []))
  pops_keeps w n x k j at rd were full set_ =
      let d = settled_done w n x k j at rd were full set_ in
      let es : List Effect = Acked x.join.view.number d.0.place ∷ [] in
      subst (λ (p : ℕ). Invariant (moved w n (popped x) (Acked x.join.view.number p ∷ []))) d.2
      (head_keeps w n x (x.core.passed + 1) (drop 1 x.core.queue) None None None None es j at (pop_ok w n x d.0 es j at d.1 refl (none_told (λ (p : Sent). Pooled (moved w n (popped x) es) p))))

  pub settles_keeps : (w : World M) (n : ℕ) (x : NodeState M) (es : List Effect) (k : ℕ) → Invariant w → w.nodes n ≡ Some x → joining.is_ready x.join ≡ true → joining.is_open x.join ≡ false → AllWere w x → acked es ≡ [] → ((k : ℕ) (p : Sent) → slice_get (sent es) k ≡ Some p → Pooled w p)
      → x.core.queue ≢ [] → x.settled ≡ Some k → Good w n x (after es (begins (record x { join = record x.join { stage = stage.Open } }) (updating.finished (record x.core { is_open = true }) k)))
  settles_keeps w n x es k j at rd shut were na ms full set_ =
      let a1 : List Effect = Acked x.join.view.number k ∷ [] in
      let x1 : NodeState M = popped x in
      let w1 : World M = moved w n x1 a1 in
      let j1 : Invariant w1 = pops_keeps w n x k j at rd were full set_ in
      let e1 : Ext w w1 = ext_absorb w n x x1 a1 at (popped_grown x full) in
      let were1 : AllWere w1 x1 = λ m pos. was_ready w w1 m (inc_of x.join.view.members m) x.join.view.number e1 (λ r s. (j.log.asked r s).1) (were m pos) in
      let x2 : NodeState M = opened_node x1 in
      let w2 : World M = moved w1 n x2 es in
      let j2 : Invariant w2 = opens_first w1 n x1 es j1 (moved_there w n x1 a1) rd shut refl were1 na (λ i p s. pooled_on w w1 p j e1 (ms i p s)) in
      let next : Option ℕ = if nat_lt 1 (length x.core.queue) then Some (x.core.passed + 2) else None in
      let o : Out M = becomes x2 (asks x2 next) in
      let j3 : Invariant (absorbed n o w2) = asks_keeps w2 n x2 next j2 (moved_there w1 n x2 es) refl (λ req e. let q : x.core.passed + 2 ≡ req = (if_some (nat_lt 1 (length x.core.queue)) (x.core.passed + 2) req e).1 in omega (arith, q)) in
      let d = settled_done w n x k j at rd were full set_ in
      let v : ℕ = x.join.view.number in (
        subst (λ (v : World M). Invariant v) (two_moves w1 n x2 es o ∙ two_moves w n x1 a1 (after es o) ∙ acked_first w n (Some x2) es (asks x2 next) v k na) j3,
        inr (record {
          view = v;
          entry = d.0;
          told = acked_append es (Acked v k ∷ asks x2 next) ∙ ap (λ (l : List (ℕ × ℕ)). l ++ ((v, k) ∷ acked (asks x2 next))) na ∙ ap (λ (l : List (ℕ × ℕ)). (v, k) ∷ l) (asks_acks x2 next) ∙ ap (λ (p : ℕ). (v, p) ∷ []) (sym d.2);
          stands = d.1.stands.at;
          id = record { node = d.1.id.node; inc = d.1.id.inc; req = d.1.id.req };
          outcome = done_outcome w n x d.0 j at d.1;
          left = λ y e. node_is x2 y x.join.inc (x.core.passed + 1) e refl refl;
        }),
      )

  -- it opens, and goes on
  pub opens_keeps : (w : World M) (n : ℕ) (x : NodeState M) (es : List Effect) → Invariant w → w.nodes n ≡ Some x → joining.is_ready x.join ≡ true → joining.is_open x.join ≡ false → AllWere w x → acked es ≡ [] → ((k : ℕ) (p : Sent) → slice_get (sent es) k ≡ Some p → Pooled w p)
      → Good w n x (after es (begins (record x { join = record x.join { stage = stage.Open } }) (updating.opened x.core x.settled)))
  opens_keeps w n x es j at rd shut were na ms =
      let h : NodeOk w n x = j.nodes n x at in
      let y : NodeState M = opened_node x in
      let z : NodeState M = record x { join = record x.join { stage = stage.Open } } in
      let P : CoreState × Decision → Type 0 = λ t. Good w n x (after es (begins z t)) in
      let open_first : x.settled ≡ None → Invariant (moved w n y es) = λ us. opens_first w n x es j at rd shut us were na ms in
      core_opened_cases P x.core x.settled
      (λ e. (
        subst (λ (v : World M). Invariant v) (two_moves w n y es (nothing y)) (stay_keeps (moved w n y es) n y (open_first (h.local.idle e).1) (moved_there w n y es)),
        inl (still y (es ++ []) (ap acked (append-nil es) ∙ na)),
      ))
      (λ some none.
      let next : List Effect = asks y (Some (x.core.passed + 1)) in (
        subst (λ (v : World M). Invariant v) (two_moves w n y es (becomes y next))
            (asks_keeps (moved w n y es) n y (Some (x.core.passed + 1)) (open_first none) (moved_there w n y es) refl (λ req e. let q : x.core.passed + 1 ≡ req = cc in sym q)),
        inl (still y (es ++ next) (acked_append es next ∙ ap (λ (l : List (ℕ × ℕ)). l ++ acked next) na ∙ asks_acks y (Some (x.core.passed + 1)))),
      ))
      (λ some k set_. settles_keeps w n x es k j at rd shut were na ms (length_some x.core.queue some) set_)

  -- Ready
  pub was_ready_here : (w : World M) (n : ℕ) (x : NodeState M) → Invariant w → w.nodes n ≡ Some x → joining.is_ready x.join ≡ true → WasReady w n x.join.inc x.join.view.number
  was_ready_here w n x j at rd =
      let h : NodeOk w n x = j.nodes n x at in
      let c = h.prefix.ready_state rd in
      let self : (P : NodeState M → Type 0) → P x → (z : NodeState M) → w.nodes n ≡ Some z → P z = λ P p z e. let q : Some x ≡ Some z = sym at ∙ e in let g : x ≡ z = cc in subst P g p in
      record {
        count = c.1;
        counted = c.2;
        reached = record { started = omega (arith, h.inc); done = λ z e same. self (λ (t : NodeState M). c.1 ≤ done_of t) c.3 z e };
        clear = record {
          started = omega (arith, h.inc);
          within = omega (arith, c.3, h.prefix.within);
          clear = λ z r e same wt s id. self (λ (t : NodeState M). waits t → Has r n x.join.inc (at_head t) → c.1 < r.place) (λ a b. h.behind r c.1 a s b rd c.2) z e wt id;
        };
      }

  abbrev pub marked_node : NodeState M → ℕ → NodeState M
  marked_node x from = record x { join = joining.marked x.join from }

  pub marked_keeps : (w : World M) (n : ℕ) (x : NodeState M) (from : ℕ) → Invariant w → w.nodes n ≡ Some x → WasReady w from (inc_of x.join.view.members from) x.join.view.number → Invariant (absorbed n (nothing (marked_node x from)) w)
  marked_keeps w n x from j at was =
      let h : NodeOk w n x = j.nodes n x at in
      let y : NodeState M = marked_node x from in
      let gr : Grown x y = record { inc = refl; done = omega arith; passed = omega arith; asks = omega arith; view = omega arith; settled = λ k e. inl e; waits = λ e q z. z } in
      move_keeps w n x y [] j at (record {
        grown = gr;
        node = node_in w n x y [] j at gr (record {
          local = h.local;
          prefix = record {
            within = h.prefix.within;
            registry = h.prefix.registry;
            last = h.prefix.last;
            ready_state = h.prefix.ready_state;
            below = h.prefix.below;
            unready = h.prefix.unready;
            closed = h.prefix.closed;
            pull = h.prefix.pull;
            pulled = h.prefix.pulled;
          };
          inc = h.inc;
          view = h.view;
          lock = h.lock;
          all_ready = h.all_ready;
          settled = h.settled;
          spreading = h.spreading;
          waiting = h.waiting;
          waiting_doubt = h.waiting_doubt;
          behind = h.behind;
          near_head = h.near_head;
          near_doubt = h.near_doubt;
          outcome = h.outcome;
          queued = h.queued;
          all_requests = h.all_requests;
          finished = h.finished;
          marked = λ m e pos. ⊎_elim
              (λ (c : m ≡ from). subst (λ (t : ℕ). WasReady w t (inc_of x.join.view.members t) x.join.view.number) (sym c) was)
              (λ (c : joining.is_marked x.join m ≡ true). h.marked m c pos)
              (marked_says x.join from m pos e);
        });
        messages = none_told (λ (p : Sent). Pooled (moved w n y []) p);
        acks = none_acked (λ (a b : ℕ). AckOk (moved w n y []) a b);
        points = quiet_points w n y [] refl;
        owner = owner_moves w n x y [] j at (record { ready = refl; open_ = refl; node = refl; view = refl; lock = refl; members = refl; greatest = refl; done = refl }) (λ o k op i. let old : MemberOk w.log x.core.lock n x = k.members op n x at i in record { near = old.near; free = old.free; heads = old.heads });
        member = λ a z ne o k op i. let old : MemberOk w.log z.core.lock n x = k.members op n x at i in record { near = old.near; free = old.free; heads = old.heads };
      })

  -- all members of a view that is to open were ready
  pub all_were : (w : World M) (n : ℕ) (x : NodeState M) → Invariant w → w.nodes n ≡ Some x → joining.all_ready x.join ≡ true → joining.is_ready x.join ≡ true × AllWere w x
  all_were w n x j at e =
      let h : NodeOk w n x = j.nodes n x at in
      let a = and_true (joining.is_ready x.join) (joining.all_counted x.join) e in
      let here = (h.view (h.local.ready_view a.0)).1 in (
        a.0,
        λ m pos. ⊎_elim
            (λ (c : joining.is_marked x.join m ≡ true). h.marked m c pos)
            (λ (c : (nat_eq m x.join.node && joining.is_ready x.join) ≡ true).
            let me : n ≡ m = sym (eq_true m x.join.node (and_true (nat_eq m x.join.node) (joining.is_ready x.join) c).0 ∙ h.local.node) in
            let was : WasReady w n (inc_of x.join.view.members n) x.join.view.number = subst (λ (i : ℕ). WasReady w n i x.join.view.number) (sym here) (was_ready_here w n x j at a.0) in
            subst (λ (t : ℕ). WasReady w t (inc_of x.join.view.members t) x.join.view.number) me was)
            (or_true (joining.is_marked x.join m) (nat_eq m x.join.node && joining.is_ready x.join) (each_counts x.join m a.1 pos)),
      )

  -- the locker opens, and says so
  pub locker_opens : (w : World M) (n : ℕ) (x : NodeState M) → Invariant w → w.nodes n ≡ Some x → joining.is_open x.join ≡ false → joining.all_ready x.join ≡ true → Good w n x (opens_view (record x { join = record x.join { stage = stage.Open } }))
  locker_opens w n x j at shut all =
      let h : NodeOk w n x = j.nodes n x at in
      let a = all_were w n x j at all in
      let z : NodeState M = record x { join = record x.join { stage = stage.Open } } in
      let es : List Effect = Opened x.join.view.number ∷ to_each z OpenView (spread_of x.join.view.members) in
      opens_keeps w n x es j at a.0 shut a.1 (no_acks z OpenView (spread_of x.join.view.members))
      (each_to (λ (p : Sent). Pooled w p) z OpenView (spread_of x.join.view.members) (λ to. told_here w n x to OpenView h (h.local.ready_view a.0) a.1))

  pub on_ready_keeps : (w : World M) (n : ℕ) (x : NodeState M) (from : ℕ) → Invariant w → w.nodes n ≡ Some x → x.join.view.number ≢ 0 → MsgOk w x.join.view from n Ready → Good w n x (on_ready x from)
  on_ready_keeps w n x from j at nz ok =
      let h : NodeOk w n x = j.nodes n x at in
      let P : ReconcileState × Step → Type 0 = λ r. Good w n x (marks_ready x r) in
      readied_cases P x.join from
      (λ l. (stay_keeps w n x j at, inl (still x [] refl)))
      (λ l op. (stay_sends w n x from OpenView j at (told w n x x (Send (packet x from OpenView) ∷ []) from OpenView h nz refl refl (λ m pos. was_ready w (moved w n x (Send (packet x from OpenView) ∷ [])) m (inc_of x.join.view.members m) x.join.view.number (ext_absorb w n x x (Send (packet x from OpenView) ∷ []) at (grown_refl x)) (λ r s. (j.log.asked r s).1) (h.all_ready op m pos))), inl (still x _ refl)))
      (λ l shut all.
      let y : NodeState M = marked_node x from in
      let j1 : Invariant (moved w n y []) = marked_keeps w n x from j at ok in
      let o : Out M = opens_view (record x { join = record (joining.marked x.join from) { stage = stage.Open } }) in
      let g : Good (moved w n y []) n y o = locker_opens (moved w n y []) n y j1 (moved_there w n y []) shut all in
      (subst (λ (v : World M). Invariant v) (two_moves w n y [] o) g.0, g.1))
      (λ l shut not_all. (marked_keeps w n x from j at ok, inl (still (marked_node x from) [] refl)))

  -- Open
  pub on_open_view_keeps : (w : World M) (n : ℕ) (x : NodeState M) (from : ℕ) → Invariant w → w.nodes n ≡ Some x → MsgOk w x.join.view from n OpenView → Good w n x (on_open_view x from)
  on_open_view_keeps w n x from j at ok =
      let Q : Out M → Type 0 = λ o. Good w n x o in
      let P : ReconcileState × Bool → Type 0 = λ r. Q (if nat_eq from (locker_at x) && r.1 then opens (record x { join = r.0 }) else nothing x) in
      opened_cases P x.join
      (λ rd shut. if_cases Q (nat_eq from (locker_at x) && true) _ _
      (λ g. opens_keeps w n x (Opened x.join.view.number ∷ []) j at rd shut ok refl (none_told (λ (p : Sent). Pooled w p)))
      (λ g. (stay_keeps w n x j at, inl (still x [] refl))))
      (if_cases Q (nat_eq from (locker_at x) && false) _ _ (λ g. absurd (cc_false (nat_eq from (locker_at x)) g)) (λ g. (stay_keeps w n x j at, inl (still x [] refl))))
    where
      cc_false : (b : Bool) → (b && false) ≡ true → ⊥
      cc_false true e = cc
      cc_false false e = cc
