-- Moves of a node's queue and head.
use Rattle.std.proofs.Common.{◌≡◌, ◌≢◌, ◌⊎◌, inl, inr, ⊎_elim, ℕ, zero, suc, ◌+◌, ◌-◌, ◌<◌, ◌≤◌, true, List, [], ◌∷◌, ◌++◌, length, Option, Some, None, slice_get, refl, sym, ap, ◌∙◌, subst, arith}
use Rattle.std.proofs.lemmas.Bool.{cases_lt}
use Rattle.gum_messages.specs.declared.member.Member.{Member}
use Rattle.gum_messages.specs.Members.{inc_of, locker_of, spread_of}
use Rattle.gum_messages.proofs.Branches.{option_cases, list_cases}
use Rattle.update_records.specs.Entry.{Entry}
use Rattle.update_records.specs.declared.update.Update.{Update}
use Rattle.gum_core.specs.declared.spreading.Spreading.{Spreading}
use Rattle.view_reconcile.specs.Joining.{ReconcileState}
use Rattle.view_reconcile.specs.Joining as joining
use Rattle.cluster_rules.specs.Machines.{Machine, outcome_at}
use Rattle.gum_messages.specs.declared.body.Body.TheVariants.{Ask}
use Rattle.gum_messages.specs.Messages.{Sent}
use Rattle.cluster_rules.specs.declared.effect.Effect.{Effect}
use Rattle.cluster_rules.specs.declared.effect.Effect.TheVariants.{Send}
use Rattle.cluster_rules.specs.Nodes.{NodeState, asks, becomes, done_of, has_state, locker_at, packet}
use Rattle.cluster_rules.specs.Worlds.{World, acked, sent}
use Rattle.cluster_laws.proofs.Inv.{AckOk, Asked, Has, Invariant, LoggedIn, MemberOk, NodeOk, Pooled, Reached, Requested, Stands, at_head, greatest_asked, waits}
use Rattle.cluster_laws.proofs.Stable.{AskedOnly, Ext, Grown, reached}
use Rattle.cluster_laws.proofs.Moves.{PointsOk, ext_absorb, move_keeps, moved, node_stays, none_told, one_told, owner_moves, self_node, told}

pub no_list : {A : Type 0} (l : List A) → (l ≡ []) ⊎ (l ≢ [])
no_list [] = inl refl
no_list (x ∷ xs) = inr (λ e. cc)

pub append_some : {A : Type 0} (l : List A) (u : A) → l ++ u ∷ [] ≢ []
append_some [] u e = cc
append_some (x ∷ xs) u e = cc

-- what was told, behind one message
pub cons_told : (P : Sent → Type 0) (p : Sent) (ps : List Sent) → P p → ((k : ℕ) (m : Sent) → slice_get ps k ≡ Some m → P m) → (k : ℕ) (m : Sent) → slice_get (p ∷ ps) k ≡ Some m → P m
cons_told P p ps h t zero m e = let g : p ≡ m = cc in subst P g h
cons_told P p ps h t (suc k) m e = t k m e

module _ {M : Machine} where
  -- what a node asks for
  pub asks_told : (P : Sent → Type 0) (y : NodeState M) (next : Option ℕ) → ((req : ℕ) (u : Update) (us : List Update) → next ≡ Some req → y.core.queue ≡ u ∷ us → P (packet y (locker_at y) (Ask req u))) → (k : ℕ) (m : Sent) → slice_get (sent (asks y next)) k ≡ Some m → P m
  asks_told P y next h =
      let Q : List Effect → Type 0 = λ es. (k : ℕ) (m : Sent) → slice_get (sent es) k ≡ Some m → P m in
      option_cases Q next [] (λ req. elim y.core.queue [ [] ↦ [] | u ∷ us ↦ Send (packet y (locker_at y) (Ask req u)) ∷ [] ])
      (λ none. none_told P)
      (λ req some. list_cases Q y.core.queue [] (λ u us. Send (packet y (locker_at y) (Ask req u)) ∷ [])
      (λ empty. none_told P)
      (λ u us full. one_told P (packet y (locker_at y) (Ask req u)) (h req u us some full)))

  pub asks_acks : (y : NodeState M) (next : Option ℕ) → acked (asks y next) ≡ []
  asks_acks y next =
      let Q : List Effect → Type 0 = λ es. acked es ≡ [] in
      option_cases Q next [] (λ req. elim y.core.queue [ [] ↦ [] | u ∷ us ↦ Send (packet y (locker_at y) (Ask req u)) ∷ [] ])
      (λ none. refl)
      (λ req some. list_cases Q y.core.queue [] (λ u us. Send (packet y (locker_at y) (Ask req u)) ∷ []) (λ empty. refl) (λ u us full. refl))

  pub full_asks : (x : NodeState M) → x.core.queue ≢ [] → greatest_asked x ≡ x.core.passed + 1
  full_asks x f = list_cases (λ (k : ℕ). k ≡ x.core.passed + 1) x.core.queue x.core.passed (λ u us. x.core.passed + 1) (λ e. absurd (f e)) (λ u us e. refl)

  pub empty_asks : (x : NodeState M) → x.core.queue ≡ [] → greatest_asked x ≡ x.core.passed
  empty_asks x e = list_cases (λ (k : ℕ). k ≡ x.core.passed) x.core.queue x.core.passed (λ u us. x.core.passed + 1) (λ f. refl) (λ u us f. absurd (let z : ◌≡◌ {A = List Update} (u ∷ us) [] = sym f ∙ e in cc))

  pub asks_least : (x : NodeState M) → x.core.passed ≤ greatest_asked x
  asks_least x = ⊎_elim (λ e. omega (arith, empty_asks x e)) (λ f. omega (arith, full_asks x f)) (no_list x.core.queue)

  abbrev pub headed : NodeState M → ℕ → List Update → Option Spreading → Option Entry → Option ℕ → Option M.Outcome → NodeState M
  headed x p q sp e st o = record x { core = record x.core { passed = p; queue = q; spreading = sp }; spreads = e; settled = st; outcome = o }

  -- what a spreading head owes
  abbrev pub SpreadOk : World M → ℕ → NodeState M → Entry → ℕ → Type 0
  SpreadOk w n x r p = (joining.is_open x.join ≡ true) × LoggedIn w.log r x.join.view.number × Reached w (locker_of x.join.view.members) (inc_of x.join.view.members (locker_of x.join.view.members)) r.place × ((j : ℕ) (m : Member) → j < p → slice_get (spread_of x.join.view.members) j ≡ Some m → Reached w m.node (inc_of x.join.view.members m.node) r.place)

  pub record HeadOk (w : World M) (n : ℕ) (x y : NodeState M) (es : List Effect) : Type 0 where
    pub more : x.core.passed ≤ y.core.passed
    pub keeps_settled : (k : ℕ) → y.settled ≡ Some k → (x.settled ≡ Some k) ⊎ (done_of x ≤ k)
    pub more_asks : greatest_asked x ≤ greatest_asked y
    pub still : x.core.passed ≡ y.core.passed → x.core.queue ≢ [] → waits y → waits x
    pub new : (r : Entry) → waits y → Stands w.log r → Has r n x.join.inc (at_head y) → waits x × (x.core.passed ≡ y.core.passed)
    pub new_doubt : (r : Entry) → waits y → w.log.doubtful ≡ Some r → Has r n x.join.inc (at_head y) → waits x × (x.core.passed ≡ y.core.passed)
    pub idle : y.core.queue ≡ [] → (y.core.spreading ≡ None) × (y.settled ≡ None)
    pub settled : (k : ℕ) → y.settled ≡ Some k → (r : Entry) × Stands w.log r × (r.place ≡ k) × Has r n x.join.inc (at_head y) × (k ≤ done_of x) × (joining.is_ready x.join ≡ true → (c : ℕ) → w.log.count x.join.view.number ≡ Some c → k ≤ c)
    pub unsettled : joining.is_open x.join ≡ true → y.settled ≡ None
    pub spreading : (s : Spreading) → y.core.spreading ≡ Some s → (r : Entry) × (y.spreads ≡ Some r) × (r.place ≡ s.place) × Has r n x.join.inc (at_head y) × SpreadOk w n x r s.at
    pub full_state : y.core.queue ≢ [] → has_state x ≡ true
    pub outcome : (r : Entry) → y.core.queue ≢ [] → Stands w.log r → Has r n x.join.inc (at_head y) → r.place ≤ done_of x → y.outcome ≡ Some (outcome_at M w.log.cap w.log.order (r.place - 1) r)
    pub queued : (k : ℕ) (u : Update) → slice_get y.core.queue k ≡ Some u → Requested w n x.join.inc (y.core.passed + (k + 1)) u
    pub all_requests : y.core.passed + length y.core.queue ≡ x.core.passed + length x.core.queue
    pub finished : (q : ℕ) → x.core.passed < q → q ≤ y.core.passed → (r : Entry) × (a v : ℕ) × Stands w.log r × Has r n x.join.inc q × (slice_get (w.acks ++ acked es) a ≡ Some (v, r.place)) × (v ≤ x.join.view.number)
    pub messages : (k : ℕ) (p : Sent) → slice_get (sent es) k ≡ Some p → Pooled (moved w n y es) p
    pub points : PointsOk w n y es
    pub acks : (k v p : ℕ) → slice_get (acked es) k ≡ Some (v, p) → AckOk (moved w n y es) v p

  pub head_keeps : (w : World M) (n : ℕ) (x : NodeState M) (p : ℕ) (q : List Update) (sp : Option Spreading) (e : Option Entry) (st : Option ℕ) (o : Option M.Outcome) (es : List Effect) → Invariant w → w.nodes n ≡ Some x → HeadOk w n x (headed x p q sp e st o) es → Invariant (moved w n (headed x p q sp e st o) es)
  head_keeps w n x p q sp e st o es j at k =
      let y : NodeState M = headed x p q sp e st o in
      let h : NodeOk w n x = j.nodes n x at in
      let w' : World M = moved w n y es in
      let ao : AskedOnly w = λ r s. (j.log.asked r s).1 in
      let gr : Grown x y = record { inc = refl; done = omega arith; passed = k.more; asks = k.more_asks; view = omega arith; settled = k.keeps_settled; waits = k.still } in
      let ex : Ext w w' = ext_absorb w n x y es at gr in
      let g : NodeOk w' n x = node_stays w n (becomes y es) n x ex ao h in
      let at_old : (r : Entry) → waits y → Stands w.log r → Has r n x.join.inc (at_head y) → waits x × Has r n x.join.inc (at_head x) =
      λ r wt s id. let nw : waits x × (x.core.passed ≡ p) = k.new r wt s id in (nw.0, record { node = id.node; inc = id.inc; req = id.req ∙ ap (λ (t : ℕ). t + 1) (sym nw.1) }) in
      move_keeps w n x y es j at (record {
        grown = gr;
        node = record {
          local = record {
            node = g.local.node;
            positive = g.local.positive;
            core_node = g.local.core_node;
            core_members = g.local.core_members;
            core_open = g.local.core_open;
            entries = g.local.entries;
            peopled = g.local.peopled;
            ready_view = g.local.ready_view;
            pulling = g.local.pulling;
            idle = k.idle;
            unsettled = k.unsettled;
            full_state = k.full_state;
          };
          prefix = g.prefix;
          inc = g.inc;
          view = g.view;
          lock = g.lock;
          marked = g.marked;
          all_ready = g.all_ready;
          settled = k.settled;
          spreading = λ s c. let t = k.spreading s c in
              (t.0, t.1, t.2, t.4.0, t.4.1, t.3, reached w w' (locker_of x.join.view.members) (inc_of x.join.view.members (locker_of x.join.view.members)) t.0.place ex t.4.2, λ i m l f. reached w w' m.node (inc_of x.join.view.members m.node) t.0.place ex (t.4.3 i m l f));
          waiting = λ r s u wt sr id. let old = at_old r wt sr id in h.waiting r s u old.0 sr old.1;
          waiting_doubt = λ r s u wt sr id. let old = at_old r wt sr id in h.waiting_doubt r s u old.0 sr old.1;
          behind = λ r c wt sr id. let old = at_old r wt sr id in h.behind r c old.0 sr old.1;
          near_head = λ r wt sr id. let old = at_old r wt sr id in h.near_head r old.0 sr old.1;
          near_doubt = λ r wt mb id. let nw : waits x × (x.core.passed ≡ p) = k.new_doubt r wt mb id in h.near_doubt r nw.0 mb (record { node = id.node; inc = id.inc; req = id.req ∙ ap (λ (t : ℕ). t + 1) (sym nw.1) });
          outcome = k.outcome;
          queued = k.queued;
          all_requests = h.all_requests ∙ sym k.all_requests;
          finished = λ i one le. ⊎_elim
              (λ (b : x.core.passed < i). k.finished i b le)
              (λ (b : i ≤ x.core.passed). g.finished i one b)
              (cases_lt x.core.passed i);
        };
        messages = k.messages;
        acks = k.acks;
        points = k.points;
        owner = owner_moves w n x y es j at (record { ready = refl; open_ = refl; node = refl; view = refl; lock = refl; members = refl; greatest = refl; done = refl })
            (λ ow ok op i. let old : MemberOk w.log x.core.lock n x = ok.members op n x at i in
            record { near = old.near; free = old.free; heads = λ r wt sr id. let was = at_old r wt sr id in let f = old.heads r was.0 sr was.1 in (f.0, f.1, f.2, f.3 ∙ sym was.1.req ∙ id.req) });
        member = λ a z ne ow ok op i. let old : MemberOk w.log z.core.lock n x = ok.members op n x at i in
            record { near = old.near; free = old.free; heads = λ r wt sr id. let was = at_old r wt sr id in let f = old.heads r was.0 sr was.1 in (f.0, f.1, f.2, f.3 ∙ sym was.1.req ∙ id.req) };
      })

  -- no record has an id that its node hasn't asked for
  pub asked_head : (w : World M) (n : ℕ) (x : NodeState M) (r : Entry) (q : ℕ) → w.nodes n ≡ Some x → Asked w r.id.node r.id.inc r.id.req → Has r n x.join.inc q → q ≤ greatest_asked x
  asked_head w n x r q at a id =
      let ids : ◌≡◌ {A = ℕ × ℕ} (r.id.node, r.id.inc) (n, x.join.inc) = λ i. (id.node i, id.inc i) in
      let b : Asked w n x.join.inc r.id.req = subst (λ (t : ℕ × ℕ). Asked w t.0 t.1 r.id.req) ids a in
      omega (arith, id.req, b.asks x at refl)

  pub not_asked : (w : World M) (n : ℕ) (x : NodeState M) (r : Entry) (q : ℕ) → Invariant w → w.nodes n ≡ Some x → Stands w.log r → Has r n x.join.inc q → greatest_asked x < q → ⊥
  not_asked w n x r q j at s id lt = omega (arith, asked_head w n x r q at (j.log.asked r s).1 id, lt)

  pub not_asked_doubt : (w : World M) (n : ℕ) (x : NodeState M) (r : Entry) (q : ℕ) → Invariant w → w.nodes n ≡ Some x → w.log.doubtful ≡ Some r → Has r n x.join.inc q → greatest_asked x < q → ⊥
  not_asked_doubt w n x r q j at s id lt = omega (arith, asked_head w n x r q at (j.log.doubt r s).2 id, lt)

  -- the head's update is that of its request
  pub head_requested : (w : World M) (n : ℕ) (x : NodeState M) (u : Update) (us : List Update) (req : ℕ) → NodeOk w n x → x.core.queue ≡ u ∷ us → req ≡ x.core.passed + 1 → Requested w n x.join.inc req u
  head_requested w n x u us req h e rq = subst (λ (q : ℕ). Requested w n x.join.inc q u) (sym rq) (h.queued 0 u (ap (λ (l : List Update). slice_get l 0) e))

  -- an Ask for a request that isn't in the first records
  pub ask_told : (w : World M) (n : ℕ) (x y : NodeState M) (es : List Effect) (q : ℕ) (u : Update) → Invariant w → w.nodes n ≡ Some x → Grown x y → y.join.view ≡ x.join.view → y.join.node ≡ x.join.node → y.join.inc ≡ x.join.inc → joining.is_ready x.join ≡ true → q ≤ greatest_asked y → Requested w n x.join.inc q u
      → ((r : Entry) (c : ℕ) → Stands w.log r → Has r n x.join.inc q → w.log.count x.join.view.number ≡ Some c → c < r.place) → Pooled (moved w n y es) (packet y (locker_at y) (Ask q u))
  ask_told w n x y es q u j at gr vw nd ic rd le rq nb =
      let h : NodeOk w n x = j.nodes n x at in
      let nz : x.join.view.number ≢ 0 = h.local.ready_view rd in
      let here : inc_of x.join.view.members n ≡ x.join.inc = (h.view nz).1 in
      let c = h.prefix.ready_state rd in
      told w n x y es (locker_at y) (Ask q u) h nz vw nd (
        c.1,
        c.2,
        record { none = λ r s id. nb r c.1 (record { at = s }) (record { node = id.node; inc = id.inc ∙ here; req = id.req }) c.2 },
        record { started = omega (arith, h.inc, here); asks = λ z e same. self_node w n y es (λ (t : NodeState M). q ≤ greatest_asked t) le z e },
        subst (λ (i : ℕ). Requested w n i q u) (sym here) rq,
      )
