-- Offers are followed, and the state is pulled.
use Rattle.std.proofs.Common.{◌≡◌, ◌≢◌, inl, ℕ, zero, suc, ◌+◌, ◌<◌, ◌≤◌, true, false, not, ◌&&◌, List, [], ◌∷◌, ◌++◌, length, take, drop, Option, Some, None, nat_eq, unwrap_or, cond, if◌then◌else◌, refl, sym, ap, ◌∙◌, subst, arith}
use Rattle.std.specs.List.{AllByRecursion}
use Rattle.gum_messages.specs.declared.member.Member.{Member}
use Rattle.gum_messages.specs.declared.view.View.{View}
use Rattle.gum_messages.specs.Members.{is_locker}
use Rattle.gum_messages.specs.Places.{at_place}
use Rattle.gum_messages.proofs.Branches.{if_cases, option_cases}
use Rattle.gum_messages.proofs.Placing.{place_some}
use Rattle.update_records.specs.Entry.{Entry}
use Rattle.view_reconcile.specs.declared.stage.Stage.{Stage}
use Rattle.view_reconcile.specs.declared.stage.Stage.TheVariants as stage
use Rattle.view_reconcile.specs.declared.step.Step.{Step}
use Rattle.view_reconcile.specs.declared.step.Step.TheVariants as step
use Rattle.view_reconcile.specs.Joining.{ReconcileState}
use Rattle.view_reconcile.specs.Joining as joining
use Rattle.cluster_rules.specs.Machines.{Machine, IsMachine, registry_at}
use Rattle.gum_messages.specs.declared.body.Body.TheVariants.{Offer, Need, Piece, Ready}
use Rattle.gum_messages.specs.Messages.{Sent}
use Rattle.cluster_rules.specs.declared.effect.Effect.{Effect}
use Rattle.cluster_rules.specs.declared.effect.Effect.TheVariants.{Send}
use Rattle.cluster_rules.specs.declared.offering.Offering.{Offering}
use Rattle.cluster_rules.specs.Nodes.{NodeState, Out, Replica, done_of, has_state, locker_at, nothing, packet, place_of, tells}
use Rattle.cluster_rules.specs.Updates.{applied}
use Rattle.cluster_rules.specs.Joins.{follows, gathers, joined, known_done, on_need, on_offer, on_piece, piece, says_ready, sends_piece, shows, takes_state, with_replica}
use Rattle.cluster_rules.specs.Worlds.{World}
use Rattle.cluster_laws.proofs.History.{absorbed}
use Rattle.cluster_laws.proofs.Inv.{AckOk, Fitting, Has, Invariant, MemberOk, MsgOk, NodeOk, Pooled, WasReady, at_head, state_bytes, waits}
use Rattle.cluster_laws.proofs.Stable.{Grown, grown_refl}
use Rattle.cluster_laws.proofs.Moves.{quiet_points, move_keeps, moved, node_in, none_acked, one_told, reached_self, self_node, staged_ok, stay_keeps, stay_sends, told}
use Rattle.cluster_laws.proofs.Applying.{and_true, done_at, next_outcome, eq_true, fold_next, locker_not, next_replica, not_true, replica_next, state_of}
use Rattle.std.proofs.Math.Seq.{take-add}
use Rattle.std.proofs.lemmas.List.{take_all}
use Rattle.view_reconcile.proofs.Cases.{becomes_ready_cases, has_all_says, lacks_last_says, pulled_cases}
use Rattle.cluster_laws.proofs.Readying.{Known, Readies, far_known, readied, ready_keeps, unready_unopen}

-- a node that is alone in its view is its locker
pub alone_locks : (s : ReconcileState) → joining.is_alone s ≡ true → joining.locks s ≡ true
alone_locks s e = go s.view.members e
  where
    two : (m : Member) (ms : List Member) → (elim ms [ [] ↦ nat_eq m.node s.node | _ ↦ false ]) ≡ true → nat_eq m.node s.node ≡ true
    two m [] e = e
    two m (k ∷ ks) e = cc

    go : (ms : List Member) → (elim ms [ [] ↦ false | m ∷ rest ↦ elim rest [ [] ↦ nat_eq m.node s.node | _ ↦ false ] ]) ≡ true → is_locker ms s.node ≡ true
    go [] e = cc
    go (m ∷ ms) e = two m ms e

-- a member that has what was offered is ready, and not open yet
pub taken_ready : (s : ReconcileState) (t : Stage) → joining.locks s ≡ false → joining.taken (record s { stage = t }) true ≡ (record s { stage = stage.Ready }, step.Ready)
taken_ready s t nl = if_cases (λ (r : ReconcileState × Step). r ≡ (record s { stage = stage.Ready }, step.Ready)) (joining.is_alone s) _ _ (λ a. absurd (locker_not (joining.locks s) (alone_locks s a) nl)) (λ a. refl)

-- the cases of an offer, with what a node that must pull lacks
pub offered_split : (P : ReconcileState × Step → Type 0) (s : ReconcileState) (count : ℕ) (last done : Option ℕ)
    → (s.view.number ≡ 0 → P (s, step.Nothing))
    → (s.view.number ≢ 0 → joining.is_ready s ≡ true → P (s, cond (joining.locks s) step.Nothing step.Ready))
    → (s.view.number ≢ 0 → joining.is_ready s ≡ false → done ≡ Some count → P (joining.becomes_ready s))
    → (s.view.number ≢ 0 → joining.is_ready s ≡ false → (k : ℕ) → done ≡ Some k → k + 1 ≡ count → last ≡ Some count → P (record s { stage = stage.Taking }, step.ApplyLast))
    → (s.view.number ≢ 0 → joining.is_ready s ≡ false → joining.has_all done count ≡ false → joining.lacks_last done count last ≡ false → P (joining.pulls_on s))
    → P (joining.offered s count last done)
offered_split P s count last done none again all_ next far =
    if_cases P (nat_eq s.view.number 0) _ _ (λ e. none (eq_true s.view.number 0 e)) (λ e.
    let nz : s.view.number ≢ 0 = eq_not s.view.number 0 e in
    if_cases P (joining.is_ready s) _ _ (again nz) (λ r.
    if_cases P (joining.has_all done count) _ _ (λ h. all_ nz r (has_all_says done count h)) (λ h.
    if_cases P (joining.lacks_last done count last) _ _ (λ l. let says = lacks_last_says done count last l in next nz r says.0 says.1 says.2 says.3) (λ l. far nz r h l))))
  where
    eq_not : (a b : ℕ) → nat_eq a b ≡ false → a ≢ b
    eq_not a b e = grind arith

pub all_take : {A : Type 0} (P : A → Type 0) (k : ℕ) (l : List A) → AllByRecursion P l → AllByRecursion P (take k l)
all_take P zero l h = tt
all_take P (suc k) [] h = tt
all_take P (suc k) (a ∷ l) h = (h.0, all_take P k l h.1)

pub take_length : {A : Type 0} (k : ℕ) (l : List A) → take k l ≡ take (length (take k l)) l
take_length zero l = refl
take_length (suc k) [] = refl
take_length (suc k) (x ∷ l) = ap (λ (t : List _). x ∷ t) (take_length k l)

pub place_is : (last : Option Entry) (k : ℕ) → place_of last ≡ Some k → (e : Entry) × (last ≡ Some e) × (e.place ≡ k)
place_is None k e = absurd (cc)
place_is (Some r) k e = (r, refl, cc)

pub pulling_unready : (s : ReconcileState) (got : ℕ) → s.stage ≡ stage.Pulling got → joining.is_ready s ≡ false
pulling_unready s got e = ap (λ (t : Stage). elim t [ stage.Ready ↦ true | stage.Open ↦ true | _ ↦ false ]) e

-- a node that has bytes of the state pulls it
pub has_bytes : (s : ReconcileState) → nat_eq (unwrap_or (joining.pulled_bytes s) 0) 0 ≡ false → s.stage ≡ stage.Pulling (unwrap_or (joining.pulled_bytes s) 0)
has_bytes s = go s.stage
  where
    go : (t : Stage) → nat_eq (unwrap_or (elim t [ stage.Pulling got ↦ Some got | _ ↦ None ]) 0) 0 ≡ false → t ≡ stage.Pulling (unwrap_or (elim t [ stage.Pulling got ↦ Some got | _ ↦ None ]) 0)
    go stage.Waiting e = absurd (cc)
    go (stage.Pulling got) e = refl
    go stage.Taking e = absurd (cc)
    go stage.Ready e = absurd (cc)
    go stage.Open e = absurd (cc)

module _ {M : Machine} where
  pub was_ready_self : (w : World M) (n : ℕ) (y : NodeState M) (es : List Effect) → y.join.inc ≤ w.starts n → NodeOk (moved w n y es) n y → joining.is_ready y.join ≡ true → WasReady (moved w n y es) n y.join.inc y.join.view.number
  was_ready_self w n y es st h rd =
      let c = h.prefix.ready_state rd in
      record {
        count = c.1;
        counted = c.2;
        reached = reached_self w n y es y.join.inc c.1 st c.3;
        clear = record {
          started = st;
          within = omega (arith, c.3, h.prefix.within);
          clear = λ z r at same wt s id. self_node w n y es (λ (t : NodeState M). waits t → Has r n y.join.inc (at_head t) → c.1 < r.place) (λ a b. h.behind r c.1 a s b rd c.2) z at wt id;
        };
      }

  pub ready_sent : (w : World M) (n : ℕ) (x y : NodeState M) (es : List Effect) (to : ℕ) → NodeOk w n x → x.join.view.number ≢ 0 → y.join.view ≡ x.join.view → y.join.node ≡ x.join.node → y.join.inc ≡ x.join.inc → NodeOk (moved w n y es) n y → joining.is_ready y.join ≡ true → Pooled (moved w n y es) (packet y to Ready)
  ready_sent w n x y es to h nz vw nd ic ok rd =
      let here = (h.view nz).1 in
      let was : WasReady (moved w n y es) n y.join.inc y.join.view.number = was_ready_self w n y es (omega (arith, ic, h.inc)) ok rd in
      told w n x y es to Ready h nz vw nd (subst (λ (i : ℕ). WasReady (moved w n y es) n i x.join.view.number) (ic ∙ sym here) (subst (λ (v : View). WasReady (moved w n y es) n y.join.inc v.number) vw was))

  -- a member that becomes ready says so
  pub says_keeps : (w : World M) (n : ℕ) (x : NodeState M) (s : Replica M) (last : Option Entry) (out : Option M.Outcome) → Invariant w → w.nodes n ≡ Some x → Readies w n x s last out → joining.locks x.join ≡ false → (y : NodeState M) → y ≡ readied x s last out → Invariant (absorbed n (says_ready y) w)
  says_keeps w n x s last out j at k nl y eq =
      let z : NodeState M = readied x s last out in
      ready_keeps w n x s last out (λ (t : NodeState M). Send (packet t (locker_at t) Ready) ∷ []) j at k y eq
      (λ ok. one_told (λ (p : Sent). Pooled (moved w n z (Send (packet z (locker_at z) Ready) ∷ [])) p) (packet z (locker_at z) Ready) (ready_sent w n x z (Send (packet z (locker_at z) Ready) ∷ []) (locker_at z) (j.nodes n x at) k.view refl refl refl ok refl))
      refl
      (λ o. absurd (locker_not (joining.locks x.join) o.locker nl))

  -- Not ready yet
  abbrev pub pulling : NodeState M → Stage → Option Offering → List ℕ → NodeState M
  pulling x t o bs = record x { join = record x.join { stage = t }; offer = o; bytes = bs }

  pub still_keeps : (w : World M) (n : ℕ) (x : NodeState M) (t : Stage) (of : Option Offering) (bs : List ℕ) (offset : ℕ) → Invariant w → w.nodes n ≡ Some x → x.join.view.number ≢ 0 → joining.is_ready x.join ≡ false
      → joining.is_ready (record x.join { stage = t }) ≡ false
      → ((o : Offering) → of ≡ Some o → (w.log.count x.join.view.number ≡ Some o.count) × (o.cap ≡ w.log.cap) × (o.last ≡ at_place w.log.order o.count) × (joining.locks x.join ≡ false) × (has_state x ≡ true → done_of x + 1 < o.count))
      → ((got : ℕ) → t ≡ stage.Pulling got → (o : Offering) × (of ≡ Some o) × (bs ≡ take got (state_bytes w o.count)))
      → Invariant (absorbed n (tells (pulling x t of bs) (locker_at x) (Need offset)) w)
  still_keeps w n x t of bs offset j at nz nr nt po pu =
      let h : NodeOk w n x = j.nodes n x at in
      let y : NodeState M = pulling x t of bs in
      let es : List Effect = Send (packet y (locker_at x) (Need offset)) ∷ [] in
      let gr : Grown x y = record { inc = refl; done = omega arith; passed = omega arith; asks = omega arith; view = omega arith; settled = λ k e. inl e; waits = λ e q z. z } in
      let shut : joining.is_open x.join ≡ false = unready_unopen x.join nr in
      let shut' : joining.is_open y.join ≡ false = unready_unopen y.join nt in
      let no_ready : joining.is_ready y.join ≡ true → ⊥ = λ e. locker_not (joining.is_ready y.join) e nt in
      move_keeps w n x y es j at (record {
        grown = gr;
        node = node_in w n x y es j at gr (staged_ok w n x t x.core.is_open of bs h shut
            (record {
              node = h.local.node;
              positive = h.local.positive;
              core_node = h.local.core_node;
              core_members = h.local.core_members;
              entries = h.local.entries;
              peopled = h.local.peopled;
              idle = h.local.idle;
              full_state = h.local.full_state;
              core_open = h.local.core_open ∙ shut ∙ sym shut';
              unsettled = λ c. absurd (locker_not (joining.is_open y.join) c shut');
              ready_view = λ c. nz;
              pulling = λ o e. (po o e).4;
            })
            (record {
              within = h.prefix.within;
              registry = h.prefix.registry;
              last = h.prefix.last;
              below = h.prefix.below;
              ready_state = λ c. absurd (no_ready c);
              unready = λ c i b. h.prefix.unready c i nr;
              pull = λ o e. let p = po o e in (nt, p.0, p.1, p.2, p.3);
              pulled = pu;
              closed = λ a b c. absurd (no_ready a);
            })
            (λ c. absurd (locker_not (joining.is_open y.join) c shut'))
            (λ c. absurd (no_ready c)));
        messages = one_told (λ (p : Sent). Pooled (moved w n y es) p) (packet y (locker_at x) (Need offset)) (told w n x y es (locker_at x) (Need offset) h nz refl refl tt);
        acks = none_acked (λ (a b : ℕ). AckOk (moved w n y es) a b);
        points = quiet_points w n y es refl;
        owner = λ o. absurd (no_ready o.ready);
        member = λ a z ne o k op i. let old : MemberOk w.log z.core.lock n x = k.members op n x at i in record { near = old.near; free = old.free; heads = old.heads };
      })

  -- Offer
  pub done_known : (x : NodeState M) → has_state x ≡ true → known_done x ≡ Some (done_of x)
  done_known x hs = let s = state_of x hs in subst (λ (r : Option (Replica M)). (elim r [ None ↦ None | Some r ↦ Some r.done ]) ≡ Some (done_of x)) (sym s.1) (ap (λ (d : ℕ). Some d) (sym (done_at x s.0 s.1)))

  -- what came of the head is known behind the next record
  pub next_known : (w : World M) (n : ℕ) (x : NodeState M) (e : Entry) (s : Replica M) → Invariant w → w.nodes n ≡ Some x → x.replica ≡ Some s → at_place w.log.order (s.done + 1) ≡ Some e → Known w n x (s.done + 1) (applied e x).outcome
  next_known w n x e s j at st here a f sa id le =
      let pl : e.place ≡ s.done + 1 = j.log.places (s.done + 1) e here in
      next_outcome w n x e s a (j.nodes n x at) j.log.ids (record { at = ap (at_place w.log.order) pl ∙ here }) st pl f sa id le

  -- a node that lacks more than the last record is far from the count
  pub far_from : (w : World M) (n : ℕ) (x : NodeState M) (c : ℕ) (last : Option Entry) (known : Option ℕ) → Invariant w → w.nodes n ≡ Some x → joining.is_ready x.join ≡ false → w.log.count x.join.view.number ≡ Some c → at_place w.log.order c ≡ last → known ≡ Some (done_of x) → joining.has_all known c ≡ false → joining.lacks_last known c (place_of last) ≡ false → done_of x + 1 < c
  far_from w n x c last known j at nr ct la kn na nl =
      let h : NodeOk w n x = j.nodes n x at in
      let up : done_of x ≤ c = h.prefix.unready c ct nr in
      let cl : c ≤ length w.log.order = (j.log.counts x.join.view.number c ct).0 in
      let not_all : nat_eq (done_of x) c ≡ false = ap (λ (d : Option ℕ). joining.has_all d c) (sym kn) ∙ na in
      let d_ne : done_of x ≢ c = eq_not (done_of x) c not_all in
      let e = place_some w.log.order c (omega arith) cl in
      let pl : e.0.place ≡ c = j.log.places c e.0 e.1 in
      let p : place_of last ≡ Some c = ap place_of (sym la ∙ e.1) ∙ ap (λ (k : ℕ). Some k) pl in
      let not_last : (nat_eq (done_of x + 1) c && nat_eq c c) ≡ false = (λ i. joining.lacks_last (sym kn i) c (sym p i)) ∙ nl in
      far (done_of x) c up d_ne not_last
    where
      eq_not : (a b : ℕ) → nat_eq a b ≡ false → a ≢ b
      eq_not a b e = grind arith

      far : (d c : ℕ) → d ≤ c → d ≢ c → (nat_eq (d + 1) c && nat_eq c c) ≡ false → d + 1 < c
      far d c a b e = grind arith

  pub known_is : (x : NodeState M) (k : ℕ) → known_done x ≡ Some k → (s : Replica M) × (x.replica ≡ Some s) × (s.done ≡ k)
  known_is x k e = option_cases (λ (o : Option ℕ). o ≡ Some k → (s : Replica M) × (x.replica ≡ Some s) × (s.done ≡ k)) x.replica None (λ r. Some r.done) (λ none f. absurd (cc)) (λ r some f. (r, some, cc)) e

  pub follows_keeps : (w : World M) (n : ℕ) (x : NodeState M) (o : Offering) → Invariant w → w.nodes n ≡ Some x → x.join.view.number ≢ 0 → joining.is_ready x.join ≡ false → joining.locks x.join ≡ false → w.log.count x.join.view.number ≡ Some o.count → o.cap ≡ w.log.cap → at_place w.log.order o.count ≡ o.last
      → Invariant (absorbed n (follows x o (joining.offered x.join o.count (place_of o.last) (known_done x))) w)
  follows_keeps w n x o j at nz nr nl ct cp la =
      let h : NodeOk w n x = j.nodes n x at in
      let P : ReconcileState × Step → Type 0 = λ r. Invariant (absorbed n (follows x o r) w) in
      offered_split P x.join o.count (place_of o.last) (known_done x)
      (λ z. absurd (nz z))
      (λ z rd. absurd (locker_not (joining.is_ready x.join) rd nr))
      (λ z r kn. becomes_ready_cases P x.join
      (λ a. absurd (locker_not (joining.locks x.join) (alone_locks x.join a) nl))
      (λ a.
      let s = known_is x o.count kn in
      let eq : joined x o.count o.last (record x.join { stage = stage.Ready }) ≡ readied x s.0 o.last x.outcome =
      λ i. record x { join = record x.join { stage = stage.Ready }; replica = s.1 i; last = o.last; offer = None; bytes = []; settled = if shows o.last x then Some (sym s.2 i) else x.settled } in
      says_keeps w n x s.0 o.last x.outcome j at (record { unready = nr; view = nz; counted = ct ∙ ap (λ (k : ℕ). Some k) (sym s.2); reg = h.prefix.registry s.0 s.1; last_at = sym la ∙ ap (at_place w.log.order) (sym s.2); known = λ a f st id le. h.outcome a f st id (omega (arith, le, done_at x s.0 s.1)) }) nl (joined x o.count o.last (record x.join { stage = stage.Ready })) eq))
      (λ z r k kn next pl.
      let s = known_is x k kn in
      let e = place_is o.last o.count pl in
      let here : at_place w.log.order (s.0.done + 1) ≡ Some e.0 = ap (at_place w.log.order) (ap (λ (t : ℕ). t + 1) s.2 ∙ next) ∙ la ∙ e.1 in
      let t : Replica M = next_replica e.0 s.0 in
      let dn : t.done ≡ o.count = ap (λ (t : ℕ). t + 1) s.2 ∙ next in
      let out : Option M.Outcome = (applied e.0 x).outcome in
      let y : NodeState M = joined (applied e.0 x) o.count o.last (record x.join { stage = stage.Ready }) in
      let eq : y ≡ readied x t o.last out =
      λ i. record x { join = record x.join { stage = stage.Ready }; replica = replica_next x e.0 s.0 s.1 i; last = o.last; offer = None; bytes = []; settled = if shows o.last x then Some (sym dn i) else x.settled; outcome = out } in
      let keeps : Invariant (absorbed n (says_ready y) w) = says_keeps w n x t o.last out j at (record {
        unready = nr;
        view = nz;
        counted = ct ∙ ap (λ (k : ℕ). Some k) (sym dn);
        reg = ap (λ (g : M.Registry). (M.apply e.0 g).0) (h.prefix.registry s.0 s.1) ∙ sym (fold_next M w.log.cap w.log.order s.0.done e.0 here);
        last_at = sym la ∙ ap (at_place w.log.order) (sym dn);
        known = next_known w n x e.0 s.0 j at s.1 here;
      }) nl y eq in
      let tr = taken_ready x.join stage.Taking nl in
      let Q : Option Entry → Type 0 = λ l. Invariant (absorbed n (elim l [ None ↦ nothing x | Some a ↦ says_ready (joined (applied a x) o.count o.last (joining.taken (record x.join { stage = stage.Taking }) true).0) ]) w) in
      subst Q (sym e.1) (subst (λ (r : ReconcileState × Step). Invariant (absorbed n (says_ready (joined (applied e.0 x) o.count o.last r.0)) w)) (sym tr) keeps))
      (λ z r na nlk.
      let far : has_state x ≡ true → done_of x + 1 < o.count = λ hs. far_from w n x o.count o.last (known_done x) j at nr ct la (done_known x hs) na nlk in
      let got : ℕ = unwrap_or (joining.pulled_bytes x.join) 0 in
      let ps : (record x.join { stage = stage.Pulling got }, step.Pull got) ≡ joining.pulls_on x.join = λ i. (record x.join { stage = if sym nl i then stage.Taking else stage.Pulling got }, step.Pull got) in
      let P' : NodeState M → Type 0 = λ y. Invariant (absorbed n (tells y (locker_at x) (Need got)) w) in
      subst P ps (if_cases P' (nat_eq got 0) _ _
      (λ b. subst (λ (k : ℕ). Invariant (absorbed n (tells (pulling x (stage.Pulling k) (Some o) []) (locker_at x) (Need k)) w)) (sym (eq_true got 0 b)) (still_keeps w n x (stage.Pulling 0) (Some o) [] 0 j at nz nr refl
      (λ a e. let q : o ≡ a = cc in subst (λ (a : Offering). (w.log.count x.join.view.number ≡ Some a.count) × (a.cap ≡ w.log.cap) × (a.last ≡ at_place w.log.order a.count) × (joining.locks x.join ≡ false) × (has_state x ≡ true → done_of x + 1 < a.count)) q (ct, cp, sym la, nl, far))
      (λ k e. let q : 0 ≡ k = cc in (o, refl, subst (λ (g : ℕ). [] ≡ take g (state_bytes w o.count)) q refl))))
      (λ b.
      let pulls_ : x.join.stage ≡ stage.Pulling got = has_bytes x.join b in
      let q = h.prefix.pulled got pulls_ in
      still_keeps w n x (stage.Pulling got) x.offer x.bytes got j at nz nr refl
      (λ a e. let p = h.prefix.pull a e in (p.1, p.2, p.3, p.4, h.local.pulling a e))
      (λ k e. h.prefix.pulled k (pulls_ ∙ e)))))

  pub on_offer_keeps : (w : World M) (n : ℕ) (x : NodeState M) (from c cap : ℕ) (last : Option Entry) → Invariant w → w.nodes n ≡ Some x → x.join.view.number ≢ 0 → MsgOk w x.join.view from n (Offer c cap last) → Invariant (absorbed n (on_offer x from (record { count = c; cap = cap; last = last })) w)
  on_offer_keeps w n x from c cap last j at nz ok =
      let h : NodeOk w n x = j.nodes n x at in
      let o : Offering = record { count = c; cap = cap; last = last } in
      let P : Out M → Type 0 = λ a. Invariant (absorbed n a w) in
      if_cases P (nat_eq from (locker_at x) && not (joining.locks x.join)) _ _
      (λ g.
      let nl : joining.locks x.join ≡ false = not_true (joining.locks x.join) (and_true (nat_eq from (locker_at x)) (not (joining.locks x.join)) g).1 in
      if_cases P (joining.is_ready x.join) _ _
      (λ rd. stay_sends w n x (locker_at x) Ready j at (ready_sent w n x x (Send (packet x (locker_at x) Ready) ∷ []) (locker_at x) h nz refl refl refl (node_in w n x x (Send (packet x (locker_at x) Ready) ∷ []) j at (grown_refl x) h) rd))
      (λ nr. follows_keeps w n x o j at nz nr nl ok.0 ok.1 ok.2))
      (λ g. stay_keeps w n x j at)

  -- The state in pieces
  pub on_need_keeps : (w : World M) (n : ℕ) (x : NodeState M) (from offset : ℕ) → Invariant w → w.nodes n ≡ Some x → x.join.view.number ≢ 0 → (joining.locks x.join ≡ true → joining.is_ready x.join ≡ true) → Invariant (absorbed n (on_need x from offset) w)
  on_need_keeps w n x from offset j at nz lr =
      let h : NodeOk w n x = j.nodes n x at in
      let P : Out M → Type 0 = λ a. Invariant (absorbed n a w) in
      option_cases P x.replica (nothing x) (λ r. if joining.locks x.join && not (joining.is_open x.join) then sends_piece x from (M.encode r.registry) offset else nothing x)
      (λ none. stay_keeps w n x j at)
      (λ r some. if_cases P (joining.locks x.join && not (joining.is_open x.join)) _ _
      (λ g.
      let a = and_true (joining.locks x.join) (not (joining.is_open x.join)) g in
      let shut : joining.is_open x.join ≡ false = not_true (joining.is_open x.join) a.1 in
      let ct : w.log.count x.join.view.number ≡ Some (done_of x) = h.prefix.closed (lr a.0) a.0 shut in
      let dn : done_of x ≡ r.done = done_at x r some in
      let bs : List ℕ = M.encode r.registry in
      let same : bs ≡ state_bytes w (done_of x) = ap M.encode (h.prefix.registry r some ∙ ap (registry_at M w.log.cap w.log.order) (sym dn)) in
      option_cases P (joining.piece_length (length bs) offset) (nothing x) (λ count. tells x from (piece bs offset count))
      (λ none. stay_keeps w n x j at)
      (λ count some_. stay_sends w n x from (piece bs offset count) j at (told w n x x (Send (packet x from (piece bs offset count)) ∷ []) from (piece bs offset count) h nz refl refl (
        done_of x,
        ct,
        ap length same,
        take_length count (drop offset bs) ∙ ap (λ (s : List ℕ). take (length (take count (drop offset bs))) (drop offset s)) same,
      ))))
      (λ g. stay_keeps w n x j at))

  pub whole_keeps : IsMachine M → (w : World M) (n : ℕ) (x : NodeState M) (o : Offering) (bs : List ℕ) → Invariant w → Fitting w → w.nodes n ≡ Some x → x.join.view.number ≢ 0 → joining.is_ready x.join ≡ false → x.offer ≡ Some o → bs ≡ state_bytes w o.count → Invariant (absorbed n (takes_state x bs (record x.join { stage = stage.Taking })) w)
  whole_keeps law w n x o bs j fi at nz nr of eq =
      let h : NodeOk w n x = j.nodes n x at in
      let p = h.prefix.pull o of in
      let g : M.Registry = registry_at M w.log.cap w.log.order o.count in
      let dec : M.decode o.cap bs ≡ Some g = (λ i. M.decode (p.2 i) (eq i)) ∙ law.reads_back w.log.cap (take o.count w.log.order) fi.log.is_cap (all_take M.Fits o.count w.log.order fi.log.records) in
      let s : Replica M = record { registry = g; done = o.count } in
      let y : NodeState M = joined (with_replica x g o.count) o.count o.last (record x.join { stage = stage.Ready }) in
      let keeps : Invariant (absorbed n (says_ready y) w) = says_keeps w n x s o.last x.outcome j at (record { unready = nr; view = nz; counted = p.1; reg = refl; last_at = p.3; known = far_known w n x o.count j at nz p.1 (h.local.pulling o of) }) p.4 y refl in
      let tr = taken_ready x.join stage.Taking p.4 in
      let taking : ReconcileState = record x.join { stage = stage.Taking } in
      let D : Option M.Registry → Out M = λ d. elim d [
        | Some registry ↦ says_ready (joined (with_replica x registry o.count) o.count o.last (joining.taken taking true).0)
        | None ↦ tells (record x { join = (joining.taken taking false).0; bytes = [] }) (locker_at x) (Need 0)
      ] in
      let one : Invariant (absorbed n (D (Some g)) w) = subst (λ (r : ReconcileState × Step). Invariant (absorbed n (says_ready (joined (with_replica x g o.count) o.count o.last r.0)) w)) (sym tr) keeps in
      let two : Invariant (absorbed n (D (M.decode o.cap bs)) w) = subst (λ (d : Option M.Registry). Invariant (absorbed n (D d) w)) (sym dec) one in
      subst (λ (f : Option Offering). Invariant (absorbed n (elim f [
        | None ↦ nothing x
        | Some a ↦ elim (M.decode a.cap bs) [
          | Some registry ↦ says_ready (joined (with_replica x registry a.count) a.count a.last (joining.taken taking true).0)
          | None ↦ tells (record x { join = (joining.taken taking false).0; bytes = [] }) (locker_at x) (Need 0)
        ]
      ]) w)) (sym of) two

  pub on_piece_keeps : IsMachine M → (w : World M) (n : ℕ) (x : NodeState M) (from total offset : ℕ) (bytes : List ℕ) → Invariant w → Fitting w → w.nodes n ≡ Some x → x.join.view.number ≢ 0 → MsgOk w x.join.view from n (Piece total offset bytes) → Invariant (absorbed n (on_piece x total offset bytes) w)
  on_piece_keeps law w n x from total offset bytes j fi at nz ok =
      let h : NodeOk w n x = j.nodes n x at in
      let P : ReconcileState × Step → Type 0 = λ r. Invariant (absorbed n (gathers x bytes r) w) in
      let count_is : (o : Offering) → w.log.count x.join.view.number ≡ Some o.count → ok.0 ≡ o.count = λ o e. let q : Some ok.0 ≡ Some o.count = sym ok.1 ∙ e in cc in
      let more : (o : Offering) → w.log.count x.join.view.number ≡ Some o.count → x.bytes ≡ take offset (state_bytes w o.count) → x.bytes ++ bytes ≡ take (offset + length bytes) (state_bytes w o.count) =
      λ o e f. let b : bytes ≡ take (length bytes) (drop offset (state_bytes w o.count)) = ok.3 ∙ ap (λ (c : ℕ). take (length bytes) (drop offset (state_bytes w c))) (count_is o e) in
      (λ i. f i ++ b i) ∙ sym (take-add offset (length bytes) (state_bytes w o.count)) in
      pulled_cases P x.join total offset (length bytes)
      (stay_keeps w n x j at)
      (λ e lt.
      let nr : joining.is_ready x.join ≡ false = pulling_unready x.join offset e in
      let q = h.prefix.pulled offset e in
      still_keeps w n x (stage.Pulling (offset + length bytes)) x.offer (x.bytes ++ bytes) (offset + length bytes) j at nz nr refl
      (λ o f. let p = h.prefix.pull o f in (p.1, p.2, p.3, p.4, h.local.pulling o f))
      (λ got f. let g : offset + length bytes ≡ got = cc in (q.0, q.1, more q.0 (h.prefix.pull q.0 q.1).1 q.2 ∙ ap (λ (k : ℕ). take k (state_bytes w q.0.count)) g)))
      (λ e le.
      let nr : joining.is_ready x.join ≡ false = pulling_unready x.join offset e in
      let q = h.prefix.pulled offset e in
      let ct = (h.prefix.pull q.0 q.1).1 in
      let all : take (offset + length bytes) (state_bytes w q.0.count) ≡ state_bytes w q.0.count = take_all (offset + length bytes) (state_bytes w q.0.count) (omega (arith, ok.2, ap (λ (c : ℕ). length (state_bytes w c)) (count_is q.0 ct))) in
      whole_keeps law w n x q.0 (x.bytes ++ bytes) j fi at nz nr q.1 (more q.0 ct q.2 ∙ all))
