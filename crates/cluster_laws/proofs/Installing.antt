-- The rule for a view that is installed.
use Rattle.std.proofs.Common.{◌≡◌, ◌≢◌, ⊎_elim, ℕ, ◌+◌, ◌<◌, ◌≤◌, Bool, true, false, not, ◌&&◌, List, [], ◌∷◌, ◌++◌, length, take, Option, Some, None, nat_eq, unwrap_or, nat_lt, cond, if◌then◌else◌, refl, sym, ap, ◌∙◌, subst, arith, inl}
use Rattle.std.proofs.lemmas.Bool.{cases_lt}
use Rattle.gum_messages.specs.declared.member.Member.{Member}
use Rattle.gum_messages.specs.declared.view.View.{View}
use Rattle.gum_messages.specs.Members.{inc_of, is_locker, is_member, locker_of, spread_of}
use Rattle.gum_messages.specs.Places.{at_place}
use Rattle.gum_messages.proofs.Branches.{if_cases, option_cases}
use Rattle.gum_messages.proofs.Placing.{place_within}
use Rattle.update_records.specs.Entry.{Entry}
use Rattle.gum_core.specs.declared.lock.Lock.{Lock}
use Rattle.view_reconcile.specs.declared.stage.Stage.{Stage}
use Rattle.view_reconcile.specs.declared.stage.Stage.TheVariants as stage
use Rattle.view_reconcile.specs.declared.step.Step.{Step}
use Rattle.view_reconcile.specs.declared.step.Step.TheVariants as step
use Rattle.view_reconcile.specs.Joining.{ReconcileState}
use Rattle.view_reconcile.specs.Joining as joining
use Rattle.view_reconcile.specs.Chains.{view_in}
use Rattle.cluster_rules.specs.Machines.{Machine, IsMachine, registry_at}
use Rattle.gum_messages.specs.declared.body.Body.TheVariants.{Offer}
use Rattle.gum_messages.specs.Messages.{Sent}
use Rattle.cluster_rules.specs.declared.effect.Effect.{Effect}
use Rattle.cluster_rules.specs.declared.effect.Effect.TheVariants.{Opened}
use Rattle.cluster_rules.specs.declared.offering.Offering.{Offering}
use Rattle.cluster_rules.specs.Nodes.{NodeState, Out, Replica, done_of, halts, has_state, members_of, nothing, place_of, to_each}
use Rattle.cluster_rules.specs.Updates.{applied, opens}
use Rattle.cluster_rules.specs.Joins.{done_within, entered, goes_on, hears_itself, joined, last_of, recovers, shows, takes_view, with_replica}
use Rattle.cluster_rules.specs.Worlds.{Log, Opening, Recovered, Refused, World, absorb, claimed, die_in_install, found_log, install, opening, opens_log, put, raise, stopped, with_log}
use Rattle.cluster_laws.proofs.History.{absorbed}
use Rattle.cluster_laws.proofs.Inv.{Entered, Invariant, NodeOk, OwnerOk, Pooled, WasReady}
use Rattle.cluster_laws.proofs.Moves.{moved, none_told, self_node, told}
use Rattle.cluster_laws.proofs.Applying.{and_true, done_at, eq_true, fold_next, locker_is, locker_not, lt_false, lt_true, next_replica, not_true, replica_next, state_of}
use Rattle.view_reconcile.proofs.Cases.{becomes_ready_cases, is_member_says}
use Rattle.cluster_laws.proofs.Readying.{Known, Readies, far_known, readied, ready_keeps, unready_unopen}
use Rattle.cluster_laws.proofs.Offering.{far_from, next_known, offered_split, place_is}
use Rattle.cluster_laws.proofs.Applying.{replay_cap}
use Rattle.cluster_laws.proofs.Opening.{AllWere, each_to, moved_there, no_acks, opens_keeps, two_moves, was_ready_here}
use Rattle.cluster_laws.proofs.Stopping.{halt_keeps, less_keeps, stop_keeps, without}
use Rattle.cluster_laws.proofs.Recovering.{ClaimOk, claim_keeps, claim_world, enter_keeps, entered_is, found_keeps, taken_view}
use Rattle.cluster_laws.proofs.Growth.{put_same}
use Rattle.cluster_laws.proofs.Histories.{told_keeps}
use Rattle.cluster_laws.proofs.Telling.{Good, Tells, quiet_as}

-- a node that is alone is the only member
pub alone_member : (s : ReconcileState) (m : ℕ) → joining.is_alone s ≡ true → 0 < inc_of s.view.members m → m ≡ s.node
alone_member s m e pos = go s.view.members e pos
  where
    one : (k : Member) → nat_eq k.node s.node ≡ true → 0 < inc_of (k ∷ []) m → m ≡ s.node
    one k a b = elim (nat_eq k.node m) as (λ (c : Bool). nat_eq k.node m ≡ c → 0 < cond c k.inc 0 → m ≡ s.node) [
      | true ↦ λ q z. sym (eq_true k.node m q) ∙ eq_true k.node s.node a
      | false ↦ λ q z. absurd (omega arith)
    ] refl b

    two : (k : Member) (ks : List Member) → (elim ks [ [] ↦ nat_eq k.node s.node | _ ↦ false ]) ≡ true → 0 < inc_of (k ∷ ks) m → m ≡ s.node
    two k [] a b = one k a b
    two k (l ∷ ls) a b = cc

    go : (ms : List Member) → (elim ms [ [] ↦ false | k ∷ rest ↦ elim rest [ [] ↦ nat_eq k.node s.node | _ ↦ false ] ]) ≡ true → 0 < inc_of ms m → m ≡ s.node
    go [] a b = cc
    go (k ∷ ks) a b = two k ks a b

module _ {M : Machine} where
  -- what a locker that recovered the log has, before it is ready
  pub record Recovers (w : World M) (n : ℕ) (x : NodeState M) (o : Offering) : Type 0 where
    pub unready : joining.is_ready x.join ≡ false
    pub view : x.join.view.number ≢ 0
    pub locker : joining.locks x.join ≡ true
    pub sure : w.log.doubtful ≡ None
    pub count : o.count ≡ length w.log.order
    pub cap : o.cap ≡ w.log.cap
    pub last : o.last ≡ last_of w.log.order
    pub counted : w.log.count x.join.view.number ≡ Some (length w.log.order)

  pub no_lock : (w : World M) (n : ℕ) (x : NodeState M) → NodeOk w n x → joining.is_open x.join ≡ false → x.core.lock ≡ None
  no_lock w n x h shut = go x.core.lock (λ l e. locker_not (joining.is_open x.join) (h.lock l e).0 shut)
    where
      go : (o : Option Lock) → ((l : Lock) → o ≡ Some l → ⊥) → o ≡ None
      go None f = refl
      go (Some l) f = absurd (f l refl)

  -- the owner that became ready
  pub ready_owner : (w : World M) (n : ℕ) (x : NodeState M) (o : Offering) (s : Replica M) (out : Option M.Outcome) (es : List Effect) → Invariant w → w.nodes n ≡ Some x → Recovers w n x o → s.done ≡ o.count → OwnerOk (moved w n (readied x s o.last out) es) n (readied x s o.last out)
  ready_owner w n x o s out es j at k sd =
      let h : NodeOk w n x = j.nodes n x at in
      record {
        sure = k.sure;
        all_done = sd ∙ k.count;
        closed = λ c. (no_lock w n x h (unready_unopen x.join k.unready), k.counted);
        greatest = λ r c i st b pos. absurd (let q : Some (length w.log.order) ≡ Some c = sym k.counted ∙ i in let e : length w.log.order ≡ c = cc in omega (arith, e, (place_within w.log.order r.place r st.at).1));
        members = λ op. absurd (cc);
      }

  pub recovers_readies : (w : World M) (n : ℕ) (x : NodeState M) (o : Offering) (s : Replica M) (out : Option M.Outcome) → Recovers w n x o → s.done ≡ o.count → s.registry ≡ registry_at M w.log.cap w.log.order s.done → Known w n x s.done out → Readies w n x s o.last out
  recovers_readies w n x o s out k sd rg kn = record {
    unready = k.unready;
    view = k.view;
    counted = k.counted ∙ ap (λ (t : ℕ). Some t) (sym (sd ∙ k.count));
    reg = rg;
    last_at = k.last ∙ ap (at_place w.log.order) (sym (sd ∙ k.count));
    known = kn;
  }

  -- it becomes ready and offers, or, alone, opens
  pub goes_keeps : (w : World M) (n : ℕ) (x z : NodeState M) (o : Offering) (s : Replica M) (out : Option M.Outcome) (t : Stage) → Invariant w → w.nodes n ≡ Some x → Recovers w n x o → s.done ≡ o.count → s.registry ≡ registry_at M w.log.cap w.log.order s.done → Known w n x s.done out
      → joined z o.count o.last (record x.join { stage = stage.Ready }) ≡ readied x s o.last out
      → Good w n x (goes_on (joined z o.count o.last (joining.becomes_ready (record x.join { stage = t })).0) o (joining.becomes_ready (record x.join { stage = t })).1)
  goes_keeps w n x z o s out t j at k sd rg kn eq =
      let h : NodeOk w n x = j.nodes n x at in
      let rs : Readies w n x s o.last out = recovers_readies w n x o s out k sd rg kn in
      let q : NodeState M = readied x s o.last out in
      let y : NodeState M = joined z o.count o.last (record x.join { stage = stage.Ready }) in
      let same : y.core.passed ≡ x.core.passed = ap (λ (t : NodeState M). t.core.passed) eq in
      becomes_ready_cases (λ (r : ReconcileState × Step). Good w n x (goes_on (joined z o.count o.last r.0) o r.1)) (record x.join { stage = t })
      (λ a.
      let w1 : World M = moved w n y [] in
      let j1 : Invariant w1 = ready_keeps w n x s o.last out (λ (u : NodeState M). []) j at rs y eq (λ ok. none_told (λ (p : Sent). Pooled (moved w n q []) p)) refl (λ ow. ready_owner w n x o s out [] j at k sd) in
      let at1 : w1.nodes n ≡ Some y = moved_there w n y [] in
      let here = (h.view k.view).1 in
      let me : WasReady w1 n (inc_of x.join.view.members n) x.join.view.number = subst (λ (i : ℕ). WasReady w1 n i x.join.view.number) (sym here) (was_ready_here w1 n y j1 at1 refl) in
      let were : AllWere w1 y = λ m pos. subst (λ (i : ℕ). WasReady w1 i (inc_of x.join.view.members i) x.join.view.number) (sym (alone_member x.join m a pos ∙ h.local.node)) me in
      let open_ : Out M = opens (joined z o.count o.last (record x.join { stage = stage.Open })) in
      let g : Good w1 n y open_ = opens_keeps w1 n y (Opened x.join.view.number ∷ []) j1 at1 refl refl were refl (none_told (λ (p : Sent). Pooled w1 p)) in
      (subst (λ (v : World M). Invariant v) (two_moves w n y [] open_) g.0, subst (λ (k : ℕ). Tells w.log.cap w.log.order n x.join.inc k open_) same g.1))
      (λ a.
      let es : NodeState M → List Effect = λ u. to_each u (Offer o.count o.cap o.last) (spread_of (members_of u)) in (
        ready_keeps w n x s o.last out es j at rs y eq
            (λ ok. each_to (λ (p : Sent). Pooled (moved w n q (es q)) p) q (Offer o.count o.cap o.last) (spread_of (members_of q)) (λ to. told w n x q (es q) to (Offer o.count o.cap o.last) h k.view refl refl
            (k.counted ∙ ap (λ (c : ℕ). Some c) (sym k.count), k.cap, ap (at_place w.log.order) k.count ∙ sym k.last)))
            (no_acks q (Offer o.count o.cap o.last) (spread_of (members_of q)))
            (λ ow. ready_owner w n x o s out (es q) j at k sd),
        inl (quiet_as x.join.inc x.core.passed y (es y) (no_acks y (Offer o.count o.cap o.last) (spread_of (members_of y))) refl same),
      ))

  pub within_is : (x : NodeState M) (cap k : ℕ) → done_within x cap ≡ Some k → (s : Replica M) × (x.replica ≡ Some s) × (s.done ≡ k)
  within_is x cap k e = option_cases (λ (o : Option ℕ). o ≡ Some k → (s : Replica M) × (x.replica ≡ Some s) × (s.done ≡ k)) x.replica None (λ r. if nat_eq (M.cap r.registry) cap then Some r.done else None)
      (λ none f. absurd (cc))
      (λ r some f. if_cases (λ (o : Option ℕ). o ≡ Some k → (s : Replica M) × (x.replica ≡ Some s) × (s.done ≡ k)) (nat_eq (M.cap r.registry) cap) _ _ (λ c g. (r, some, cc)) (λ c g. absurd (cc)) f) e

  -- the locker hears its own offer
  pub hears_keeps : (w : World M) (n : ℕ) (x : NodeState M) (o : Offering) (done : Option ℕ) → Invariant w → w.nodes n ≡ Some x → Recovers w n x o
      → ((k : ℕ) → done ≡ Some k → (s : Replica M) × (x.replica ≡ Some s) × (s.done ≡ k)) → (has_state x ≡ true → done ≡ Some (done_of x))
      → Good w n x (hears_itself x o (registry_at M w.log.cap w.log.order o.count) (joining.offered x.join o.count (place_of o.last) done))
  hears_keeps w n x o done j at k kn sure_ =
      let h : NodeOk w n x = j.nodes n x at in
      let registry : M.Registry = registry_at M w.log.cap w.log.order o.count in
      let P : ReconcileState × Step → Type 0 = λ r. Good w n x (hears_itself x o registry r) in
      let ct : w.log.count x.join.view.number ≡ Some o.count = k.counted ∙ ap (λ (c : ℕ). Some c) (sym k.count) in
      offered_split P x.join o.count (place_of o.last) done
      (λ z. absurd (k.view z))
      (λ z rd. absurd (locker_not (joining.is_ready x.join) rd k.unready))
      (λ z r all.
      let s = kn o.count all in
      let eq : joined x o.count o.last (record x.join { stage = stage.Ready }) ≡ readied x s.0 o.last x.outcome =
      λ i. record x { join = record x.join { stage = stage.Ready }; replica = s.1 i; last = o.last; offer = None; bytes = []; settled = if shows o.last x then Some (sym s.2 i) else x.settled } in
      let Q : ReconcileState × Step → Type 0 = λ r. Good w n x (goes_on (joined x o.count o.last r.0) o r.1) in
      let g : Q (joining.becomes_ready x.join) = goes_keeps w n x x o s.0 x.outcome x.join.stage j at k s.2 (h.prefix.registry s.0 s.1) (λ a f st id le. h.outcome a f st id (omega (arith, le, done_at x s.0 s.1))) eq in
      becomes_ready_cases (λ (r : ReconcileState × Step). joining.becomes_ready x.join ≡ r → P r) x.join
      (λ a e. subst Q e g) (λ a e. subst Q e g) refl)
      (λ z r d kd next pl.
      let s = kn d kd in
      let e = place_is o.last o.count pl in
      let here : at_place w.log.order (s.0.done + 1) ≡ Some e.0 = ap (at_place w.log.order) (ap (λ (t : ℕ). t + 1) s.2 ∙ next ∙ k.count) ∙ sym k.last ∙ e.1 in
      let t : Replica M = next_replica e.0 s.0 in
      let dn : t.done ≡ o.count = ap (λ (t : ℕ). t + 1) s.2 ∙ next in
      let out : Option M.Outcome = (applied e.0 x).outcome in
      let eq : joined (applied e.0 x) o.count o.last (record x.join { stage = stage.Ready }) ≡ readied x t o.last out =
      λ i. record x { join = record x.join { stage = stage.Ready }; replica = replica_next x e.0 s.0 s.1 i; last = o.last; offer = None; bytes = []; settled = if shows o.last x then Some (sym dn i) else x.settled; outcome = out } in
      let rg : t.registry ≡ registry_at M w.log.cap w.log.order t.done = ap (λ (g : M.Registry). (M.apply e.0 g).0) (h.prefix.registry s.0 s.1) ∙ sym (fold_next M w.log.cap w.log.order s.0.done e.0 here) in
      let taking : ReconcileState = record x.join { stage = stage.Taking } in
      let R : Option Entry → Type 0 = λ l. Good w n x (elim l [ None ↦ nothing x | Some a ↦ goes_on (joined (applied a x) o.count o.last (joining.taken taking true).0) o (joining.taken taking true).1 ]) in
      subst R (sym e.1) (goes_keeps w n x (applied e.0 x) o t out stage.Taking j at k dn rg (next_known w n x e.0 s.0 j at s.1 here) eq))
      (λ z r na nl.
      let far : has_state x ≡ true → done_of x + 1 < o.count = λ hs. far_from w n x o.count o.last done j at k.unready ct (sym (k.last ∙ ap (at_place w.log.order) (sym k.count))) (sure_ hs) na nl in
      let s : Replica M = record { registry = registry; done = o.count } in
      let got : ℕ = unwrap_or (joining.pulled_bytes x.join) 0 in
      let ps : (record x.join { stage = stage.Taking }, step.Pull got) ≡ joining.pulls_on x.join = λ i. (record x.join { stage = if sym k.locker i then stage.Taking else stage.Pulling got }, step.Pull got) in
      subst P ps (goes_keeps w n x (with_replica x registry o.count) o s x.outcome stage.Taking j at k refl refl (far_known w n x o.count j at k.view ct far) refl))

  pub recovers_keeps : IsMachine M → (w : World M) (n : ℕ) (x : NodeState M) → Invariant w → w.nodes n ≡ Some x → Recovers w n x (record { count = length w.log.order; cap = w.log.cap; last = last_of w.log.order }) → Good w n x (recovers x w.log.cap w.log.order)
  recovers_keeps law w n x j at k = hears_keeps w n x (record { count = length w.log.order; cap = w.log.cap; last = last_of w.log.order }) (done_within x w.log.cap) j at k (λ d e. within_is x w.log.cap d e) (λ hs.
      let s = state_of x hs in
      let c : M.cap s.0.registry ≡ w.log.cap = ap M.cap ((j.nodes n x at).prefix.registry s.0 s.1) ∙ replay_cap law (take s.0.done w.log.order) (M.empty w.log.cap) ∙ law.begins w.log.cap in
      let g : (a b : ℕ) → a ≡ b → nat_eq a b ≡ true = same_eq in
      subst (λ (r : Option (Replica M)). (elim r [ None ↦ None | Some r ↦ if nat_eq (M.cap r.registry) w.log.cap then Some r.done else None ]) ≡ Some (done_of x)) (sym s.1) (subst (λ (b : Bool). cond b (Some s.0.done) None ≡ Some (done_of x)) (sym (g (M.cap s.0.registry) w.log.cap c)) (ap (λ (d : ℕ). Some d) (sym (done_at x s.0 s.1)))))
    where
      same_eq : (a b : ℕ) → a ≡ b → nat_eq a b ≡ true
      same_eq a b e = grind arith

  -- the claim is above the held one
  pub above : (w : World M) (n : ℕ) (x : NodeState M) (v : View) → Invariant w → w.nodes n ≡ Some x → x.join.view.number < v.number → view_in w.chain v.number ≡ Some v → inc_of v.members n ≡ x.join.inc → locker_of v.members ≡ n → w.log.held ≤ v.number → w.log.held < v.number
  above w n x v j at up decl mem lk le = ⊎_elim
      (λ (c : w.log.held < v.number). c)
      (λ (c : v.number ≤ w.log.held). absurd (
      let same : w.log.held ≡ v.number = omega arith in
      let a = j.log.held (λ e. absurd (omega arith)) in
      let q : Some a.0 ≡ Some v = sym a.1 ∙ ap (view_in w.chain) same ∙ decl in
      let g : a.0 ≡ v = cc in
      let en : Entered w (locker_of v.members) (inc_of v.members (locker_of v.members)) w.log.held = subst (λ (u : View). Entered w (locker_of u.members) (inc_of u.members (locker_of u.members)) w.log.held) g a.2 in
      let en2 : Entered w n (inc_of v.members n) w.log.held = subst (λ (m : ℕ). Entered w m (inc_of v.members m) w.log.held) lk en in
      omega (arith, en2.view x at (sym mem), same, up)))
      (cases_lt w.log.held v.number)

  -- the log is recovered, and its locker goes on
  pub found_recovers : IsMachine M → (w : World M) (n : ℕ) (x : NodeState M) (v : View) (found : Bool) → Invariant w → w.nodes n ≡ Some x → x.join.view.number < v.number → view_in w.chain v.number ≡ Some v → inc_of v.members n ≡ x.join.inc → is_locker v.members x.join.node ≡ true → w.log.held ≤ v.number
      → Invariant (absorbed n (recovers (taken_view v x) w.log.cap (found_log found w.log).order) (with_log (claimed v.number (found_log found w.log)) w)) × Tells w.log.cap (found_log found w.log).order n x.join.inc x.core.passed (recovers (taken_view v x) w.log.cap (found_log found w.log).order)
  found_recovers law w n x v found j at up decl mem lk le =
      let h : NodeOk w n x = j.nodes n x at in
      let me : locker_of v.members ≡ n = locker_is v.members x.join.node lk ∙ h.local.node in
      let y : NodeState M = taken_view v x in
      let l : Log = found_log found w.log in
      let w1 : World M = moved w n y [] in
      let j1 : Invariant w1 = enter_keeps w n x v j at up decl mem in
      let f2 = found_keeps w1 found j1 in
      let w2 : World M = with_log l w1 in
      let there : w2.nodes n ≡ Some y = moved_there w n y [] in
      let kept_ : (l.held ≡ w.log.held) × (l.cap ≡ w.log.cap) = same_held found w.log in
      let en : Entered w2 n (inc_of v.members n) v.number = record { started = omega (arith, mem, h.inc); view = λ z e same. self_node w n y [] (λ (t : NodeState M). v.number ≤ t.join.view.number) (omega arith) z e } in
      let claim : ClaimOk w2 v = record {
        none = f2.1;
        declared = decl;
        higher = omega (arith, kept_.0, above w n x v j at up decl mem me le);
        entered_ = subst (λ (m : ℕ). Entered w2 m (inc_of v.members m) v.number) (sym me) en;
      } in
      let w3 : World M = claim_world w2 v in
      let j3 : Invariant w3 = claim_keeps w2 v f2.0 claim in
      let k : Recovers w3 n y (record { count = length l.order; cap = l.cap; last = last_of l.order }) = record {
        unready = refl;
        view = λ e. absurd (omega arith);
        locker = lk;
        sure = f2.1;
        count = refl;
        cap = refl;
        last = refl;
        counted = put_same l.count v.number (Some (length l.order));
      } in
      let whole : Good w3 n y (recovers y l.cap l.order) = recovers_keeps law w3 n y j3 there k in
      subst (λ (c : ℕ). Invariant (absorbed n (recovers y c l.order) (with_log (claimed v.number l) w)) × Tells c l.order n x.join.inc x.core.passed (recovers y c l.order)) kept_.1
      (subst (λ (u : World M). Invariant u) (two_moves (with_log (claimed v.number l) w) n y [] (recovers y l.cap l.order)) whole.0, whole.1)
    where
      same_held : (found : Bool) (l : Log) → ((found_log found l).held ≡ l.held) × ((found_log found l).cap ≡ l.cap)
      same_held found l = option_cases (λ (t : Log). (t.held ≡ l.held) × (t.cap ≡ l.cap)) l.doubtful l (λ e. if found
          then record l { order = l.order ++ e ∷ []; view_at = put l.view_at (length l.order + 1) l.doubtful_view; doubtful = None }
          else record l { doubtful = None })
          (λ none. (refl, refl))
          (λ e some. if_cases (λ (t : Log). (t.held ≡ l.held) × (t.cap ≡ l.cap)) found _ _ (λ a. (refl, refl)) (λ a. (refl, refl)))

  -- an opening that fails: the locker stops, and the claim may have been raised
  pub failed_open : (w : World M) (n : ℕ) (x : NodeState M) (v : View) → Invariant w → w.nodes n ≡ Some x → x.join.view.number < v.number → view_in w.chain v.number ≡ Some v → inc_of v.members n ≡ x.join.inc → locker_of v.members ≡ n → w.log.held ≤ v.number
      → Invariant (stopped n (with_log (record w.log { held = v.number }) w))
  failed_open w n x v j at up decl mem lk le =
      let h : NodeOk w n x = j.nodes n x at in
      less_keeps w (put w.nodes n None) w.log.doubtful w.log.doubtful_view v.number j (record {
        fewer = λ m z e. (without w n m z e).1;
        waiting = λ m z a s u e. (j.nodes m z (without w n m z e).1).waiting_doubt a s u;
        near = λ m z r e. (j.nodes m z (without w n m z e).1).near_doubt r;
        doubt = j.log.doubt;
        doubt_view = j.log.doubt_view;
        doubt_requested = j.log.doubt_requested;
        doubt_held = λ r e. omega (arith, j.log.doubt_held r e);
        doubt_last = j.log.doubt_last;
        doubt_recovered = j.log.doubt_recovered;
        doubt_low = j.log.doubt_low;
        held = le;
        held_view = λ nz. (v, decl, record { started = omega (arith, ap (inc_of v.members) lk, ap w.starts lk, mem, h.inc); view = λ z e. absurd ((without w n (locker_of v.members) z e).0 lk) });
        owner = λ m z e rd lk2 hd.
            let b = without w n m z e in
            let a = (j.nodes m z b.1).prefix.ready_state rd in
            let c = j.log.counts z.join.view.number a.1 a.2 in
            let same : v.number ≡ w.log.held = omega (arith, hd, c.1) in
            (same, (j.owner m z (record { runs = b.1; ready = rd; locker = lk2; held = hd ∙ same })).sure);
      })

  pub raise_keeps : (w : World M) (n : ℕ) (x : NodeState M) (v : View) (raised : Bool) → Invariant w → w.nodes n ≡ Some x → x.join.view.number < v.number → view_in w.chain v.number ≡ Some v → inc_of v.members n ≡ x.join.inc → locker_of v.members ≡ n → w.log.held ≤ v.number
      → Invariant (stopped n (with_log (raise raised v.number w.log) w))
  raise_keeps w n x v raised j at up decl mem lk le =
      if_cases (λ (l : Log). Invariant (stopped n (with_log l w))) raised _ _ (λ r. failed_open w n x v j at up decl mem lk le) (λ r. stop_keeps w n j)

  -- what a view that is taken says
  pub takes_says : (w : World M) (n : ℕ) (x : NodeState M) (v : View) → NodeOk w n x → takes_view x v ≡ true → (x.join.view.number < v.number) × (inc_of v.members n ≡ x.join.inc)
  takes_says w n x v h g =
      let a = and_true (nat_lt x.join.view.number v.number) (is_member v.members x.join.node x.join.inc) g in
      (lt_true x.join.view.number v.number a.0, ap (inc_of v.members) (sym h.local.node) ∙ (is_member_says v x.join.node x.join.inc a.1).1)

  recover_keeps : IsMachine M → (w : World M) (n : ℕ) (x : NodeState M) (v : View) (opening : Opening) → Invariant w → w.nodes n ≡ Some x → takes_view x v ≡ true → x.join.view.number < v.number → view_in w.chain v.number ≡ Some v → inc_of v.members n ≡ x.join.inc → is_locker v.members x.join.node ≡ true → w.log.held ≤ v.number
      → Invariant (elim opening [
        | Recovered found ↦ absorb n (recovers (entered v x) w.log.cap (found_log found w.log).order) (with_log (claimed v.number (found_log found w.log)) w)
        | Refused raised cause ↦ absorb n (halts cause) (with_log (raise raised v.number w.log) w)
      ])
  recover_keeps law w n x v (Recovered found) j at g up decl mem lk le =
      subst (λ (y : NodeState M). Invariant (absorb n (recovers y w.log.cap (found_log found w.log).order) (with_log (claimed v.number (found_log found w.log)) w))) (sym (entered_is x v g))
      (told_keeps (with_log (claimed v.number (found_log found w.log)) w) n (recovers (taken_view v x) w.log.cap (found_log found w.log).order) (found_recovers law w n x v found j at up decl mem lk le).0)
  recover_keeps law w n x v (Refused raised cause) j at g up decl mem lk le =
      let me : locker_of v.members ≡ n = locker_is v.members x.join.node lk ∙ (j.nodes n x at).local.node in
      halt_keeps (with_log (raise raised v.number w.log) w) n (raise_keeps w n x v raised j at up decl mem me le)

  pub install_keeps : IsMachine M → (w : World M) (n : ℕ) (x : NodeState M) (v : View) (opening : Opening) → Invariant w → w.nodes n ≡ Some x → view_in w.chain v.number ≡ Some v → Invariant (install w n x v opening)
  install_keeps law w n x v opening j at decl =
      let P : World M → Type 0 = λ u. Invariant u in
      if_cases P (takes_view x v) _ _
      (λ g.
      let s = takes_says w n x v (j.nodes n x at) g in
      if_cases P (is_locker v.members x.join.node) _ _
      (λ lk. if_cases P (nat_lt v.number w.log.held) _ _
      (λ f. halt_keeps w n (stop_keeps w n j))
      (λ f. recover_keeps law w n x v opening j at g s.0 decl s.1 lk (lt_false v.number w.log.held f)))
      (λ lk. subst (λ (y : NodeState M). Invariant (absorb n (nothing y) w)) (sym (entered_is x v g)) (enter_keeps w n x v j at s.0 decl s.1)))
      (λ g. j)

  -- a death inside it
  pub die_in_install_keeps : (w : World M) (n : ℕ) (x : NodeState M) (v : View) (raised : Bool) → Invariant w → w.nodes n ≡ Some x → view_in w.chain v.number ≡ Some v → Invariant (die_in_install w n x v raised)
  die_in_install_keeps w n x v raised j at decl =
      if_cases (λ (l : Log). Invariant (stopped n (with_log l w))) (opens_log w x v && raised) _ _
      (λ g.
      let a = and_true (takes_view x v && (is_locker v.members x.join.node && not (nat_lt v.number w.log.held))) raised g in
      let b = and_true (takes_view x v) (is_locker v.members x.join.node && not (nat_lt v.number w.log.held)) a.0 in
      let c = and_true (is_locker v.members x.join.node) (not (nat_lt v.number w.log.held)) b.1 in
      let s = takes_says w n x v (j.nodes n x at) b.0 in
      let me : locker_of v.members ≡ n = locker_is v.members x.join.node c.0 ∙ (j.nodes n x at).local.node in
      failed_open w n x v j at s.0 decl s.1 me (lt_false v.number w.log.held (not_true (nat_lt v.number w.log.held) c.1)))
      (λ g. stop_keeps w n j)
