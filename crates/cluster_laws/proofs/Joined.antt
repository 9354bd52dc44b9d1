-- Who counts as ready is ready: what lockers count, and what messages say of it.
use Rattle.std.proofs.Common.{unwrap_or, ◌^◌, ◌≡◌, ◌≢◌, ⊎_elim, ℕ, ◌+◌, ◌<◌, ◌≤◌, Bool, true, false, not, ◌&&◌, List, [], ◌∷◌, ◌++◌, length, Option, Some, None, nat_eq, nat_lt, if◌then◌else◌, refl, sym, ap, ◌∙◌, subst, arith, ◌||◌, ◌⊎◌, inl, inr, zero, suc, slice_get, replicate, length-set, append_assoc, ◌-◌}
use Rattle.std.proofs.lemmas.List.{length-replicate}
use Rattle.std.specs.List.{list_all}
use Rattle.gum_messages.specs.declared.view.View.{View}
use Rattle.gum_messages.specs.Members.{is_locker, is_member, inc_of, index_of, spread_of}
use Rattle.gum_messages.proofs.Branches.{if_cases, option_cases}
use Rattle.gum_messages.specs.declared.body.Body.{Body}
use Rattle.gum_messages.specs.Messages.{Sent}
use Rattle.gum_messages.specs.declared.body.Body.TheVariants.{Ask, Granted, Apply, Applied, Release, Offer, Need, Piece, Ready, OpenView}
use Rattle.gum_messages.specs.declared.member.Member.{Member}
use Rattle.gum_messages.specs.Places.{at_place}
use Rattle.gum_messages.proofs.Placing.{place_old}
use Rattle.gum_messages.specs.Views.{Ascend}
use Rattle.update_records.specs.Entry.{Entry}
use Rattle.update_records.specs.declared.update.Update.{Update}
use Rattle.gum_core.specs.declared.decision.Decision.{Decision}
use Rattle.gum_core.specs.Updating.{CoreState, greatest_of}
use Rattle.gum_core.specs.Updating as updating
use Rattle.gum_core.proofs.Cases.{applied_cases, applying_cases, asked_cases, granted_cases, spread_cases}
use Rattle.gum_core.proofs.Cases.{opened_cases as core_opened_cases}
use Rattle.gum_core.specs.declared.decision.Decision.TheVariants as decision
use Rattle.view_reconcile.specs.declared.stage.Stage.{Stage}
use Rattle.view_reconcile.specs.declared.stage.Stage.TheVariants as stage
use Rattle.view_reconcile.specs.declared.step.Step.{Step}
use Rattle.view_reconcile.specs.Joining.{ReconcileState}
use Rattle.view_reconcile.specs.Joining as joining
use Rattle.view_reconcile.proofs.Cases.{becomes_ready_cases, offered_cases, opened_cases, pulled_cases, readied_cases}
use Rattle.view_reconcile.specs.Chains.{view_in}
use Rattle.view_reconcile.specs.declared.step.Step.TheVariants as step
use Rattle.view_reconcile.proofs.Marking.{each_counts, marked_says, none_marked}
use Rattle.cluster_rules.specs.Machines.{Machine, registry_at}
use Rattle.cluster_rules.specs.declared.offering.Offering.{Offering}
use Rattle.cluster_rules.specs.declared.effect.HaltCause.{HaltCause}
use Rattle.cluster_rules.specs.declared.effect.HaltCause.TheVariants as halt
use Rattle.cluster_rules.specs.Nodes.{NodeState, fresh, members_of, Out, done_of, halts, locker_at, nothing, number_of, place_of, tells, acknowledges, after, asks, becomes, packet, to_each}
use Rattle.cluster_rules.specs.Updates.{Answer, asked_for, InDoubt, Logged, Unwritten, Written, answers, applied, applies, begins, entry_for, has_logged, may_submit, on_applied, on_apply, on_ask, on_granted, opens, proceeds, submit, unlogged, without_head, tick_head, tick_lock}
use Rattle.cluster_rules.specs.Joins.{done_within, entered, follows, gathers, goes_on, hears_itself, joined, known_done, last_of, marks_ready, on_need, on_offer, on_open_view, on_piece, on_ready, piece, recovers, says_ready, sends_piece, takes_view, with_replica, offer_each, offered_cap, tick_join}
use Rattle.cluster_rules.specs.Receiving.{checkpoint, clock, receive, tick}
use Rattle.cluster_rules.specs.Receiving as receiving
use Rattle.cluster_rules.specs.Worlds.{Opening, Recovered, Refused, World, absorb, claimed, found_log, install, opening, put, raise, with_log, Checkpoint, Clock, Declare, Deliver, Die, DieInDeliver, DieInInstall, Event, Install, Read, Start, Submit, Tick, deliver, die_in_deliver, die_in_install, happens, leave, logs, may_declare, noted, reads, stopped, written, sent}
use Rattle.cluster_rules.specs.declared.effect.Effect.TheVariants.{Acked, Batched, Closed, Halted, Opened, Reply, Send}
use Rattle.cluster_rules.specs.declared.effect.Effect.{Effect}
use Rattle.cluster_laws.proofs.Guards.{or_either}
use Rattle.cluster_laws.proofs.Moves.{put_cases, slice_get_append}
use Rattle.cluster_laws.proofs.Inv.{Invariant, NodeOk}
use Rattle.cluster_laws.proofs.HeadRules.{open_is_ready}
use Rattle.cluster_laws.proofs.Events.{at_get, at_keeps}
use Rattle.cluster_laws.proofs.Starting.{started_world}
use Rattle.cluster_laws.proofs.Applying.{and_true, locker_not, lt_true, not_true, eq_true}
use Rattle.cluster_laws.proofs.Recovering.{entered_is, taken_view}
use Rattle.cluster_laws.proofs.Offering.{place_is, pulling_unready, taken_ready}
use Rattle.cluster_laws.proofs.Opening.{sent_append}

abbrev Quiet : List Effect → Type 0
Quiet es = (k : ℕ) (p : Sent) → slice_get (sent es) k ≡ Some p → (p.body ≡ Ready → ⊥) × (p.body ≡ OpenView → ⊥)

abbrev calm_body : Body → Bool
calm_body b = elim b [ Ready ↦ false | OpenView ↦ false | _ ↦ true ]

abbrev calm : List Effect → Bool
calm [] = true
calm (e ∷ es) = elim e [ Send p ↦ calm_body p.body && calm es | _ ↦ calm es ]

calm_quiet : (es : List Effect) → calm es ≡ true → Quiet es
calm_quiet [] h k p e = absurd (cc)
calm_quiet (Send q ∷ es) h zero p e =
    let g : q ≡ p = cc in
    let c : calm_body p.body ≡ true = ap (λ (t : Sent). calm_body t.body) (sym g) ∙ (and_true (calm_body q.body) (calm es) h).0 in
    (λ r. locker_not (calm_body p.body) c (ap calm_body r), λ r. locker_not (calm_body p.body) c (ap calm_body r))
calm_quiet (Send q ∷ es) h (suc k) p e = calm_quiet es (and_true (calm_body q.body) (calm es) h).1 k p e
calm_quiet (Acked v a ∷ es) h k p e = calm_quiet es h k p e
calm_quiet (Opened v ∷ es) h k p e = calm_quiet es h k p e
calm_quiet (Halted c ∷ es) h k p e = calm_quiet es h k p e
calm_quiet (Reply c a b ∷ es) h k p e = calm_quiet es h k p e
calm_quiet (Closed c a ∷ es) h k p e = calm_quiet es h k p e
calm_quiet (Batched q a c i ∷ es) h k p e = calm_quiet es h k p e

not_all : (a b : Bool) → (a && b) ≡ false → a ≡ true → b ≡ false
not_all true b e h = e
not_all false b e h = cc

calm_append : (a b : List Effect) → calm a ≡ true → calm b ≡ true → calm (a ++ b) ≡ true
calm_append [] b h g = g
calm_append (Send q ∷ a) b h g =
    let c = and_true (calm_body q.body) (calm a) h in
    (λ i. c.0 i && calm (a ++ b)) ∙ calm_append a b c.1 g
calm_append (Acked v k ∷ a) b h g = calm_append a b h g
calm_append (Opened v ∷ a) b h g = calm_append a b h g
calm_append (Halted c ∷ a) b h g = calm_append a b h g
calm_append (Reply c t s ∷ a) b h g = calm_append a b h g
calm_append (Closed c t ∷ a) b h g = calm_append a b h g
calm_append (Batched q t c i ∷ a) b h g = calm_append a b h g

says_ready_only : (s : ReconcileState) → joining.ticked s ≡ step.Ready → joining.is_ready s ≡ true
says_ready_only s = if_cases (λ (t : Step). t ≡ step.Ready → joining.is_ready s ≡ true) (joining.locks s) _ _
    (λ l. if_cases (λ (t : Step). t ≡ step.Ready → joining.is_ready s ≡ true) (nat_lt 0 (joining.awaited s)) _ _ (λ g h. cc) (λ g h. cc))
    (λ l. by (joining.pulled_bytes s))
  where
    by : (o : Option ℕ) → (elim o as (λ _. Step) [ Some got ↦ step.Pull got | None ↦ if joining.is_ready s && not (joining.is_open s) then step.Ready else step.Nothing ]) ≡ step.Ready → joining.is_ready s ≡ true
    by (Some got) h = cc
    by None h = if_cases (λ (t : Step). t ≡ step.Ready → joining.is_ready s ≡ true) (joining.is_ready s && not (joining.is_open s)) _ _ (λ g h. (and_true (joining.is_ready s) (not (joining.is_open s)) g).0) (λ g h. cc) h

lone : (ms : List Member) (node n m : ℕ) → (elim ms as (λ _. Bool) [ [] ↦ false | a ∷ as_ ↦ elim as_ as (λ _. Bool) [ [] ↦ nat_eq a.node node | _ ↦ false ] ]) ≡ true → node ≡ n → 0 < inc_of ms m → m ≡ n
lone [] node n m h e lt = absurd (let q : ◌≡◌ {A = Bool} false true = h in cc)
lone (a ∷ []) node n m h e lt = elim (nat_eq a.node m) as (λ (b : Bool). nat_eq a.node m ≡ b → 0 < (if b then a.inc else 0) → m ≡ n) [
  | true ↦ λ q g. sym (eq_true a.node m q) ∙ eq_true a.node node h ∙ e
  | false ↦ λ q g. absurd (omega (arith, g))
] refl lt
lone (a ∷ b ∷ bs) node n m h e lt = absurd (let q : ◌≡◌ {A = Bool} false true = h in cc)

apart_node : (a b : ℕ) → a < b → nat_eq b a ≡ false
apart_node a b h = grind arith

-- somebody else isn't counted in a view that was just taken
uncounted : (s : ReconcileState) (v : View) (t : Stage) → Ascend 0 v.members → is_locker v.members s.node ≡ true → joining.is_alone (record s { view = v; stage = t; ready = replicate (length v.members) false }) ≡ false → joining.all_counted (record s { view = v; stage = t; ready = replicate (length v.members) false }) ≡ false
unfolding Ascend
uncounted s v t asc lk na = by v.members refl asc lk na
  where
    and_no : (a b c : Bool) → b ≡ false → (a && (b && c)) ≡ false
    and_no true b c e = (λ i. e i && c)
    and_no false b c e = refl

    by : (ms : List Member) → v.members ≡ ms → Ascend 0 ms → is_locker ms s.node ≡ true → (elim ms as (λ _. Bool) [ [] ↦ false | a ∷ as_ ↦ elim as_ as (λ _. Bool) [ [] ↦ nat_eq a.node s.node | _ ↦ false ] ]) ≡ false → list_all (λ (m : Member). joining.counts_ready (record s { view = v; stage = t; ready = replicate (length v.members) false }) m.node) ms ≡ false
    by [] e a l n = absurd (let q : ◌≡◌ {A = Bool} false true = l in cc)
    by (m ∷ []) e a l n = absurd (locker_not (nat_eq m.node s.node) l n)
    by (m ∷ b ∷ bs) e a l n =
        let T : ReconcileState = record s { view = v; stage = t; ready = replicate (length v.members) false } in
        let lt : m.node < b.node = a.3.0 in
        let mn : m.node ≡ s.node = eq_true m.node s.node l in
        let far : nat_eq b.node s.node ≡ false = ap (λ (k : ℕ). nat_eq b.node k) (sym mn) ∙ apart_node m.node b.node lt in
        let no : joining.counts_ready T b.node ≡ false = (λ i. none_marked s v t (length v.members) b.node i || (nat_eq b.node s.node && joining.is_ready T)) ∙ (λ i. far i && joining.is_ready T) in
        and_no (joining.counts_ready T m.node) (joining.counts_ready T b.node) (list_all (λ (m : Member). joining.counts_ready T m.node) bs) no

pulls_unready : (s : ReconcileState) (got : ℕ) → joining.is_ready (joining.pulls_from s got).0 ≡ false
pulls_unready s got = if_cases (λ (t : Stage). joining.is_ready (record s { stage = t }) ≡ false) (joining.locks s) stage.Taking (stage.Pulling got) (λ e. refl) (λ e. refl)

module _ {M : Machine} where
  calm_asks : (x : NodeState M) (next : Option ℕ) → calm (asks x next) ≡ true
  calm_asks x None = refl
  calm_asks x (Some req) = by x.core.queue
    where
      by : (q : List Update) → let es : List Effect = elim q [ [] ↦ [] | u ∷ us ↦ Send (packet x (locker_at x) (Ask req u)) ∷ [] ] in calm es ≡ true
      by [] = refl
      by (u ∷ us) = refl

  -- it has come to the view, and where it stands in it, it is ready
  pub record Readied (w : World M) (m i v : ℕ) : Type 0 where
    pub started : i ≤ w.starts m
    pub here : (y : NodeState M) → w.nodes m ≡ Some y → y.join.inc ≡ i → (v ≤ y.join.view.number) × (y.join.view.number ≡ v → joining.is_ready y.join ≡ true)

  pub record Joined (w : World M) : Type 0 where
    pub entries : (n : ℕ) (x : NodeState M) → w.nodes n ≡ Some x → length x.join.ready ≡ length x.join.view.members
    pub closed : (n : ℕ) (x : NodeState M) → w.nodes n ≡ Some x → Ascend 0 x.join.view.members → joining.locks x.join ≡ true → joining.is_ready x.join ≡ true → joining.is_open x.join ≡ false → joining.all_counted x.join ≡ false
    pub marked : (n : ℕ) (x : NodeState M) (m : ℕ) → w.nodes n ≡ Some x → 0 < inc_of x.join.view.members m → joining.is_marked x.join m ≡ true → Readied w m (inc_of x.join.view.members m) x.join.view.number
    pub opened : (n : ℕ) (x : NodeState M) (m : ℕ) → w.nodes n ≡ Some x → joining.locks x.join ≡ true → joining.is_open x.join ≡ true → 0 < inc_of x.join.view.members m → Readied w m (inc_of x.join.view.members m) x.join.view.number
    pub readies : (k : ℕ) (p : Sent) (V : View) → slice_get w.pool k ≡ Some p → p.body ≡ Ready → view_in w.chain p.view ≡ Some V → Readied w p.from (inc_of V.members p.from) p.view
    pub opens : (k : ℕ) (p : Sent) (V : View) → slice_get w.pool k ≡ Some p → p.body ≡ OpenView → view_in w.chain p.view ≡ Some V → (m : ℕ) → 0 < inc_of V.members m → Readied w m (inc_of V.members m) p.view

  -- what a step of one node owes
  pub record Good (w : World M) (n : ℕ) (s t : ReconcileState) (es : List Effect) : Type 0 where
    pub inc : t.inc ≡ s.inc
    pub up : s.view.number ≤ t.view.number
    pub stays : t.view.number ≡ s.view.number → joining.is_ready s ≡ true → joining.is_ready t ≡ true
    pub entries : length t.ready ≡ length t.view.members
    pub closed : Ascend 0 t.view.members → joining.locks t ≡ true → joining.is_ready t ≡ true → joining.is_open t ≡ false → joining.all_counted t ≡ false
    pub marked : (m : ℕ) → 0 < inc_of t.view.members m → joining.is_marked t m ≡ true → Readied w m (inc_of t.view.members m) t.view.number
    pub opened : (m : ℕ) → joining.locks t ≡ true → joining.is_open t ≡ true → 0 < inc_of t.view.members m → (m ≡ n) ⊎ Readied w m (inc_of t.view.members m) t.view.number
    pub readies : (k : ℕ) (p : Sent) → slice_get (sent es) k ≡ Some p → p.body ≡ Ready → (p.from ≡ n) × (p.view ≡ t.view.number) × (joining.is_ready t ≡ true)
    pub opens : (k : ℕ) (p : Sent) → slice_get (sent es) k ≡ Some p → p.body ≡ OpenView → (p.view ≡ t.view.number) × (joining.locks t ≡ true) × (joining.is_open t ≡ true)

  readied_put : (w u : World M) (n : ℕ) (x : NodeState M) (o : Option (NodeState M)) → w.nodes n ≡ Some x → u.nodes ≡ put w.nodes n o → u.starts ≡ w.starts → ((y : NodeState M) → o ≡ Some y → (y.join.inc ≡ x.join.inc) × (x.join.view.number ≤ y.join.view.number) × (y.join.view.number ≡ x.join.view.number → joining.is_ready x.join ≡ true → joining.is_ready y.join ≡ true)) → (m i v : ℕ) → Readied w m i v → Readied u m i v
  readied_put w u n x o at e st f m i v h = record {
    started = subst (λ (g : ℕ → ℕ). i ≤ g m) (sym st) h.started;
    here = λ z zat zi. ⊎_elim
        (λ (c : (m ≡ n) × (o ≡ Some z)).
        let s = f z c.1 in
        let r = h.here x (ap w.nodes c.0 ∙ at) (sym s.0 ∙ zi) in
        let a : v ≤ x.join.view.number = r.0 in
        let b : x.join.view.number ≤ z.join.view.number = s.1 in
        (omega (arith, a, b), λ q. s.2 (level v x.join.view.number z.join.view.number a b q) (r.1 (low v x.join.view.number z.join.view.number a b q))))
        (λ (c : (m ≢ n) × (w.nodes m ≡ Some z)). h.here z c.1 zi)
        (put_cases w.nodes n o m z ((λ j. sym e j m) ∙ zat));
  }
    where
      level : (v a b : ℕ) → v ≤ a → a ≤ b → b ≡ v → b ≡ a
      level v a b p q r = omega (arith, p, q, r)

      low : (v a b : ℕ) → v ≤ a → a ≤ b → b ≡ v → a ≡ v
      low v a b p q r = omega (arith, p, q, r)

  joined_put : (w u : World M) (n : ℕ) (x : NodeState M) (o : Option (NodeState M)) (es : List Effect) → Invariant u → Joined w → w.nodes n ≡ Some x → u.nodes ≡ put w.nodes n o → u.starts ≡ w.starts → u.chain ≡ w.chain → u.pool ≡ w.pool ++ sent es → ((y : NodeState M) → o ≡ Some y → Good w n x.join y.join es) → (o ≡ None → sent es ≡ []) → Joined u
  joined_put w u n x o es inv j at e st ch pl f stop =
      let R : (m i v : ℕ) → Readied w m i v → Readied u m i v = readied_put w u n x o at e st (λ y q. let g = f y q in (g.inc, g.up, g.stays)) in
      let self : (y : NodeState M) → o ≡ Some y → joining.is_ready y.join ≡ true → (i : ℕ) → i ≤ u.starts n → Readied u n i y.join.view.number = λ y q rd i le. record {
        started = le;
        here = λ z zat zi. ⊎_elim
            (λ (c : (n ≡ n) × (o ≡ Some z)). let a : Some y ≡ Some z = sym q ∙ c.1 in let b : y ≡ z = cc in (let d : y.join.view.number ≡ z.join.view.number = ap (λ (t : NodeState M). t.join.view.number) b in omega (arith, d), λ r. ap (λ (t : NodeState M). joining.is_ready t.join) (sym b) ∙ rd))
            (λ (c : (n ≢ n) × (w.nodes n ≡ Some z)). absurd (c.0 refl))
            (put_cases w.nodes n o n z ((λ k. sym e k n) ∙ zat));
      } in
      let here : (y : NodeState M) → o ≡ Some y → u.nodes n ≡ Some y = λ y q. (λ k. e k n) ∙ self_put n o ∙ q in
      let all : (y : NodeState M) → o ≡ Some y → (m : ℕ) → joining.locks y.join ≡ true → joining.is_open y.join ≡ true → 0 < inc_of y.join.view.members m → Readied u m (inc_of y.join.view.members m) y.join.view.number = λ y q m lk op lt. ⊎_elim
      (λ (c : m ≡ n). subst (λ (a : ℕ). Readied u a (inc_of y.join.view.members a) y.join.view.number) (sym c) (self y q (open_is_ready y.join op) (inc_of y.join.view.members n) (let h : NodeOk u n y = inv.nodes n y (here y q) in let a : inc_of y.join.view.members n ≡ y.join.inc = (h.view (h.local.ready_view (open_is_ready y.join op))).1 in let b : y.join.inc ≡ u.starts n = h.inc in omega (arith, a, b))))
      (λ (c : Readied w m (inc_of y.join.view.members m) y.join.view.number). R m (inc_of y.join.view.members m) y.join.view.number c)
      ((f y q).opened m lk op lt) in
      record {
        entries = λ m z zat. ⊎_elim (λ (c : (m ≡ n) × (o ≡ Some z)). (f z c.1).entries) (λ (c : (m ≢ n) × (w.nodes m ≡ Some z)). j.entries m z c.1) (put_cases w.nodes n o m z ((λ k. sym e k m) ∙ zat));
        closed = λ m z zat. ⊎_elim (λ (c : (m ≡ n) × (o ≡ Some z)). (f z c.1).closed) (λ (c : (m ≢ n) × (w.nodes m ≡ Some z)). j.closed m z c.1) (put_cases w.nodes n o m z ((λ k. sym e k m) ∙ zat));
        marked = λ m z k zat lt mk. R k (inc_of z.join.view.members k) z.join.view.number (⊎_elim (λ (c : (m ≡ n) × (o ≡ Some z)). (f z c.1).marked k lt mk) (λ (c : (m ≢ n) × (w.nodes m ≡ Some z)). j.marked m z k c.1 lt mk) (put_cases w.nodes n o m z ((λ k. sym e k m) ∙ zat)));
        opened = λ m z k zat lk op lt. ⊎_elim (λ (c : (m ≡ n) × (o ≡ Some z)). all z c.1 k lk op lt) (λ (c : (m ≢ n) × (w.nodes m ≡ Some z)). R k (inc_of z.join.view.members k) z.join.view.number (j.opened m z k c.1 lk op lt)) (put_cases w.nodes n o m z ((λ k. sym e k m) ∙ zat));
        readies = λ k p V kat bd vw. ⊎_elim
            (λ (c : slice_get w.pool k ≡ Some p). R p.from (inc_of V.members p.from) p.view (j.readies k p V c bd ((λ i. view_in (sym ch i) p.view) ∙ vw)))
            (λ (c : (a : ℕ) × (slice_get (sent es) a ≡ Some p)). some o (λ none. absurd (nothing_at p c.0 (subst (λ (l : List Sent). slice_get l c.0 ≡ Some p) (stop none) c.1))) (λ y q.
            let g = (f y q).readies c.0 p c.1 bd in
            let le : inc_of V.members p.from ≤ u.starts p.from = inv.chain.started p.view p.from V vw in
            subst (λ (b : ℕ). Readied u p.from (inc_of V.members p.from) b) (sym g.1) (subst (λ (a : ℕ). inc_of V.members p.from ≤ u.starts a → Readied u a (inc_of V.members p.from) y.join.view.number) (sym g.0) (self y q g.2 (inc_of V.members p.from)) le)))
            (slice_get_append w.pool (sent es) k p (ap (λ (l : List Sent). slice_get l k) (sym pl) ∙ kat));
        opens = λ k p V kat bd vw m lt. ⊎_elim
            (λ (c : slice_get w.pool k ≡ Some p). R m (inc_of V.members m) p.view (j.opens k p V c bd ((λ i. view_in (sym ch i) p.view) ∙ vw) m lt))
            (λ (c : (a : ℕ) × (slice_get (sent es) a ≡ Some p)). some o (λ none. absurd (nothing_at p c.0 (subst (λ (l : List Sent). slice_get l c.0 ≡ Some p) (stop none) c.1))) (λ y q.
            let g = (f y q).opens c.0 p c.1 bd in
            let h : NodeOk u n y = inv.nodes n y (here y q) in
            let vv : Some V ≡ Some y.join.view = sym vw ∙ ap (view_in u.chain) g.0 ∙ (h.view (h.local.ready_view (open_is_ready y.join g.2))).0 in
            let same : V ≡ y.join.view = cc in
            subst (λ (b : ℕ). Readied u m (inc_of V.members m) b) (sym g.0) (subst (λ (t : View). Readied u m (inc_of t.members m) y.join.view.number) (sym same) (all y q m g.1 g.2 (subst (λ (t : View). 0 < inc_of t.members m) same lt)))))
            (slice_get_append w.pool (sent es) k p (ap (λ (l : List Sent). slice_get l k) (sym pl) ∙ kat));
      }
    where
      self_put : (n : ℕ) (o : Option (NodeState M)) → put w.nodes n o n ≡ o
      self_put n o = grind arith

      nothing_at : (p : Sent) (k : ℕ) → slice_get [] k ≡ Some p → ⊥
      nothing_at p k e = cc

      some : {A : Type 0} (o : Option (NodeState M)) → (o ≡ None → A) → ((y : NodeState M) → o ≡ Some y → A) → A
      some None f g = f refl
      some (Some y) f g = g y refl

  -- the rules
  record Fine (w : World M) (n : ℕ) (x : NodeState M) (o : Out M) : Type 0 where
    good : (y : NodeState M) → o.node ≡ Some y → Good w n x.join y.join o.effects
    stop : o.node ≡ None → sent o.effects ≡ []

  fine_as : (w : World M) (n : ℕ) (x y : NodeState M) (es : List Effect) → Good w n x.join y.join es → Fine w n x (becomes y es)
  fine_as w n x y es g = record { good = λ z e. let q : y ≡ z = cc in subst (λ (t : NodeState M). Good w n x.join t.join es) q g; stop = λ e. absurd (cc) }

  fine_halts : (w : World M) (n : ℕ) (x : NodeState M) (c : HaltCause) → Fine w n x (halts c)
  fine_halts w n x c = record { good = λ z e. absurd (cc); stop = λ e. refl }

  -- the joining is as before
  good_told : (w : World M) (n : ℕ) (x : NodeState M) (es : List Effect) → Joined w → w.nodes n ≡ Some x → ((k : ℕ) (p : Sent) → slice_get (sent es) k ≡ Some p → p.body ≡ Ready → (p.from ≡ n) × (p.view ≡ x.join.view.number) × (joining.is_ready x.join ≡ true)) → ((k : ℕ) (p : Sent) → slice_get (sent es) k ≡ Some p → p.body ≡ OpenView → (p.view ≡ x.join.view.number) × (joining.locks x.join ≡ true) × (joining.is_open x.join ≡ true)) → Good w n x.join x.join es
  good_told w n x es j at readies opens = record {
    inc = refl;
    up = omega arith;
    stays = λ a b. b;
    entries = j.entries n x at;
    closed = j.closed n x at;
    marked = λ m lt mk. j.marked n x m at lt mk;
    opened = λ m lk op lt. inr (j.opened n x m at lk op lt);
    readies = readies;
    opens = opens;
  }

  good_same : (w : World M) (n : ℕ) (x : NodeState M) (es : List Effect) → Joined w → w.nodes n ≡ Some x → Quiet es → Good w n x.join x.join es
  good_same w n x es j at q = good_told w n x es j at (λ k p e b. absurd ((q k p e).0 b)) (λ k p e b. absurd ((q k p e).1 b))

  -- a rule that leaves the joining as it is
  record Plain (x : NodeState M) (o : Out M) : Type 0 where
    join : (y : NodeState M) → o.node ≡ Some y → y.join ≡ x.join
    quiet : Quiet o.effects
    stop : o.node ≡ None → sent o.effects ≡ []

  plain_acked : (x y : NodeState M) (outcome : Option M.Outcome) (es : List Effect) → y.join ≡ x.join → calm es ≡ true → Plain x (acknowledges y outcome es)
  plain_acked x y outcome es e q = record { join = λ z s. let g : y ≡ z = cc in ap (λ (t : NodeState M). t.join) (sym g) ∙ e; quiet = calm_quiet es q; stop = λ s. absurd (cc) }

  plain_as : (x y : NodeState M) (es : List Effect) → y.join ≡ x.join → calm es ≡ true → Plain x (becomes y es)
  plain_as x y es e q = plain_acked x y None es e q

  plain_halts : (x : NodeState M) (c : HaltCause) → Plain x (halts c)
  plain_halts x c = record { join = λ z e. absurd (cc); quiet = calm_quiet (Halted c ∷ []) refl; stop = λ e. refl }

  plain_fine : (w : World M) (n : ℕ) (x : NodeState M) (o : Out M) → Joined w → w.nodes n ≡ Some x → Plain x o → Fine w n x o
  plain_fine w n x o j at h = record { good = λ y e. subst (λ (t : ReconcileState). Good w n x.join t o.effects) (sym (h.join y e)) (good_same w n x o.effects j at h.quiet); stop = h.stop }

  submit_plain : (x : NodeState M) (u : Update) → Plain x (submit x u)
  submit_plain x u = if_cases (λ (o : Out M). Plain x o) (may_submit x) _ _ (λ g. plain_as x (record x { core = (updating.submitted x.core u).0 }) _ refl (calm_asks (record x { core = (updating.submitted x.core u).0 }) (asked_for (updating.submitted x.core u).1.1))) (λ g. plain_as x x [] refl refl)

  -- what a node that begins tells is quiet
  begins_plain : (y : NodeState M) → Plain y (begins y (updating.opened y.core y.settled))
  begins_plain y = core_opened_cases (λ (t : CoreState × Decision). Plain y (begins y t)) y.core y.settled
      (λ e. plain_as y (record y { core = record y.core { is_open = true } }) [] refl refl)
      (λ some none. plain_as y (record y { core = record y.core { is_open = true } }) _ refl (calm_asks (record y { core = record y.core { is_open = true } }) (Some (y.core.passed + 1))))
      (λ some k set_. plain_acked y (without_head y (updating.finished (record y.core { is_open = true }) k).0) y.outcome _ refl (calm_asks (without_head y (updating.finished (record y.core { is_open = true }) k).0) (if nat_lt 1 (length y.core.queue) then Some (y.core.passed + 2) else None)))

  proceeds_plain : (x : NodeState M) (e : Entry) (place at : ℕ) → Plain x (proceeds x e (updating.spread x.core place at))
  proceeds_plain x e place at = spread_cases (λ (t : CoreState × Decision). Plain x (proceeds x e t)) x.core place at
      (λ none. plain_acked x (without_head x (updating.finished x.core place).0) x.outcome _ refl (calm_asks (without_head x (updating.finished x.core place).0) (if nat_lt 1 (length x.core.queue) then Some (x.core.passed + 2) else None)))
      (λ to there. plain_as x (record x { core = record x.core { spreading = Some (record { place = place; at = at }) }; spreads = Some e }) _ refl refl)

  granted_plain : (x : NodeState M) (e : Entry) → Plain x (on_granted x e)
  granted_plain x e = granted_cases (λ (t : CoreState × Decision). Plain x (proceeds x e t)) x.core e.id.req e.place
      (plain_as x x [] refl refl) (λ a b c d. proceeds_plain x e e.place 0) (λ a b c. plain_as x x _ refl refl)

  applied_plain : (x : NodeState M) (from place : ℕ) → Plain x (on_applied x from place)
  applied_plain x from place = option_cases (λ (o : Out M). Plain x o) x.spreads (nothing x) (λ e. proceeds x e (updating.applied x.core from place))
      (λ none. plain_as x x [] refl refl)
      (λ e has. applied_cases (λ (t : CoreState × Decision). Plain x (proceeds x e t)) x.core from place (plain_as x x [] refl refl) (λ s a b c. proceeds_plain x e place (s.at + 1)))

  apply_plain : (x : NodeState M) (from : ℕ) (e : Entry) → Plain x (on_apply x from e)
  apply_plain x from e = if_cases (λ (o : Out M). Plain x o) (joining.is_ready x.join && not (joining.locks x.join)) _ _
      (λ g. applying_cases (λ (d : Decision). Plain x (applies x from e d)) (done_of x) e.place (λ a. plain_as x (applied e x) _ refl refl) (λ a. plain_as x x _ refl refl) (λ a. plain_as x x [] refl refl))
      (λ g. plain_as x x [] refl refl)

  ask_plain : (x : NodeState M) (from q : ℕ) (u : Update) (held : ℕ) (answer : Answer) → Plain x (on_ask x from q u held answer).out
  ask_plain x from q u held answer = asked_cases (λ (d : Decision). Plain x (answers x u held answer d).out) x.core from q (done_of x)
      (plain_as x x [] refl refl)
      (λ a b c d e. if_cases (λ (l : Logged M). Plain x l.out) (nat_lt (number_of x) held) _ _ (λ f. plain_halts x (halt.Fenced held)) (λ f. by answer))
      (λ a b l c d e. option_cases (λ (o : Out M). Plain x o) x.last (nothing x) (λ t. tells x from (Granted t)) (λ none. plain_as x x [] refl refl) (λ t some. plain_as x x _ refl refl))
    where
      by : (answer : Answer) → let e : Entry = entry_for x from q u in let l : Logged M = elim answer [
        | Written ↦ record { out = tells (has_logged x e) e.id.node (Granted e); appended = Some e; doubtful = None }
        | InDoubt ↦ record { out = halts halt.Disk; appended = None; doubtful = Some e }
        | Unwritten ↦ unlogged (halts halt.Disk)
      ] in Plain x l.out
      by Written = plain_as x (has_logged x (entry_for x from q u)) _ refl refl
      by InDoubt = plain_halts x halt.Disk
      by Unwritten = plain_halts x halt.Disk

  need_plain : (x : NodeState M) (from offset : ℕ) → Plain x (on_need x from offset)
  need_plain x from offset =
      let P : Out M → Type 0 = λ a. Plain x a in
      option_cases P x.replica (nothing x) (λ r. if joining.locks x.join && not (joining.is_open x.join) then sends_piece x from (M.encode r.registry) offset else nothing x)
      (λ none. plain_as x x [] refl refl)
      (λ r some. if_cases P (joining.locks x.join && not (joining.is_open x.join)) _ _
      (λ g. option_cases P (joining.piece_length (length (M.encode r.registry)) offset) (nothing x) (λ c. tells x from (piece (M.encode r.registry) offset c)) (λ none. plain_as x x [] refl refl) (λ c e. plain_as x x _ refl refl))
      (λ g. plain_as x x [] refl refl))

  checkpoint_plain : (x : NodeState M) (held : ℕ) (good : Bool) → Plain x (checkpoint x held good)
  checkpoint_plain x held good =
      let P : Out M → Type 0 = λ a. Plain x a in
      if_cases P (x.core.is_open && updating.locks x.core) _ _
      (λ g. if_cases P (nat_lt (number_of x) held) _ _ (λ f. plain_halts x (halt.Fenced held)) (λ f. if_cases P good _ _ (λ b. plain_as x x [] refl refl) (λ b. plain_halts x halt.Disk)))
      (λ g. plain_as x x [] refl refl)

  stage_good : (w : World M) (n : ℕ) (x : NodeState M) (st : Stage) (es : List Effect) → Joined w → w.nodes n ≡ Some x → joining.is_ready x.join ≡ false → joining.is_ready (record x.join { stage = st }) ≡ false → Quiet es → Good w n x.join (record x.join { stage = st }) es
  stage_good w n x st es j at nx nt q = record {
    inc = refl;
    up = omega arith;
    stays = λ a b. absurd (locker_not (joining.is_ready x.join) b nx);
    entries = j.entries n x at;
    closed = λ a l r. absurd (locker_not (joining.is_ready (record x.join { stage = st })) r nt);
    marked = λ m lt mk. j.marked n x m at lt mk;
    opened = λ m lk op lt. absurd (locker_not (joining.is_ready (record x.join { stage = st })) (open_is_ready (record x.join { stage = st }) op) nt);
    readies = λ k p e b. absurd ((q k p e).0 b);
    opens = λ k p e b. absurd ((q k p e).1 b);
  }

  need_fine : (w : World M) (n : ℕ) (x z : NodeState M) (st : Stage) (to k : ℕ) → Joined w → w.nodes n ≡ Some x → joining.is_ready x.join ≡ false → joining.is_ready (record x.join { stage = st }) ≡ false → z.join ≡ record x.join { stage = st } → Fine w n x (tells z to (Need k))
  need_fine w n x z st to k j at nx nt e = fine_as w n x z (Send (packet z to (Need k)) ∷ []) (subst (λ (t : ReconcileState). Good w n x.join t (Send (packet z to (Need k)) ∷ [])) (sym e) (stage_good w n x st (Send (packet z to (Need k)) ∷ []) j at nx nt (calm_quiet (Send (packet z to (Need k)) ∷ []) refl)))

  says_good : (w : World M) (n : ℕ) (x y : NodeState M) (st : Stage) → Invariant w → Joined w → w.nodes n ≡ Some x → joining.is_ready (record x.join { stage = st }) ≡ true → joining.locks x.join ≡ false → y.join ≡ record x.join { stage = st } → Fine w n x (says_ready y)
  says_good w n x y st inv j at rd nl e = fine_as w n x y (Send (packet y (locker_at y) Ready) ∷ []) (subst (λ (t : ReconcileState). Good w n x.join t (Send (packet y (locker_at y) Ready) ∷ [])) (sym e) (record {
    inc = refl;
    up = omega arith;
    stays = λ a b. rd;
    entries = j.entries n x at;
    closed = λ a l. absurd (locker_not (joining.locks x.join) l nl);
    marked = λ m lt mk. j.marked n x m at lt mk;
    opened = λ m lk. absurd (locker_not (joining.locks x.join) lk nl);
    readies = λ k p g b. one k p g;
    opens = λ k p g b. absurd (other k p g b);
  }))
    where
      one : (k : ℕ) (p : Sent) → slice_get (packet y (locker_at y) Ready ∷ []) k ≡ Some p → (p.from ≡ n) × (p.view ≡ x.join.view.number) × (joining.is_ready (record x.join { stage = st }) ≡ true)
      one zero p g = let q : packet y (locker_at y) Ready ≡ p = cc in
          (ap (λ (t : Sent). t.from) (sym q) ∙ ap (λ (t : ReconcileState). t.node) e ∙ (inv.nodes n x at).local.node, ap (λ (t : Sent). t.view) (sym q) ∙ ap (λ (t : ReconcileState). t.view.number) e, rd)
      one (suc k) p g = absurd (cc)

      other : (k : ℕ) (p : Sent) → slice_get (packet y (locker_at y) Ready ∷ []) k ≡ Some p → p.body ≡ OpenView → ⊥
      other zero p g b = let q : packet y (locker_at y) Ready ≡ p = cc in let c : Ready ≡ OpenView = ap (λ (t : Sent). t.body) q ∙ b in cc
      other (suc k) p g b = absurd (cc)

  offer_fine : (w : World M) (n : ℕ) (x : NodeState M) (from : ℕ) (o : Offering) → Invariant w → Joined w → w.nodes n ≡ Some x → Fine w n x (on_offer x from o)
  offer_fine w n x from o inv j at =
      let P : Out M → Type 0 = λ a. Fine w n x a in
      let still : P (nothing x) = plain_fine w n x (nothing x) j at (plain_as x x [] refl refl) in
      if_cases P (nat_eq from (locker_at x) && not (joining.locks x.join)) _ _
      (λ g.
      let nl : joining.locks x.join ≡ false = not_true (joining.locks x.join) (and_true (nat_eq from (locker_at x)) (not (joining.locks x.join)) g).1 in
      if_cases P (joining.is_ready x.join) _ _
      (λ rd. says_good w n x x x.join.stage inv j at rd nl refl)
      (λ nr. offered_cases (λ (r : ReconcileState × Step). P (follows x o r)) x.join o.count (place_of o.last) (known_done x)
      (λ z. still)
      (λ z rd. absurd (locker_not (joining.is_ready x.join) rd nr))
      (λ z r all. becomes_ready_cases (λ (r : ReconcileState × Step). P (follows x o r)) x.join
      (λ a. still)
      (λ a. says_good w n x (joined x o.count o.last (record x.join { stage = stage.Ready })) stage.Ready inv j at refl nl refl))
      (λ z r k a b c. option_cases P o.last (nothing x) (λ e. says_ready (joined (applied e x) o.count o.last (joining.taken (record x.join { stage = stage.Taking }) true).0))
      (λ none. still)
      (λ e some. says_good w n x (joined (applied e x) o.count o.last (joining.taken (record x.join { stage = stage.Taking }) true).0) stage.Ready inv j at refl nl (ap (λ (r : ReconcileState × Step). r.0) (taken_ready x.join stage.Taking nl))))
      (λ z r.
      let got : ℕ = unwrap_or (joining.pulled_bytes x.join) 0 in
      let t : ReconcileState = (joining.pulls_on x.join).0 in
      let st : Stage = if joining.locks x.join then stage.Taking else stage.Pulling got in
      if_cases (λ (y : NodeState M). P (tells y (locker_at x) (Need got))) (nat_eq got 0) _ _
      (λ b. need_fine w n x (record x { join = t; offer = Some o; bytes = [] }) st (locker_at x) got j at nr (pulls_unready x.join got) refl)
      (λ b. need_fine w n x (record x { join = t }) st (locker_at x) got j at nr (pulls_unready x.join got) refl))))
      (λ g. still)

  piece_fine : (w : World M) (n : ℕ) (x : NodeState M) (total offset : ℕ) (bytes : List ℕ) → Invariant w → Joined w → w.nodes n ≡ Some x → Fine w n x (on_piece x total offset bytes)
  piece_fine w n x total offset bytes inv j at =
      let h : NodeOk w n x = inv.nodes n x at in
      let still : Fine w n x (nothing x) = plain_fine w n x (nothing x) j at (plain_as x x [] refl refl) in
      pulled_cases (λ (r : ReconcileState × Step). Fine w n x (gathers x bytes r)) x.join total offset (length bytes)
      still
      (λ e lt. need_fine w n x (record x { join = record x.join { stage = stage.Pulling (offset + length bytes) }; bytes = x.bytes ++ bytes }) (stage.Pulling (offset + length bytes)) (locker_at x) (offset + length bytes) j at (pulling_unready x.join offset e) refl refl)
      (λ e le.
      let nr : joining.is_ready x.join ≡ false = pulling_unready x.join offset e in
      let q = h.prefix.pulled offset e in
      let nl : joining.locks x.join ≡ false = (h.prefix.pull q.0 q.1).4 in
      let s : ReconcileState = record x.join { stage = stage.Taking } in
      option_cases (λ (o : Out M). Fine w n x o) x.offer (nothing x) (λ o. elim (M.decode o.cap (x.bytes ++ bytes)) [
        | Some registry ↦ says_ready (joined (with_replica x registry o.count) o.count o.last (joining.taken s true).0)
        | None ↦ tells (record x { join = (joining.taken s false).0; bytes = [] }) (locker_at x) (Need 0)
      ])
      (λ none. still)
      (λ o some. option_cases (λ (o : Out M). Fine w n x o) (M.decode o.cap (x.bytes ++ bytes)) (tells (record x { join = (joining.taken s false).0; bytes = [] }) (locker_at x) (Need 0)) (λ registry. says_ready (joined (with_replica x registry o.count) o.count o.last (joining.taken s true).0))
      (λ none. need_fine w n x (record x { join = (joining.taken s false).0; bytes = [] }) (if joining.locks x.join then stage.Taking else stage.Pulling 0) (locker_at x) 0 j at nr (pulls_unready x.join 0) refl)
      (λ registry there. says_good w n x (joined (with_replica x registry o.count) o.count o.last (joining.taken s true).0) stage.Ready inv j at refl nl (ap (λ (r : ReconcileState × Step). r.0) (taken_ready x.join stage.Taking nl)))))

  -- a Ready marks its sender; where all count, the view opens
  ready_fine : (w : World M) (n : ℕ) (x : NodeState M) (from : ℕ) → Invariant w → Joined w → w.nodes n ≡ Some x → 0 < inc_of x.join.view.members from → Readied w from (inc_of x.join.view.members from) x.join.view.number → Fine w n x (on_ready x from)
  ready_fine w n x from inv j at pos rf =
      let mk : (m : ℕ) → 0 < inc_of x.join.view.members m → joining.is_marked (joining.marked x.join from) m ≡ true → Readied w m (inc_of x.join.view.members m) x.join.view.number = λ m lt e. ⊎_elim
      (λ (c : m ≡ from). subst (λ (a : ℕ). Readied w a (inc_of x.join.view.members a) x.join.view.number) (sym c) rf)
      (λ (c : joining.is_marked x.join m ≡ true). j.marked n x m at lt c)
      (marked_says x.join from m lt e) in
      let en : length (joining.marked x.join from).ready ≡ length x.join.view.members = length-set x.join.ready (index_of x.join.view.members from) true ∙ j.entries n x at in
      readied_cases (λ (r : ReconcileState × Step). Fine w n x (marks_ready x r)) x.join from
      (λ l. plain_fine w n x (nothing x) j at (plain_as x x [] refl refl))
      (λ l o. again l o)
      (λ l o a.
      let s : ReconcileState = record (joining.marked x.join from) { stage = stage.Open } in
      let z : NodeState M = record x { join = s } in
      let tail : Plain z (begins z (updating.opened z.core z.settled)) = begins_plain z in
      let first : List Effect = Opened z.join.view.number ∷ to_each z OpenView (spread_of z.join.view.members) in
      let opens_ok : (es : List Effect) → Quiet es → Good w n x.join s (first ++ es) = λ es q. record {
        inc = refl;
        up = omega arith;
        stays = λ a b. refl;
        entries = en;
        closed = λ a l r op. absurd (let e : ◌≡◌ {A = Bool} true false = op in cc);
        marked = mk;
        opened = λ m lk op lt. ⊎_elim
            (λ (c : joining.is_marked (joining.marked x.join from) m ≡ true). inr (mk m lt c))
            (λ (c : (nat_eq m x.join.node && joining.is_ready x.join) ≡ true). inl (eq_true m x.join.node (and_true (nat_eq m x.join.node) (joining.is_ready x.join) c).0 ∙ (inv.nodes n x at).local.node))
            (or_either (joining.is_marked (joining.marked x.join from) m) (nat_eq m x.join.node && joining.is_ready x.join) (each_counts (joining.marked x.join from) m (and_true (joining.is_ready (joining.marked x.join from)) (joining.all_counted (joining.marked x.join from)) a).1 lt));
        readies = λ k p e b. absurd (no_ready z (spread_of z.join.view.members) es q k p e b);
        opens = λ k p e b. (in_view z (spread_of z.join.view.members) es q k p e b, l, refl);
      } in
      record {
        good = λ y e. subst (λ (t : ReconcileState). Good w n x.join t (first ++ (begins z (updating.opened z.core z.settled)).effects)) (sym (tail.join y e)) (opens_ok (begins z (updating.opened z.core z.settled)).effects tail.quiet);
        stop = λ e. absurd (runs z e);
      })
      (λ l o a. fine_as w n x (record x { join = joining.marked x.join from }) [] (record {
        inc = refl;
        up = omega arith;
        stays = λ a b. b;
        entries = en;
        closed = λ asc lk rd op. not_all (joining.is_ready (joining.marked x.join from)) (joining.all_counted (joining.marked x.join from)) a rd;
        marked = mk;
        opened = λ m lk op. absurd (locker_not (joining.is_open x.join) op o);
        readies = λ k p e. absurd (cc);
        opens = λ k p e. absurd (cc);
      }))
    where
      again : joining.locks x.join ≡ true → joining.is_open x.join ≡ true → Fine w n x (tells x from OpenView)
      again l o = fine_as w n x x (Send (packet x from OpenView) ∷ []) (good_told w n x (Send (packet x from OpenView) ∷ []) j at (λ k p e b. absurd (only k p e b)) (λ k p e b. (view k p e, l, o)))
        where
          only : (k : ℕ) (p : Sent) → slice_get (packet x from OpenView ∷ []) k ≡ Some p → p.body ≡ Ready → ⊥
          only zero p e b = let q : packet x from OpenView ≡ p = cc in let c : OpenView ≡ Ready = ap (λ (t : Sent). t.body) q ∙ b in cc
          only (suc k) p e b = absurd (cc)

          view : (k : ℕ) (p : Sent) → slice_get (packet x from OpenView ∷ []) k ≡ Some p → p.view ≡ x.join.view.number
          view zero p e = let q : packet x from OpenView ≡ p = cc in ap (λ (t : Sent). t.view) (sym q)
          view (suc k) p e = absurd (cc)

      runs : (z : NodeState M) → (begins z (updating.opened z.core z.settled)).node ≡ None → ⊥
      runs z = core_opened_cases (λ (t : CoreState × Decision). (begins z t).node ≡ None → ⊥) z.core z.settled (λ e h. cc) (λ a b h. cc) (λ a k b h. cc)

      no_ready : (z : NodeState M) (ms : List Member) (es : List Effect) → Quiet es → (k : ℕ) (p : Sent) → slice_get (sent (to_each z OpenView ms ++ es)) k ≡ Some p → p.body ≡ Ready → ⊥
      no_ready z [] es q k p e b = (q k p e).0 b
      no_ready z (m ∷ ms) es q zero p e b = let g : packet z m.node OpenView ≡ p = cc in let c : OpenView ≡ Ready = ap (λ (t : Sent). t.body) g ∙ b in cc
      no_ready z (m ∷ ms) es q (suc k) p e b = no_ready z ms es q k p e b

      in_view : (z : NodeState M) (ms : List Member) (es : List Effect) → Quiet es → (k : ℕ) (p : Sent) → slice_get (sent (to_each z OpenView ms ++ es)) k ≡ Some p → p.body ≡ OpenView → p.view ≡ z.join.view.number
      in_view z [] es q k p e b = absurd ((q k p e).1 b)
      in_view z (m ∷ ms) es q zero p e b = let g : packet z m.node OpenView ≡ p = cc in ap (λ (t : Sent). t.view) (sym g)
      in_view z (m ∷ ms) es q (suc k) p e b = in_view z ms es q k p e b

  open_view_fine : (w : World M) (n : ℕ) (x : NodeState M) (from : ℕ) → Joined w → w.nodes n ≡ Some x → ((m : ℕ) → 0 < inc_of x.join.view.members m → Readied w m (inc_of x.join.view.members m) x.join.view.number) → Fine w n x (on_open_view x from)
  open_view_fine w n x from j at ov =
      let Q : Out M → Type 0 = λ o. Fine w n x o in
      let still : Q (nothing x) = plain_fine w n x (nothing x) j at (plain_as x x [] refl refl) in
      opened_cases (λ (r : ReconcileState × Bool). Q (if nat_eq from (locker_at x) && r.1 then opens (record x { join = r.0 }) else nothing x)) x.join
      (λ rd shut. if_cases Q (nat_eq from (locker_at x) && true) _ _ (λ g.
      let s : ReconcileState = record x.join { stage = stage.Open } in
      let z : NodeState M = record x { join = s } in
      let tail : Plain z (begins z (updating.opened z.core z.settled)) = begins_plain z in
      record {
        good = λ y e. subst (λ (t : ReconcileState). Good w n x.join t (Opened z.join.view.number ∷ (begins z (updating.opened z.core z.settled)).effects)) (sym (tail.join y e)) (record {
          inc = refl;
          up = omega arith;
          stays = λ a b. refl;
          entries = j.entries n x at;
          closed = λ a l r op. absurd (let e : ◌≡◌ {A = Bool} true false = op in cc);
          marked = λ m lt mk. j.marked n x m at lt mk;
          opened = λ m lk op lt. inr (ov m lt);
          readies = λ k p e b. absurd ((tail.quiet k p e).0 b);
          opens = λ k p e b. absurd ((tail.quiet k p e).1 b);
        });
        stop = tail.stop;
      }) (λ g. still))
      (if_cases Q (nat_eq from (locker_at x) && false) _ _ (λ g. absurd (let e : ◌≡◌ {A = Bool} false true = (and_true (nat_eq from (locker_at x)) false g).1 in cc)) (λ g. still))

  head_calm : (x : NodeState M) (d : Decision) → calm (tick_head x d) ≡ true
  head_calm x (decision.Ask req) = calm_asks x (Some req)
  head_calm x (decision.Spread to place) = option_cases (λ (l : List Effect). calm l ≡ true) x.spreads [] (λ e. Send (packet x to (Apply e)) ∷ []) (λ e. refl) (λ a e. refl)
  head_calm x d = refl

  lock_calm : (x : NodeState M) → calm (tick_lock x) ≡ true
  lock_calm x = option_cases (λ (l : List Effect). calm l ≡ true) x.core.lock [] (λ l. elim x.last [ None ↦ [] | Some e ↦ Send (packet x l.node (Granted e)) ∷ [] ]) (λ e. refl)
      (λ l e. option_cases (λ (t : List Effect). calm t ≡ true) x.last [] (λ e. Send (packet x l.node (Granted e)) ∷ []) (λ e. refl) (λ a e. refl))

  each_calm : (x : NodeState M) (c k : ℕ) (last : Option Entry) (ms : List Member) → calm (offer_each x (Offer c k last) ms) ≡ true
  each_calm x c k last [] = refl
  each_calm x c k last (m ∷ ms) = if_cases (λ (l : List Effect). calm l ≡ true) (joining.waits_for x.join m.node) _ _ (λ e. each_calm x c k last ms) (λ e. each_calm x c k last ms)

  join_calm : (x : NodeState M) (s : Step) → (calm (tick_join x s) ≡ true) ⊎ (s ≡ step.Ready)
  join_calm x (step.OfferTo c) = inl (each_calm x (done_of x) (offered_cap x) x.last x.join.view.members)
  join_calm x (step.Pull k) = inl refl
  join_calm x step.Ready = inr refl
  join_calm x s = inl refl

  tick_fine : (w : World M) (n : ℕ) (x : NodeState M) → Invariant w → Joined w → w.nodes n ≡ Some x → Fine w n x (tick x)
  tick_fine w n x inv j at =
      let A : List Effect = tick_head x (updating.ticked x.core) in
      let B : List Effect = tick_lock x in
      let C : List Effect = tick_join x (joining.ticked x.join) in
      ⊎_elim
      (λ (c : calm C ≡ true). plain_fine w n x (tick x) j at (plain_as x x (A ++ (B ++ C)) refl (calm_append A (B ++ C) (head_calm x (updating.ticked x.core)) (calm_append B C (lock_calm x) c))))
      (λ (c : joining.ticked x.join ≡ step.Ready).
      let rd : joining.is_ready x.join ≡ true = says_ready_only x.join c in
      let p0 : Sent = packet x (locker_at x) Ready in
      let cs : C ≡ Send p0 ∷ [] = ap (λ (s : Step). tick_join x s) c in
      let calm_ab : Quiet (A ++ B) = calm_quiet (A ++ B) (calm_append A B (head_calm x (updating.ticked x.core)) (lock_calm x)) in
      let part : (k : ℕ) (p : Sent) → slice_get (sent (A ++ (B ++ C))) k ≡ Some p → ((a : ℕ) × (slice_get (sent (A ++ B)) a ≡ Some p)) ⊎ ((a : ℕ) × (slice_get (p0 ∷ []) a ≡ Some p)) = λ k p e. ⊎_elim
      (λ (h : slice_get (sent (A ++ B)) k ≡ Some p). inl (k, h))
      (λ (h : (a : ℕ) × (slice_get (sent C) a ≡ Some p)). inr (h.0, ap (λ (l : List Effect). slice_get (sent l) h.0) (sym cs) ∙ h.1))
      (slice_get_append (sent (A ++ B)) (sent C) k p (ap (λ (l : List Sent). slice_get l k) (sym (sent_append (A ++ B) C)) ∙ ap (λ (l : List Effect). slice_get (sent l) k) (append_assoc A B C) ∙ e)) in
      fine_as w n x x (A ++ (B ++ C)) (good_told w n x (A ++ (B ++ C)) j at
      (λ k p e b. ⊎_elim (λ (h : (a : ℕ) × (slice_get (sent (A ++ B)) a ≡ Some p)). absurd ((calm_ab h.0 p h.1).0 b)) (λ (h : (a : ℕ) × (slice_get (p0 ∷ []) a ≡ Some p)). (ap (λ (t : Sent). t.from) (sym (one p0 p h.0 h.1)) ∙ (inv.nodes n x at).local.node, ap (λ (t : Sent). t.view) (sym (one p0 p h.0 h.1)), rd)) (part k p e))
      (λ k p e b. ⊎_elim (λ (h : (a : ℕ) × (slice_get (sent (A ++ B)) a ≡ Some p)). absurd ((calm_ab h.0 p h.1).1 b)) (λ (h : (a : ℕ) × (slice_get (p0 ∷ []) a ≡ Some p)). absurd (let c : Ready ≡ OpenView = ap (λ (t : Sent). t.body) (one p0 p h.0 h.1) ∙ b in cc)) (part k p e))))
      (join_calm x (joining.ticked x.join))
    where
      one : (q p : Sent) (k : ℕ) → slice_get (q ∷ []) k ≡ Some p → q ≡ p
      one q p zero e = cc
      one q p (suc k) e = absurd (cc)

  -- a message
  hears_fine : (w : World M) (n : ℕ) (x : NodeState M) (k : ℕ) (p : Sent) (answer : Answer) → Invariant w → Joined w → w.nodes n ≡ Some x → slice_get w.pool k ≡ Some p → p.view ≡ x.join.view.number → 0 < inc_of x.join.view.members p.from → (b : Body) → p.body ≡ b → Fine w n x (receiving.hears x p.from b w.log.held answer).out
  hears_fine w n x k p answer inv j at kat pv pos (Ask q u) e = plain_fine w n x _ j at (ask_plain x p.from q u w.log.held answer)
  hears_fine w n x k p answer inv j at kat pv pos (Granted r) e = plain_fine w n x _ j at (granted_plain x r)
  hears_fine w n x k p answer inv j at kat pv pos (Apply r) e = plain_fine w n x _ j at (apply_plain x p.from r)
  hears_fine w n x k p answer inv j at kat pv pos (Applied a) e = plain_fine w n x _ j at (applied_plain x p.from a)
  hears_fine w n x k p answer inv j at kat pv pos (Release q) e = plain_fine w n x _ j at (plain_as x (record x { core = (updating.released x.core p.from q).0 }) [] refl refl)
  hears_fine w n x k p answer inv j at kat pv pos (Offer c cap last) e = offer_fine w n x p.from (record { count = c; cap = cap; last = last }) inv j at
  hears_fine w n x k p answer inv j at kat pv pos (Need offset) e = plain_fine w n x _ j at (need_plain x p.from offset)
  hears_fine w n x k p answer inv j at kat pv pos (Piece total offset bytes) e = piece_fine w n x total offset bytes inv j at
  hears_fine w n x k p answer inv j at kat pv pos Ready e =
      let h : NodeOk w n x = inv.nodes n x at in
      let vw : view_in w.chain p.view ≡ Some x.join.view = ap (view_in w.chain) pv ∙ (h.view (h.local.peopled p.from pos)).0 in
      ready_fine w n x p.from inv j at pos (subst (λ (a : ℕ). Readied w p.from (inc_of x.join.view.members p.from) a) pv (j.readies k p x.join.view kat e vw))
  hears_fine w n x k p answer inv j at kat pv pos OpenView e =
      let h : NodeOk w n x = inv.nodes n x at in
      let vw : view_in w.chain p.view ≡ Some x.join.view = ap (view_in w.chain) pv ∙ (h.view (h.local.peopled p.from pos)).0 in
      open_view_fine w n x p.from j at (λ m lt. subst (λ (a : ℕ). Readied w m (inc_of x.join.view.members m) a) pv (j.opens k p x.join.view kat e vw m lt))

  -- a view is taken
  enter_good : (w : World M) (n : ℕ) (x : NodeState M) (v : View) (st : Stage) (es : List Effect) → Invariant w → w.nodes n ≡ Some x → x.join.view.number < v.number → Quiet es → let t : ReconcileState = record x.join { view = v; stage = st; ready = replicate (length v.members) false } in (joining.is_open t ≡ true → joining.is_alone t ≡ true) → (joining.is_ready t ≡ true → joining.is_open t ≡ false → joining.is_alone t ≡ false) → Good w n x.join t es
  enter_good w n x v st es inv at up q al na =
      let t : ReconcileState = record x.join { view = v; stage = st; ready = replicate (length v.members) false } in record {
        inc = refl;
        up = omega (arith, up);
        stays = λ e. absurd (let a : v.number ≡ x.join.view.number = e in omega (arith, a, up));
        entries = length-replicate (length v.members) false;
        closed = λ asc lk rd op. uncounted x.join v st asc lk (na rd op);
        marked = λ m lt mk. absurd (locker_not (joining.is_marked t m) mk (none_marked x.join v st (length v.members) m));
        opened = λ m lk op lt. inl (lone v.members x.join.node n m (al op) (inv.nodes n x at).local.node lt);
        readies = λ k p e b. absurd ((q k p e).0 b);
        opens = λ k p e b. absurd ((q k p e).1 b);
      }

  opens_fine : (w : World M) (n : ℕ) (x z : NodeState M) (v : View) → Invariant w → w.nodes n ≡ Some x → x.join.view.number < v.number → z.join ≡ record x.join { view = v; stage = stage.Open; ready = replicate (length v.members) false } → joining.is_alone z.join ≡ true → Fine w n x (opens z)
  opens_fine w n x z v inv at up e al =
      let tail : Plain z (begins z (updating.opened z.core z.settled)) = begins_plain z in record {
        good = λ y s. subst (λ (t : ReconcileState). Good w n x.join t (Opened z.join.view.number ∷ (begins z (updating.opened z.core z.settled)).effects)) (sym (tail.join y s ∙ e)) (enter_good w n x v stage.Open (Opened z.join.view.number ∷ (begins z (updating.opened z.core z.settled)).effects) inv at up (λ k p g. tail.quiet k p g) (λ o. ap joining.is_alone (sym e) ∙ al) (λ r o. absurd (let q : ◌≡◌ {A = Bool} true false = o in cc)));
        stop = tail.stop;
      }

  calm_offers : (x : NodeState M) (c k : ℕ) (last : Option Entry) (ms : List Member) → calm (to_each x (Offer c k last) ms) ≡ true
  calm_offers x c k last [] = refl
  calm_offers x c k last (m ∷ ms) = calm_offers x c k last ms

  goes_fine : (w : World M) (n : ℕ) (x z : NodeState M) (v : View) (o : Offering) (st : Stage) → Invariant w → w.nodes n ≡ Some x → x.join.view.number < v.number → let s : ReconcileState = record x.join { view = v; stage = st; ready = replicate (length v.members) false } in Fine w n x (goes_on (joined z o.count o.last (joining.becomes_ready s).0) o (joining.becomes_ready s).1)
  goes_fine w n x z v o st inv at up =
      let s : ReconcileState = record x.join { view = v; stage = st; ready = replicate (length v.members) false } in
      becomes_ready_cases (λ (r : ReconcileState × Step). Fine w n x (goes_on (joined z o.count o.last r.0) o r.1)) s
      (λ a. opens_fine w n x (joined z o.count o.last (record s { stage = stage.Open })) v inv at up refl a)
      (λ a. let y : NodeState M = joined z o.count o.last (record s { stage = stage.Ready }) in
      let es : List Effect = to_each y (Offer o.count o.cap o.last) (spread_of (members_of y)) in
      fine_as w n x y es (enter_good w n x v stage.Ready es inv at up (calm_quiet es (calm_offers y o.count o.cap o.last (spread_of (members_of y)))) (λ op. absurd (let q : ◌≡◌ {A = Bool} false true = op in cc)) (λ r op. a)))

  recovers_fine : (w : World M) (n : ℕ) (x : NodeState M) (v : View) (cap : ℕ) (order : List Entry) → Invariant w → w.nodes n ≡ Some x → x.join.view.number < v.number → Fine w n x (recovers (taken_view v x) cap order)
  recovers_fine w n x v cap order inv at up =
      let X : NodeState M = taken_view v x in
      let o : Offering = record { count = length order; cap = cap; last = last_of order } in
      let registry : M.Registry = registry_at M cap order (length order) in
      let P : ReconcileState × Step → Type 0 = λ r. Fine w n x (hears_itself X o registry r) in
      offered_cases P X.join o.count (place_of o.last) (done_within X cap)
      (λ z. absurd (let e : v.number ≡ 0 = z in omega (arith, up, e)))
      (λ z rd. absurd (let q : ◌≡◌ {A = Bool} false true = rd in cc))
      (λ z r all. becomes_ready_cases P X.join
      (λ a. opens_fine w n x (joined X o.count o.last (record X.join { stage = stage.Open })) v inv at up refl a)
      (λ a. let y : NodeState M = joined X o.count o.last (record X.join { stage = stage.Ready }) in
      let es : List Effect = to_each y (Offer o.count o.cap o.last) (spread_of (members_of y)) in
      fine_as w n x y es (enter_good w n x v stage.Ready es inv at up (calm_quiet es (calm_offers y o.count o.cap o.last (spread_of (members_of y)))) (λ op. absurd (let q : ◌≡◌ {A = Bool} false true = op in cc)) (λ r op. a))))
      (λ z r q a b c.
      let e = place_is o.last o.count c in
      let taking : ReconcileState = record X.join { stage = stage.Taking } in
      let R : Option Entry → Type 0 = λ t. let u : Out M = elim t [ None ↦ nothing X | Some d ↦ goes_on (joined (applied d X) o.count o.last (joining.taken taking true).0) o (joining.taken taking true).1 ] in Fine w n x u in
      subst R (sym e.1) (goes_fine w n x (applied e.0 X) v o stage.Taking inv at up))
      (λ z r. goes_fine w n x (with_replica X registry o.count) v o (if joining.locks X.join then stage.Taking else stage.Pulling (unwrap_or (joining.pulled_bytes X.join) 0)) inv at up)

  -- worlds with the same messages, in which what was ready is so
  carried : (w u : World M) → Joined w → ((m i v : ℕ) → Readied w m i v → Readied u m i v) → ((n : ℕ) (x : NodeState M) → u.nodes n ≡ Some x → (w.nodes n ≡ Some x) ⊎ (x.join.view.number ≡ 0) × (x.join.view.members ≡ []) × (x.join.ready ≡ [])) → u.pool ≡ w.pool → ((k : ℕ) (p : Sent) (V : View) → slice_get w.pool k ≡ Some p → view_in u.chain p.view ≡ Some V → view_in w.chain p.view ≡ Some V) → Joined u
  carried w u j R f pl vw = record {
    entries = λ n x at. ⊎_elim (λ (h : w.nodes n ≡ Some x). j.entries n x h) (λ (h : (x.join.view.number ≡ 0) × (x.join.view.members ≡ []) × (x.join.ready ≡ [])). ap (λ (l : List Bool). length l) h.2 ∙ ap (λ (l : List Member). length l) (sym h.1)) (f n x at);
    closed = λ n x at asc lk. ⊎_elim (λ (h : w.nodes n ≡ Some x). j.closed n x h asc lk) (λ (h : (x.join.view.number ≡ 0) × (x.join.view.members ≡ []) × (x.join.ready ≡ [])). absurd (no_lock x.join.view.members x.join.node h.1 lk)) (f n x at);
    marked = λ n x m at lt mk. R m (inc_of x.join.view.members m) x.join.view.number (⊎_elim (λ (h : w.nodes n ≡ Some x). j.marked n x m h lt mk) (λ (h : (x.join.view.number ≡ 0) × (x.join.view.members ≡ []) × (x.join.ready ≡ [])). absurd (no_member x.join.view.members m h.1 lt)) (f n x at));
    opened = λ n x m at lk op lt. R m (inc_of x.join.view.members m) x.join.view.number (⊎_elim (λ (h : w.nodes n ≡ Some x). j.opened n x m h lk op lt) (λ (h : (x.join.view.number ≡ 0) × (x.join.view.members ≡ []) × (x.join.ready ≡ [])). absurd (no_member x.join.view.members m h.1 lt)) (f n x at));
    readies = λ k p V kat b v. let k2 : slice_get w.pool k ≡ Some p = ap (λ (l : List Sent). slice_get l k) (sym pl) ∙ kat in R p.from (inc_of V.members p.from) p.view (j.readies k p V k2 b (vw k p V k2 v));
    opens = λ k p V kat b v m lt. let k2 : slice_get w.pool k ≡ Some p = ap (λ (l : List Sent). slice_get l k) (sym pl) ∙ kat in R m (inc_of V.members m) p.view (j.opens k p V k2 b (vw k p V k2 v) m lt);
  }
    where
      no_lock : (ms : List Member) (n : ℕ) → ms ≡ [] → is_locker ms n ≡ true → ⊥
      no_lock [] n e h = let q : ◌≡◌ {A = Bool} false true = h in cc
      no_lock (m ∷ ms) n e h = cc

      no_member : (ms : List Member) (n : ℕ) → ms ≡ [] → 0 < inc_of ms n → ⊥
      no_member [] n e h = omega (arith, h)
      no_member (m ∷ ms) n e h = cc

  joined_stop : (w u : World M) (n : ℕ) → Joined w → u.nodes ≡ put w.nodes n None → u.starts ≡ w.starts → u.chain ≡ w.chain → u.pool ≡ w.pool → Joined u
  joined_stop w u n j e st ch pl =
      let old : (m : ℕ) (z : NodeState M) → u.nodes m ≡ Some z → w.nodes m ≡ Some z = λ m z zat. ⊎_elim (λ (c : (m ≡ n) × (None ≡ Some z)). absurd (let q : None ≡ Some z = c.1 in cc)) (λ (c : (m ≢ n) × (w.nodes m ≡ Some z)). c.1) (put_cases w.nodes n None m z ((λ i. sym e i m) ∙ zat)) in
      carried w u j (λ m i v h. record { started = subst (λ (g : ℕ → ℕ). i ≤ g m) (sym st) h.started; here = λ z zat. h.here z (old m z zat) }) (λ m z zat. inl (old m z zat)) pl (λ k p V a b. (λ i. view_in (sym ch i) p.view) ∙ b)

  joined_start : (w : World M) (n : ℕ) → Joined w → w.nodes n ≡ None → Joined (started_world w n)
  joined_start w n j none =
      let u : World M = started_world w n in
      let cs : (m : ℕ) (z : NodeState M) → u.nodes m ≡ Some z → ((m ≡ n) × (Some (fresh M n (w.starts n + 1)) ≡ Some z)) ⊎ ((m ≢ n) × (w.nodes m ≡ Some z)) = λ m z zat. put_cases w.nodes n (Some (fresh M n (w.starts n + 1))) m z zat in
      carried w u j
      (λ m i v h. record {
        started = grows w.starts n m i h.started;
        here = λ z zat zi. ⊎_elim
            (λ (c : (m ≡ n) × (Some (fresh M n (w.starts n + 1)) ≡ Some z)). absurd (let q : fresh M n (w.starts n + 1) ≡ z = let r : Some (fresh M n (w.starts n + 1)) ≡ Some z = c.1 in cc in let a : w.starts n + 1 ≡ i = ap (λ (t : NodeState M). t.join.inc) q ∙ zi in let b : i ≤ w.starts n = subst (λ (k : ℕ). i ≤ w.starts k) c.0 h.started in omega (arith, a, b)))
            (λ (c : (m ≢ n) × (w.nodes m ≡ Some z)). h.here z c.1 zi)
            (cs m z zat);
      })
      (λ m z zat. ⊎_elim
      (λ (c : (m ≡ n) × (Some (fresh M n (w.starts n + 1)) ≡ Some z)). let q : fresh M n (w.starts n + 1) ≡ z = let r : Some (fresh M n (w.starts n + 1)) ≡ Some z = c.1 in cc in inr (ap (λ (t : NodeState M). t.join.view.number) (sym q), ap (λ (t : NodeState M). t.join.view.members) (sym q), ap (λ (t : NodeState M). t.join.ready) (sym q)))
      (λ (c : (m ≢ n) × (w.nodes m ≡ Some z)). inl c.1)
      (cs m z zat))
      refl (λ k p V a b. b)
    where
      grows : (f : ℕ → ℕ) (n m i : ℕ) → i ≤ f m → i ≤ put f n (f n + 1) m
      grows f n m i h = if_cases (λ (k : ℕ). i ≤ k) (nat_eq m n) (f n + 1) (f m) (λ e. let q : f m ≡ f n = ap f (eq_true m n e) in omega (arith, h, q)) (λ e. h)

  joined_fine : (w u : World M) (n : ℕ) (x : NodeState M) (out : Out M) → Invariant u → Joined w → w.nodes n ≡ Some x → u.nodes ≡ put w.nodes n out.node → u.starts ≡ w.starts → u.chain ≡ w.chain → u.pool ≡ w.pool ++ sent out.effects → Fine w n x out → Joined u
  joined_fine w u n x out inv j at e st ch pl f = joined_put w u n x out.node out.effects inv j at e st ch pl f.good f.stop

  install_joined : (w : World M) (n : ℕ) (x : NodeState M) (v : View) (opening : Opening) → Invariant w → Joined w → w.nodes n ≡ Some x → Invariant (install w n x v opening) → Joined (install w n x v opening)
  install_joined w n x v opening inv j at =
      let P : World M → Type 0 = λ u. Invariant u → Joined u in
      if_cases P (takes_view x v) _ _
      (λ g.
      let up : x.join.view.number < v.number = lt_true x.join.view.number v.number (and_true (nat_lt x.join.view.number v.number) (is_member v.members x.join.node x.join.inc) g).0 in
      if_cases P (is_locker v.members x.join.node) _ _
      (λ lk. if_cases P (nat_lt v.number w.log.held) _ _
      (λ f i. joined_fine w (absorb n (halts (halt.Fenced w.log.held)) w) n x (halts (halt.Fenced w.log.held)) i j at refl refl refl refl (fine_halts w n x (halt.Fenced w.log.held)))
      (λ f. opened opening g up))
      (λ nl. subst (λ (y : NodeState M). P (absorb n (nothing y) w)) (sym (entered_is x v g)) (λ i. joined_fine w (absorb n (nothing (taken_view v x)) w) n x (nothing (taken_view v x)) i j at refl refl refl refl
      (fine_as w n x (taken_view v x) [] (enter_good w n x v stage.Waiting [] inv at up (calm_quiet [] refl) (λ o. absurd (let q : ◌≡◌ {A = Bool} false true = o in cc)) (λ r. absurd (let q : ◌≡◌ {A = Bool} false true = r in cc)))))))
      (λ g i. j)
    where
      opened : (opening : Opening) → takes_view x v ≡ true → x.join.view.number < v.number → let u : World M = elim opening [
        | Recovered found ↦ absorb n (recovers (entered v x) w.log.cap (found_log found w.log).order) (with_log (claimed v.number (found_log found w.log)) w)
        | Refused raised cause ↦ absorb n (halts cause) (with_log (raise raised v.number w.log) w)
      ] in Invariant u → Joined u
      opened (Recovered found) g up = subst (λ (y : NodeState M). Invariant (absorb n (recovers y w.log.cap (found_log found w.log).order) (with_log (claimed v.number (found_log found w.log)) w)) → Joined (absorb n (recovers y w.log.cap (found_log found w.log).order) (with_log (claimed v.number (found_log found w.log)) w))) (sym (entered_is x v g))
          (λ i. joined_fine w _ n x (recovers (taken_view v x) w.log.cap (found_log found w.log).order) i j at refl refl refl refl (recovers_fine w n x v w.log.cap (found_log found w.log).order inv at up))
      opened (Refused raised cause) g up = λ i. joined_fine w (absorb n (halts cause) (with_log (raise raised v.number w.log) w)) n x (halts cause) i j at refl refl refl refl (fine_halts w n x cause)

  joined_branch : (w : World M) (e : Event) → Invariant w → Joined w → Invariant (happens w e) → Joined (happens w e)
  joined_branch w (Start n) inv j = option_cases (λ (u : World M). Invariant u → Joined u) (w.nodes n) (started_world w n) (λ x. w) (λ none i. joined_start w n j none) (λ x some i. j)
  joined_branch w (Declare v) inv j = if_cases (λ (u : World M). Invariant u → Joined u) (may_declare w v) _ _
      (λ g i. carried w (record w { chain = w.chain ++ v ∷ [] }) j (λ m a b h. record { started = h.started; here = h.here }) (λ n x at. inl at) refl (λ k p V kat vw.
      let po = inv.pool k p kat in
      let q : Some po.view ≡ Some V = sym (place_old w.chain v p.view po.view po.declared) ∙ vw in
      let same : po.view ≡ V = cc in
      po.declared ∙ ap (λ (t : View). Some t) same))
      (λ g i. j)
  joined_branch w (Install n v opening) inv j = at_keeps (λ (u : World M). Invariant u → Joined u) w n (λ x. elim (view_in w.chain v) [ None ↦ w | Some u ↦ install w n x u opening ]) (λ i. j)
      (λ x at. option_cases (λ (u : World M). Invariant u → Joined u) (view_in w.chain v) w (λ u. install w n x u opening) (λ none i. j) (λ u some i. install_joined w n x u opening inv j at i))
  joined_branch w (Deliver k answer) inv j = option_cases (λ (u : World M). Invariant u → Joined u) (at_place w.pool k) w (λ p. deliver w p answer) (λ none i. j)
      (λ p some. option_cases (λ (u : World M). Invariant u → Joined u) (w.nodes p.to) w (λ x. absorb p.to (receive x p w.log.held answer).out (logs (number_of x) (receive x p w.log.held answer) w)) (λ none i. j)
      (λ x at i. joined_fine w (absorb p.to (receive x p w.log.held answer).out (logs (number_of x) (receive x p w.log.held answer) w)) p.to x (receive x p w.log.held answer).out i j at refl refl refl refl
      (if_cases (λ (d : Logged M). Fine w p.to x d.out) (receiving.counts x p) _ _
      (λ g. let a = and_true (nat_eq p.view (number_of x)) (nat_lt 0 (inc_of (members_of x) p.from)) g in
      hears_fine w p.to x (k - 1) p answer inv j at (at_get w.pool k p some) (eq_true p.view (number_of x) a.0) (lt_true 0 (inc_of (members_of x) p.from) a.1) p.body refl)
      (λ g. plain_fine w p.to x (nothing x) j at (plain_as x x [] refl refl)))))
  joined_branch w (Submit n u valid) inv j = at_keeps (λ (v : World M). Invariant v → Joined v) w n (λ x. absorb n (submit x u) (noted n x u w)) (λ i. j) (λ x at. if_cases (λ (v : World M). Invariant (absorb n (submit x u) v) → Joined (absorb n (submit x u) v)) (may_submit x) (record w { requests = put w.requests n (put (w.requests n) x.join.inc (w.requests n x.join.inc ++ u ∷ [])) }) w
      (λ g i. joined_fine w _ n x (submit x u) i j at refl refl refl refl (plain_fine w n x (submit x u) j at (submit_plain x u)))
      (λ g i. joined_fine w _ n x (submit x u) i j at refl refl refl refl (plain_fine w n x (submit x u) j at (submit_plain x u))))
  joined_branch w (Read n) inv j = at_keeps (λ (v : World M). Invariant v → Joined v) w n (λ x. if joining.is_open x.join then absorb n (nothing x) (reads n x w) else w) (λ i. j) (λ x at. if_cases (λ (v : World M). Invariant v → Joined v) (joining.is_open x.join) _ _ (λ op i. joined_fine w (absorb n (nothing x) (reads n x w)) n x (nothing x) i j at refl refl refl refl (plain_fine w n x (nothing x) j at (plain_as x x [] refl refl))) (λ op i. j))
  joined_branch w (Tick n) inv j = at_keeps (λ (v : World M). Invariant v → Joined v) w n (λ x. absorb n (tick x) w) (λ i. j) (λ x at i. joined_fine w (absorb n (tick x) w) n x (tick x) i j at refl refl refl refl (tick_fine w n x inv j at))
  joined_branch w (Clock n stamp) inv j = if_cases (λ (v : World M). Invariant v → Joined v) (nat_lt stamp (2 ^ 64)) _ _ (λ g. at_keeps (λ (v : World M). Invariant v → Joined v) w n (λ x. absorb n (clock x stamp) w) (λ i. j) (λ x at i. joined_fine w (absorb n (clock x stamp) w) n x (clock x stamp) i j at refl refl refl refl (plain_fine w n x (clock x stamp) j at (plain_as x (record x { stamp = stamp }) [] refl refl)))) (λ g i. j)
  joined_branch w (Checkpoint n good) inv j = at_keeps (λ (v : World M). Invariant v → Joined v) w n (λ x. absorb n (checkpoint x w.log.held good) w) (λ i. j) (λ x at i. joined_fine w (absorb n (checkpoint x w.log.held good) w) n x (checkpoint x w.log.held good) i j at refl refl refl refl (plain_fine w n x (checkpoint x w.log.held good) j at (checkpoint_plain x w.log.held good)))
  joined_branch w (Die n) inv j = λ i. joined_stop w (stopped n w) n j refl refl refl refl
  joined_branch w (DieInDeliver k answer) inv j = option_cases (λ (u : World M). Invariant u → Joined u) (at_place w.pool k) w (λ p. die_in_deliver w p answer) (λ none i. j)
      (λ p some. option_cases (λ (u : World M). Invariant u → Joined u) (w.nodes p.to) w (λ x. stopped p.to (with_log (leave (written (receive x p w.log.held answer)) (number_of x) w.log) w)) (λ none i. j)
      (λ x at i. joined_stop w (stopped p.to (with_log (leave (written (receive x p w.log.held answer)) (number_of x) w.log) w)) p.to j refl refl refl refl))
  joined_branch w (DieInInstall n v raised) inv j = at_keeps (λ (u : World M). Invariant u → Joined u) w n (λ x. elim (view_in w.chain v) [ None ↦ w | Some u ↦ die_in_install w n x u raised ]) (λ i. j)
      (λ x at. option_cases (λ (u : World M). Invariant u → Joined u) (view_in w.chain v) w (λ u. die_in_install w n x u raised) (λ none i. j) (λ u some i. joined_stop w (die_in_install w n x u raised) n j refl refl refl refl))

  pub joined_keep : (w : World M) (e : Event) → Invariant w → Invariant (happens w e) → Joined w → Joined (happens w e)
  joined_keep w e inv after j = joined_branch w e inv j after
