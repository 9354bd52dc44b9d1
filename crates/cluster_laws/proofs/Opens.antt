-- A view whose locker is open opens at each member.
use Rattle.std.proofs.Common.{unwrap_or, ◌≡◌, ◌≢◌, ◌⊎◌, inl, inr, ⊎_elim, ℕ, zero, suc, ◌+◌, ◌<◌, ◌≤◌, Bool, true, false, not, ◌&&◌, List, [], ◌∷◌, ◌++◌, length, drop, Option, Some, None, nat_eq, nat_lt, if◌then◌else◌, slice_get, refl, sym, ap, ◌∙◌, subst, arith, ◌-◌, min, take, length-take, length-drop, take-add, take_all}
use Rattle.std.specs.List.{list_all}
use Rattle.std.specs.Prelude.{count_by, filter}
use Rattle.std.proofs.lemmas.List.Sums.{length-filter}
use Rattle.gum_messages.specs.declared.member.Member.{Member}
use Rattle.gum_messages.specs.declared.view.View.{View}
use Rattle.gum_messages.specs.Members.{inc_of, is_locker, locker_of, spread_of}
use Rattle.gum_messages.specs.Views.{Ascend}
use Rattle.gum_messages.proofs.Branches.{if_cases}
use Rattle.gum_messages.specs.declared.body.Body.{Body}
use Rattle.gum_messages.specs.Messages.{Sent}
use Rattle.gum_messages.specs.declared.body.Body.TheVariants.{OpenView, Ready, Need, Offer, Piece}
use Rattle.gum_messages.proofs.Beside.{entry_kept, entry_set}
use Rattle.update_records.specs.declared.update.Update.{Update}
use Rattle.update_records.specs.Grammar.{last_place}
use Rattle.update_records.specs.Entry.{Entry}
use Rattle.gum_core.specs.declared.decision.Decision.{Decision}
use Rattle.gum_core.specs.Updating.{CoreState}
use Rattle.gum_core.specs.Updating as updating
use Rattle.gum_core.proofs.Cases.{opened_cases as core_opened_cases}
use Rattle.view_reconcile.specs.declared.stage.Stage.{Stage}
use Rattle.view_reconcile.specs.declared.stage.Stage.TheVariants as stage
use Rattle.view_reconcile.specs.declared.step.Step.{Step}
use Rattle.view_reconcile.specs.declared.step.Step.TheVariants as step
use Rattle.view_reconcile.specs.Joining.{ReconcileState}
use Rattle.view_reconcile.specs.Joining as joining
use Rattle.view_reconcile.proofs.Cases.{becomes_ready_cases, offered_cases, readied_cases}
use Rattle.cluster_rules.specs.Machines.{Machine, IsMachine, registry_at}
use Rattle.cluster_rules.specs.declared.effect.Effect.{Effect}
use Rattle.cluster_rules.specs.declared.effect.Effect.TheVariants.{Opened, Send}
use Rattle.cluster_rules.specs.Nodes.{NodeState, Out, acknowledges, after, becomes, locker_at, nothing, packet, tells, Replica, done_of, members_of, place_of, to_each}
use Rattle.cluster_rules.specs.Updates.{Written, begins, opens, tick_head, tick_lock, unlogged, applied}
use Rattle.cluster_rules.specs.Joins.{marks_ready, on_open_view, on_ready, tick_join, follows, gathers, joined, known_done, offer_each, offered_cap, on_need, on_piece, piece, says_ready, sends_piece, takes_state, with_replica}
use Rattle.cluster_rules.specs.Receiving.{hears, receive, tick}
use Rattle.cluster_rules.specs.Worlds.{Deliver, Event, Log, Tick, World, absorb, happens, put, sent}
use Rattle.cluster_rules.specs.Progress.{Leads, Runs, goes_on, queue_at, Served, has_room, waiting}
use Rattle.cluster_rules.specs.declared.offering.Offering.{Offering}
use Rattle.cluster_laws.proofs.Propagation.{near_to, Near, near_self, above, at_back, counts_true, first_sent, locker_locks, mail, near_turned, sends, shown_at}
use Rattle.cluster_laws.proofs.Leading.{move_to, turned_to, Held, Stand, move, leads_now, leads_then, put_self, shown, shown_same, still_is, tick_is, turned}
use Rattle.cluster_laws.proofs.Guards.{both, eq_is, le_is, lt_is, or_either, or_left, or_right}
use Rattle.cluster_laws.proofs.Applying.{lt_false, eq_true, lt_true, done_at, locker_not, state_of}
use Rattle.cluster_laws.proofs.Joined.{Joined}
use Rattle.cluster_laws.proofs.Inv.{Invariant, NodeOk, state_bytes}
use Rattle.cluster_laws.proofs.Queues.{open_served, waiting_le}
use Rattle.cluster_laws.proofs.Offering.{all_take, has_bytes, place_is, taken_ready}

pub ready_stage : (s : ReconcileState) → joining.is_ready s ≡ true → joining.pulled_bytes s ≡ None
ready_stage s h = by s.stage h
  where
    by : (t : Stage) → (elim t [ stage.Ready ↦ true | stage.Open ↦ true | _ ↦ false ]) ≡ true → ◌≡◌ {A = Option ℕ} (elim t [ stage.Pulling got ↦ Some got | _ ↦ None ]) None
    by stage.Waiting h = refl
    by (stage.Pulling got) h = absurd (let e : ◌≡◌ {A = Bool} false true = h in cc)
    by stage.Taking h = refl
    by stage.Ready h = refl
    by stage.Open h = refl

drop_shorter : (q : List Update) → length (drop 1 q) ≤ length q
drop_shorter [] = omega arith
drop_shorter (u ∷ us) = omega arith

member_at : (ms : List Member) (n : ℕ) → 0 < inc_of ms n → (j : ℕ) × (t : Member) × (slice_get ms j ≡ Some t) × (t.node ≡ n)
member_at [] n h = absurd (omega (arith, h))
member_at (m ∷ ms) n h = elim (nat_eq m.node n) as (λ (b : Bool). nat_eq m.node n ≡ b → 0 < (if b then m.inc else inc_of ms n) → (j : ℕ) × (t : Member) × (slice_get (m ∷ ms) j ≡ Some t) × (t.node ≡ n)) [
  | true ↦ λ e g. (0, m, refl, eq_true m.node n e)
  | false ↦ λ e g. let r : (j : ℕ) × (t : Member) × (slice_get ms j ≡ Some t) × (t.node ≡ n) = member_at ms n g in (suc r.0, r.1, r.2, r.3)
] refl h

piece_size : (l : List ℕ) (got c : ℕ) → c ≤ length l - got → length (take c (drop got l)) ≡ c
piece_size l got c h = simp (length-take, length-drop) (omega (arith, h))

fits_in : (l : List ℕ) (got : ℕ) → length (take got l) ≡ got → got ≤ length l
fits_in l zero e = omega arith
fits_in [] (suc k) e = absurd (omega (arith, e))
fits_in (a ∷ l) (suc k) e = let r = fits_in l k (omega (arith, e)) in omega (arith, r)

zero_view : {n : ℕ} → 1 ≤ n → n ≡ 0 → ⊥
zero_view h e = omega (arith, h, e)

pulling_at : (s : ReconcileState) (got : ℕ) → s.stage ≡ stage.Pulling got → joining.pulled_bytes s ≡ Some got
pulling_at s got e = ap (λ (t : Stage). elim t as (λ _. Option ℕ) [ stage.Pulling got ↦ Some got | _ ↦ None ]) e

filter_pos : (p : Member → Bool) (ms : List Member) (j : ℕ) (t : Member) → slice_get ms j ≡ Some t → p t ≡ true → 0 < length (filter p ms)
filter_pos p [] j t e h = absurd (cc)
filter_pos p (m ∷ ms) zero t e h =
    let q : m ≡ t = cc in
    if_cases (λ (l : List Member). 0 < length l) (p m) _ _ (λ c. omega arith) (λ c. absurd (locker_not (p m) (ap p q ∙ h) c))
filter_pos p (m ∷ ms) (suc j) t e h =
    let r : 0 < length (filter p ms) = filter_pos p ms j t e h in
    if_cases (λ (l : List Member). 0 < length l) (p m) _ _ (λ c. omega arith) (λ c. r)

count_pos : (p : Member → Bool) (ms : List Member) (j : ℕ) (t : Member) → slice_get ms j ≡ Some t → p t ≡ true → 0 < count_by p ms
count_pos p ms j t e h = subst (λ (k : ℕ). 0 < k) (length-filter p ms) (filter_pos p ms j t e h)

each_all : (p : ℕ → Bool) (ms : List Member) → ((j : ℕ) (t : Member) → slice_get ms j ≡ Some t → p t.node ≡ true) → list_all (λ (m : Member). p m.node) ms ≡ true
each_all p [] f = refl
each_all p (m ∷ ms) f = both (p m.node) (list_all (λ (m : Member). p m.node) ms) (f 0 m refl) (each_all p ms (λ j t e. f (suc j) t e))

-- who counted counts on, and who said so counts
counts_marked : (s : ReconcileState) (m : ℕ) → length s.ready ≡ length s.view.members → 0 < inc_of s.view.members m → joining.counts_ready (joining.marked s m) m ≡ true
counts_marked s m en lm = or_left (joining.is_marked (joining.marked s m) m) (nat_eq m s.node && joining.is_ready s) (entry_set s.view.members s.ready m true false en lm)

counts_kept : (s : ReconcileState) (m n : ℕ) → length s.ready ≡ length s.view.members → 0 < inc_of s.view.members m → 0 < inc_of s.view.members n → joining.counts_ready s n ≡ true → joining.counts_ready (joining.marked s m) n ≡ true
counts_kept s m n en lm ln h = elim (nat_eq n m) as (λ (b : Bool). nat_eq n m ≡ b → joining.counts_ready (joining.marked s m) n ≡ true) [
  | true ↦ λ e. ap (λ (a : ℕ). joining.counts_ready (joining.marked s m) a) (eq_true n m e) ∙ counts_marked s m en lm
  | false ↦ λ e. ⊎_elim
      (λ (k : joining.is_marked s n ≡ true). or_left (joining.is_marked (joining.marked s m) n) (nat_eq n s.node && joining.is_ready s) (entry_kept s.view.members s.ready m n true false ln (apart n m e) ∙ k))
      (λ (k : (nat_eq n s.node && joining.is_ready s) ≡ true). or_right (joining.is_marked (joining.marked s m) n) (nat_eq n s.node && joining.is_ready s) k)
      (or_either (joining.is_marked s n) (nat_eq n s.node && joining.is_ready s) h)
] refl
  where
    apart : (a b : ℕ) → nat_eq a b ≡ false → a ≢ b
    apart a b e = grind arith

alone_locks : (s : ReconcileState) → joining.is_alone s ≡ true → joining.locks s ≡ true
alone_locks s h = by s.view.members s.node h
  where
    by : (ms : List Member) (n : ℕ) → (elim ms [ [] ↦ false | m ∷ ms ↦ elim ms [ [] ↦ nat_eq m.node n | _ ↦ false ] ]) ≡ true → is_locker ms n ≡ true
    by [] n h = absurd (let e : ◌≡◌ {A = Bool} false true = h in cc)
    by (m ∷ []) n h = h
    by (m ∷ a ∷ as_) n h = absurd (let e : ◌≡◌ {A = Bool} false true = h in cc)

unequal : (a n : ℕ) → n ≢ a → nat_eq a n ≡ false
unequal a n e = grind arith

other : (ms : List Member) (n : ℕ) → n ≢ locker_of ms → is_locker ms n ≡ false
other [] n e = refl
other (a ∷ as_) n e = unequal a.node n e

module _ {M : Machine} where
  -- in a locker's open view each member that stands in it is ready
  ready_of : (w : World M) (n m : ℕ) (x y : NodeState M) → Invariant w → Joined w → w.nodes n ≡ Some x → w.nodes m ≡ Some y → joining.locks x.join ≡ true → joining.is_open x.join ≡ true → y.join.view ≡ x.join.view → y.join.inc ≡ inc_of x.join.view.members m → joining.is_ready y.join ≡ true
  ready_of w n m x y inv j xat yat lk op vw ic =
      let pos : 0 < inc_of x.join.view.members m = subst (λ (a : ℕ). 0 < a) ic (inv.nodes m y yat).local.positive in
      ((j.opened n x m xat lk op pos).here y yat ic).1 (ap (λ (t : View). t.number) vw)

  abbrev pub open_at : World M → ℕ → Bool
  open_at w n = shown (λ (x : NodeState M). joining.is_open x.join) false (w.nodes n)

  module _ (law : IsMachine M) where
    runs_in : (w : World M) (v : View) (n : ℕ) (x : NodeState M) → Stand w v → 0 < inc_of v.members n → w.nodes n ≡ Some x → Runs w v n x
    runs_in w v n x h lt at =
        let o = h.member n lt in
        let q : Some o.0 ≡ Some x = sym o.1.node ∙ at in
        let same : o.0 ≡ x = cc in
        record { node = at; inc = ap (λ (t : NodeState M). t.join.inc) (sym same) ∙ o.1.inc; view = ap (λ (t : NodeState M). t.join.view) (sym same) ∙ o.1.view }

    heard : (w : World M) (v : View) (x : NodeState M) (m n : ℕ) (b : Body) → Stand w v → 0 < inc_of v.members m → 0 < inc_of v.members n → w.nodes n ≡ Some x → receive x (mail v m n b) w.log.held Written ≡ hears x m b w.log.held Written
    heard w v x m n b h lm ln xat = ap (λ (c : Bool). if c then hears x m b w.log.held Written else unlogged (nothing x)) (counts_true v x m n b (runs_in w v n x h ln xat).view lm)

    ready_tells : (x : NodeState M) → joining.locks x.join ≡ false → joining.is_ready x.join ≡ true → joining.is_open x.join ≡ false → (k : ℕ) × (slice_get (sent (tick x).effects) k ≡ Some (packet x (locker_at x) Ready))
    ready_tells x nl rd shut =
        let A : List Effect = tick_head x (updating.ticked x.core) in
        let B : List Effect = tick_lock x in
        let C : List Effect = tick_join x (joining.ticked x.join) in
        let p : Sent = packet x (locker_at x) Ready in
        let t : joining.ticked x.join ≡ step.Ready =
        ap (λ (b : Bool). if b then (if nat_lt 0 (joining.awaited x.join) then step.OfferTo (joining.awaited x.join) else step.Nothing) else elim (joining.pulled_bytes x.join) [ Some got ↦ step.Pull got | None ↦ if joining.is_ready x.join && not (joining.is_open x.join) then step.Ready else step.Nothing ]) nl
        ∙ ap (λ (o : Option ℕ). elim o [ Some got ↦ step.Pull got | None ↦ if joining.is_ready x.join && not (joining.is_open x.join) then step.Ready else step.Nothing ]) (ready_stage x.join rd)
        ∙ ap (λ (b : Bool). if b then step.Ready else step.Nothing) (both (joining.is_ready x.join) (not (joining.is_open x.join)) rd (ap not shut)) in
        let c : C ≡ Send p ∷ [] = ap (λ (s : Step). tick_join x s) t in
        let b = at_back B C p 0 (first_sent C p c) in
        at_back A (B ++ C) p b.0 b.1

    -- what a node that opens becomes, whatever it tells before
    begins_out : (z : NodeState M) (first : List Effect) → (y : NodeState M) × (es : List Effect) × (outcome : Option M.Outcome) × (after first (begins z (updating.opened z.core z.settled)) ≡ acknowledges y outcome es) × (y.join ≡ z.join) × (length y.core.queue ≤ length z.core.queue)
    begins_out z first = core_opened_cases (λ (r : CoreState × Decision). (y : NodeState M) × (es : List Effect) × (outcome : Option M.Outcome) × (after first (begins z r) ≡ acknowledges y outcome es) × (y.join ≡ z.join) × (length y.core.queue ≤ length z.core.queue)) z.core z.settled
        (λ e. (_, _, _, refl, refl, omega arith))
        (λ some none. (_, _, _, refl, refl, omega arith))
        (λ some k s. (_, _, _, refl, refl, drop_shorter z.core.queue))

    -- One member opens
    pub record Wider (v : View) (w0 : World M) (m : ℕ) (u : World M) : Type 0 where
      pub stand : Stand u v
      pub near : Near w0 u
      pub more : (n : ℕ) → open_at w0 n ≡ true → open_at u n ≡ true
      pub here : open_at u m ≡ true

    pub open_go : (v : View) (w : World M) (m : ℕ) (y : NodeState M) → Stand w v → 0 < inc_of v.members m → 0 < inc_of v.members (locker_of v.members) → open_at w (locker_of v.members) ≡ true → w.nodes m ≡ Some y → joining.is_open y.join ≡ false → Near w w → Leads goes_on w (λ u. Wider v w m u)
    open_go v w m y h lm ll lop yat shut nr =
        let L : ℕ = locker_of v.members in
        let yr = runs_in w v m y h lm yat in
        let yk : NodeOk w m y = h.sound.inv.nodes m y yat in
        let o = h.member L ll in
        let x : NodeState M = o.0 in
        let xat : w.nodes L ≡ Some x = o.1.node in
        let xk : NodeOk w L x = h.sound.inv.nodes L x xat in
        let xop : joining.is_open x.join ≡ true = sym (shown_at (λ (t : NodeState M). joining.is_open t.join) false w L x xat) ∙ lop in
        let lks : joining.locks x.join ≡ true = ap (λ (t : View). is_locker t.members x.join.node) o.1.view ∙ ap (λ (a : ℕ). is_locker v.members a) xk.local.node ∙ locker_locks v.members ll in
        let rd : joining.is_ready y.join ≡ true = ready_of w L m x y h.sound.inv h.sound.joins xat yat lks xop (yr.view ∙ sym o.1.view) (yr.inc ∙ ap (λ (t : View). inc_of t.members m) (sym o.1.view)) in
        let apart : m ≢ L = λ e. false_true (sym shut ∙ sym (shown_at (λ (t : NodeState M). joining.is_open t.join) false w m y yat) ∙ ap (λ (a : ℕ). open_at w a) e ∙ lop) in
        let nlk : joining.locks y.join ≡ false = ap (λ (t : View). is_locker t.members y.join.node) yr.view ∙ ap (λ (a : ℕ). is_locker v.members a) yk.local.node ∙ other v.members m apart in
        let tk = ready_tells y nlk rd shut in
        let es1 : List Effect = (tick y).effects in
        let u1 : World M = turned w w.log m y es1 in
        move law w v (Tick m) m y y es1 (λ u. Wider v w m u) refl h (tick_is w m y yat) yat refl refl
        (λ h1.
        let hd1 : Held u1 (mail v m L Ready) = sends w v w.log m y es1 m (locker_at y) L tk.0 Ready yr.view yk.local.node (ap (λ (t : View). locker_of t.members) yr.view) tk.1 in
        let n1 : Near w u1 = near_turned w w m y y es1 nr yat (omega arith) in
        let x1 : u1.nodes L ≡ Some x = if_cases (λ (t : Option (NodeState M)). t ≡ Some x) (nat_eq L m) _ _ (λ q. absurd (apart (sym (eq_true L m q)))) (λ q. xat) in
        let es2 : List Effect = Send (packet x m OpenView) ∷ [] in
        let ra : joining.readied x.join m ≡ (x.join, step.OpenAgain m) =
        ap (λ (b : Bool). if b then (if joining.is_open x.join then (x.join, step.OpenAgain m) else (if joining.all_ready (joining.marked x.join m) then (record (joining.marked x.join m) { stage = stage.Open }, step.Open) else (joining.marked x.join m, step.Nothing))) else (x.join, step.Nothing)) lks
        ∙ ap (λ (b : Bool). if b then (x.join, step.OpenAgain m) else (if joining.all_ready (joining.marked x.join m) then (record (joining.marked x.join m) { stage = stage.Open }, step.Open) else (joining.marked x.join m, step.Nothing))) xop in
        let u2 : World M = turned u1 u1.log L x es2 in
        move law u1 v (Deliver hd1.at Written) L x x es2 (λ u. Wider v w m u) refl h1 (still_is u1 (mail v m L Ready) x (becomes x es2) hd1 x1 (heard u1 v x m L Ready h1 lm ll x1 ∙ ap (λ (r : ReconcileState × Step). unlogged (marks_ready x r)) ra)) x1 refl refl
        (λ h2.
        let hd2 : Held u2 (mail v L m OpenView) = sends u1 v u1.log L x es2 L m m 0 OpenView o.1.view xk.local.node refl refl in
        let n2 : Near w u2 = near_turned w u1 L x x es2 n1 x1 (omega arith) in
        let y2 : u2.nodes m ≡ Some y = if_cases (λ (t : Option (NodeState M)). t ≡ Some y) (nat_eq m L) _ _ (λ q. absurd (apart (eq_true m L q))) (λ q. put_self w.nodes m (Some y)) in
        let z : NodeState M = record y { join = record y.join { stage = stage.Open } } in
        let op : joining.opened y.join ≡ (record y.join { stage = stage.Open }, true) = ap (λ (b : Bool). if b then (record y.join { stage = stage.Open }, true) else (y.join, false)) (both (joining.is_ready y.join) (not (joining.is_open y.join)) rd (ap not shut)) in
        let ov : on_open_view y L ≡ opens z =
        ap (λ (r : ReconcileState × Bool). if nat_eq L (locker_at y) && r.1 then opens (record y { join = r.0 }) else nothing y) op
        ∙ ap (λ (b : Bool). if b then opens z else nothing y) (both (nat_eq L (locker_at y)) true (eq_is L (locker_at y) (ap (λ (t : View). locker_of t.members) (sym yr.view))) refl) in
        let out = begins_out z (Opened z.join.view.number ∷ []) in
        let t : NodeState M = out.0 in
        let u3 : World M = turned_to u2 u2.log m t out.2 out.1 in
        move_to law u2 v (Deliver hd2.at Written) m y t out.2 out.1 (λ u. Wider v w m u) refl h2 (still_is u2 (mail v L m OpenView) y (acknowledges t out.2 out.1) hd2 y2 (heard u2 v y L m OpenView h2 ll lm y2 ∙ ap (λ (r : Out M). unlogged r) (ov ∙ out.3))) y2 (ap (λ (j : ReconcileState). j.view) out.4) (ap (λ (j : ReconcileState). j.inc) out.4)
        (λ h3.
        let here : open_at u3 m ≡ true = ap (λ (o : Option (NodeState M)). shown (λ (a : NodeState M). joining.is_open a.join) false o) (put_self u2.nodes m (Some t)) ∙ ap joining.is_open out.4 in
        leads_now goes_on u3 (λ u. Wider v w m u) (record {
          stand = h3;
          near = near_to w u2 m y t out.2 out.1 n2 y2 out.5;
          more = λ n e. if_cases (λ (o : Option (NodeState M)). shown (λ (a : NodeState M). joining.is_open a.join) false o ≡ true) (nat_eq n m) _ _
              (λ q. ap joining.is_open out.4)
              (λ q. shown_same (λ (a : NodeState M). joining.is_open a.join) false u1.nodes L x x x1 refl n ∙ shown_same (λ (a : NodeState M). joining.is_open a.join) false w.nodes m y y yat refl n ∙ e);
          here = here;
        }))))
      where
        false_true : false ≡ true → ⊥
        false_true e = cc

    -- Each member of a list opens
    pub record Opens (v : View) (w0 : World M) (ms : List Member) (u : World M) : Type 0 where
      pub stand : Stand u v
      pub near : Near w0 u
      pub more : (n : ℕ) → open_at w0 n ≡ true → open_at u n ≡ true
      pub all : (j : ℕ) (t : Member) → slice_get ms j ≡ Some t → open_at u t.node ≡ true

    near_near : (w t u : World M) → Near w t → Near t u → Near w u
    near_near w t u h g = record { log = g.log ∙ h.log; requests = g.requests ∙ h.requests; fewer = λ n. let a : queue_at t n ≤ queue_at w n = h.fewer n in let b : queue_at u n ≤ queue_at t n = g.fewer n in omega (arith, a, b) }

    open_one : (v : View) (w : World M) (m : ℕ) → Stand w v → 0 < inc_of v.members m → 0 < inc_of v.members (locker_of v.members) → open_at w (locker_of v.members) ≡ true → Leads goes_on w (λ u. Wider v w m u)
    open_one v w m h lm ll lop =
        let o = h.member m lm in
        let at : open_at w m ≡ joining.is_open o.0.join = shown_at (λ (t : NodeState M). joining.is_open t.join) false w m o.0 o.1.node in
        elim (joining.is_open o.0.join) as (λ (b : Bool). joining.is_open o.0.join ≡ b → Leads goes_on w (λ u. Wider v w m u)) [
          | true ↦ λ e. leads_now goes_on w (λ u. Wider v w m u) (record { stand = h; near = near_self w; more = λ n g. g; here = at ∙ e })
          | false ↦ λ e. open_go v w m o.0 h lm ll lop o.1.node e (near_self w)
        ] refl

    pub open_all : (ms : List Member) (v : View) (w : World M) → ((j : ℕ) (t : Member) → slice_get ms j ≡ Some t → 0 < inc_of v.members t.node) → Stand w v → 0 < inc_of v.members (locker_of v.members) → open_at w (locker_of v.members) ≡ true → Leads goes_on w (λ u. Opens v w ms u)
    open_all [] v w f h ll lop = leads_now goes_on w (λ u. Opens v w [] u) (record { stand = h; near = near_self w; more = λ n g. g; all = λ j t e. absurd (cc) })
    open_all (m ∷ ms) v w f h ll lop =
        leads_then goes_on w (λ u. Wider v w m.node u) (λ u. Opens v w (m ∷ ms) u) (open_one v w m.node h (f 0 m refl) ll lop) (λ t a.
        leads_then goes_on t (λ u. Opens v t ms u) (λ u. Opens v w (m ∷ ms) u) (open_all ms v t (λ j b e. f (suc j) b e) a.stand ll (a.more (locker_of v.members) lop)) (λ u b.
        leads_now goes_on u (λ u. Opens v w (m ∷ ms) u) (record {
          stand = b.stand;
          near = near_near w t u a.near b.near;
          more = λ n g. b.more n (a.more n g);
          all = cover t u a.here b.more b.all;
        })))
      where
        cover : (t u : World M) → open_at t m.node ≡ true → ((n : ℕ) → open_at t n ≡ true → open_at u n ≡ true) → ((j : ℕ) (b : Member) → slice_get ms j ≡ Some b → open_at u b.node ≡ true) → (j : ℕ) (b : Member) → slice_get (m ∷ ms) j ≡ Some b → open_at u b.node ≡ true
        cover t u x y z zero b e = let q : m ≡ b = cc in subst (λ (c : Member). open_at u c.node ≡ true) q (y m.node x)
        cover t u x y z (suc j) b e = z j b e

    -- From a view that stands with an open locker, deliveries and ticks alone serve each request
    pub locker_open_served : (v : View) (w : World M) → Stand w v → 0 < inc_of v.members (locker_of v.members) → open_at w (locker_of v.members) ≡ true → has_room w v → Leads goes_on w (λ t. Served t v)
    locker_open_served v w h ll lop room =
        leads_then goes_on w (λ u. Opens v w v.members u) (λ t. Served t v) (open_all v.members v w (λ j t e. (above 0 v.members j t h.shape.ascending e).1) h ll lop) (λ u o.
        let le : waiting u v.members ≤ waiting w v.members = waiting_le w u v.members o.near.fewer in
        let od : length u.log.order ≡ length w.log.order = ap (λ (g : Log). length g.order) o.near.log in
        let rm : length w.log.order + waiting w v.members ≤ last_place = room in
        open_served law v u (record { stand = o.stand; open_ = λ n x lt at. let r = member_at v.members n lt in sym (shown_at (λ (t : NodeState M). joining.is_open t.join) false u n x at) ∙ ap (λ (a : ℕ). open_at u a) (sym r.3) ∙ o.all r.0 r.1 r.2 })
        ll (omega (arith, le, od, rm)))

    -- A member becomes ready: the others stay as they are, and its Ready is on its way
    pub record Told (v : View) (w0 : World M) (m : ℕ) (x : NodeState M) (u : World M) : Type 0 where
      pub stand : Stand u v
      pub near : Near w0 u
      pub locker : u.nodes (locker_of v.members) ≡ Some x
      pub ready : Held u (mail v m (locker_of v.members) Ready)

    put_other : (g : ℕ → Option (NodeState M)) (n k : ℕ) (o : Option (NodeState M)) (x : NodeState M) → (k ≡ n → ⊥) → g k ≡ Some x → put g n o k ≡ Some x
    put_other g n k o x a e = if_cases (λ (t : Option (NodeState M)). t ≡ Some x) (nat_eq k n) _ _ (λ q. absurd (a (eq_true k n q))) (λ q. e)

    told_go : (v : View) (w0 w : World M) (m : ℕ) (y z : NodeState M) (x : NodeState M) (e : Event) → Stand w v → Near w0 w → goes_on e ≡ true → 0 < inc_of v.members m → (locker_of v.members ≡ m → ⊥) → w.nodes (locker_of v.members) ≡ Some x → w.nodes m ≡ Some y → happens w e ≡ absorb m (says_ready z) w → z.join.view ≡ y.join.view → z.join.inc ≡ y.join.inc → z.join.node ≡ y.join.node → length z.core.queue ≤ length y.core.queue → Leads goes_on w (λ u. Told v w0 m x u)
    told_go v w0 w m y z x e h nr g lm apart xat yat ev zv zi zn le =
        let yr = runs_in w v m y h lm yat in
        let yk : NodeOk w m y = h.sound.inv.nodes m y yat in
        let es : List Effect = Send (packet z (locker_at z) Ready) ∷ [] in
        let u : World M = turned w w.log m z es in
        move law w v e m y z es (λ u. Told v w0 m x u) g h ev yat zv zi (λ h1.
        leads_now goes_on u (λ u. Told v w0 m x u) (record {
          stand = h1;
          near = near_turned w0 w m y z es nr yat le;
          locker = put_other w.nodes m (locker_of v.members) (Some z) x apart xat;
          ready = sends w v w.log m z es m (locker_at z) (locker_of v.members) 0 Ready (zv ∙ yr.view) (zn ∙ yk.local.node) (ap (λ (t : View). locker_of t.members) (zv ∙ yr.view)) refl;
        }))

    -- the state that the locker sends is the one that was offered
    state_sent : (v : View) (w : World M) (m : ℕ) (x y : NodeState M) (r : Replica M) (o : Offering) → Stand w v → 0 < inc_of v.members m → 0 < inc_of v.members (locker_of v.members) → w.nodes (locker_of v.members) ≡ Some x → joining.is_open x.join ≡ false → x.replica ≡ Some r → w.nodes m ≡ Some y → y.offer ≡ Some o → M.encode r.registry ≡ state_bytes w o.count
    state_sent v w m x y r o h lm ll xat shut rep yat of =
        let L : ℕ = locker_of v.members in
        let xr = runs_in w v L x h ll xat in
        let yr = runs_in w v m y h lm yat in
        let xk : NodeOk w L x = h.sound.inv.nodes L x xat in
        let p = (h.sound.inv.nodes m y yat).prefix.pull o of in
        let lks : joining.locks x.join ≡ true = ap (λ (t : View). is_locker t.members x.join.node) xr.view ∙ ap (λ (a : ℕ). is_locker v.members a) xk.local.node ∙ locker_locks v.members ll in
        let rd : joining.is_ready x.join ≡ true = h.sound.lockers L x xat lks (λ e. zero_view (h.shape.numbered) (ap (λ (t : View). t.number) (sym xr.view) ∙ e)) in
        let ct : Some (done_of x) ≡ Some o.count = sym (xk.prefix.closed rd lks shut) ∙ ap w.log.count (ap (λ (t : View). t.number) (xr.view ∙ sym yr.view)) ∙ p.1 in
        let dn : done_of x ≡ o.count = cc in
        ap M.encode (xk.prefix.registry r rep ∙ ap (registry_at M w.log.cap w.log.order) (sym (done_at x r rep) ∙ dn))

    -- one piece
    pull_step : (v : View) (w0 w : World M) (m : ℕ) (x y : NodeState M) (got : ℕ) (r : Replica M) → Stand w v → Near w0 w → 0 < inc_of v.members m → 0 < inc_of v.members (locker_of v.members) → (locker_of v.members ≡ m → ⊥) → w.nodes (locker_of v.members) ≡ Some x → joining.is_open x.join ≡ false → x.replica ≡ Some r → w.nodes m ≡ Some y → y.join.stage ≡ stage.Pulling got → got ≤ length (M.encode r.registry) → Held w (mail v m (locker_of v.members) (Need got))
        → ((u : World M) (z : NodeState M) (c : ℕ) → 0 < c → got + c < length (M.encode r.registry) → Stand u v → Near w0 u → u.nodes (locker_of v.members) ≡ Some x → u.nodes m ≡ Some z → z.join.stage ≡ stage.Pulling (got + c) → Held u (mail v m (locker_of v.members) (Need (got + c))) → Leads goes_on u (λ t. Told v w0 m x t))
        → Leads goes_on w (λ u. Told v w0 m x u)
    pull_step v w0 w m x y got r h nr lm ll apart xat shut rep yat sg fit hd again =
        let L : ℕ = locker_of v.members in
        let S : List ℕ = M.encode r.registry in
        let total : ℕ = length S in
        let c : ℕ = min 4096 (total - got) in
        let bs : List ℕ = take c (drop got S) in
        let xr = runs_in w v L x h ll xat in
        let xk : NodeOk w L x = h.sound.inv.nodes L x xat in
        let lks : joining.locks x.join ≡ true = ap (λ (t : View). is_locker t.members x.join.node) xr.view ∙ ap (λ (a : ℕ). is_locker v.members a) xk.local.node ∙ locker_locks v.members ll in
        let F : Option ℕ → Out M = λ o. elim o [ None ↦ nothing x | Some count ↦ tells x m (piece S got count) ] in
        let nd : on_need x m got ≡ tells x m (Piece total got bs) =
        ap (λ (o : Option (Replica M)). elim o [ None ↦ nothing x | Some r ↦ if joining.locks x.join && not (joining.is_open x.join) then sends_piece x m (M.encode r.registry) got else nothing x ]) rep
        ∙ ap (λ (b : Bool). if b then sends_piece x m S got else nothing x) (both (joining.locks x.join) (not (joining.is_open x.join)) lks (ap not shut))
        ∙ ap (λ (b : Bool). F (if b then Some (min 4096 (total - got)) else None)) (le_is got total fit) in
        let es1 : List Effect = Send (packet x m (Piece total got bs)) ∷ [] in
        let u1 : World M = turned w w.log L x es1 in
        move law w v (Deliver hd.at Written) L x x es1 (λ u. Told v w0 m x u) refl h (still_is w (mail v m L (Need got)) x (becomes x es1) hd xat (heard w v x m L (Need got) h lm ll xat ∙ ap (λ (o : Out M). unlogged o) nd)) xat refl refl
        (λ h1.
        let hd1 : Held u1 (mail v L m (Piece total got bs)) = sends w v w.log L x es1 L m m 0 (Piece total got bs) xr.view xk.local.node refl refl in
        let n1 : Near w0 u1 = near_turned w0 w L x x es1 nr xat (omega arith) in
        let x1 : u1.nodes L ≡ Some x = put_self w.nodes L (Some x) in
        let y1 : u1.nodes m ≡ Some y = put_other w.nodes L m (Some x) y (λ e. apart (sym e)) yat in
        let yr = runs_in u1 v m y h1 lm y1 in
        let yk : NodeOk u1 m y = h1.sound.inv.nodes m y y1 in
        let size : length bs ≡ c = piece_size S got c (omega arith) in
        let big : ReconcileState × Step = (record y.join { stage = stage.Pulling (got + length bs) }, step.Pull (got + length bs)) in
        let end_ : ReconcileState × Step = (record y.join { stage = stage.Taking }, step.Whole) in
        let no : ReconcileState × Step = (y.join, step.Nothing) in
        let G : Option ℕ → ReconcileState × Step = λ o. elim o [ None ↦ no | Some g ↦ if nat_eq got g then (if nat_lt (g + length bs) total then (record y.join { stage = stage.Pulling (g + length bs) }, step.Pull (g + length bs)) else end_) else no ] in
        let H : Bool → ReconcileState × Step = λ b. if b then (if nat_lt (got + length bs) total then big else end_) else no in
        let hp : on_piece y total got bs ≡ gathers y bs (if nat_lt (got + length bs) total then (record y.join { stage = stage.Pulling (got + length bs) }, step.Pull (got + length bs)) else (record y.join { stage = stage.Taking }, step.Whole)) =
        ap (λ (o : Option ℕ). gathers y bs (G o)) (pulling_at y.join got sg) ∙ ap (λ (b : Bool). gathers y bs (H b)) (eq_is got got refl) in
        let ev : happens u1 (Deliver hd1.at Written) ≡ absorb m (on_piece y total got bs) u1 = still_is u1 (mail v L m (Piece total got bs)) y (on_piece y total got bs) hd1 y1 (heard u1 v y L m (Piece total got bs) h1 ll lm y1) in
        if_cases (λ (r : ReconcileState × Step). happens u1 (Deliver hd1.at Written) ≡ absorb m (gathers y bs r) u1 → Leads goes_on u1 (λ t. Told v w0 m x t)) (nat_lt (got + length bs) total) _ _
        (λ lt ev.
        let z : NodeState M = record y { join = record y.join { stage = stage.Pulling (got + length bs) }; bytes = y.bytes ++ bs } in
        let es2 : List Effect = Send (packet z (locker_at y) (Need (got + length bs))) ∷ [] in
        let u2 : World M = turned u1 u1.log m z es2 in
        let few : got + length bs < total = lt_true (got + length bs) total lt in
        move law u1 v (Deliver hd1.at Written) m y z es2 (λ u. Told v w0 m x u) refl h1 ev y1 refl refl (λ h2.
        again u2 z (length bs) (omega (arith, size, few)) few h2 (near_turned w0 u1 m y z es2 n1 y1 (omega arith)) (put_other u1.nodes m L (Some z) x apart x1) (put_self u1.nodes m (Some z)) refl
        (sends u1 v u1.log m z es2 m (locker_at y) L 0 (Need (got + length bs)) yr.view yk.local.node (ap (λ (t : View). locker_of t.members) yr.view) refl)))
        (λ ge ev.
        let q = yk.prefix.pulled got sg in
        let o : Offering = q.0 in
        let p = yk.prefix.pull o q.1 in
        let g : M.Registry = registry_at M u1.log.cap u1.log.order o.count in
        let Se : S ≡ state_bytes u1 o.count = state_sent v u1 m x y r o h1 lm ll x1 shut rep y1 q.1 in
        let le : total ≤ got + length bs = lt_false (got + length bs) total ge in
        let bb : bs ≡ take (length bs) (drop got S) = ap (λ (k : ℕ). take k (drop got S)) (sym size) in
        let all : y.bytes ++ bs ≡ S = (λ i. (q.2 ∙ ap (take got) (sym Se)) i ++ bb i) ∙ sym (take-add got (length bs) S) ∙ take_all (got + length bs) S le in
        let dec : M.decode o.cap (y.bytes ++ bs) ≡ Some g = (λ i. M.decode (p.2 i) ((all ∙ Se) i)) ∙ law.reads_back u1.log.cap (take o.count u1.log.order) h1.sound.fitting.log.is_cap (all_take M.Fits o.count u1.log.order h1.sound.fitting.log.records) in
        let taking : ReconcileState = record y.join { stage = stage.Taking } in
        let z : NodeState M = joined (with_replica y g o.count) o.count o.last (record y.join { stage = stage.Ready }) in
        let ts : takes_state y (y.bytes ++ bs) taking ≡ says_ready z =
        ap (λ (f : Option Offering). elim f [
          | None ↦ nothing y
          | Some o ↦ elim (M.decode o.cap (y.bytes ++ bs)) [
            | Some registry ↦ says_ready (joined (with_replica y registry o.count) o.count o.last (joining.taken taking true).0)
            | None ↦ tells (record y { join = (joining.taken taking false).0; bytes = [] }) (locker_at y) (Need 0)
          ]
        ]) q.1
        ∙ ap (λ (d : Option M.Registry). elim d [
          | Some registry ↦ says_ready (joined (with_replica y registry o.count) o.count o.last (joining.taken taking true).0)
          | None ↦ tells (record y { join = (joining.taken taking false).0; bytes = [] }) (locker_at y) (Need 0)
        ]) dec
        ∙ ap (λ (r : ReconcileState × Step). says_ready (joined (with_replica y g o.count) o.count o.last r.0)) (taken_ready y.join stage.Taking p.4) in
        told_go v w0 u1 m y z x (Deliver hd1.at Written) h1 n1 refl lm apart x1 y1 (ev ∙ ap (λ (o : Out M). absorb m o u1) ts) refl refl refl (omega arith))
        (ev ∙ ap (λ (o : Out M). absorb m o u1) hp))

    -- all pieces
    pull_go : (k : ℕ) (v : View) (w0 w : World M) (m : ℕ) (x y : NodeState M) (got : ℕ) (r : Replica M) → Stand w v → Near w0 w → 0 < inc_of v.members m → 0 < inc_of v.members (locker_of v.members) → (locker_of v.members ≡ m → ⊥) → w.nodes (locker_of v.members) ≡ Some x → joining.is_open x.join ≡ false → x.replica ≡ Some r → w.nodes m ≡ Some y → y.join.stage ≡ stage.Pulling got → got ≤ length (M.encode r.registry) → length (M.encode r.registry) ≤ got + k → Held w (mail v m (locker_of v.members) (Need got)) → Leads goes_on w (λ u. Told v w0 m x u)
    pull_go zero v w0 w m x y got r h nr lm ll apart xat shut rep yat sg fit bound hd = pull_step v w0 w m x y got r h nr lm ll apart xat shut rep yat sg fit hd (λ u z c pos lt. absurd (omega (arith, bound, lt)))
    pull_go (suc k) v w0 w m x y got r h nr lm ll apart xat shut rep yat sg fit bound hd = pull_step v w0 w m x y got r h nr lm ll apart xat shut rep yat sg fit hd (λ u z c pos lt h1 n1 x1 z1 s1 hd1.
        pull_go k v w0 u m x z (got + c) r h1 n1 lm ll apart x1 shut rep z1 s1 (omega (arith, lt)) (omega (arith, bound, pos)) hd1)

    -- the pull begins, or goes on with the bytes that there are
    pull_begins : (v : View) (w0 w : World M) (m : ℕ) (x y z : NodeState M) (got : ℕ) (r : Replica M) (e : Event) → Stand w v → Near w0 w → goes_on e ≡ true → 0 < inc_of v.members m → 0 < inc_of v.members (locker_of v.members) → (locker_of v.members ≡ m → ⊥) → w.nodes (locker_of v.members) ≡ Some x → joining.is_open x.join ≡ false → x.replica ≡ Some r → w.nodes m ≡ Some y → happens w e ≡ absorb m (tells z (locker_at y) (Need got)) w → z.join ≡ record y.join { stage = stage.Pulling got } → z.core ≡ y.core → got ≤ length (M.encode r.registry) → Leads goes_on w (λ u. Told v w0 m x u)
    pull_begins v w0 w m x y z got r e h nr g lm ll apart xat shut rep yat ev zj zc fit =
        let L : ℕ = locker_of v.members in
        let yr = runs_in w v m y h lm yat in
        let yk : NodeOk w m y = h.sound.inv.nodes m y yat in
        let es : List Effect = Send (packet z (locker_at y) (Need got)) ∷ [] in
        let u : World M = turned w w.log m z es in
        let few : length z.core.queue ≤ length y.core.queue = let q : length z.core.queue ≡ length y.core.queue = ap (λ (c : CoreState). length c.queue) zc in omega (arith, q) in
        move law w v e m y z es (λ u. Told v w0 m x u) g h ev yat (ap (λ (t : ReconcileState). t.view) zj) (ap (λ (t : ReconcileState). t.inc) zj) (λ h1.
        pull_go (length (M.encode r.registry)) v w0 u m x z got r h1 (near_turned w0 w m y z es nr yat few) lm ll apart (put_other w.nodes m L (Some z) x apart xat) shut rep (put_self w.nodes m (Some z)) (ap (λ (t : ReconcileState). t.stage) zj) fit (omega arith)
        (sends w v w.log m z es m (locker_at y) L 0 (Need got) (ap (λ (t : ReconcileState). t.view) zj ∙ yr.view) (ap (λ (t : ReconcileState). t.node) zj ∙ yk.local.node) (ap (λ (t : View). locker_of t.members) yr.view) refl))

    each_sent : (x : NodeState M) (b : Body) (ms : List Member) (j : ℕ) (t : Member) → slice_get ms j ≡ Some t → joining.waits_for x.join t.node ≡ true → (k : ℕ) × (slice_get (sent (offer_each x b ms)) k ≡ Some (packet x t.node b))
    each_sent x b [] j t e h = absurd (cc)
    each_sent x b (m ∷ ms) zero t e h =
        let q : m ≡ t = cc in
        let w : joining.waits_for x.join m.node ≡ true = ap (λ (a : Member). joining.waits_for x.join a.node) q ∙ h in
        (0, ap (λ (c : Bool). slice_get (sent (if c then Send (packet x m.node b) ∷ offer_each x b ms else offer_each x b ms)) 0) w ∙ ap (λ (a : Member). Some (packet x a.node b)) q)
    each_sent x b (m ∷ ms) (suc j) t e h =
        let r : (k : ℕ) × (slice_get (sent (offer_each x b ms)) k ≡ Some (packet x t.node b)) = each_sent x b ms j t e h in
        if_cases (λ (l : List Effect). (k : ℕ) × (slice_get (sent l) k ≡ Some (packet x t.node b))) (joining.waits_for x.join m.node) _ _ (λ c. (suc r.0, r.1)) (λ c. r)

    offer_tells : (x : NodeState M) (j : ℕ) (t : Member) → joining.locks x.join ≡ true → slice_get x.join.view.members j ≡ Some t → joining.waits_for x.join t.node ≡ true → (k : ℕ) × (slice_get (sent (tick x).effects) k ≡ Some (packet x t.node (Offer (done_of x) (offered_cap x) x.last)))
    offer_tells x j t lk e wf =
        let A : List Effect = tick_head x (updating.ticked x.core) in
        let B : List Effect = tick_lock x in
        let C : List Effect = tick_join x (joining.ticked x.join) in
        let p : Sent = packet x t.node (Offer (done_of x) (offered_cap x) x.last) in
        let n : ℕ = joining.awaited x.join in
        let pos : 0 < n = count_pos (λ (m : Member). joining.waits_for x.join m.node) x.join.view.members j t e wf in
        let tk : joining.ticked x.join ≡ step.OfferTo n =
        ap (λ (b : Bool). if b then (if nat_lt 0 n then step.OfferTo n else step.Nothing) else elim (joining.pulled_bytes x.join) [ Some got ↦ step.Pull got | None ↦ if joining.is_ready x.join && not (joining.is_open x.join) then step.Ready else step.Nothing ]) lk
        ∙ ap (λ (b : Bool). if b then step.OfferTo n else step.Nothing) (lt_is 0 n pos) in
        let es = each_sent x (Offer (done_of x) (offered_cap x) x.last) x.join.view.members j t e wf in
        let c : slice_get (sent C) es.0 ≡ Some p = ap (λ (s : Step). slice_get (sent (tick_join x s)) es.0) tk ∙ es.1 in
        let b = at_back B C p es.0 c in
        at_back A (B ++ C) p b.0 b.1

    -- A member that the locker waits for becomes ready
    offer_go : (v : View) (w : World M) (m : ℕ) (x : NodeState M) → Stand w v → 0 < inc_of v.members m → 0 < inc_of v.members (locker_of v.members) → w.nodes (locker_of v.members) ≡ Some x → joining.is_open x.join ≡ false → joining.counts_ready x.join m ≡ false → Leads goes_on w (λ u. Told v w m x u)
    offer_go v w m x h lm ll xat shut nc =
        let L : ℕ = locker_of v.members in
        let xr = runs_in w v L x h ll xat in
        let xk : NodeOk w L x = h.sound.inv.nodes L x xat in
        let lks : joining.locks x.join ≡ true = ap (λ (t : View). is_locker t.members x.join.node) xr.view ∙ ap (λ (a : ℕ). is_locker v.members a) xk.local.node ∙ locker_locks v.members ll in
        let rd : joining.is_ready x.join ≡ true = h.sound.lockers L x xat lks (λ e. zero_view (h.shape.numbered) (ap (λ (t : View). t.number) (sym xr.view) ∙ e)) in
        let apart : L ≡ m → ⊥ = λ e. locker_not (joining.counts_ready x.join m) (or_right (joining.is_marked x.join m) (nat_eq m x.join.node && joining.is_ready x.join) (both (nat_eq m x.join.node) (joining.is_ready x.join) (eq_is m x.join.node (sym e ∙ sym xk.local.node)) rd)) nc in
        let ma = member_at v.members m lm in
        let tn : ma.1.node ≡ m = ma.3 in
        let inx : slice_get x.join.view.members ma.0 ≡ Some ma.1 = ap (λ (t : View). slice_get t.members ma.0) xr.view ∙ ma.2 in
        let lmx : 0 < inc_of x.join.view.members m = subst (λ (t : View). 0 < inc_of t.members m) (sym xr.view) lm in
        let wf : joining.waits_for x.join m ≡ true =
        both (joining.locks x.join && not (joining.is_open x.join) && nat_lt 0 (inc_of x.join.view.members m)) (not (joining.counts_ready x.join m))
        (both (joining.locks x.join && not (joining.is_open x.join)) (nat_lt 0 (inc_of x.join.view.members m)) (both (joining.locks x.join) (not (joining.is_open x.join)) lks (ap not shut)) (lt_is 0 (inc_of x.join.view.members m) lmx)) (ap not nc) in
        let tk = offer_tells x ma.0 ma.1 lks inx (ap (λ (a : ℕ). joining.waits_for x.join a) tn ∙ wf) in
        let o : Offering = record { count = done_of x; cap = offered_cap x; last = x.last } in
        let b : Body = Offer (done_of x) (offered_cap x) x.last in
        let es1 : List Effect = (tick x).effects in
        let u1 : World M = turned w w.log L x es1 in
        let rep = state_of x (xk.prefix.ready_state rd).0 in
        let Q : World M → Type 0 = λ u. Told v w m x u in
        move law w v (Tick L) L x x es1 Q refl h (tick_is w L x xat) xat refl refl
        (λ h1.
        let hd1 : Held u1 (mail v L m b) = sends w v w.log L x es1 L ma.1.node m tk.0 b xr.view xk.local.node tn tk.1 in
        let n1 : Near w u1 = near_turned w w L x x es1 (near_self w) xat (omega arith) in
        let x1 : u1.nodes L ≡ Some x = put_self w.nodes L (Some x) in
        let yo = h1.member m lm in
        let y : NodeState M = yo.0 in
        let y1 : u1.nodes m ≡ Some y = yo.1.node in
        let yk : NodeOk u1 m y = h1.sound.inv.nodes m y y1 in
        let nlk : joining.locks y.join ≡ false = ap (λ (t : View). is_locker t.members y.join.node) yo.1.view ∙ ap (λ (a : ℕ). is_locker v.members a) yk.local.node ∙ other v.members m (λ e. apart (sym e)) in
        let e : Event = Deliver hd1.at Written in
        let gd : (nat_eq L (locker_at y) && not (joining.locks y.join)) ≡ true = both (nat_eq L (locker_at y)) (not (joining.locks y.join)) (eq_is L (locker_at y) (ap (λ (t : View). locker_of t.members) (sym yo.1.view))) (ap not nlk) in
        let R : Out M = if joining.is_ready y.join then says_ready y else follows y o (joining.offered y.join o.count (place_of o.last) (known_done y)) in
        let ev : happens u1 e ≡ absorb m R u1 =
        still_is u1 (mail v L m b) y R hd1 y1 (heard u1 v y L m b h1 ll lm y1 ∙ ap (λ (c : Bool). unlogged (if c then R else nothing y)) gd) in
        if_cases (λ (r : Out M). happens u1 e ≡ absorb m r u1 → Leads goes_on u1 Q) (joining.is_ready y.join) _ _
        (λ yrd ev. told_go v w u1 m y y x e h1 n1 refl lm apart x1 y1 ev refl refl refl (omega arith))
        (λ ynr ev.
        offered_cases (λ (r : ReconcileState × Step). happens u1 e ≡ absorb m (follows y o r) u1 → Leads goes_on u1 Q) y.join o.count (place_of o.last) (known_done y)
        (λ z ev. absurd (zero_view (h1.shape.numbered) (ap (λ (t : View). t.number) (sym yo.1.view) ∙ z)))
        (λ nz yrd ev. absurd (locker_not (joining.is_ready y.join) yrd ynr))
        (λ nz nr all ev.
        becomes_ready_cases (λ (r : ReconcileState × Step). happens u1 e ≡ absorb m (follows y o r) u1 → Leads goes_on u1 Q) y.join
        (λ a ev. absurd (locker_not (joining.locks y.join) (alone_locks y.join a) nlk))
        (λ a ev. told_go v w u1 m y (joined y o.count o.last (record y.join { stage = stage.Ready })) x e h1 n1 refl lm apart x1 y1 ev refl refl refl (omega arith)) ev)
        (λ nz nr k kd kc lp ev.
        let pe = place_is o.last o.count lp in
        let tr = taken_ready y.join stage.Taking nlk in
        let z : NodeState M = joined (applied pe.0 y) o.count o.last (record y.join { stage = stage.Ready }) in
        let J : ReconcileState = (joining.taken (record y.join { stage = stage.Taking }) true).0 in
        let fo : follows y o (record y.join { stage = stage.Taking }, step.ApplyLast) ≡ says_ready z =
        ap (λ (l : Option Entry). elim l [ None ↦ nothing y | Some d ↦ says_ready (joined (applied d y) o.count o.last J) ]) pe.1
        ∙ ap (λ (r : ReconcileState × Step). says_ready (joined (applied pe.0 y) o.count o.last r.0)) tr in
        told_go v w u1 m y z x e h1 n1 refl lm apart x1 y1 (ev ∙ ap (λ (r : Out M). absorb m r u1) fo) refl refl refl (omega arith))
        (λ nz nr ev.
        let got : ℕ = unwrap_or (joining.pulled_bytes y.join) 0 in
        let t : ReconcileState = (joining.pulls_on y.join).0 in
        let tj : t ≡ record y.join { stage = stage.Pulling got } = ap (λ (c : Bool). record y.join { stage = if c then stage.Taking else stage.Pulling got }) nlk in
        if_cases (λ (z : NodeState M). happens u1 e ≡ absorb m (tells z (locker_at y) (Need got)) u1 → Leads goes_on u1 Q) (nat_eq got 0) _ _
        (λ b ev. pull_begins v w u1 m x y (record y { join = t; offer = Some o; bytes = [] }) got rep.0 e h1 n1 refl lm ll apart x1 shut rep.1 y1 ev tj refl (omega (arith, eq_true got 0 b)))
        (λ b ev.
        let pulling : y.join.stage ≡ stage.Pulling got = has_bytes y.join b in
        let q = yk.prefix.pulled got pulling in
        let fit : got ≤ length (M.encode rep.0.registry) = fits_in (M.encode rep.0.registry) got (ap (λ (l : List ℕ). length (take got l)) (state_sent v u1 m x y rep.0 q.0 h1 lm ll x1 shut rep.1 y1 q.1) ∙ ap (λ (l : List ℕ). length l) (sym q.2) ∙ (h1.sound.cores m y y1).1 got pulling) in
        pull_begins v w u1 m x y (record y { join = t }) got rep.0 e h1 n1 refl lm ll apart x1 shut rep.1 y1 ev tj refl fit)
        ev)
        ev)
        ev)

    -- The locker is open, or still waits and counts more members
    pub record Waits (v : View) (x : NodeState M) (ms : List Member) (u : World M) : Type 0 where
      pub state : NodeState M
      pub at : u.nodes (locker_of v.members) ≡ Some state
      pub shut : joining.is_open state.join ≡ false
      pub more : (n : ℕ) → 0 < inc_of v.members n → joining.counts_ready x.join n ≡ true → joining.counts_ready state.join n ≡ true
      pub all : (j : ℕ) (t : Member) → slice_get ms j ≡ Some t → joining.counts_ready state.join t.node ≡ true

    pub record Nearer (v : View) (w0 : World M) (x : NodeState M) (ms : List Member) (u : World M) : Type 0 where
      pub stand : Stand u v
      pub near : Near w0 u
      pub goal : (open_at u (locker_of v.members) ≡ true) ⊎ Waits v x ms u

    -- a Ready comes to the locker
    ready_go : (v : View) (w0 w : World M) (m : Member) (x : NodeState M) → 0 < inc_of v.members m.node → 0 < inc_of v.members (locker_of v.members) → joining.is_open x.join ≡ false → Told v w0 m.node x w → Leads goes_on w (λ u. Nearer v w0 x (m ∷ []) u)
    ready_go v w0 w m x lm ll shut t =
        let L : ℕ = locker_of v.members in
        let h = t.stand in
        let xat : w.nodes L ≡ Some x = t.locker in
        let xr = runs_in w v L x h ll xat in
        let xk : NodeOk w L x = h.sound.inv.nodes L x xat in
        let lks : joining.locks x.join ≡ true = ap (λ (t : View). is_locker t.members x.join.node) xr.view ∙ ap (λ (a : ℕ). is_locker v.members a) xk.local.node ∙ locker_locks v.members ll in
        let en = h.sound.joins.entries L x xat in
        let inx : (n : ℕ) → 0 < inc_of v.members n → 0 < inc_of x.join.view.members n = λ n lt. subst (λ (t : View). 0 < inc_of t.members n) (sym xr.view) lt in
        let e : Event = Deliver t.ready.at Written in
        let Q : World M → Type 0 = λ u. Nearer v w0 x (m ∷ []) u in
        let ev : happens w e ≡ absorb L (on_ready x m.node) w = still_is w (mail v m.node L Ready) x (on_ready x m.node) t.ready xat (heard w v x m.node L Ready h lm ll xat) in
        readied_cases (λ (r : ReconcileState × Step). happens w e ≡ absorb L (marks_ready x r) w → Leads goes_on w Q) x.join m.node
        (λ nl ev. absurd (locker_not (joining.locks x.join) lks nl))
        (λ l op ev. absurd (locker_not (joining.is_open x.join) op shut))
        (λ l op all ev.
        let z : NodeState M = record x { join = record (joining.marked x.join m.node) { stage = stage.Open } } in
        let out = begins_out z (Opened z.join.view.number ∷ to_each z OpenView (spread_of (members_of z))) in
        let y : NodeState M = out.0 in
        let u : World M = turned_to w w.log L y out.2 out.1 in
        move_to law w v e L x y out.2 out.1 Q refl h (ev ∙ ap (λ (r : Out M). absorb L r w) out.3) xat (ap (λ (j : ReconcileState). j.view) out.4) (ap (λ (j : ReconcileState). j.inc) out.4) (λ h1.
        leads_now goes_on u Q (record {
          stand = h1;
          near = near_to w0 w L x y out.2 out.1 t.near xat out.5;
          goal = inl (ap (λ (o : Option (NodeState M)). shown (λ (a : NodeState M). joining.is_open a.join) false o) (put_self w.nodes L (Some y)) ∙ ap joining.is_open out.4);
        })))
        (λ l op all ev.
        let y : NodeState M = record x { join = joining.marked x.join m.node } in
        let u : World M = turned w w.log L y [] in
        move law w v e L x y [] Q refl h ev xat refl refl (λ h1.
        leads_now goes_on u Q (record {
          stand = h1;
          near = near_turned w0 w L x y [] t.near xat (omega arith);
          goal = inr (record {
            state = y;
            at = put_self w.nodes L (Some y);
            shut = shut;
            more = λ n lt c. counts_kept x.join m.node n en (inx m.node lm) (inx n lt) c;
            all = λ j b e. only m b j e (counts_marked x.join m.node en (inx m.node lm));
          });
        })))
        ev
      where
        only : (m b : Member) (j : ℕ) → slice_get (m ∷ []) j ≡ Some b → joining.counts_ready (joining.marked x.join m.node) m.node ≡ true → joining.counts_ready (joining.marked x.join m.node) b.node ≡ true
        only m b zero e h = let q : m ≡ b = cc in ap (λ (a : Member). joining.counts_ready (joining.marked x.join m.node) a.node) (sym q) ∙ h
        only m b (suc j) e h = absurd (cc)

    count_one : (v : View) (w : World M) (m : Member) (x : NodeState M) → Stand w v → 0 < inc_of v.members m.node → 0 < inc_of v.members (locker_of v.members) → w.nodes (locker_of v.members) ≡ Some x → joining.is_open x.join ≡ false → Leads goes_on w (λ u. Nearer v w x (m ∷ []) u)
    count_one v w m x h lm ll xat shut = elim (joining.counts_ready x.join m.node) as (λ (b : Bool). joining.counts_ready x.join m.node ≡ b → Leads goes_on w (λ u. Nearer v w x (m ∷ []) u)) [
      | true ↦ λ e. leads_now goes_on w (λ u. Nearer v w x (m ∷ []) u) (record { stand = h; near = near_self w; goal = inr (record { state = x; at = xat; shut = shut; more = λ n lt c. c; all = λ j b q. only b j q e }) })
      | false ↦ λ e. leads_then goes_on w (λ u. Told v w m.node x u) (λ u. Nearer v w x (m ∷ []) u) (offer_go v w m.node x h lm ll xat shut e) (λ u t. ready_go v w u m x lm ll shut t)
    ] refl
      where
        only : (b : Member) (j : ℕ) → slice_get (m ∷ []) j ≡ Some b → joining.counts_ready x.join m.node ≡ true → joining.counts_ready x.join b.node ≡ true
        only b zero e h = let q : m ≡ b = cc in ap (λ (a : Member). joining.counts_ready x.join a.node) (sym q) ∙ h
        only b (suc j) e h = absurd (cc)

    -- one after the other
    count_all : (ms : List Member) (v : View) (w : World M) (x : NodeState M) → ((j : ℕ) (t : Member) → slice_get ms j ≡ Some t → 0 < inc_of v.members t.node) → Stand w v → 0 < inc_of v.members (locker_of v.members) → w.nodes (locker_of v.members) ≡ Some x → joining.is_open x.join ≡ false → Leads goes_on w (λ u. Nearer v w x ms u)
    count_all [] v w x f h ll xat shut = leads_now goes_on w (λ u. Nearer v w x [] u) (record { stand = h; near = near_self w; goal = inr (record { state = x; at = xat; shut = shut; more = λ n lt c. c; all = λ j b e. absurd (cc) }) })
    count_all (m ∷ ms) v w x f h ll xat shut =
        leads_then goes_on w (λ u. Nearer v w x (m ∷ []) u) (λ u. Nearer v w x (m ∷ ms) u) (count_one v w m x h (f 0 m refl) ll xat shut) (λ t a. ⊎_elim
        (λ (op : open_at t (locker_of v.members) ≡ true). leads_now goes_on t (λ u. Nearer v w x (m ∷ ms) u) (record { stand = a.stand; near = a.near; goal = inl op }))
        (λ (wt : Waits v x (m ∷ []) t).
        leads_then goes_on t (λ u. Nearer v t wt.state ms u) (λ u. Nearer v w x (m ∷ ms) u) (count_all ms v t wt.state (λ j b e. f (suc j) b e) a.stand ll wt.at wt.shut) (λ u b.
        leads_now goes_on u (λ u. Nearer v w x (m ∷ ms) u) (record {
          stand = b.stand;
          near = near_near w t u a.near b.near;
          goal = ⊎_elim (λ (op : open_at u (locker_of v.members) ≡ true). inl op) (λ (wu : Waits v wt.state ms u). inr (record {
            state = wu.state;
            at = wu.at;
            shut = wu.shut;
            more = λ n lt c. wu.more n lt (wt.more n lt c);
            all = cover wu.state (wu.more m.node (f 0 m refl) (wt.all 0 m refl)) wu.all;
          })) b.goal;
        })))
        a.goal)
      where
        cover : (s : NodeState M) → joining.counts_ready s.join m.node ≡ true → ((j : ℕ) (b : Member) → slice_get ms j ≡ Some b → joining.counts_ready s.join b.node ≡ true) → (j : ℕ) (b : Member) → slice_get (m ∷ ms) j ≡ Some b → joining.counts_ready s.join b.node ≡ true
        cover s y z zero b e = let q : m ≡ b = cc in ap (λ (a : Member). joining.counts_ready s.join a.node) (sym q) ∙ y
        cover s y z (suc j) b e = z j b e

    -- The locker opens
    pub record OpenLocker (v : View) (w0 : World M) (u : World M) : Type 0 where
      pub stand : Stand u v
      pub near : Near w0 u
      pub open_ : open_at u (locker_of v.members) ≡ true

    pub locker_opens : (v : View) (w : World M) → Stand w v → 0 < inc_of v.members (locker_of v.members) → Leads goes_on w (λ u. OpenLocker v w u)
    locker_opens v w h ll =
        let L : ℕ = locker_of v.members in
        let o = h.member L ll in
        let x : NodeState M = o.0 in
        let at : open_at w L ≡ joining.is_open x.join = shown_at (λ (t : NodeState M). joining.is_open t.join) false w L x o.1.node in
        elim (joining.is_open x.join) as (λ (b : Bool). joining.is_open x.join ≡ b → Leads goes_on w (λ u. OpenLocker v w u)) [
          | true ↦ λ e. leads_now goes_on w (λ u. OpenLocker v w u) (record { stand = h; near = near_self w; open_ = at ∙ e })
          | false ↦ λ e. leads_then goes_on w (λ u. Nearer v w x v.members u) (λ u. OpenLocker v w u) (count_all v.members v w x (λ j t q. (above 0 v.members j t h.shape.ascending q).1) h ll o.1.node e) (λ u n.
              leads_now goes_on u (λ u. OpenLocker v w u) (record { stand = n.stand; near = n.near; open_ = ⊎_elim (λ (op : open_at u L ≡ true). op) (λ (wt : Waits v x v.members u). absurd (never u n.stand wt)) n.goal }))
        ] refl
      where
        never : (u : World M) → Stand u v → Waits v (h.member (locker_of v.members) ll).0 v.members u → ⊥
        never u s wt =
            let L : ℕ = locker_of v.members in
            let z : NodeState M = wt.state in
            let zr = runs_in u v L z s ll wt.at in
            let zk : NodeOk u L z = s.sound.inv.nodes L z wt.at in
            let lks : joining.locks z.join ≡ true = ap (λ (t : View). is_locker t.members z.join.node) zr.view ∙ ap (λ (a : ℕ). is_locker v.members a) zk.local.node ∙ locker_locks v.members ll in
            let rd : joining.is_ready z.join ≡ true = s.sound.lockers L z wt.at lks (λ e. zero_view (s.shape.numbered) (ap (λ (t : View). t.number) (sym zr.view) ∙ e)) in
            let no : joining.all_counted z.join ≡ false = s.sound.joins.closed L z wt.at (subst (λ (t : View). Ascend 0 t.members) (sym zr.view) s.shape.ascending) lks rd wt.shut in
            let yes : joining.all_counted z.join ≡ true = ap (λ (t : View). list_all (λ (m : Member). joining.counts_ready z.join m.node) t.members) zr.view ∙ each_all (λ (a : ℕ). joining.counts_ready z.join a) v.members wt.all in
            locker_not (joining.all_counted z.join) yes no

    -- From a view that stands, deliveries and ticks alone serve each request
    pub stand_served : (v : View) (w : World M) → Stand w v → 0 < inc_of v.members (locker_of v.members) → has_room w v → Leads goes_on w (λ t. Served t v)
    stand_served v w h ll room =
        leads_then goes_on w (λ u. OpenLocker v w u) (λ t. Served t v) (locker_opens v w h ll) (λ u o.
        let le : waiting u v.members ≤ waiting w v.members = waiting_le w u v.members o.near.fewer in
        let od : length u.log.order ≡ length w.log.order = ap (λ (g : Log). length g.order) o.near.log in
        let rm : length w.log.order + waiting w v.members ≤ last_place = room in
        locker_open_served v u o.stand ll o.open_ (omega (arith, le, od, rm)))
