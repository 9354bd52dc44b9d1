-- The lock is freed: what was granted spreads to each member, and is released.
use Rattle.std.proofs.Common.{◌≡◌, ℕ, zero, suc, ◌+◌, ◌<◌, ◌≤◌, Bool, true, false, not, ◌&&◌, List, [], ◌∷◌, ◌++◌, length, drop, Option, Some, None, nat_eq, nat_lt, if◌then◌else◌, slice_get, refl, sym, ap, ◌∙◌, subst, arith}
use Rattle.gum_messages.specs.declared.member.Member.{Member}
use Rattle.gum_messages.specs.declared.view.View.{View}
use Rattle.gum_messages.specs.Members.{inc_of, is_locker, locker_of, spread_of}
use Rattle.gum_messages.specs.Views.{Ascend}
use Rattle.gum_messages.proofs.Branches.{if_cases, option_cases}
use Rattle.gum_messages.proofs.Placing.{get_within, place_within}
use Rattle.gum_messages.specs.declared.body.Body.{Body}
use Rattle.gum_messages.specs.Messages.{Sent}
use Rattle.gum_messages.specs.declared.body.Body.TheVariants.{Ask, Granted, Apply, Applied, Release}
use Rattle.update_records.specs.Entry.{Entry}
use Rattle.update_records.specs.declared.update.Update.{Update}
use Rattle.gum_core.specs.declared.decision.Decision.{Decision}
use Rattle.gum_core.specs.declared.decision.Decision.TheVariants as decision
use Rattle.gum_core.specs.declared.spreading.Spreading.{Spreading}
use Rattle.gum_core.specs.declared.lock.Lock.{Lock}
use Rattle.gum_core.specs.Updating.{CoreState}
use Rattle.gum_core.specs.Updating as updating
use Rattle.gum_core.proofs.Cases.{applying_cases, receiver_says}
use Rattle.view_reconcile.specs.Joining.{ReconcileState}
use Rattle.view_reconcile.specs.Joining as joining
use Rattle.cluster_rules.specs.Nodes.{acknowledges, NodeState, Out, asks, becomes, done_of, locker_at, nothing, number_of, packet}
use Rattle.cluster_rules.specs.Machines.{Machine, IsMachine}
use Rattle.cluster_rules.specs.declared.effect.Effect.TheVariants.{Acked, Send}
use Rattle.cluster_rules.specs.declared.effect.Effect.{Effect}
use Rattle.cluster_rules.specs.Updates.{Written, applied, applies, on_applied, on_apply, proceeds, tick_head, tick_lock, unlogged, without_head}
use Rattle.cluster_rules.specs.Joins.{tick_join}
use Rattle.cluster_rules.specs.Receiving.{counts, hears, receive, tick}
use Rattle.cluster_rules.specs.Worlds.{Deliver, Event, Log, Tick, World, absorb, happens, sent}
use Rattle.cluster_rules.specs.Progress.{Leads, Runs, goes_on, queue_at}
use Rattle.cluster_laws.proofs.Leading.{go_to, turned_to, Held, Live, go, leads_now, put_self, queue_less, quiet_is, still_is, sent_held, shown, shown_same, tick_is, turned}
use Rattle.cluster_laws.proofs.Guards.{both, eq_is, eq_not, lt_is}
use Rattle.cluster_laws.proofs.Inv.{NodeOk, Owner, Stands}
use Rattle.cluster_laws.proofs.Moves.{slice_get_back, slice_get_front}
use Rattle.cluster_laws.proofs.Opening.{sent_append}
use Rattle.cluster_laws.proofs.HeadRules.{open_is_ready}

-- Members
pub locker_locks : (ms : List Member) → 0 < inc_of ms (locker_of ms) → is_locker ms (locker_of ms) ≡ true
locker_locks [] h = absurd (omega (arith, h))
locker_locks (m ∷ ms) h = eq_is m.node m.node refl

pub above : (f : ℕ) (ms : List Member) (j : ℕ) (t : Member) → Ascend f ms → slice_get ms j ≡ Some t → (f < t.node) × (0 < inc_of ms t.node)
unfolding Ascend
above f [] j t a e = absurd (cc)
above f (m ∷ ms) zero t a e =
    let q : m ≡ t = cc in
    (subst (λ (t : Member). f < t.node) q a.0, subst (λ (t : Member). 0 < inc_of (m ∷ ms) t.node) q (if_cases (λ (k : ℕ). 0 < k) (nat_eq m.node m.node) m.inc (inc_of ms m.node) (λ g. let o : 1 ≤ m.inc = a.2 in omega (arith, o)) (λ g. absurd (no m.node g))))
  where
    no : (a : ℕ) → nat_eq a a ≡ false → ⊥
    no a e = grind arith
above f (m ∷ ms) (suc j) t a e =
    let r = above m.node ms j t a.3 e in
    let lt : f < m.node = a.0 in
    let gt : m.node < t.node = r.0 in
    (omega (arith, lt, gt), if_cases (λ (k : ℕ). 0 < k) (nat_eq m.node t.node) m.inc (inc_of ms t.node) (λ g. let o : 1 ≤ m.inc = a.2 in omega (arith, o)) (λ g. r.1))

-- who stands in the spreading order is another member than the locker
pub spread_member : (ms : List Member) (j : ℕ) (t : Member) → Ascend 0 ms → slice_get (spread_of ms) j ≡ Some t → (0 < inc_of ms t.node) × (is_locker ms t.node ≡ false)
unfolding Ascend
spread_member [] j t a e = absurd (cc)
spread_member (m ∷ ms) j t a e =
    let r = above m.node ms j t a.3 e in
    (if_cases (λ (k : ℕ). 0 < k) (nat_eq m.node t.node) m.inc (inc_of ms t.node) (λ g. let o : 1 ≤ m.inc = a.2 in omega (arith, o)) (λ g. r.1), eq_not m.node t.node r.0)

-- a message between two members of a view
abbrev pub mail : View → ℕ → ℕ → Body → Sent
mail v m n b = record { view = v.number; from = m; to = n; body = b }

pub drop_less : (q : List Update) → 0 < length q → length (drop 1 q) + 1 ≤ length q
drop_less [] h = absurd (omega (arith, h))
drop_less (u ∷ us) h = omega arith

receiver_same : (c d : CoreState) (at to : ℕ) → d ≡ c → updating.receiver c at ≡ Some to → updating.receiver d at ≡ Some to
receiver_same c d at to e h = ap (λ (t : CoreState). updating.receiver t at) e ∙ h

-- What a tick sends
at_front : (A B : List Effect) (p : Sent) (k : ℕ) → slice_get (sent A) k ≡ Some p → (j : ℕ) × (slice_get (sent (A ++ B)) j ≡ Some p)
at_front A B p k e = (k, ap (λ (l : List Sent). slice_get l k) (sent_append A B) ∙ slice_get_front (sent A) (sent B) k p e)

pub at_back : (A B : List Effect) (p : Sent) (k : ℕ) → slice_get (sent B) k ≡ Some p → (j : ℕ) × (slice_get (sent (A ++ B)) j ≡ Some p)
at_back A B p k e =
    let r = slice_get_back (sent A) (sent B) k p e in
    (r.0, ap (λ (l : List Sent). slice_get l r.0) (sent_append A B) ∙ r.1)

pub first_sent : (A : List Effect) (p : Sent) → A ≡ Send p ∷ [] → slice_get (sent A) 0 ≡ Some p
first_sent A p e = ap (λ (l : List Effect). slice_get (sent l) 0) e

open_head : (c : CoreState) → c.is_open ≡ true → 0 < length c.queue → (c.is_open && nat_lt 0 (length c.queue)) ≡ true
open_head c op some = both c.is_open (nat_lt 0 (length c.queue)) op (lt_is 0 (length c.queue) some)

module _ {M : Machine} where
  pub lock_tells : (x : NodeState M) (l : Lock) (e : Entry) → x.core.lock ≡ Some l → x.last ≡ Some e → (k : ℕ) × (slice_get (sent (tick x).effects) k ≡ Some (packet x l.node (Granted e)))
  lock_tells x l e lk la =
      let A : List Effect = tick_head x (updating.ticked x.core) in
      let B : List Effect = tick_lock x in
      let C : List Effect = tick_join x (joining.ticked x.join) in
      let b : B ≡ Send (packet x l.node (Granted e)) ∷ [] =
      ap (λ (o : Option Lock). elim o [ None ↦ [] | Some l ↦ elim x.last [ None ↦ [] | Some e ↦ Send (packet x l.node (Granted e)) ∷ [] ] ]) lk
      ∙ ap (λ (o : Option Entry). elim o [ None ↦ [] | Some e ↦ Send (packet x l.node (Granted e)) ∷ [] ]) la in
      let f = at_front B C (packet x l.node (Granted e)) 0 (first_sent B (packet x l.node (Granted e)) b) in
      at_back A (B ++ C) (packet x l.node (Granted e)) f.0 f.1

  pub ask_tells : (x : NodeState M) (u : Update) (us : List Update) → x.core.is_open ≡ true → x.core.queue ≡ u ∷ us → x.core.spreading ≡ None → (k : ℕ) × (slice_get (sent (tick x).effects) k ≡ Some (packet x (locker_at x) (Ask (x.core.passed + 1) u)))
  ask_tells x u us op q none =
      let A : List Effect = tick_head x (updating.ticked x.core) in
      let B : List Effect = tick_lock x in
      let C : List Effect = tick_join x (joining.ticked x.join) in
      let p : Sent = packet x (locker_at x) (Ask (x.core.passed + 1) u) in
      let some : 0 < length x.core.queue = subst (λ (l : List Update). 0 < length l) (sym q) (omega arith) in
      let d : updating.ticked x.core ≡ decision.Ask (x.core.passed + 1) =
      ap (λ (b : Bool). if b then elim x.core.spreading [ None ↦ decision.Ask (x.core.passed + 1) | Some s ↦ elim (updating.receiver x.core s.at) [ None ↦ decision.Nothing | Some to ↦ decision.Spread to s.place ] ] else decision.Nothing) (open_head x.core op some)
      ∙ ap (λ (o : Option Spreading). elim o [ None ↦ decision.Ask (x.core.passed + 1) | Some s ↦ elim (updating.receiver x.core s.at) [ None ↦ decision.Nothing | Some to ↦ decision.Spread to s.place ] ]) none in
      let a : A ≡ Send p ∷ [] =
      ap (λ (d : Decision). tick_head x d) d
      ∙ ap (λ (l : List Update). elim l [ [] ↦ [] | u ∷ us ↦ Send (packet x (locker_at x) (Ask (x.core.passed + 1) u)) ∷ [] ]) q in
      at_front A (B ++ C) p 0 (first_sent A p a)

  pub apply_tells : (x : NodeState M) (s : Spreading) (to : ℕ) (e : Entry) → x.core.is_open ≡ true → 0 < length x.core.queue → x.core.spreading ≡ Some s → updating.receiver x.core s.at ≡ Some to → x.spreads ≡ Some e → (k : ℕ) × (slice_get (sent (tick x).effects) k ≡ Some (packet x to (Apply e)))
  apply_tells x s to e op some sp rc sd =
      let A : List Effect = tick_head x (updating.ticked x.core) in
      let B : List Effect = tick_lock x in
      let C : List Effect = tick_join x (joining.ticked x.join) in
      let p : Sent = packet x to (Apply e) in
      let d : updating.ticked x.core ≡ decision.Spread to s.place =
      ap (λ (b : Bool). if b then elim x.core.spreading [ None ↦ decision.Ask (x.core.passed + 1) | Some s ↦ elim (updating.receiver x.core s.at) [ None ↦ decision.Nothing | Some to ↦ decision.Spread to s.place ] ] else decision.Nothing) (open_head x.core op some)
      ∙ ap (λ (o : Option Spreading). elim o [ None ↦ decision.Ask (x.core.passed + 1) | Some s ↦ elim (updating.receiver x.core s.at) [ None ↦ decision.Nothing | Some to ↦ decision.Spread to s.place ] ]) sp
      ∙ ap (λ (o : Option ℕ). elim o [ None ↦ decision.Nothing | Some to ↦ decision.Spread to s.place ]) rc in
      let a : A ≡ Send p ∷ [] =
      ap (λ (d : Decision). tick_head x d) d
      ∙ ap (λ (o : Option Entry). elim o [ None ↦ [] | Some e ↦ Send (packet x to (Apply e)) ∷ [] ]) sd in
      at_front A (B ++ C) p 0 (first_sent A p a)

  -- What is known of a member
  pub member_runs : (w : World M) (v : View) (n : ℕ) (x : NodeState M) → Live w v → 0 < inc_of v.members n → w.nodes n ≡ Some x → Runs w v n x
  member_runs w v n x h lt at =
      let o = h.stand.member n lt in
      let q : Some o.0 ≡ Some x = sym o.1.node ∙ at in
      let same : o.0 ≡ x = cc in
      record { node = at; inc = ap (λ (t : NodeState M). t.join.inc) (sym same) ∙ o.1.inc; view = ap (λ (t : NodeState M). t.join.view) (sym same) ∙ o.1.view }

  pub mailed : (v : View) (z : NodeState M) (m to n : ℕ) (b : Body) → z.join.view ≡ v → z.join.node ≡ m → to ≡ n → packet z to b ≡ mail v m n b
  mailed v z m to n b zv zn tn = λ i. record { view = (zv i).number; from = zn i; to = tn i; body = b }

  pub counts_true : (v : View) (x : NodeState M) (m n : ℕ) (b : Body) → x.join.view ≡ v → 0 < inc_of v.members m → counts x (mail v m n b) ≡ true
  counts_true v x m n b xv lt =
      both (nat_eq v.number x.join.view.number) (nat_lt 0 (inc_of x.join.view.members m))
      (eq_is v.number x.join.view.number (ap (λ (t : View). t.number) (sym xv)))
      (lt_is 0 (inc_of x.join.view.members m) (subst (λ (t : View). 0 < inc_of t.members m) (sym xv) lt))

  -- a message of a member to a member is heard
  pub heard : (w : World M) (v : View) (x : NodeState M) (m n : ℕ) (b : Body) → Live w v → 0 < inc_of v.members m → 0 < inc_of v.members n → w.nodes n ≡ Some x → receive x (mail v m n b) w.log.held Written ≡ hears x m b w.log.held Written
  heard w v x m n b h lm ln xat = ap (λ (c : Bool). if c then hears x m b w.log.held Written else unlogged (nothing x)) (counts_true v x m n b (member_runs w v n x h ln xat).view lm)

  -- what was sent by a node that became y
  pub sends_to : (w : World M) (v : View) (l : Log) (n : ℕ) (y : NodeState M) (out : Option M.Outcome) (es : List Effect) (m to k a : ℕ) (b : Body) → y.join.view ≡ v → y.join.node ≡ m → to ≡ k → slice_get (sent es) a ≡ Some (packet y to b) → Held (turned_to w l n y out es) (mail v m k b)
  sends_to w v l n y out es m to k a b yv yn tk e = subst (λ (p : Sent). Held (turned_to w l n y out es) p) (mailed v y m to k b yv yn tk) (sent_held (record w { log = l }) n (acknowledges y out es) (packet y to b) a e)

  pub sends : (w : World M) (v : View) (l : Log) (n : ℕ) (y : NodeState M) (es : List Effect) (m to k a : ℕ) (b : Body) → y.join.view ≡ v → y.join.node ≡ m → to ≡ k → slice_get (sent es) a ≡ Some (packet y to b) → Held (turned w l n y es) (mail v m k b)
  sends w v l n y es m to k a b yv yn tk e = sends_to w v l n y None es m to k a b yv yn tk e

  -- Worlds that went on from another one
  pub record Near (w u : World M) : Type 0 where
    pub log : u.log ≡ w.log
    pub requests : u.requests ≡ w.requests
    pub fewer : (n : ℕ) → queue_at u n ≤ queue_at w n

  pub near_self : (w : World M) → Near w w
  near_self w = record { log = refl; requests = refl; fewer = λ n. omega arith }

  pub near_to : (w0 w : World M) (n : ℕ) (x y : NodeState M) (out : Option M.Outcome) (es : List Effect) → Near w0 w → w.nodes n ≡ Some x → length y.core.queue ≤ length x.core.queue → Near w0 (turned_to w w.log n y out es)
  near_to w0 w n x y out es h at le = record {
    log = h.log;
    requests = h.requests;
    fewer = λ m. let a : queue_at w m ≤ queue_at w0 m = h.fewer m in let b : queue_at (turned_to w w.log n y out es) m ≤ queue_at w m = queue_less w.nodes n x y at le m in omega (arith, a, b);
  }

  pub near_turned : (w0 w : World M) (n : ℕ) (x y : NodeState M) (es : List Effect) → Near w0 w → w.nodes n ≡ Some x → length y.core.queue ≤ length x.core.queue → Near w0 (turned w w.log n y es)
  near_turned w0 w n x y es h at le = near_to w0 w n x y None es h at le

  abbrev pub lock_at : World M → ℕ → Option Lock
  lock_at w n = shown (λ (x : NodeState M). x.core.lock) None (w.nodes n)

  -- the locker's lock is free, and this many requests of a member are done
  pub record Freed (v : View) (w0 : World M) (m some : ℕ) (u : World M) : Type 0 where
    pub live : Live u v
    pub near : Near w0 u
    pub free : lock_at u (locker_of v.members) ≡ None
    pub less : queue_at u m + some ≤ queue_at w0 m

  pub shown_at : {A : Type 0} (f : NodeState M → A) (d : A) (w : World M) (n : ℕ) (x : NodeState M) → w.nodes n ≡ Some x → shown f d (w.nodes n) ≡ f x
  shown_at f d w n x at = ap (λ (o : Option (NodeState M)). shown f d o) at

  -- The lock's holder releases it
  pub release_step : IsMachine M → (v : View) (w0 w : World M) (m req some : ℕ) (l : Lock) → Live w v → Near w0 w → Held w (mail v m (locker_of v.members) (Release req)) → 0 < inc_of v.members m → 0 < inc_of v.members (locker_of v.members) → lock_at w (locker_of v.members) ≡ Some l → l.node ≡ m → l.req ≡ req → queue_at w m + some ≤ queue_at w0 m → Leads goes_on w (λ u. Freed v w0 m some u)
  release_step law v w0 w m req some l h nr hd lm ll lk ln lr less =
      let L : ℕ = locker_of v.members in
      let o = h.stand.member L ll in
      let x : NodeState M = o.0 in
      let at : w.nodes L ≡ Some x = o.1.node in
      let nk : NodeOk w L x = h.stand.sound.inv.nodes L x at in
      let y : NodeState M = record x { core = record x.core { lock = None } } in
      let xl : x.core.lock ≡ Some l = sym (shown_at (λ (t : NodeState M). t.core.lock) None w L x at) ∙ lk in
      let held : updating.is_held x.core m req ≡ true =
      ap (λ (k : Option Lock). elim k [ None ↦ false | Some l ↦ nat_eq l.node m && nat_eq l.req req ]) xl
      ∙ both (nat_eq l.node m) (nat_eq l.req req) (eq_is l.node m ln) (eq_is l.req req lr) in
      let lks : updating.locks x.core ≡ true =
      ap (λ (ms : List Member). is_locker ms x.core.node) (nk.local.core_members ∙ ap (λ (t : View). t.members) o.1.view)
      ∙ ap (λ (a : ℕ). is_locker v.members a) nk.local.core_node ∙ locker_locks v.members ll in
      let rs : updating.released x.core m req ≡ (record x.core { lock = None }, decision.Free) = ap (λ (b : Bool). if b then (record x.core { lock = None }, decision.Free) else (x.core, decision.Nothing)) (both (updating.locks x.core) (updating.is_held x.core m req) lks held) in
      let rl : (updating.released x.core m req).0 ≡ record x.core { lock = None } = ap (λ (t : CoreState × Decision). t.0) rs in
      let r : receive x (mail v m L (Release req)) w.log.held Written ≡ unlogged (becomes y []) = heard w v x m L (Release req) h lm ll at ∙ ap (λ (c : CoreState). unlogged (nothing (record x { core = c }))) rl in
      go law w v (Deliver hd.at Written) w.log L x y [] (λ u. Freed v w0 m some u) refl h (quiet_is w (mail v m L (Release req)) x y [] hd at r) at refl refl
      (λ live.
      let u : World M = turned w w.log L y [] in
      let q : queue_at u m ≤ queue_at w m = queue_less w.nodes L x y at (omega arith) m in
      leads_now goes_on u (λ u. Freed v w0 m some u) (record {
        live = live;
        near = near_turned w0 w L x y [] nr at (omega arith);
        free = ap (λ (o : Option (NodeState M)). shown (λ (t : NodeState M). t.core.lock) None o) (put_self w.nodes L (Some y));
        less = omega (arith, q, less);
      }))

  -- The record goes to the member at an index of the spreading order, or the head is finished
  abbrev pub spreading_at : NodeState M → Entry → ℕ → NodeState M
  spreading_at y r at = record y { core = record y.core { spreading = Some (record { place = r.place; at = at }) }; spreads = Some r }

  pub proceed_step : IsMachine M → (v : View) (w0 w : World M) (m : ℕ) (y : NodeState M) (r : Entry) (at : ℕ) (l : Lock) (e : Event) → Live w v → Near w0 w → 0 < inc_of v.members m → 0 < inc_of v.members (locker_of v.members) → w.nodes m ≡ Some y → 0 < length y.core.queue → lock_at w (locker_of v.members) ≡ Some l → l.node ≡ m → l.req ≡ y.core.passed + 1 → goes_on e ≡ true → happens w e ≡ absorb m (proceeds y r (updating.spread y.core r.place at)) w
      → ((to : ℕ) → updating.receiver y.core at ≡ Some to → Live (turned w w.log m (spreading_at y r at) (Send (packet (spreading_at y r at) to (Apply r)) ∷ [])) v → Leads goes_on (turned w w.log m (spreading_at y r at) (Send (packet (spreading_at y r at) to (Apply r)) ∷ [])) (λ u. Freed v w0 m 1 u))
      → Leads goes_on w (λ u. Freed v w0 m 1 u)
  proceed_step law v w0 w m y r at l e h nr lm ll yat some lk ln lr g ev again =
      let L : ℕ = locker_of v.members in
      let rn = member_runs w v m y h lm yat in
      let nk : NodeOk w m y = h.stand.sound.inv.nodes m y yat in
      option_cases (λ (t : CoreState × Decision). happens w e ≡ absorb m (proceeds y r t) w → Leads goes_on w (λ u. Freed v w0 m 1 u)) (updating.receiver y.core at) (updating.finished y.core r.place) (λ to. (record y.core { spreading = Some (record { place = r.place; at = at }) }, decision.Spread to r.place))
      (λ none ev.
      let z : NodeState M = without_head y (updating.finished y.core r.place).0 in
      let next : Option ℕ = if nat_lt 1 (length y.core.queue) then Some (y.core.passed + 2) else None in
      let es : List Effect = Acked (number_of y) r.place ∷ Send (packet z (locker_at y) (Release (y.core.passed + 1))) ∷ asks z next in
      let less : length z.core.queue + 1 ≤ length y.core.queue = drop_less y.core.queue some in
      go_to law w v e w.log m y z y.outcome es (λ u. Freed v w0 m 1 u) g h ev yat refl refl
      (λ live.
      let u : World M = turned_to w w.log m z y.outcome es in
      let hd : Held u (mail v m L (Release (y.core.passed + 1))) = sends_to w v w.log m z y.outcome es m (locker_at y) L 0 (Release (y.core.passed + 1)) rn.view nk.local.node (ap (λ (t : View). locker_of t.members) rn.view) refl in
      let here : queue_at u m ≡ length z.core.queue = ap (λ (o : Option (NodeState M)). shown (λ (t : NodeState M). length t.core.queue) 0 o) (put_self w.nodes m (Some z)) in
      let was : queue_at w m ≡ length y.core.queue = shown_at (λ (t : NodeState M). length t.core.queue) 0 w m y yat in
      let few : queue_at w m ≤ queue_at w0 m = nr.fewer m in
      release_step law v w0 u m (y.core.passed + 1) 1 l live (near_to w0 w m y z y.outcome es nr yat (omega (arith, less))) hd lm ll (shown_same (λ (t : NodeState M). t.core.lock) None w.nodes m y z yat refl L ∙ lk) ln lr (omega (arith, less, here, was, few))))
      (λ to rc ev.
      let z : NodeState M = spreading_at y r at in
      go law w v e w.log m y z (Send (packet z to (Apply r)) ∷ []) (λ u. Freed v w0 m 1 u) g h ev yat refl refl (λ live. again to rc live))
      ev

  -- A member applies the record behind its last one, or has applied it
  apply_out : (z : NodeState M) (m : ℕ) (r : Entry) → joining.is_ready z.join ≡ true → joining.locks z.join ≡ false → r.place ≤ done_of z + 1 → (t : NodeState M) × (on_apply z m r ≡ becomes t (Send (packet t m (Applied r.place)) ∷ [])) × (t.join ≡ z.join) × (t.core ≡ z.core) × (t.spreads ≡ z.spreads)
  apply_out z m r rd nl near =
      let o : on_apply z m r ≡ applies z m r (updating.applying (done_of z) r.place) = ap (λ (b : Bool). if b then applies z m r (updating.applying (done_of z) r.place) else nothing z) (both (joining.is_ready z.join) (not (joining.locks z.join)) rd (ap not nl)) in
      let P : Decision → Type 0 = λ d. (t : NodeState M) × (applies z m r d ≡ becomes t (Send (packet t m (Applied r.place)) ∷ [])) × (t.join ≡ z.join) × (t.core ≡ z.core) × (t.spreads ≡ z.spreads) in
      let c : P (updating.applying (done_of z) r.place) = applying_cases P (done_of z) r.place (λ e. (applied r z, refl, refl, refl, refl)) (λ e. (z, refl, refl, refl, refl)) (λ e. absurd (omega (arith, e, near))) in
      (c.0, o ∙ c.1, c.2, c.3, c.4)

  -- what the owner knows of a member that stands in its open view
  pub near_end : (w : World M) (v : View) (to : ℕ) (z : NodeState M) (r : Entry) → Live w v → 0 < inc_of v.members (locker_of v.members) → 0 < inc_of v.members to → w.nodes to ≡ Some z → Stands w.log r → r.place ≤ done_of z + 1
  near_end w v to z r h ll lt zat st =
      let L : ℕ = locker_of v.members in
      let o = h.stand.member L ll in
      let x : NodeState M = o.0 in
      let nk : NodeOk w L x = h.stand.sound.inv.nodes L x o.1.node in
      let op : joining.is_open x.join ≡ true = h.open_ L x ll o.1.node in
      let lks : joining.locks x.join ≡ true =
      ap (λ (t : View). is_locker t.members x.join.node) o.1.view
      ∙ ap (λ (a : ℕ). is_locker v.members a) nk.local.node ∙ locker_locks v.members ll in
      let ow : Owner w L x = record { runs = o.1.node; ready = open_is_ready x.join op; locker = lks; held = ap (λ (t : View). t.number) o.1.view ∙ sym h.stand.held } in
      let zr = member_runs w v to z h lt zat in
      let mo = (h.stand.sound.inv.owner L x ow).members op to z zat (ap (λ (t : View). inc_of t.members to) o.1.view ∙ sym zr.inc) in
      let near : length w.log.order ≤ done_of z + 1 = mo.near in
      let here = place_within w.log.order r.place r st.at in
      omega (arith, near, here.1)

  -- An Applied of the member that is awaited
  applied_out : (y : NodeState M) (r : Entry) (s : Spreading) (to : ℕ) → y.spreads ≡ Some r → y.core.spreading ≡ Some s → s.place ≡ r.place → updating.receiver y.core s.at ≡ Some to → on_applied y to r.place ≡ proceeds y r (updating.spread y.core r.place (s.at + 1))
  applied_out y r s to sd sp pl rc =
      let aw : updating.awaits y.core s to ≡ true = ap (λ (o : Option ℕ). elim o [ None ↦ false | Some t ↦ nat_eq t to ]) rc ∙ eq_is to to refl in
      let g : (nat_eq s.place r.place && updating.awaits y.core s to) ≡ true = both (nat_eq s.place r.place) (updating.awaits y.core s to) (eq_is s.place r.place pl) aw in
      let a : updating.applied y.core to r.place ≡ updating.spread y.core r.place (s.at + 1) =
      ap (λ (o : Option Spreading). elim o [ None ↦ (y.core, decision.Nothing) | Some s ↦ if nat_eq s.place r.place && updating.awaits y.core s to then updating.spread y.core r.place (s.at + 1) else (y.core, decision.Nothing) ]) sp
      ∙ ap (λ (b : Bool). if b then updating.spread y.core r.place (s.at + 1) else (y.core, decision.Nothing)) g in
      ap (λ (o : Option Entry). elim o [ None ↦ nothing y | Some e ↦ proceeds y e (updating.applied y.core to r.place) ]) sd
      ∙ ap (λ (t : CoreState × Decision). proceeds y r t) a

  -- whom a head awaits: another member than the locker
  awaited : (w : World M) (v : View) (m : ℕ) (y : NodeState M) (s : Spreading) → Live w v → 0 < inc_of v.members m → w.nodes m ≡ Some y → y.core.spreading ≡ Some s → (to : ℕ) × (updating.receiver y.core s.at ≡ Some to) × (0 < inc_of v.members to) × (is_locker v.members to ≡ false) × (s.at < length (spread_of v.members))
  awaited w v m y s h lm yat sp =
      let rn = member_runs w v m y h lm yat in
      let mem : y.core.members ≡ v.members = (h.stand.sound.inv.nodes m y yat).local.core_members ∙ ap (λ (t : View). t.members) rn.view in
      let aw = (h.stand.sound.cores m y yat).0.awaits s sp in
      let rs = receiver_says y.core s.at aw.0 aw.1 in
      let there : slice_get (spread_of v.members) s.at ≡ Some rs.0 = ap (λ (ms : List Member). slice_get (spread_of ms) s.at) (sym mem) ∙ rs.1 in
      let sm = spread_member v.members s.at rs.0 h.stand.shape.ascending there in
      (aw.0, aw.1, subst (λ (a : ℕ). 0 < inc_of v.members a) rs.2 sm.0, ap (λ (a : ℕ). is_locker v.members a) (sym rs.2) ∙ sm.1, get_within (spread_of v.members) s.at rs.0 there)

  -- The record that spreads comes to each member, and the lock is released
  pub spread_go : (k : ℕ) → IsMachine M → (v : View) (w0 w : World M) (m : ℕ) (y : NodeState M) (s : Spreading) (l : Lock) → Live w v → Near w0 w → 0 < inc_of v.members m → 0 < inc_of v.members (locker_of v.members) → w.nodes m ≡ Some y → 0 < length y.core.queue → y.core.spreading ≡ Some s → lock_at w (locker_of v.members) ≡ Some l → l.node ≡ m → l.req ≡ y.core.passed + 1 → length (spread_of v.members) ≤ s.at + k → Leads goes_on w (λ u. Freed v w0 m 1 u)
  spread_go zero law v w0 w m y s l h nr lm ll yat some sp lk ln lr bound =
      let aw = awaited w v m y s h lm yat sp in
      absurd (omega (arith, bound, aw.4))
  spread_go (suc j) law v w0 w m y s l h nr lm ll yat some sp lk ln lr bound =
      let L : ℕ = locker_of v.members in
      let nk : NodeOk w m y = h.stand.sound.inv.nodes m y yat in
      let rn = member_runs w v m y h lm yat in
      let f = nk.spreading s sp in
      let r : Entry = f.0 in
      let st : Stands w.log r = record { at = f.4.at } in
      let aw = awaited w v m y s h lm yat sp in
      let to : ℕ = aw.0 in
      let lto : 0 < inc_of v.members to = aw.2 in
      let nlk : is_locker v.members to ≡ false = aw.3 in
      let copen : y.core.is_open ≡ true = nk.local.core_open ∙ h.open_ m y lm yat in
      let tk = apply_tells y s to r copen some sp aw.1 f.1 in
      let u1 : World M = turned w w.log m y (tick y).effects in
      go law w v (Tick m) w.log m y y (tick y).effects (λ u. Freed v w0 m 1 u) refl h (tick_is w m y yat) yat refl refl
      (λ h1.
      let n1 : Near w0 u1 = near_turned w0 w m y y (tick y).effects nr yat (omega arith) in
      let hd1 : Held u1 (mail v m to (Apply r)) = sends w v w.log m y (tick y).effects m to to tk.0 (Apply r) rn.view nk.local.node refl tk.1 in
      let zo = h1.stand.member to lto in
      let z : NodeState M = zo.0 in
      let zk : NodeOk u1 to z = h1.stand.sound.inv.nodes to z zo.1.node in
      let zop : joining.is_open z.join ≡ true = h1.open_ to z lto zo.1.node in
      let znl : joining.locks z.join ≡ false = ap (λ (t : View). is_locker t.members z.join.node) zo.1.view ∙ ap (λ (a : ℕ). is_locker v.members a) zk.local.node ∙ nlk in
      let ne : r.place ≤ done_of z + 1 = near_end u1 v to z r h1 ll lto zo.1.node st in
      let ao = apply_out z m r (open_is_ready z.join zop) znl ne in
      let t : NodeState M = ao.0 in
      let es2 : List Effect = Send (packet t m (Applied r.place)) ∷ [] in
      let u2 : World M = turned u1 u1.log to t es2 in
      let q2 : queue_at u2 to ≡ queue_at u2 to = refl in
      let tl : length t.core.queue ≤ length z.core.queue = let e : length t.core.queue ≡ length z.core.queue = ap (λ (c : CoreState). length c.queue) ao.3 in omega (arith, e) in
      go law u1 v (Deliver hd1.at Written) u1.log to z t es2 (λ u. Freed v w0 m 1 u) refl h1 (still_is u1 (mail v m to (Apply r)) z (becomes t es2) hd1 zo.1.node (heard u1 v z m to (Apply r) h1 lm lto zo.1.node ∙ ap (λ (o : Out M). unlogged o) ao.1)) zo.1.node ao.2 refl
      (λ h2.
      let n2 : Near w0 u2 = near_turned w0 u1 to z t es2 n1 zo.1.node tl in
      let tv : t.join.view ≡ v = ap (λ (j : ReconcileState). j.view) ao.2 ∙ zo.1.view in
      let tn : t.join.node ≡ to = ap (λ (j : ReconcileState). j.node) ao.2 ∙ zk.local.node in
      let hd2 : Held u2 (mail v to m (Applied r.place)) = sends u1 v u1.log to t es2 to m m 0 (Applied r.place) tv tn refl refl in
      let yo = h2.stand.member m lm in
      let b : NodeState M = yo.0 in
      let bc : b.core ≡ y.core =
      let e1 : shown (λ (a : NodeState M). a.core) y.core (u2.nodes m) ≡ shown (λ (a : NodeState M). a.core) y.core (u1.nodes m) = shown_same (λ (a : NodeState M). a.core) y.core u1.nodes to z t zo.1.node ao.3 m in
      let e2 : shown (λ (a : NodeState M). a.core) y.core (u1.nodes m) ≡ y.core = ap (λ (o : Option (NodeState M)). shown (λ (a : NodeState M). a.core) y.core o) (put_self w.nodes m (Some y)) in
      let e3 : shown (λ (a : NodeState M). a.core) y.core (u2.nodes m) ≡ b.core = shown_at (λ (a : NodeState M). a.core) y.core u2 m b yo.1.node in
      sym e3 ∙ e1 ∙ e2 in
      let bs : b.spreads ≡ Some r =
      let e1 : shown (λ (a : NodeState M). a.spreads) None (u2.nodes m) ≡ shown (λ (a : NodeState M). a.spreads) None (u1.nodes m) = shown_same (λ (a : NodeState M). a.spreads) None u1.nodes to z t zo.1.node ao.4 m in
      let e2 : shown (λ (a : NodeState M). a.spreads) None (u1.nodes m) ≡ y.spreads = ap (λ (o : Option (NodeState M)). shown (λ (a : NodeState M). a.spreads) None o) (put_self w.nodes m (Some y)) in
      let e3 : shown (λ (a : NodeState M). a.spreads) None (u2.nodes m) ≡ b.spreads = shown_at (λ (a : NodeState M). a.spreads) None u2 m b yo.1.node in
      sym e3 ∙ e1 ∙ e2 ∙ f.1 in
      let ev : happens u2 (Deliver hd2.at Written) ≡ absorb m (proceeds b r (updating.spread b.core r.place (s.at + 1))) u2 =
      still_is u2 (mail v to m (Applied r.place)) b (proceeds b r (updating.spread b.core r.place (s.at + 1))) hd2 yo.1.node
      (heard u2 v b to m (Applied r.place) h2 lto lm yo.1.node ∙ ap (λ (o : Out M). unlogged o) (applied_out b r s to bs (ap (λ (c : CoreState). c.spreading) bc ∙ sp) (sym f.2) (receiver_same y.core b.core s.at to bc aw.1))) in
      let bsome : 0 < length b.core.queue = subst (λ (c : CoreState). 0 < length c.queue) (sym bc) some in
      let lk1 : lock_at u1 L ≡ Some l = shown_same (λ (a : NodeState M). a.core.lock) None w.nodes m y y yat refl L ∙ lk in
      let lk2 : lock_at u2 L ≡ Some l = shown_same (λ (a : NodeState M). a.core.lock) None u1.nodes to z t zo.1.node (ap (λ (c : CoreState). c.lock) ao.3) L ∙ lk1 in
      let blr : l.req ≡ b.core.passed + 1 = lr ∙ ap (λ (c : CoreState). c.passed + 1) (sym bc) in
      proceed_step law v w0 u2 m b r (s.at + 1) l (Deliver hd2.at Written) h2 n2 lm ll yo.1.node bsome lk2 ln blr refl ev
      (λ to2 rc2 h3.
      let c : NodeState M = spreading_at b r (s.at + 1) in
      let es3 : List Effect = Send (packet c to2 (Apply r)) ∷ [] in
      let u3 : World M = turned u2 u2.log m c es3 in
      spread_go j law v w0 u3 m c (record { place = r.place; at = s.at + 1 }) l h3 (near_turned w0 u2 m b c es3 n2 yo.1.node (omega arith)) lm ll (put_self u2.nodes m (Some c)) bsome refl
      (shown_same (λ (a : NodeState M). a.core.lock) None u2.nodes m b c yo.1.node refl L ∙ lk2) ln blr (omega (arith, bound)))))
