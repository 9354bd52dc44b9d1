-- In an open view every request is served.
use Rattle.std.proofs.Common.{◌≡◌, ◌⊎◌, inl, inr, ⊎_elim, ℕ, zero, suc, ◌+◌, ◌<◌, ◌≤◌, Bool, true, false, ◌&&◌, List, [], ◌∷◌, ◌++◌, length, Option, Some, None, is_none, nat_eq, nat_lt, nat_le, if◌then◌else◌, refl, sym, ap, ◌∙◌, subst, arith}
use Rattle.gum_messages.specs.declared.member.Member.{Member}
use Rattle.gum_messages.specs.declared.view.View.{View}
use Rattle.gum_messages.specs.Members.{inc_of, is_locker, locker_of, spread_of}
use Rattle.gum_messages.specs.Places.{at_place}
use Rattle.gum_messages.proofs.Branches.{if_cases, list_cases, option_cases}
use Rattle.gum_messages.specs.declared.body.Body.TheVariants.{Ask, Granted, Apply, Release}
use Rattle.update_records.specs.Entry.{Entry}
use Rattle.update_records.specs.declared.update.Update.{Update}
use Rattle.update_records.specs.Grammar.{last_place}
use Rattle.gum_core.specs.declared.decision.Decision.{Decision}
use Rattle.gum_core.specs.declared.decision.Decision.TheVariants as decision
use Rattle.gum_core.specs.declared.lock.Lock.{Lock}
use Rattle.gum_core.specs.Updating.{CoreState, greatest_of}
use Rattle.gum_core.specs.Updating as updating
use Rattle.view_reconcile.specs.Joining.{ReconcileState}
use Rattle.view_reconcile.specs.Joining as joining
use Rattle.cluster_rules.specs.Machines.{Machine, IsMachine}
use Rattle.cluster_rules.specs.declared.effect.Effect.TheVariants.{Send}
use Rattle.cluster_rules.specs.declared.effect.Effect.{Effect}
use Rattle.cluster_rules.specs.declared.effect.HaltCause.TheVariants as halt
use Rattle.cluster_rules.specs.Nodes.{halts, NodeState, becomes, done_of, locker_at, number_of, packet}
use Rattle.cluster_rules.specs.Updates.{Logged, Written, answers, entry_for, has_logged, proceeds, unlogged, writes}
use Rattle.cluster_rules.specs.Receiving.{receive, tick}
use Rattle.cluster_rules.specs.Worlds.{Deliver, Log, Tick, World, absorb, append, happens, logs, put}
use Rattle.cluster_rules.specs.Progress.{Leads, Runs, goes_on, queue_at}
use Rattle.cluster_laws.proofs.Guards.{both, eq_is, eq_not, le_is, lt_is, lt_not}
use Rattle.cluster_laws.proofs.Growth.{length_snoc}
use Rattle.cluster_laws.proofs.Inv.{Has, NodeOk, OwnerOk, Stands, at_head, greatest_asked}
use Rattle.cluster_laws.proofs.Applying.{done_at, eq_true, length_some, state_of}
use Rattle.cluster_laws.proofs.HeadRules.{open_is_ready}
use Rattle.cluster_laws.proofs.Leading.{Held, Live, deliver_is, go, leads_now, leads_then, put_self, queue_less, shown, shown_same, still_is, tick_is, turned}
use Rattle.cluster_laws.proofs.Propagation.{Freed, Near, ask_tells, heard, lock_at, lock_tells, locker_locks, mail, member_runs, near_self, near_turned, proceed_step, release_step, sends, shown_at, spread_go, spreading_at}

and_false : (a b : Bool) → a ≡ false → (a && b) ≡ false
and_false true b e = cc
and_false false b e = refl

yes : (a b : ℕ) → nat_le a b ≡ true → a ≤ b
yes a b e = grind arith

no : (a b : ℕ) → a ≤ b + 1 → nat_le a b ≡ false → a ≡ b + 1
no a b le e = grind arith

lower : (a b : ℕ) → a ≤ b → nat_eq a b ≡ false → a < b
lower a b le e = grind arith

pub none_or : {A : Type 0} (o : Option A) → ((a : A) → o ≡ Some a → ⊥) → o ≡ None
none_or None f = refl
none_or (Some a) f = absurd (f a refl)

first_of_list : (l : List Update) → 0 < length l → (u : Update) × (us : List Update) × (l ≡ u ∷ us)
first_of_list [] h = absurd (omega (arith, h))
first_of_list (u ∷ us) h = (u, us, refl)

module _ {M : Machine} where
  -- A Granted at the node whose head it is
  granted_go : IsMachine M → (v : View) (w0 w : World M) (m : ℕ) (y : NodeState M) (r : Entry) (l : Lock) → Live w v → Near w0 w → Held w (mail v (locker_of v.members) m (Granted r)) → 0 < inc_of v.members m → 0 < inc_of v.members (locker_of v.members) → w.nodes m ≡ Some y → 0 < length y.core.queue → y.core.spreading ≡ None → r.id.req ≡ y.core.passed + 1 → lock_at w (locker_of v.members) ≡ Some l → l.node ≡ m → l.req ≡ y.core.passed + 1 → Leads goes_on w (λ u. Freed v w0 m 1 u)
  granted_go law v w0 w m y r l h nr hd lm ll yat some none rq lk ln lr =
      let L : ℕ = locker_of v.members in
      let nk : NodeOk w m y = h.stand.sound.inv.nodes m y yat in
      let op : y.core.is_open ≡ true = nk.local.core_open ∙ h.open_ m y lm yat in
      let asks : updating.asks_for y.core r.id.req ≡ true =
      both (nat_lt 0 (length y.core.queue) && nat_eq r.id.req (y.core.passed + 1)) (is_none y.core.spreading)
      (both (nat_lt 0 (length y.core.queue)) (nat_eq r.id.req (y.core.passed + 1)) (lt_is 0 (length y.core.queue) some) (eq_is r.id.req (y.core.passed + 1) rq))
      (ap is_none none) in
      let gr : updating.granted y.core r.id.req r.place ≡ updating.spread y.core r.place 0 =
      ap (λ (b : Bool). if b then updating.spread y.core r.place 0 else (y.core, if y.core.is_open && updating.has_left y.core r.id.req then decision.ReleaseAgain r.id.req else decision.Nothing)) (both y.core.is_open (updating.asks_for y.core r.id.req) op asks) in
      let ev : happens w (Deliver hd.at Written) ≡ absorb m (proceeds y r (updating.spread y.core r.place 0)) w =
      still_is w (mail v L m (Granted r)) y (proceeds y r (updating.spread y.core r.place 0)) hd yat (heard w v y L m (Granted r) h ll lm yat ∙ ap (λ (t : CoreState × Decision). unlogged (proceeds y r t)) gr) in
      proceed_step law v w0 w m y r 0 l (Deliver hd.at Written) h nr lm ll yat some lk ln lr refl ev
      (λ to rc live.
      let c : NodeState M = spreading_at y r 0 in
      let es : List Effect = Send (packet c to (Apply r)) ∷ [] in
      spread_go (length (spread_of v.members)) law v w0 (turned w w.log m c es) m c (record { place = r.place; at = 0 }) l live (near_turned w0 w m y c es nr yat (omega arith)) lm ll (put_self w.nodes m (Some c)) some refl
      (shown_same (λ (a : NodeState M). a.core.lock) None w.nodes m y c yat refl L ∙ lk) ln lr (omega arith))

  -- A Granted at the node that finished its request: its Release was lost
  finished_go : IsMachine M → (v : View) (w0 w : World M) (m : ℕ) (y : NodeState M) (r : Entry) (l : Lock) → Live w v → Near w0 w → Held w (mail v (locker_of v.members) m (Granted r)) → 0 < inc_of v.members m → 0 < inc_of v.members (locker_of v.members) → w.nodes m ≡ Some y → 0 < r.id.req → r.id.req ≤ y.core.passed → lock_at w (locker_of v.members) ≡ Some l → l.node ≡ m → l.req ≡ r.id.req → Leads goes_on w (λ u. Freed v w0 m 0 u)
  finished_go law v w0 w m y r l h nr hd lm ll yat one left lk ln lr =
      let L : ℕ = locker_of v.members in
      let q : ℕ = r.id.req in
      let nk : NodeOk w m y = h.stand.sound.inv.nodes m y yat in
      let rn = member_runs w v m y h lm yat in
      let op : y.core.is_open ≡ true = nk.local.core_open ∙ h.open_ m y lm yat in
      let nope : (y.core.is_open && updating.asks_for y.core q) ≡ false = off y.core.is_open (nat_lt 0 (length y.core.queue)) (nat_eq q (y.core.passed + 1)) (is_none y.core.spreading) (eq_not q (y.core.passed + 1) (omega (arith, left))) in
      let yes : (y.core.is_open && updating.has_left y.core q) ≡ true = both y.core.is_open (updating.has_left y.core q) op (both (nat_lt 0 q) (nat_le q y.core.passed) (lt_is 0 q one) (le_is q y.core.passed left)) in
      let gr : updating.granted y.core q r.place ≡ (y.core, decision.ReleaseAgain q) =
      ap (λ (b : Bool). if b then updating.spread y.core r.place 0 else (y.core, if y.core.is_open && updating.has_left y.core q then decision.ReleaseAgain q else decision.Nothing)) nope
      ∙ ap (λ (b : Bool). (y.core, if b then decision.ReleaseAgain q else decision.Nothing)) yes in
      let es : List Effect = Send (packet y (locker_at y) (Release q)) ∷ [] in
      let ev : happens w (Deliver hd.at Written) ≡ turned w w.log m y es =
      still_is w (mail v L m (Granted r)) y (becomes y es) hd yat (heard w v y L m (Granted r) h ll lm yat ∙ ap (λ (t : CoreState × Decision). unlogged (proceeds y r t)) gr) in
      go law w v (Deliver hd.at Written) w.log m y y es (λ u. Freed v w0 m 0 u) refl h ev yat refl refl
      (λ live.
      let u : World M = turned w w.log m y es in
      let n1 : Near w0 u = near_turned w0 w m y y es nr yat (omega arith) in
      let hd2 : Held u (mail v m L (Release q)) = sends w v w.log m y es m (locker_at y) L 0 (Release q) rn.view nk.local.node (ap (λ (t : View). locker_of t.members) rn.view) refl in
      let few : queue_at u m ≤ queue_at w0 m = n1.fewer m in
      release_step law v w0 u m q 0 l live n1 hd2 lm ll (shown_same (λ (t : NodeState M). t.core.lock) None w.nodes m y y yat refl L ∙ lk) ln lr (omega (arith, few)))
    where
      off : (a b c d : Bool) → c ≡ false → (a && (b && c && d)) ≡ false
      off true true true d e = cc
      off true true false d e = refl
      off true false c d e = refl
      off false b c d e = refl

  weaken : (v : View) (w0 : World M) (m : ℕ) (w : World M) → Leads goes_on w (λ u. Freed v w0 m 1 u) → Leads goes_on w (λ u. Freed v w0 m 0 u)
  weaken v w0 m w h = leads_then goes_on w (λ u. Freed v w0 m 1 u) (λ u. Freed v w0 m 0 u) h (λ u f. leads_now goes_on u (λ u. Freed v w0 m 0 u) (record { live = f.live; near = f.near; free = f.free; less = let a : queue_at u m + 1 ≤ queue_at w0 m = f.less in omega (arith, a) }))

  -- A lock that is held is freed
  pub lock_go : IsMachine M → (v : View) (w : World M) (l : Lock) → Live w v → 0 < inc_of v.members (locker_of v.members) → lock_at w (locker_of v.members) ≡ Some l → Leads goes_on w (λ u. Freed v w l.node 0 u)
  lock_go law v w l h ll lk =
      let L : ℕ = locker_of v.members in
      let o = h.stand.member L ll in
      let x : NodeState M = o.0 in
      let xat : w.nodes L ≡ Some x = o.1.node in
      let xk : NodeOk w L x = h.stand.sound.inv.nodes L x xat in
      let xl : x.core.lock ≡ Some l = sym (shown_at (λ (t : NodeState M). t.core.lock) None w L x xat) ∙ lk in
      let f = xk.lock l xl in
      let r : Entry = f.2 in
      let st : Stands w.log r = record { at = f.4.at } in
      let s = state_of x (xk.prefix.ready_state (open_is_ready x.join f.0)).0 in
      let last : x.last ≡ Some r = xk.prefix.last s.0 s.1 ∙ ap (λ (k : ℕ). at_place w.log.order k) (sym (done_at x s.0 s.1)) ∙ f.3 in
      let m : ℕ = l.node in
      let rinc : r.id.inc ≡ inc_of v.members m = f.6 ∙ ap (λ (t : View). inc_of t.members m) o.1.view in
      let lg = h.stand.sound.inv.log.logged r st in
      let lm : 0 < inc_of v.members m = subst (λ (a : ℕ). 0 < a) rinc lg.3 in
      let yo = h.stand.member m lm in
      let y : NodeState M = yo.0 in
      let yat : w.nodes m ≡ Some y = yo.1.node in
      let ak = h.stand.sound.inv.log.asked r st in
      let qa : r.id.req ≤ greatest_asked y = ak.1.asks y (ap w.nodes f.5 ∙ yat) (yo.1.inc ∙ sym rinc) in
      let ask : 1 ≤ r.id.req = ak.0 in
      let tk = lock_tells x l r xl last in
      let es : List Effect = (tick x).effects in
      let u : World M = turned w w.log L x es in
      go law w v (Tick L) w.log L x x es (λ u. Freed v w m 0 u) refl h (tick_is w L x xat) xat refl refl
      (λ live.
      let n1 : Near w u = near_turned w w L x x es (near_self w) xat (omega arith) in
      let hd : Held u (mail v L m (Granted r)) = sends w v w.log L x es L m m tk.0 (Granted r) o.1.view xk.local.node refl tk.1 in
      let y1 : u.nodes m ≡ Some y = same w.nodes L x xat m ∙ yat in
      let lk1 : lock_at u L ≡ Some l = shown_same (λ (t : NodeState M). t.core.lock) None w.nodes L x x xat refl L ∙ lk in
      let done : r.id.req ≤ y.core.passed → Leads goes_on u (λ t. Freed v w m 0 t) = λ le. finished_go law v w u m y r l live n1 hd lm ll y1 (omega (arith, ask)) le lk1 refl (sym f.7) in
      list_cases (λ (g : ℕ). r.id.req ≤ g → Leads goes_on u (λ t. Freed v w m 0 t)) y.core.queue y.core.passed (λ a as_. y.core.passed + 1)
      (λ e le. done le)
      (λ a as_ e le. ⊎_elim done (λ (eq : r.id.req ≡ y.core.passed + 1).
      let some : 0 < length y.core.queue = subst (λ (t : List Update). 0 < length t) (sym e) (omega arith) in
      weaken v w m u (option_cases (λ (k : ℕ). Leads goes_on u (λ t. Freed v w m 1 t)) y.core.spreading 0 (λ s. 0)
      (λ none. granted_go law v w u m y r l live n1 hd lm ll y1 some none eq lk1 refl (sym f.7 ∙ eq))
      (λ s sp. spread_go (length (spread_of v.members)) law v w u m y s l live n1 lm ll y1 some sp lk1 refl (sym f.7 ∙ eq) (omega arith)))) (split r.id.req y.core.passed le))
      qa)
    where
      same : (g : ℕ → Option (NodeState M)) (n : ℕ) (x : NodeState M) → g n ≡ Some x → (m : ℕ) → put g n (Some x) m ≡ g m
      same g n x e m = if_cases (λ (o : Option (NodeState M)). o ≡ g m) (nat_eq m n) _ _ (λ q. sym (ap g (eq_true m n q) ∙ e)) (λ q. refl)

      split : (a b : ℕ) → a ≤ b + 1 → (a ≤ b) ⊎ (a ≡ b + 1)
      split a b le = elim (nat_le a b) as (λ (c : Bool). nat_le a b ≡ c → (a ≤ b) ⊎ (a ≡ b + 1)) [ true ↦ λ e. inl (yes a b e) | false ↦ λ e. inr (no a b le e) ] refl

  -- The owner of the log
  pub record Owned (w : World M) (v : View) : Type 0 where
    pub node : NodeState M
    pub runs : Runs w v (locker_of v.members) node
    pub is_open : node.core.is_open ≡ true
    pub locks : updating.locks node.core ≡ true
    pub members : node.core.members ≡ v.members
    pub join_open : joining.is_open node.join ≡ true
    pub owner : OwnerOk w (locker_of v.members) node

  pub owned : (w : World M) (v : View) → Live w v → 0 < inc_of v.members (locker_of v.members) → Owned w v
  owned w v h ll =
      let L : ℕ = locker_of v.members in
      let o = h.stand.member L ll in
      let x : NodeState M = o.0 in
      let nk : NodeOk w L x = h.stand.sound.inv.nodes L x o.1.node in
      let op : joining.is_open x.join ≡ true = h.open_ L x ll o.1.node in
      let mem : x.core.members ≡ v.members = nk.local.core_members ∙ ap (λ (t : View). t.members) o.1.view in
      let lks : joining.locks x.join ≡ true =
      ap (λ (t : View). is_locker t.members x.join.node) o.1.view
      ∙ ap (λ (a : ℕ). is_locker v.members a) nk.local.node ∙ locker_locks v.members ll in
      record {
        node = x;
        runs = o.1;
        is_open = nk.local.core_open ∙ op;
        locks = ap (λ (ms : List Member). is_locker ms x.core.node) mem ∙ ap (λ (a : ℕ). is_locker v.members a) nk.local.core_node ∙ locker_locks v.members ll;
        members = mem;
        join_open = op;
        owner = h.stand.sound.inv.owner L x (record { runs = o.1.node; ready = open_is_ready x.join op; locker = lks; held = ap (λ (t : View). t.number) o.1.view ∙ sym h.stand.held });
      }

  asked_most : (y : NodeState M) (q : ℕ) → q ≤ greatest_asked y → q ≤ y.core.passed + 1
  asked_most y q = list_cases (λ (g : ℕ). q ≤ g → q ≤ y.core.passed + 1) y.core.queue y.core.passed (λ a as_. y.core.passed + 1) (λ e le. omega (arith, le)) (λ a as_ e le. le)

  -- with a free lock no head's record stands
  head_free : (w : World M) (v : View) (m : ℕ) (y : NodeState M) (r : Entry) → Live w v → 0 < inc_of v.members m → 0 < inc_of v.members (locker_of v.members) → w.nodes m ≡ Some y → 0 < length y.core.queue → lock_at w (locker_of v.members) ≡ None → Stands w.log r → Has r m y.join.inc (at_head y) → ⊥
  head_free w v m y r h lm ll yat some lk st has =
      let ow = owned w v h ll in
      let yr = member_runs w v m y h lm yat in
      let yk : NodeOk w m y = h.stand.sound.inv.nodes m y yat in
      let mo = ow.owner.members ow.join_open m y yat (ap (λ (t : View). inc_of t.members m) ow.runs.view ∙ sym yr.inc) in
      let k = mo.heads r (length_some y.core.queue some, yk.local.unsettled (h.open_ m y lm yat)) st has in
      let free : ow.node.core.lock ≡ None = sym (shown_at (λ (t : NodeState M). t.core.lock) None w (locker_of v.members) ow.node ow.runs.node) ∙ lk in
      let q : Some k.0 ≡ None = sym k.1 ∙ free in
      cc

  -- A head is asked for, logged, spread and finished
  pub record Round (v : View) (w : World M) (m : ℕ) (t : World M) : Type 0 where
    pub live : Live t v
    pub requests : t.requests ≡ w.requests
    pub fewer : (n : ℕ) → queue_at t n ≤ queue_at w n
    pub less : queue_at t m + 1 ≤ queue_at w m
    pub free : lock_at t (locker_of v.members) ≡ None
    pub order : length t.log.order ≤ length w.log.order + 1

  pub ask_go : IsMachine M → (v : View) (w : World M) (m : ℕ) (y : NodeState M) → Live w v → 0 < inc_of v.members m → 0 < inc_of v.members (locker_of v.members) → w.nodes m ≡ Some y → 0 < length y.core.queue → lock_at w (locker_of v.members) ≡ None → length w.log.order < last_place → Leads goes_on w (λ t. Round v w m t)
  ask_go law v w m y h lm ll yat some lk room =
      let L : ℕ = locker_of v.members in
      let q : ℕ = y.core.passed + 1 in
      let yr = member_runs w v m y h lm yat in
      let yk : NodeOk w m y = h.stand.sound.inv.nodes m y yat in
      let f = first_of_list y.core.queue some in
      let a : Update = f.0 in
      let none : y.core.spreading ≡ None = none_or y.core.spreading (λ s sp. let t = yk.spreading s sp in head_free w v m y t.0 h lm ll yat some lk (record { at = t.4.at }) t.5) in
      let tk = ask_tells y a f.1 (yk.local.core_open ∙ h.open_ m y lm yat) f.2 none in
      let es1 : List Effect = (tick y).effects in
      let u1 : World M = turned w w.log m y es1 in
      go law w v (Tick m) w.log m y y es1 (λ t. Round v w m t) refl h (tick_is w m y yat) yat refl refl
      (λ h1.
      let hd1 : Held u1 (mail v m L (Ask q a)) = sends w v w.log m y es1 m (locker_at y) L tk.0 (Ask q a) yr.view yk.local.node (ap (λ (t : View). locker_of t.members) yr.view) tk.1 in
      let lk1 : lock_at u1 L ≡ None = shown_same (λ (t : NodeState M). t.core.lock) None w.nodes m y y yat refl L ∙ lk in
      let ow = owned u1 v h1 ll in
      let x : NodeState M = ow.node in
      let xat : u1.nodes L ≡ Some x = ow.runs.node in
      let xk : NodeOk u1 L x = h1.stand.sound.inv.nodes L x xat in
      let xc = (h1.stand.sound.cores L x xat).0 in
      let y1 : u1.nodes m ≡ Some y = put_self w.nodes m (Some y) in
      let yk1 : NodeOk u1 m y = h1.stand.sound.inv.nodes m y y1 in
      let inc : inc_of x.core.members m ≡ y.join.inc = ap (λ (ms : List Member). inc_of ms m) ow.members ∙ sym yr.inc in
      let lx : 0 < inc_of x.core.members m = subst (λ (ms : List Member). 0 < inc_of ms m) (sym ow.members) lm in
      let free : x.core.lock ≡ None = sym (shown_at (λ (t : NodeState M). t.core.lock) None u1 L x xat) ∙ lk1 in
      let low : greatest_of x.core m < q = below (greatest_of x.core m) y.core.passed (λ pos.
      let r = xc.greatest m lx pos in
      let ak = (h1.stand.sound.inv.log.asked r.0 r.1).1.asks y (ap u1.nodes r.2.node ∙ y1) (sym (r.2.inc ∙ inc)) in
      let le : greatest_of x.core m ≤ y.core.passed + 1 = subst (λ (b : ℕ). b ≤ y.core.passed + 1) r.2.req (asked_most y r.0.id.req ak) in
      (le, λ eq. head_free u1 v m y r.0 h1 lm ll y1 some lk1 r.1 (record { node = r.2.node; inc = r.2.inc ∙ inc; req = r.2.req ∙ eq }))) in
      let dn : done_of x ≡ length u1.log.order = ow.owner.all_done in
      let rm : done_of x < last_place = subst (λ (b : ℕ). b < last_place) (sym dn) room in
      let may : updating.may_log x.core m q (done_of x) ≡ true = both (nat_lt (greatest_of x.core m) q) (nat_lt (done_of x) last_place) (lt_is (greatest_of x.core m) q low) (lt_is (done_of x) last_place rm) in
      let as_ : updating.asked x.core m q (done_of x) ≡ decision.Write m q =
      ap (λ (b : Bool). if b then elim x.core.lock [ None ↦ if updating.may_log x.core m q (done_of x) then decision.Write m q else decision.Nothing | Some l ↦ if nat_eq l.node m && nat_eq l.req q then decision.Grant m q l.place else decision.Nothing ] else decision.Nothing) (both x.core.is_open (updating.locks x.core) ow.is_open ow.locks)
      ∙ ap (λ (o : Option Lock). elim o [ None ↦ if updating.may_log x.core m q (done_of x) then decision.Write m q else decision.Nothing | Some l ↦ if nat_eq l.node m && nat_eq l.req q then decision.Grant m q l.place else decision.Nothing ]) free
      ∙ ap (λ (b : Bool). if b then decision.Write m q else decision.Nothing) may in
      let e : Entry = entry_for x m q a in
      let z : NodeState M = has_logged x e in
      let es2 : List Effect = Send (packet z m (Granted e)) ∷ [] in
      let d : Logged M = record { out = becomes z es2; appended = Some e; doubtful = None } in
      let held : u1.log.held ≡ number_of x = h1.stand.held ∙ ap (λ (t : View). t.number) (sym ow.runs.view) in
      let wr : writes x e u1.log.held Written ≡ d = ap (λ (b : Bool). if b then unlogged (halts (halt.Fenced u1.log.held)) else d) (lt_not (number_of x) u1.log.held (sym held)) in
      let rc : receive x (mail v m L (Ask q a)) u1.log.held Written ≡ d = heard u1 v x m L (Ask q a) h1 lm ll xat ∙ ap (λ (t : Decision). answers x a u1.log.held Written t) as_ ∙ wr in
      let l2 : Log = append (Some e) (number_of x) u1.log in
      let u2 : World M = turned u1 l2 L z es2 in
      let ev : happens u1 (Deliver hd1.at Written) ≡ u2 = deliver_is u1 (mail v m L (Ask q a)) x hd1 xat ∙ ap (λ (t : Logged M). absorb L t.out (logs (number_of x) t u1)) rc in
      let pl : e.place ≡ length u1.log.order + 1 = ap (λ (b : ℕ). b + 1) dn in
      let has : Has e m (inc_of x.core.members m) q = record { node = refl; inc = ap (λ (ms : List Member). inc_of ms m) (sym xk.local.core_members); req = refl } in
      go law u1 v (Deliver hd1.at Written) l2 L x z es2 (λ t. Round v w m t) refl h1 ev xat refl refl
      (λ h2.
      let hd2 : Held u2 (mail v L m (Granted e)) = sends u1 v l2 L z es2 L m m 0 (Granted e) ow.runs.view xk.local.node refl refl in
      let yo = h2.stand.member m lm in
      let b : NodeState M = yo.0 in
      let bq : b.core.queue ≡ y.core.queue = sym (shown_at (λ (t : NodeState M). t.core.queue) [] u2 m b yo.1.node) ∙ shown_same (λ (t : NodeState M). t.core.queue) [] u1.nodes L x z xat refl m ∙ shown_at (λ (t : NodeState M). t.core.queue) [] u1 m y y1 in
      let bp : b.core.passed ≡ y.core.passed = sym (shown_at (λ (t : NodeState M). t.core.passed) 0 u2 m b yo.1.node) ∙ shown_same (λ (t : NodeState M). t.core.passed) 0 u1.nodes L x z xat refl m ∙ shown_at (λ (t : NodeState M). t.core.passed) 0 u1 m y y1 in
      let bs : b.core.spreading ≡ None = sym (shown_at (λ (t : NodeState M). t.core.spreading) None u2 m b yo.1.node) ∙ shown_same (λ (t : NodeState M). t.core.spreading) None u1.nodes L x z xat refl m ∙ shown_at (λ (t : NodeState M). t.core.spreading) None u1 m y y1 ∙ none in
      let bsome : 0 < length b.core.queue = subst (λ (t : List Update). 0 < length t) (sym bq) some in
      let l : Lock = record { node = m; req = q; place = e.place } in
      let lk2 : lock_at u2 L ≡ Some l = ap (λ (o : Option (NodeState M)). shown (λ (t : NodeState M). t.core.lock) None o) (put_self u1.nodes L (Some z)) in
      let bl : q ≡ b.core.passed + 1 = ap (λ (b : ℕ). b + 1) (sym bp) in
      leads_then goes_on u2 (λ t. Freed v u2 m 1 t) (λ t. Round v w m t) (granted_go law v u2 u2 m b e l h2 (near_self u2) hd2 lm ll yo.1.node bsome bs bl lk2 refl bl)
      (λ t fr. leads_now goes_on t (λ t. Round v w m t) (record {
        live = fr.live;
        requests = fr.near.requests;
        fewer = λ n.
            let a1 : queue_at u1 n ≤ queue_at w n = queue_less w.nodes m y y yat (omega arith) n in
            let a2 : queue_at u2 n ≤ queue_at u1 n = queue_less u1.nodes L x z xat (omega arith) n in
            let a3 : queue_at t n ≤ queue_at u2 n = fr.near.fewer n in
            omega (arith, a1, a2, a3);
        less =
            let a1 : queue_at u1 m ≤ queue_at w m = queue_less w.nodes m y y yat (omega arith) m in
            let a2 : queue_at u2 m ≤ queue_at u1 m = queue_less u1.nodes L x z xat (omega arith) m in
            let a3 : queue_at t m + 1 ≤ queue_at u2 m = fr.less in
            omega (arith, a1, a2, a3);
        free = fr.free;
        order =
            let a1 : length t.log.order ≡ length (u1.log.order ++ e ∷ []) = ap (λ (l : Log). length l.order) fr.near.log in
            let a2 : length (u1.log.order ++ e ∷ []) ≡ length u1.log.order + 1 = length_snoc u1.log.order e in
            omega (arith, a1, a2);
      }))))
    where
      below : (g p : ℕ) → (0 < g → (g ≤ p + 1) × (g ≡ p + 1 → ⊥)) → g < p + 1
      below zero p f = omega arith
      below (suc g) p f = let r = f (omega arith) in let le : suc g ≤ p + 1 = r.0 in elim (nat_eq (suc g) (p + 1)) as (λ (b : Bool). nat_eq (suc g) (p + 1) ≡ b → suc g < p + 1) [
        | true ↦ λ e. absurd (r.1 (eq_true (suc g) (p + 1) e))
        | false ↦ λ e. lower (suc g) (p + 1) le e
      ] refl
