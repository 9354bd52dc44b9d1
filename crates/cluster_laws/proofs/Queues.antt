-- In an open view all that is queued is served, one request after the other.
use Rattle.std.proofs.Common.{◌≡◌, ◌⊎◌, inl, inr, ⊎_elim, ℕ, zero, suc, ◌+◌, ◌<◌, ◌≤◌, Bool, true, false, List, [], ◌∷◌, length, Option, Some, None, nat_eq, if◌then◌else◌, slice_get, refl, sym, ap, ◌∙◌, subst, arith}
use Rattle.gum_messages.specs.declared.member.Member.{Member}
use Rattle.gum_messages.specs.declared.view.View.{View}
use Rattle.gum_messages.specs.Members.{inc_of, is_locker, locker_of}
use Rattle.update_records.specs.declared.update.Update.{Update}
use Rattle.update_records.specs.Grammar.{last_place}
use Rattle.gum_core.specs.declared.lock.Lock.{Lock}
use Rattle.view_reconcile.specs.Joining as joining
use Rattle.cluster_rules.specs.Machines.{Machine, IsMachine}
use Rattle.cluster_rules.specs.Nodes.{NodeState}
use Rattle.cluster_rules.specs.Worlds.{Log, World}
use Rattle.cluster_rules.specs.Progress.{Leads, Served, goes_on, queue_at, waiting}
use Rattle.cluster_laws.proofs.Inv.{NodeOk}
use Rattle.cluster_laws.proofs.Applying.{eq_true, locker_is}
use Rattle.cluster_laws.proofs.Leading.{Live, leads_now, leads_then}
use Rattle.cluster_laws.proofs.Propagation.{Freed, above, lock_at, shown_at}
use Rattle.cluster_laws.proofs.Serving.{Round, ask_go, lock_go, none_or}

empty_list : {A : Type 0} (l : List A) → length l ≡ 0 → l ≡ []
empty_list [] e = refl
empty_list (x ∷ xs) e = absurd (omega (arith, e))

module _ {M : Machine} where
  pub waiting_le : (w t : World M) (ms : List Member) → ((n : ℕ) → queue_at t n ≤ queue_at w n) → waiting t ms ≤ waiting w ms
  waiting_le w t [] f = omega arith
  waiting_le w t (m ∷ ms) f =
      let a : queue_at t m.node ≤ queue_at w m.node = f m.node in
      let b : waiting t ms ≤ waiting w ms = waiting_le w t ms f in
      omega (arith, a, b)

  waiting_lt : (w t : World M) (ms : List Member) (n : ℕ) → ((n : ℕ) → queue_at t n ≤ queue_at w n) → 0 < inc_of ms n → queue_at t n + 1 ≤ queue_at w n → waiting t ms + 1 ≤ waiting w ms
  waiting_lt w t [] n f lt less = absurd (omega (arith, lt))
  waiting_lt w t (m ∷ ms) n f lt less =
      let a : queue_at t m.node ≤ queue_at w m.node = f m.node in
      let b : waiting t ms ≤ waiting w ms = waiting_le w t ms f in
      elim (nat_eq m.node n) as (λ (c : Bool). nat_eq m.node n ≡ c → 0 < (if c then m.inc else inc_of ms n) → waiting t (m ∷ ms) + 1 ≤ waiting w (m ∷ ms)) [
        | true ↦ λ e g.
            let q : m.node ≡ n = eq_true m.node n e in
            let d : queue_at t m.node + 1 ≤ queue_at w m.node = subst (λ (k : ℕ). queue_at t k + 1 ≤ queue_at w k) (sym q) less in
            omega (arith, d, b)
        | false ↦ λ e g. let d : waiting t ms + 1 ≤ waiting w ms = waiting_lt w t ms n f g less in omega (arith, a, d)
      ] refl lt

  waiting_has : (w : World M) (ms : List Member) (n : ℕ) → 0 < inc_of ms n → queue_at w n ≤ waiting w ms
  waiting_has w [] n lt = absurd (omega (arith, lt))
  waiting_has w (m ∷ ms) n lt =
      elim (nat_eq m.node n) as (λ (c : Bool). nat_eq m.node n ≡ c → 0 < (if c then m.inc else inc_of ms n) → queue_at w n ≤ waiting w (m ∷ ms)) [
        | true ↦ λ e g. let d : queue_at w m.node ≡ queue_at w n = ap (λ (k : ℕ). queue_at w k) (eq_true m.node n e) in omega (arith, d)
        | false ↦ λ e g. let d : queue_at w n ≤ waiting w ms = waiting_has w ms n g in omega (arith, d)
      ] refl lt

  -- nobody waits, or a member does
  waiting_find : (w : World M) (v : View) (ms : List Member) → ((j : ℕ) (t : Member) → slice_get ms j ≡ Some t → 0 < inc_of v.members t.node) → (waiting w ms ≡ 0) ⊎ ((n : ℕ) × (0 < inc_of v.members n) × (0 < queue_at w n))
  waiting_find w v [] f = inl refl
  waiting_find w v (m ∷ ms) f =
      let rest : (waiting w ms ≡ 0) ⊎ ((n : ℕ) × (0 < inc_of v.members n) × (0 < queue_at w n)) = waiting_find w v ms (λ j t e. f (suc j) t e) in
      let here : 0 < inc_of v.members m.node = f 0 m refl in
      pick (queue_at w m.node) (λ z. ⊎_elim (λ (e : waiting w ms ≡ 0). inl (omega (arith, z, e))) (λ (r : (n : ℕ) × (0 < inc_of v.members n) × (0 < queue_at w n)). inr r) rest) (λ pos. inr (m.node, here, pos))
    where
      pick : (k : ℕ) → (k ≡ 0 → (waiting w (m ∷ ms) ≡ 0) ⊎ ((n : ℕ) × (0 < inc_of v.members n) × (0 < queue_at w n))) → (0 < k → (waiting w (m ∷ ms) ≡ 0) ⊎ ((n : ℕ) × (0 < inc_of v.members n) × (0 < queue_at w n))) → (waiting w (m ∷ ms) ≡ 0) ⊎ ((n : ℕ) × (0 < inc_of v.members n) × (0 < queue_at w n))
      pick zero f g = f refl
      pick (suc k) f g = g (omega arith)

  -- nothing is left to do
  pub record Done (v : View) (w t : World M) : Type 0 where
    pub live : Live t v
    pub requests : t.requests ≡ w.requests
    pub free : lock_at t (locker_of v.members) ≡ None
    pub empty : waiting t v.members ≡ 0

  pub serve : (k : ℕ) → IsMachine M → (v : View) (w : World M) → Live w v → 0 < inc_of v.members (locker_of v.members) → lock_at w (locker_of v.members) ≡ None → waiting w v.members ≤ k → length w.log.order + waiting w v.members ≤ last_place → Leads goes_on w (λ t. Done v w t)
  serve zero law v w h ll free few room = leads_now goes_on w (λ t. Done v w t) (record { live = h; requests = refl; free = free; empty = omega (arith, few) })
  serve (suc k) law v w h ll free few room = ⊎_elim
      (λ (z : waiting w v.members ≡ 0). leads_now goes_on w (λ t. Done v w t) (record { live = h; requests = refl; free = free; empty = z }))
      (λ (p : (n : ℕ) × (0 < inc_of v.members n) × (0 < queue_at w n)).
      let m : ℕ = p.0 in
      let o = h.stand.member m p.1 in
      let y : NodeState M = o.0 in
      let some : 0 < length y.core.queue = subst (λ (a : ℕ). 0 < a) (shown_at (λ (t : NodeState M). length t.core.queue) 0 w m y o.1.node) p.2 in
      let has : queue_at w m ≤ waiting w v.members = waiting_has w v.members m p.1 in
      let pos : 0 < queue_at w m = p.2 in
      leads_then goes_on w (λ t. Round v w m t) (λ t. Done v w t) (ask_go law v w m y h p.1 ll o.1.node some free (omega (arith, has, pos, room)))
      (λ t r.
      let lt : waiting t v.members + 1 ≤ waiting w v.members = waiting_lt w t v.members m r.fewer p.1 r.less in
      let od : length t.log.order ≤ length w.log.order + 1 = r.order in
      leads_then goes_on t (λ u. Done v t u) (λ u. Done v w u) (serve k law v t r.live ll r.free (omega (arith, lt, few)) (omega (arith, lt, od, room)))
      (λ u d. leads_now goes_on u (λ u. Done v w u) (record { live = d.live; requests = d.requests ∙ r.requests; free = d.free; empty = d.empty }))))
      (waiting_find w v v.members (λ j t e. (above 0 v.members j t h.stand.shape.ascending e).1))

  -- What is done is served
  pub done_served : (v : View) (w t : World M) → Done v w t → Served t v
  done_served v w t d = record {
    rests = λ n lt.
        let o = d.live.stand.member n lt in
        let x : NodeState M = o.0 in
        let nk : NodeOk t n x = d.live.stand.sound.inv.nodes n x o.1.node in
        record {
          state = x;
          runs = o.1;
          open_ = d.live.open_ n x lt o.1.node;
          queue = idle n lt;
          lock = none_or x.core.lock (λ l e.
              let lk : joining.locks x.join ≡ true = (nk.lock l e).1 in
              let at : is_locker v.members n ≡ true = ap (λ (a : ℕ). is_locker v.members a) (sym nk.local.node) ∙ ap (λ (u : View). is_locker u.members x.join.node) (sym o.1.view) ∙ lk in
              let same : locker_of v.members ≡ n = locker_is v.members n at in
              let q : None ≡ Some l = sym d.free ∙ ap (λ (a : ℕ). lock_at t a) same ∙ shown_at (λ (u : NodeState M). u.core.lock) None t n x o.1.node ∙ e in
              cc);
        };
    acked = λ n q lt one le.
        let o = d.live.stand.member n lt in
        let x : NodeState M = o.0 in
        let nk : NodeOk t n x = d.live.stand.sound.inv.nodes n x o.1.node in
        let all : length (t.requests n (inc_of v.members n)) ≡ x.core.passed + length x.core.queue = ap (λ (i : ℕ). length (t.requests n i)) (sym o.1.inc) ∙ nk.all_requests in
        let none : length x.core.queue ≡ 0 = ap (λ (l : List Update). length l) (idle n lt) in
        let f = nk.finished q one (omega (arith, le, all, none)) in
        record { record_ = f.0; stands = f.3.at; node = f.4.node; inc = f.4.inc ∙ o.1.inc; req = f.4.req; ack = suc f.1; view = f.2; acked = f.5 };
  }
    where
      idle : (n : ℕ) (lt : 0 < inc_of v.members n) → (d.live.stand.member n lt).0.core.queue ≡ []
      idle n lt =
          let o = d.live.stand.member n lt in
          let has : queue_at t n ≤ waiting t v.members = waiting_has t v.members n lt in
          let z : waiting t v.members ≡ 0 = d.empty in
          let at : queue_at t n ≡ length o.0.core.queue = shown_at (λ (u : NodeState M). length u.core.queue) 0 t n o.0 o.1.node in
          empty_list o.0.core.queue (omega (arith, has, z, at))

  -- From an open view in which nobody is missing, deliveries and ticks alone serve each request
  pub open_served : IsMachine M → (v : View) (w : World M) → Live w v → 0 < inc_of v.members (locker_of v.members) → length w.log.order + waiting w v.members ≤ last_place → Leads goes_on w (λ t. Served t v)
  open_served law v w h ll room =
      let L : ℕ = locker_of v.members in
      let Q : World M → Type 0 = λ t. Served t v in
      let free : (u : World M) → Live u v → lock_at u L ≡ None → length u.log.order + waiting u v.members ≤ last_place → Leads goes_on u Q = λ u h f r.
      leads_then goes_on u (λ t. Done v u t) Q (serve (waiting u v.members) law v u h ll f (omega arith) r) (λ t d. leads_now goes_on t Q (done_served v u t d)) in
      both (lock_at w L) (λ e. free w h e room) (λ l e.
      leads_then goes_on w (λ u. Freed v w l.node 0 u) Q (lock_go law v w l h ll e) (λ u f.
      let le : waiting u v.members ≤ waiting w v.members = waiting_le w u v.members f.near.fewer in
      let od : length u.log.order ≡ length w.log.order = ap (λ (g : Log). length g.order) f.near.log in
      free u f.live f.free (omega (arith, le, od, room))))
    where
      both : (o : Option Lock) → (o ≡ None → Leads goes_on w (λ t. Served t v)) → ((l : Lock) → o ≡ Some l → Leads goes_on w (λ t. Served t v)) → Leads goes_on w (λ t. Served t v)
      both None f g = f refl
      both (Some l) f g = g l refl
