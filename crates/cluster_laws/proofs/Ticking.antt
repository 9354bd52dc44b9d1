-- A tick, a clock and a checkpoint.
use Rattle.std.proofs.Common.{◌≡◌, ◌≢◌, inl, ⊎_elim, ℕ, ◌+◌, ◌≤◌, Bool, true, false, not, ◌&&◌, List, [], ◌∷◌, ◌++◌, length, take, Option, Some, None, nat_lt, if◌then◌else◌, slice_get, refl, sym, ap, ◌∙◌, subst, arith}
use Rattle.gum_messages.specs.declared.member.Member.{Member}
use Rattle.gum_messages.specs.Members.{inc_of}
use Rattle.gum_messages.specs.Places.{at_place}
use Rattle.gum_messages.proofs.Branches.{if_cases, option_cases}
use Rattle.gum_messages.proofs.Placing.{get_push, get_within, place_within}
use Rattle.update_records.specs.Entry.{Entry}
use Rattle.gum_core.specs.declared.decision.Decision.{Decision}
use Rattle.gum_core.specs.Updating.{CoreState, greatest_of}
use Rattle.gum_core.specs.Updating as updating
use Rattle.view_reconcile.specs.declared.step.Step.{Step}
use Rattle.view_reconcile.specs.declared.step.Step.TheVariants as step
use Rattle.view_reconcile.specs.Joining.{ReconcileState}
use Rattle.view_reconcile.specs.Joining as joining
use Rattle.cluster_rules.specs.declared.effect.HaltCause.TheVariants as halt
use Rattle.cluster_rules.specs.Machines.{Machine, IsMachine}
use Rattle.gum_messages.specs.declared.body.Body.{Body}
use Rattle.gum_messages.specs.declared.body.Body.TheVariants.{Granted, Apply, Offer, Need, Ready}
use Rattle.gum_messages.specs.Messages.{Sent}
use Rattle.cluster_rules.specs.declared.effect.Effect.{Effect}
use Rattle.cluster_rules.specs.declared.effect.Effect.TheVariants.{Send}
use Rattle.cluster_rules.specs.Nodes.{NodeState, Out, Replica, done_of, halts, has_state, locker_at, members_of, nothing, number_of, packet}
use Rattle.cluster_rules.specs.Updates.{tick_head, tick_lock}
use Rattle.cluster_rules.specs.Joins.{offer_each, offered_cap, tick_join}
use Rattle.cluster_rules.specs.Receiving.{checkpoint, clock, tick}
use Rattle.cluster_rules.specs.Worlds.{Point, World, acked, reads, sent}
use Rattle.cluster_laws.proofs.History.{absorbed}
use Rattle.cluster_laws.proofs.Inv.{AckOk, Invariant, LoggedIn, MemberOk, NodeOk, OwnerOk, Past, Pooled}
use Rattle.cluster_laws.proofs.Stable.{Ext, Grown, grown_refl}
use Rattle.cluster_laws.proofs.Moves.{quiet_points, ext_on, move_on, node_on, with_history, at_self, move_keeps, moved, node_in, none_acked, none_told, one_told, owner_moves, put_cases, slice_get_append, stay_keeps, stay_tells, told}
use Rattle.cluster_laws.proofs.Applying.{and_true, done_at, length_some, lt_true, not_true, state_of}
use Rattle.gum_core.proofs.Cases.{ticked_cases}
use Rattle.view_reconcile.proofs.Cases.{pulled_bytes_says}
use Rattle.cluster_laws.proofs.Applying.{replay_cap}
use Rattle.cluster_laws.proofs.HeadRules.{open_is_ready}
use Rattle.cluster_laws.proofs.Heads.{ask_told, asks_acks, asks_told, full_asks, head_requested}
use Rattle.cluster_laws.proofs.Offering.{ready_sent}
use Rattle.cluster_laws.proofs.Opening.{acked_append, sent_append}
use Rattle.cluster_laws.proofs.Asking.{granted_ok}
use Rattle.cluster_laws.proofs.Stopping.{halt_keeps, stop_keeps}

-- messages and no acknowledgements, in two parts
pub record Tells (P : Sent → Type 0) (es : List Effect) : Type 0 where
  pub quiet : acked es ≡ []
  pub each : (k : ℕ) (p : Sent) → slice_get (sent es) k ≡ Some p → P p

pub tells_none : (P : Sent → Type 0) → Tells P []
tells_none P = record { quiet = refl; each = none_told P }

pub tells_one : (P : Sent → Type 0) (p : Sent) → P p → Tells P (Send p ∷ [])
tells_one P p h = record { quiet = refl; each = one_told P p h }

pub tells_both : (P : Sent → Type 0) (a b : List Effect) → Tells P a → Tells P b → Tells P (a ++ b)
tells_both P a b h g = record {
  quiet = acked_append a b ∙ (λ i. h.quiet i ++ g.quiet i);
  each = λ k p e. ⊎_elim
      (λ (c : slice_get (sent a) k ≡ Some p). h.each k p c)
      (λ (c : (j : ℕ) × (slice_get (sent b) j ≡ Some p)). g.each c.0 p c.1)
      (slice_get_append (sent a) (sent b) k p (ap (λ (l : List Sent). slice_get l k) (sym (sent_append a b)) ∙ e));
}

module _ {M : Machine} where
  pub cap_is : IsMachine M → (w : World M) (n : ℕ) (x : NodeState M) → NodeOk w n x → has_state x ≡ true → offered_cap x ≡ w.log.cap
  cap_is law w n x h st =
      let s = state_of x st in
      let e : M.cap s.0.registry ≡ w.log.cap = ap M.cap (h.prefix.registry s.0 s.1) ∙ replay_cap law (take s.0.done w.log.order) (M.empty w.log.cap) ∙ law.begins w.log.cap in
      ap (λ (r : Option (Replica M)). elim r [ None ↦ 0 | Some r ↦ M.cap r.registry ]) s.1 ∙ e

  pub offers_told : (P : Sent → Type 0) (x : NodeState M) (b : Body) (ms : List Member) → ((to : ℕ) → joining.waits_for x.join to ≡ true → P (packet x to b)) → Tells P (offer_each x b ms)
  offers_told P x b [] h = tells_none P
  offers_told P x b (m ∷ ms) h =
      let rest : Tells P (offer_each x b ms) = offers_told P x b ms h in
      if_cases (λ (es : List Effect). Tells P es) (joining.waits_for x.join m.node) _ _
      (λ e. tells_both P (Send (packet x m.node b) ∷ []) (offer_each x b ms) (tells_one P (packet x m.node b) (h m.node e)) rest)
      (λ e. rest)

  pub head_told : (w : World M) (n : ℕ) (x : NodeState M) (es : List Effect) → Invariant w → w.nodes n ≡ Some x → Tells (λ (p : Sent). Pooled (moved w n x es) p) (tick_head x (updating.ticked x.core))
  head_told w n x es j at =
      let h : NodeOk w n x = j.nodes n x at in
      let P : Sent → Type 0 = λ p. Pooled (moved w n x es) p in
      ticked_cases (λ (d : Decision). Tells P (tick_head x d)) x.core
      (tells_none P)
      (λ op some none.
      let jo : joining.is_open x.join ≡ true = sym h.local.core_open ∙ op in
      let rd : joining.is_ready x.join ≡ true = open_is_ready x.join jo in
      let full : x.core.queue ≢ [] = length_some x.core.queue some in
      record {
        quiet = asks_acks x (Some (x.core.passed + 1));
        each = asks_told P x (Some (x.core.passed + 1)) (λ req u us q e.
            let same : x.core.passed + 1 ≡ req = cc in
            ask_told w n x x es req u j at (grown_refl x) refl refl refl rd (omega (arith, full_asks x full)) (head_requested w n x u us req h e (sym same)) (λ r c st id i. h.behind r c (full, h.local.unsettled jo) st (record { node = id.node; inc = id.inc; req = id.req ∙ sym same }) rd i));
      })
      (λ op some s sp to rc. option_cases (λ (l : List Effect). Tells P l) x.spreads [] (λ e. Send (packet x to (Apply e)) ∷ [])
      (λ none. tells_none P)
      (λ e has.
      let t = h.spreading s sp in
      let q : Some t.0 ≡ Some e = sym t.1 ∙ has in
      let same : t.0 ≡ e = cc in
      tells_one P (packet x to (Apply e)) (told w n x x es to (Apply e) h (h.local.ready_view (open_is_ready x.join t.3)) refl refl (subst (λ (a : Entry). LoggedIn w.log a x.join.view.number) same (record { at = t.4.at; view = t.4.view })))))

  pub lock_told : (w : World M) (n : ℕ) (x : NodeState M) (es : List Effect) → Invariant w → w.nodes n ≡ Some x → Tells (λ (p : Sent). Pooled (moved w n x es) p) (tick_lock x)
  lock_told w n x es j at =
      let P : Sent → Type 0 = λ p. Pooled (moved w n x es) p in
      option_cases (λ (l : List Effect). Tells P l) x.core.lock [] (λ l. elim x.last [ None ↦ [] | Some e ↦ Send (packet x l.node (Granted e)) ∷ [] ])
      (λ none. tells_none P)
      (λ l lk. option_cases (λ (t : List Effect). Tells P t) x.last [] (λ e. Send (packet x l.node (Granted e)) ∷ [])
      (λ none. tells_none P)
      (λ e la. tells_one P (packet x l.node (Granted e)) (granted_ok w n x l e es j at lk la)))

  pub join_told : IsMachine M → (w : World M) (n : ℕ) (x : NodeState M) (es : List Effect) → Invariant w → w.nodes n ≡ Some x → (joining.locks x.join ≡ true → x.join.view.number ≢ 0 → joining.is_ready x.join ≡ true) → Tells (λ (p : Sent). Pooled (moved w n x es) p) (tick_join x (joining.ticked x.join))
  join_told law w n x es j at lr =
      let h : NodeOk w n x = j.nodes n x at in
      let P : Sent → Type 0 = λ p. Pooled (moved w n x es) p in
      let Q : Step → Type 0 = λ s. Tells P (tick_join x s) in
      if_cases Q (joining.locks x.join) _ _
      (λ lk. if_cases Q (nat_lt 0 (joining.awaited x.join)) _ _
      (λ some. offers_told P x (Offer (done_of x) (offered_cap x) x.last) (members_of x) (λ to wf.
      let a = and_true (joining.locks x.join && not (joining.is_open x.join) && nat_lt 0 (inc_of x.join.view.members to)) (not (joining.counts_ready x.join to)) wf in
      let b = and_true (joining.locks x.join && not (joining.is_open x.join)) (nat_lt 0 (inc_of x.join.view.members to)) a.0 in
      let c = and_true (joining.locks x.join) (not (joining.is_open x.join)) b.0 in
      let shut : joining.is_open x.join ≡ false = not_true (joining.is_open x.join) c.1 in
      let nz : x.join.view.number ≢ 0 = h.local.peopled to (lt_true 0 (inc_of x.join.view.members to) b.1) in
      let rd : joining.is_ready x.join ≡ true = lr lk nz in
      let st = (h.prefix.ready_state rd).0 in
      let s = state_of x st in
      told w n x x es to (Offer (done_of x) (offered_cap x) x.last) h nz refl refl (h.prefix.closed rd lk shut, cap_is law w n x h st, ap (at_place w.log.order) (done_at x s.0 s.1) ∙ sym (h.prefix.last s.0 s.1))))
      (λ none. tells_none P))
      (λ lk. option_cases Q (joining.pulled_bytes x.join) (if joining.is_ready x.join && not (joining.is_open x.join) then step.Ready else step.Nothing) (λ got. step.Pull got)
      (λ none. if_cases Q (joining.is_ready x.join && not (joining.is_open x.join)) _ _
      (λ g. let rd : joining.is_ready x.join ≡ true = (and_true (joining.is_ready x.join) (not (joining.is_open x.join)) g).0 in
      tells_one P (packet x (locker_at x) Ready) (ready_sent w n x x es (locker_at x) h (h.local.ready_view rd) refl refl refl (node_in w n x x es j at (grown_refl x) h) rd))
      (λ g. tells_none P))
      (λ got some.
      let p = h.prefix.pulled got (pulled_bytes_says x.join got some) in
      let c = j.log.counts x.join.view.number p.0.count ((h.prefix.pull p.0 p.1).1) in
      let nz : x.join.view.number ≢ 0 = λ e. absurd (omega (arith, e, (place_within w.chain x.join.view.number c.2 c.3).0)) in
      tells_one P (packet x (locker_at x) (Need got)) (told w n x x es (locker_at x) (Need got) h nz refl refl tt)))

  pub tick_told : IsMachine M → (w : World M) (n : ℕ) (x : NodeState M) → Invariant w → w.nodes n ≡ Some x → (joining.locks x.join ≡ true → x.join.view.number ≢ 0 → joining.is_ready x.join ≡ true) → Tells (λ (p : Sent). Pooled (moved w n x (tick x).effects) p) (tick x).effects
  tick_told law w n x j at lr =
      let es : List Effect = (tick x).effects in
      let P : Sent → Type 0 = λ p. Pooled (moved w n x es) p in
      tells_both P (tick_head x (updating.ticked x.core)) (tick_lock x ++ tick_join x (joining.ticked x.join)) (head_told w n x es j at) (tells_both P (tick_lock x) (tick_join x (joining.ticked x.join)) (lock_told w n x es j at) (join_told law w n x es j at lr))

  pub tick_keeps : IsMachine M → (w : World M) (n : ℕ) (x : NodeState M) → Invariant w → w.nodes n ≡ Some x → (joining.locks x.join ≡ true → x.join.view.number ≢ 0 → joining.is_ready x.join ≡ true) → Invariant (absorbed n (tick x) w)
  tick_keeps law w n x j at lr =
      let t = tick_told law w n x j at lr in
      stay_tells w n x (tick x).effects j at t.quiet t.each

  -- the stamp is set
  pub clock_keeps : (w : World M) (n : ℕ) (x : NodeState M) (stamp : ℕ) → Invariant w → w.nodes n ≡ Some x → Invariant (absorbed n (clock x stamp) w)
  clock_keeps w n x stamp j at =
      let h : NodeOk w n x = j.nodes n x at in
      let y : NodeState M = record x { stamp = stamp } in
      let gr : Grown x y = record { inc = refl; done = omega arith; passed = omega arith; asks = omega arith; view = omega arith; settled = λ k e. inl e; waits = λ e q z. z } in
      move_keeps w n x y [] j at (record {
        grown = gr;
        node = node_in w n x y [] j at gr (record {
          local = h.local;
          prefix = h.prefix;
          inc = h.inc;
          view = h.view;
          lock = h.lock;
          marked = h.marked;
          all_ready = h.all_ready;
          settled = h.settled;
          spreading = h.spreading;
          waiting = h.waiting;
          waiting_doubt = h.waiting_doubt;
          behind = h.behind;
          near_head = h.near_head;
          near_doubt = h.near_doubt;
          outcome = h.outcome;
          queued = h.queued;
          all_requests = h.all_requests;
          finished = h.finished;
        });
        messages = none_told (λ (p : Sent). Pooled (moved w n y []) p);
        acks = none_acked (λ (a b : ℕ). AckOk (moved w n y []) a b);
        points = quiet_points w n y [] refl;
        owner = owner_moves w n x y [] j at (record { ready = refl; open_ = refl; node = refl; view = refl; lock = refl; members = refl; greatest = refl; done = refl }) (λ o k op i. let old : MemberOk w.log x.core.lock n x = k.members op n x at i in record { near = old.near; free = old.free; heads = old.heads });
        member = λ a z ne o k op i. let old : MemberOk w.log z.core.lock n x = k.members op n x at i in record { near = old.near; free = old.free; heads = old.heads };
      })

  pub checkpoint_keeps : (w : World M) (n : ℕ) (x : NodeState M) (good : Bool) → Invariant w → w.nodes n ≡ Some x → Invariant (absorbed n (checkpoint x w.log.held good) w)
  checkpoint_keeps w n x good j at =
      let P : Out M → Type 0 = λ o. Invariant (absorbed n o w) in
      let dies : P (halts halt.Disk) = halt_keeps w n (stop_keeps w n j) in
      if_cases P (x.core.is_open && updating.locks x.core) _ _
      (λ g. if_cases P (nat_lt (number_of x) w.log.held) _ _ (λ f. dies) (λ f. if_cases P good _ _ (λ b. stay_keeps w n x j at) (λ b. dies)))
      (λ g. stay_keeps w n x j at)

  -- a reader is answered
  pub read_keeps : (w : World M) (n : ℕ) (x : NodeState M) → Invariant w → w.nodes n ≡ Some x → joining.is_open x.join ≡ true → Invariant (absorbed n (nothing x) (reads n x w))
  read_keeps w n x j at op =
      let h : NodeOk w n x = j.nodes n x at in
      let pt : Point M = record { node = n; inc = x.join.inc; place = done_of x; req = 0; outcome = None } in
      let ps : List (Point M) = w.points ++ pt ∷ [] in
      let self : (P : NodeState M → Type 0) → P x → (z : NodeState M) → w.nodes n ≡ Some z → P z = λ P p z e. let q : Some x ≡ Some z = sym at ∙ e in let g : x ≡ z = cc in subst P g p in
      let now_ : Past w n x.join.inc (done_of x) = record {
        started = omega (arith, h.inc);
        done = λ z e same. self (λ (t : NodeState M). done_of x ≤ done_of t) (omega arith) z e;
        settled = λ z k e same. self (λ (t : NodeState M). t.settled ≡ Some k → done_of x ≤ k) (λ f. absurd (let q : ◌≡◌ {A = Option ℕ} None (Some k) = sym (h.local.unsettled op) ∙ f in cc)) z e;
      } in
      let gr : Grown x x = grown_refl x in
      let ex : Ext w (moved (with_history w w.requests ps) n x []) = ext_on w w.requests ps n x x [] (λ m i q u e. e) at gr in
      move_on w w.requests ps n x x [] (λ m i q u e. e) (λ m ne. refl) j.log.unasked
      (λ a p s. ⊎_elim
      (λ (c : slice_get w.points a ≡ Some p). j.points a p c)
      (λ (c : (a ≡ length w.points) × (p ≡ pt)). subst (λ (t : Point M). Past w t.node t.inc t.place) (sym c.1) now_)
      (get_push w.points pt a p s))
      (λ a b p q sa sb le nd ic. ⊎_elim
      (λ (c : slice_get w.points b ≡ Some q). ⊎_elim
      (λ (d : slice_get w.points a ≡ Some p). j.steady a b p q d c le nd ic)
      (λ (d : (a ≡ length w.points) × (p ≡ pt)). absurd (omega (arith, d.0, get_within w.points b q c)))
      (get_push w.points pt a p sa))
      (λ (c : (b ≡ length w.points) × (q ≡ pt)). ⊎_elim
      (λ (d : slice_get w.points a ≡ Some p).
      let same_node : p.node ≡ n = nd ∙ ap (λ (t : Point M). t.node) c.1 in
      let same_inc : x.join.inc ≡ p.inc = sym (ic ∙ ap (λ (t : Point M). t.inc) c.1) in
      let o : Past w n p.inc p.place = subst (λ (t : ℕ). Past w t p.inc p.place) same_node (j.points a p d) in
      omega (arith, o.done x at same_inc, ap (λ (t : Point M). t.place) c.1))
      (λ (d : (a ≡ length w.points) × (p ≡ pt)). omega (arith, ap (λ (t : Point M). t.place) c.1, ap (λ (t : Point M). t.place) d.1))
      (get_push w.points pt a p sa))
      (get_push w.points pt b q sb))
      j at (record {
        grown = gr;
        node = node_on w w.requests ps n (nothing x) n x ex (λ r s. (j.log.asked r s).1) refl h;
        messages = none_told (λ (p : Sent). Pooled (moved (with_history w w.requests ps) n x []) p);
        acks = none_acked (λ (a b : ℕ). AckOk (moved (with_history w w.requests ps) n x []) a b);
        points = quiet_points w n x [] refl;
        owner = λ o.
            let k : OwnerOk w n x = j.owner n x (record { runs = at; ready = o.ready; locker = o.locker; held = o.held }) in
            record {
              sure = k.sure;
              all_done = k.all_done;
              closed = k.closed;
              greatest = k.greatest;
              members = λ op2 a b f i. ⊎_elim
                  (λ (d : (a ≡ n) × (Some x ≡ Some b)). at_self (λ (t : ℕ) (v : NodeState M). inc_of x.join.view.members t ≡ v.join.inc → MemberOk w.log x.core.lock t v) a n x b d.0 d.1 (k.members op2 n x at) i)
                  (λ (d : (a ≢ n) × (w.nodes a ≡ Some b)). k.members op2 a b d.1 i)
                  (put_cases w.nodes n (Some x) a b f);
            };
        member = λ a z ne o k op2 i. k.members op2 n x at i;
      })
