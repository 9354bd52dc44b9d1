-- What an event of a member acknowledges is its head: its record stands in the order, with what came of it there.
use Rattle.std.proofs.Common.{◌≡◌, ◌≢◌, inl, inr, ℕ, suc, ◌+◌, ◌-◌, ◌≤◌, Bool, true, List, [], ◌∷◌, length, nat_lt, if◌then◌else◌, Some, None, Result, Ok, Err, slice_get, refl, sym, ap, ◌∙◌, subst, arith}
use Rattle.std.specs.Prelude.{unwrap_or}
use Rattle.gum_messages.specs.declared.body.Body.{Body}
use Rattle.gum_messages.specs.declared.body.Body.TheVariants.{Ask, Granted, Apply, Applied, Release, Offer, Need, Piece, Ready, OpenView}
use Rattle.gum_messages.specs.declared.view.View.{View}
use Rattle.gum_messages.specs.Members.{is_locker}
use Rattle.gum_messages.specs.Messages.{Sent}
use Rattle.gum_messages.specs.Places.{at_place}
use Rattle.gum_messages.proofs.Branches.{if_cases}
use Rattle.gum_messages.proofs.Placing.{place_within}
use Rattle.update_records.specs.Entry.{Entry}
use Rattle.update_records.specs.declared.update.Update.{Update}
use Rattle.view_reconcile.specs.Chains.{view_in}
use Rattle.cluster_rules.specs.Machines.{Machine, IsMachine, outcome_at}
use Rattle.cluster_rules.specs.Nodes.{NodeState, Out}
use Rattle.cluster_rules.specs.Updates.{Answer, Logged}
use Rattle.cluster_rules.specs.Joins.{entered, recovers, takes_view}
use Rattle.cluster_rules.specs.Receiving.{receive}
use Rattle.cluster_rules.specs.Receiving as receiving
use Rattle.cluster_rules.specs.Worlds.{World, acked, found_log}
use Rattle.cluster_laws.proofs.Inv.{Invariant, MsgOk, NodeOk}
use Rattle.cluster_laws.proofs.Recovering.{entered_is}
use Rattle.cluster_laws.proofs.HeadRules.{on_applied_keeps, on_granted_keeps}
use Rattle.cluster_laws.proofs.Opening.{on_open_view_keeps, on_ready_keeps}
use Rattle.cluster_laws.proofs.Installing.{found_recovers, takes_says}
use Rattle.cluster_laws.proofs.Events.{at_get, counted_ok}
use Rattle.cluster_laws.proofs.Telling.{Leaves, Tells, still}
use Rattle.cluster_laws.proofs.Silent.{apply_silent, ask_silent, need_silent, offer_silent, piece_silent, release_silent}
use Rattle.registry_machine.specs.Machine.{registry_machine}
use Rattle.cluster_member.specs.declared.stop.Stop.{Stop}
use Rattle.cluster_member.specs.Events.{Comes}
use Rattle.member_rules.specs.declared.told.Told.{Told}
use Rattle.cluster_node.specs.Events.{head_request}
use Rattle.cluster_node.specs.States.{RunningNode}
use Rattle.cluster_node.specs.Steps.{AreHeads, IsHead}

-- ---- the rules

module _ {M : Machine} where
  hears_tells : (w : World M) (n : ℕ) (x : NodeState M) (from : ℕ) (b : Body) (answer : Answer) → Invariant w → w.nodes n ≡ Some x → x.join.view.number ≢ 0 → MsgOk w x.join.view from n b → Tells w.log.cap w.log.order n x.join.inc x.core.passed (receiving.hears x from b w.log.held answer).out
  hears_tells w n x from (Ask q u) answer j at nz ok = inl (ask_silent x from q u w.log.held answer)
  hears_tells w n x from (Granted r) answer j at nz ok = (on_granted_keeps w n x from r j at nz ok).1
  hears_tells w n x from (Apply r) answer j at nz ok = inl (apply_silent x from r)
  hears_tells w n x from (Applied k) answer j at nz ok = (on_applied_keeps w n x from k j at ok).1
  hears_tells w n x from (Release q) answer j at nz ok = inl (release_silent x from q)
  hears_tells w n x from (Offer c cap last) answer j at nz ok = inl (offer_silent x from (record { count = c; cap = cap; last = last }))
  hears_tells w n x from (Need offset) answer j at nz ok = inl (need_silent x from offset)
  hears_tells w n x from (Piece total offset bytes) answer j at nz ok = inl (piece_silent x total offset bytes)
  hears_tells w n x from Ready answer j at nz ok = (on_ready_keeps w n x from j at nz ok).1
  hears_tells w n x from OpenView answer j at nz ok = (on_open_view_keeps w n x from j at ok).1

  pub receive_tells : (w : World M) (k : ℕ) (x : NodeState M) (p : Sent) (answer : Answer) → Invariant w → at_place w.pool k ≡ Some p → w.nodes p.to ≡ Some x
      → Tells w.log.cap w.log.order p.to x.join.inc x.core.passed (receive x p w.log.held answer).out
  receive_tells w k x p answer j some at =
      if_cases (λ (d : Logged M). Tells w.log.cap w.log.order p.to x.join.inc x.core.passed d.out) (receiving.counts x p) _ _
      (λ g. let c = counted_ok w p.to x p j at (j.pool (k - 1) p (at_get w.pool k p some)) refl g in hears_tells w p.to x p.from p.body answer j at c.1 c.2)
      (λ g. inl (still x [] refl))

  -- with the log that was found
  pub recover_tells : IsMachine M → (w : World M) (n : ℕ) (x : NodeState M) (v : View) (found : Bool) → Invariant w → w.nodes n ≡ Some x → takes_view x v ≡ true → view_in w.chain v.number ≡ Some v
      → is_locker v.members x.join.node ≡ true → w.log.held ≤ v.number
      → Tells w.log.cap (found_log found w.log).order n x.join.inc x.core.passed (recovers (entered v x) w.log.cap (found_log found w.log).order)
  recover_tells law w n x v found j at g decl lk le =
      let s = takes_says w n x v (j.nodes n x at) g in
      let t = (found_recovers law w n x v found j at s.0 decl s.1 lk le).1 in
      subst (λ (y : NodeState M). Tells w.log.cap (found_log found w.log).order n x.join.inc x.core.passed (recovers y w.log.cap (found_log found w.log).order)) (sym (entered_is x v g)) t

-- ---- the head

abbrev first_place : List (ℕ × ℕ) → ℕ
first_place [] = 0
first_place (ack ∷ acks) = ack.1

-- the queue begins with the update of the request that is due
begins_with : (w : World registry_machine) (n : ℕ) (x : NodeState registry_machine) (u : Update) → NodeOk w n x → at_place (w.requests n x.join.inc) (x.core.passed + 1) ≡ Some u → (others : List Update) × (x.core.queue ≡ u ∷ others)
begins_with w n x u h at = by x.core.queue refl
  where
    by : (queue : List Update) → x.core.queue ≡ queue → (others : List Update) × (x.core.queue ≡ u ∷ others)
    by [] e = absurd (let b = (place_within (w.requests n x.join.inc) (x.core.passed + 1) u at).1 in let long = h.all_requests in let none : length x.core.queue ≡ 0 = ap (λ (q : List Update). length q) e in omega (arith, b, long, none))
    by (v ∷ others) e =
        let first : slice_get x.core.queue 0 ≡ Some v = ap (λ (q : List Update). slice_get q 0) e in
        let there : at_place (w.requests n x.join.inc) (x.core.passed + 1) ≡ Some v = h.queued 0 v first in
        let same : v ≡ u = cc (there, at) in
        (others, e ∙ ap (λ (z : Update). z ∷ others) same)

requested_first : (x : RunningNode) (u : Update) (others : List Update) → x.member.rules.core.queue ≡ u ∷ others → head_request x ≡ x.member.rules.core.passed + 1
requested_first x u others e = ap (λ (queue : List Update). unwrap_or (if nat_lt 0 (length queue) then Some (x.member.rules.core.passed + 1) else None) 0) e ∙ first (length others) (x.member.rules.core.passed + 1)
  where
    first : (n k : ℕ) → unwrap_or (if nat_lt 0 (suc n) then Some k else None) 0 ≡ k
    first n k = ap (λ (c : Bool). unwrap_or (if c then Some k else None) 0) (positive n)
      where
        positive : (n : ℕ) → nat_lt 0 (suc n) ≡ true
        positive n = grind arith

-- In the world behind an event by which no request was taken.
module _ (cap : ℕ) (order : List Entry) (n inc : ℕ) (w v : World registry_machine) (x : RunningNode) (j : Invariant w) (k : Invariant v) (at : w.nodes n ≡ Some x.member.rules) (requests : v.requests ≡ w.requests)
    (size : v.log.cap ≡ cap) (whole : v.log.order ≡ order) (incarnation : x.member.rules.join.inc ≡ inc) where
  head : (out : Out registry_machine) (told : Told) (y : NodeState registry_machine) → Leaves v.log.cap v.log.order n x.member.rules.join.inc x.member.rules.core.passed out → Comes out (Ok told) y
      → (view place : ℕ) → acked told.effects ≡ (view, place) ∷ [] → IsHead cap order n inc x place told.outcome
  head out told y l c view place acks =
      let e : Entry = l.entry in
      let q : ◌≡◌ {A = List (ℕ × ℕ)} ((l.view, e.place) ∷ []) ((view, place) ∷ []) = sym l.told ∙ ap acked c.effects ∙ acks in
      let place_is : e.place ≡ place = ap first_place q in
      let taken : at_place (v.requests e.id.node e.id.inc) e.id.req ≡ Some e.update = k.log.requested e (record { at = l.stands }) in
      let there : at_place (w.requests n x.member.rules.join.inc) (x.member.rules.core.passed + 1) ≡ Some e.update = (λ i. at_place (sym requests i (sym l.id.node i) (sym l.id.inc i)) (sym l.id.req i)) ∙ taken in
      let first = begins_with w n x.member.rules e.update (j.nodes n x.member.rules at) there in
      let request : head_request x ≡ x.member.rules.core.passed + 1 = requested_first x e.update first.0 first.1 in
      record {
        entry = e;
        stands = (λ i. at_place (sym whole i) (sym place_is i)) ∙ l.stands;
        id = λ i. record { node = l.id.node i; inc = (l.id.inc ∙ incarnation) i; req = (l.id.req ∙ sym request) i };
        others = first.0;
        update = first.1;
        outcome = sym c.outcome ∙ l.outcome ∙ (λ i. Some (outcome_at registry_machine (size i) (whole i) (place_is i - 1) e));
      }

  pub heads : (out : Out registry_machine) (came : Result Told Stop) (y : NodeState registry_machine) → Tells v.log.cap v.log.order n x.member.rules.join.inc x.member.rules.core.passed out → Comes out came y → AreHeads cap order n inc x came
  heads out (Err fault) y t c = tt
  heads out (Ok told) y (inl quiet) c = λ view place acks. absurd (let none : ◌≡◌ {A = List (ℕ × ℕ)} [] ((view, place) ∷ []) = sym quiet.told ∙ ap acked c.effects ∙ acks in cc)
  heads out (Ok told) y (inr leaves) c = head out told y leaves c
