-- To finish a request, and what rests on it.
use Rattle.std.proofs.Common.{◌≡◌, ◌≢◌, ⊎_elim, ℕ, ◌+◌, ◌<◌, ◌≤◌, Bool, true, false, List, [], ◌∷◌, length, drop, Option, Some, None, nat_lt, cond, if◌then◌else◌, slice_get, refl, sym, ap, ◌∙◌, subst, add-one, arith}
use Rattle.std.proofs.lemmas.Bool.{cases_lt}
use Rattle.gum_messages.specs.Members.{inc_of}
use Rattle.gum_messages.specs.Places.{at_place}
use Rattle.gum_messages.proofs.Placing.{place_some, place_within}
use Rattle.update_records.specs.Entry.{Entry}
use Rattle.update_records.specs.declared.update.Update.{Update}
use Rattle.gum_core.specs.Updating.{CoreState, greatest_of}
use Rattle.gum_core.specs.Updating as updating
use Rattle.view_reconcile.specs.Joining.{ReconcileState}
use Rattle.view_reconcile.specs.Joining as joining
use Rattle.cluster_rules.specs.Machines.{Machine}
use Rattle.gum_messages.specs.declared.body.Body.TheVariants.{Ask, Release}
use Rattle.gum_messages.specs.Messages.{Sent}
use Rattle.cluster_rules.specs.declared.effect.Effect.{Effect}
use Rattle.cluster_rules.specs.declared.effect.Effect.TheVariants.{Acked, Send}
use Rattle.cluster_rules.specs.Nodes.{NodeState, asks, done_of, locker_at, packet}
use Rattle.cluster_rules.specs.Updates.{proceeds}
use Rattle.cluster_rules.specs.Worlds.{World, acked, sent}
use Rattle.cluster_laws.proofs.History.{absorbed}
use Rattle.cluster_laws.proofs.Inv.{AckOk, AllReached, Has, Invariant, NodeOk, Past, Pooled, Requested, Stands, at_head, greatest_asked, waits}
use Rattle.cluster_laws.proofs.Stable.{Ext, Grown, all_reached}
use Rattle.cluster_laws.proofs.Moves.{PointsOk, ext_absorb, moved, one_acked, self_node, slice_get_back, told}
use Rattle.cluster_laws.proofs.Heads.{HeadOk, ask_told, asks_acks, asks_least, asks_told, cons_told, full_asks, head_keeps, headed, not_asked, not_asked_doubt}

pub drop_one : {A : Type 0} (l : List A) (k : ℕ) (a : A) → slice_get (drop 1 l) k ≡ Some a → slice_get l (k + 1) ≡ Some a
drop_one [] k a e = absurd (none k e)
  where
    none : {A : Type 0} {a : A} (k : ℕ) → slice_get [] k ≡ Some a → ⊥
    none k e = cc
drop_one (x ∷ l) k a e = rw add-one e

pub rest_length : {A : Type 0} (p : ℕ) (l : List A) → l ≢ [] → p + 1 + length (drop 1 l) ≡ p + length l
rest_length p [] f = absurd (f refl)
rest_length p (x ∷ l) f = omega arith

pub if_some : (b : Bool) (a req : ℕ) → cond b (Some a) None ≡ Some req → (b ≡ true) × (a ≡ req)
if_some true a req e = (refl, cc)
if_some false a req e = cc

module _ {M : Machine} where
  -- what to finish a request needs
  pub record Done (w : World M) (n : ℕ) (x : NodeState M) (r : Entry) : Type 0 where
    pub ready : joining.is_ready x.join ≡ true
    pub full : x.core.queue ≢ []
    pub stands : Stands w.log r
    pub id : Has r n x.join.inc (at_head x)
    pub later : (u c : ℕ) → w.log.count u ≡ Some c → x.join.view.number < u → r.place ≤ c
    pub members : AllReached w x.join.view.members r.place

  pub done_ack : (w : World M) (n : ℕ) (x y : NodeState M) (es : List Effect) (r : Entry) → Invariant w → w.nodes n ≡ Some x → Grown x y → Done w n x r → AckOk (moved w n y es) x.join.view.number r.place
  done_ack w n x y es r j at g d =
      let h : NodeOk w n x = j.nodes n x at in
      record {
        view = x.join.view;
        declared = (h.view (h.local.ready_view d.ready)).0;
        place = (place_within w.log.order r.place r d.stands.at).1;
        later = d.later;
        members = all_reached w (moved w n y es) x.join.view.members r.place (ext_absorb w n x y es at g) d.members;
      }

  abbrev pub popped : NodeState M → NodeState M
  popped x = headed x (x.core.passed + 1) (drop 1 x.core.queue) None None None None

  pub popped_asks : (x : NodeState M) → x.core.passed + 1 ≤ greatest_asked (popped x)
  popped_asks x = asks_least (popped x)

  pub popped_grown : (x : NodeState M) → x.core.queue ≢ [] → Grown x (popped x)
  popped_grown x f = record { inc = refl; done = omega arith; passed = omega arith; asks = omega (arith, full_asks x f, popped_asks x); view = omega arith; settled = λ k e. absurd (cc); waits = λ e q z. absurd (omega arith) }

  done_here : (w : World M) (n : ℕ) (x : NodeState M) (r : Entry) → Invariant w → w.nodes n ≡ Some x → Done w n x r → r.place ≤ done_of x
  done_here w n x r j at d =
      let h : NodeOk w n x = j.nodes n x at in
      (d.members.each n x.join.inc (h.view (h.local.ready_view d.ready)).1 h.local.positive).done x at refl

  -- a ready node whose waiting head has its record in the order hasn't gone past it
  pub not_past : (w : World M) (n : ℕ) (x : NodeState M) (r : Entry) → Invariant w → w.nodes n ≡ Some x → joining.is_ready x.join ≡ true → waits x → Stands w.log r → Has r n x.join.inc (at_head x) → done_of x ≤ r.place
  not_past w n x r j at rd wt st id = ⊎_elim
      (λ (c : r.place < done_of x). absurd (
      let h : NodeOk w n x = j.nodes n x at in
      let d = h.view (h.local.ready_view rd) in
      let within : done_of x ≤ length w.log.order = h.prefix.within in
      let e = place_some w.log.order (r.place + 1) (omega arith) (omega arith) in
      let pl : e.0.place ≡ r.place + 1 = j.log.places (r.place + 1) e.0 e.1 in
      let se : Stands w.log e.0 = record { at = ap (at_place w.log.order) pl ∙ e.1 } in
      let lr = j.log.logged r st in
      let ls = j.log.logged e.0 se in
      let o : w.log.view_at r.place ≤ w.log.view_at e.0.place = j.log.ordered r e.0 st se (omega arith) in
      let v : w.log.view_at e.0.place ≤ x.join.view.number = ⊎_elim
      (λ (b : x.join.view.number < w.log.view_at e.0.place).
      let rc = j.log.recovered e.0 se in
      let le : done_of x ≤ rc.0 = h.prefix.below (w.log.view_at e.0.place) rc.0 rc.1 b in
      let lt : w.log.view_at e.0.place < w.log.view_at e.0.place = j.log.early (w.log.view_at e.0.place) rc.0 e.0 rc.1 se (omega arith) in
      absurd (omega arith))
      (λ (b : w.log.view_at e.0.place ≤ x.join.view.number). b)
      (cases_lt x.join.view.number (w.log.view_at e.0.place)) in
      h.waiting r e.0 ls.0 wt st id se (omega arith) ls.1
      (j.chain.chain.unbroken (w.log.view_at r.place) (w.log.view_at e.0.place) x.join.view.number lr.0 ls.0 x.join.view n x.join.inc lr.1 ls.1 d.0 o v h.local.positive
      (ap (inc_of lr.0.members) (sym id.node) ∙ sym lr.2 ∙ id.inc) d.1)))
      (λ (c : done_of x ≤ r.place). c)
      (cases_lt r.place (done_of x))

  -- an acknowledgement is at no point below an earlier one
  pub pop_points : (w : World M) (n : ℕ) (x : NodeState M) (r : Entry) (es : List Effect) → Invariant w → w.nodes n ≡ Some x → Done w n x r → acked es ≡ (x.join.view.number, r.place) ∷ [] → PointsOk w n (popped x) es
  pop_points w n x r es j at d ea =
      let h : NodeOk w n x = j.nodes n x at in
      let at_place_ : (k v p : ℕ) → slice_get (acked es) k ≡ Some (v, p) → r.place ≡ p = λ k v p e. one_acked (λ (a b : ℕ). r.place ≡ b) x.join.view.number r.place refl k v p (subst (λ (l : List (ℕ × ℕ)). slice_get l k ≡ Some (v, p)) ea e) in
      let below : (e : ℕ) → Past w n (w.starts n) e → e ≤ r.place = λ e o.
      let P : Type 0 = e ≤ r.place in
      let not_set : x.settled ≡ None → P = λ ns. let q : done_of x ≤ r.place = not_past w n x r j at d.ready (d.full, ns) d.stands d.id in omega (arith, q, o.done x at h.inc) in
      let set_ : (k : ℕ) → x.settled ≡ Some k → P = λ k f.
      let t = h.settled k f in
      let same : r.place ≡ t.0.place = j.log.ids r t.0 d.stands t.1 (d.id.node ∙ sym t.3.node) (d.id.inc ∙ sym t.3.inc) (d.id.req ∙ sym t.3.req) in
      omega (arith, same, t.2, o.settled x k at h.inc f) in
      either x.settled not_set set_ in
      record {
        one = λ k l v p u q e f. sym (at_place_ k v p e) ∙ at_place_ l u q f;
        each = λ k v p e. (λ c o. omega (arith, at_place_ k v p e, below c o), omega (arith, at_place_ k v p e, done_here w n x r j at d), refl);
      }
    where
      either : {A : Type 0} {P : Type 0} (o : Option A) → (o ≡ None → P) → ((a : A) → o ≡ Some a → P) → P
      either None n s = n refl
      either (Some a) n s = s a refl

  -- the head leaves: told with the acknowledgement and these messages
  pub pop_ok : (w : World M) (n : ℕ) (x : NodeState M) (r : Entry) (es : List Effect) → Invariant w → w.nodes n ≡ Some x → Done w n x r
      → acked es ≡ (x.join.view.number, r.place) ∷ []
      → ((k : ℕ) (p : Sent) → slice_get (sent es) k ≡ Some p → Pooled (moved w n (popped x) es) p)
      → HeadOk w n x (popped x) es
  pop_ok w n x r es j at d ea ms =
      let gr : Grown x (popped x) = popped_grown x d.full in
      let fa : greatest_asked x ≡ x.core.passed + 1 = full_asks x d.full in
      record {
        more = omega arith;
        keeps_settled = λ k e. absurd (cc);
        points = pop_points w n x r es j at d ea;
        more_asks = gr.asks;
        still = λ e q z. absurd (omega arith);
        new = λ s wt st id. absurd (not_asked w n x s (at_head (popped x)) j at st id (omega (arith, fa)));
        new_doubt = λ s wt st id. absurd (not_asked_doubt w n x s (at_head (popped x)) j at st id (omega (arith, fa)));
        idle = λ e. (refl, refl);
        settled = λ k e. absurd (cc);
        unsettled = λ e. refl;
        full_state = λ f. (j.nodes n x at).local.full_state d.full;
        queued = λ k u e. subst (λ (q : ℕ). Requested w n x.join.inc q u) (omega arith) ((j.nodes n x at).queued (k + 1) u (drop_one x.core.queue k u e));
        all_requests = rest_length x.core.passed x.core.queue d.full;
        outcome = λ s f st id. absurd (not_asked w n x s (at_head (popped x)) j at st id (omega (arith, fa)));
        spreading = λ s e. absurd (cc);
        finished = λ q lt le.
            let same : at_head x ≡ q = omega arith in
            let b = slice_get_back w.acks (acked es) 0 (x.join.view.number, r.place) (ap (λ (l : List (ℕ × ℕ)). slice_get l 0) ea) in
            (r, b.0, x.join.view.number, d.stands, record { node = d.id.node; inc = d.id.inc; req = d.id.req ∙ same }, b.1, omega arith);
        messages = ms;
        acks = λ k v p s. one_acked (λ (a b : ℕ). AckOk (moved w n (popped x) es) a b) x.join.view.number r.place (done_ack w n x (popped x) es r j at gr d) k v p (subst (λ (l : List (ℕ × ℕ)). slice_get l k ≡ Some (v, p)) ea s);
      }

  -- the Ask for the next head
  pub next_told : (w : World M) (n : ℕ) (x : NodeState M) (es : List Effect) (req : ℕ) (u : Update) (us : List Update) → Invariant w → w.nodes n ≡ Some x → x.core.queue ≢ [] → joining.is_ready x.join ≡ true → req ≡ x.core.passed + 2 → drop 1 x.core.queue ≡ u ∷ us
      → Pooled (moved w n (popped x) es) (packet (popped x) (locker_at (popped x)) (Ask req u))
  next_told w n x es req u us j at f rd rq e =
      let fa : greatest_asked x ≡ x.core.passed + 1 = full_asks x f in
      let full : (popped x).core.queue ≢ [] = λ z. absurd (let y : ◌≡◌ {A = List Update} (u ∷ us) [] = sym e ∙ z in cc) in
      let pa : greatest_asked (popped x) ≡ (popped x).core.passed + 1 = full_asks (popped x) full in
      ask_told w n x (popped x) es req u j at (popped_grown x f) refl refl refl rd (omega (arith, pa)) (subst (λ (q : ℕ). Requested w n x.join.inc q u) (omega (arith, rq)) ((j.nodes n x at).queued 1 u (drop_one x.core.queue 0 u (ap (λ (l : List Update). slice_get l 0) e)))) (λ r c s id i. absurd (not_asked w n x r req j at s id (omega (arith, fa))))

  -- with the lock released
  pub finish_keeps : (w : World M) (n : ℕ) (x : NodeState M) (r : Entry) → Invariant w → w.nodes n ≡ Some x → Done w n x r → Invariant (absorbed n (proceeds x r (updating.finished x.core r.place)) w)
  finish_keeps w n x r j at d =
      let h : NodeOk w n x = j.nodes n x at in
      let next : Option ℕ = if nat_lt 1 (length x.core.queue) then Some (x.core.passed + 2) else None in
      let es : List Effect = Acked x.join.view.number r.place ∷ Send (packet x (locker_at x) (Release (x.core.passed + 1))) ∷ asks (popped x) next in
      let here : inc_of x.join.view.members n ≡ x.join.inc = (h.view (h.local.ready_view d.ready)).1 in
      let P : Sent → Type 0 = λ p. Pooled (moved w n (popped x) es) p in
      let ex : Ext w (moved w n (popped x) es) = ext_absorb w n x (popped x) es at (popped_grown x d.full) in
      let rel : P (packet x (locker_at x) (Release (x.core.passed + 1))) = told w n x (popped x) es (locker_at x) (Release (x.core.passed + 1)) h (h.local.ready_view d.ready) refl refl (
        record { started = omega (arith, h.inc, here); passed = λ z e same. self_node w n (popped x) es (λ (t : NodeState M). x.core.passed + 1 ≤ t.core.passed) (omega arith) z e },
        r,
        record { at = d.stands.at },
        record { node = d.id.node; inc = d.id.inc ∙ sym here; req = d.id.req },
        all_reached w (moved w n (popped x) es) x.join.view.members r.place ex d.members,
      ) in
      let ms : (k : ℕ) (p : Sent) → slice_get (sent es) k ≡ Some p → P p =
      cons_told P (packet x (locker_at x) (Release (x.core.passed + 1))) (sent (asks (popped x) next)) rel
      (asks_told P (popped x) next (λ req u us some full. next_told w n x es req u us j at d.full d.ready (sym ((if_some (nat_lt 1 (length x.core.queue)) (x.core.passed + 2) req some).1)) full)) in
      head_keeps w n x (x.core.passed + 1) (drop 1 x.core.queue) None None None None es j at
      (pop_ok w n x r es j at d (ap (λ (l : List (ℕ × ℕ)). (x.join.view.number, r.place) ∷ l) (asks_acks (popped x) next)) ms)
