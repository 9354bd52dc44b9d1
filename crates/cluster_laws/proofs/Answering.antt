-- Each answer to a request is its own record's, and the requests of an incarnation are answered one after the other.
use Rattle.std.proofs.Common.{◌≡◌, ◌≢◌, ◌⊎◌, inl, inr, ⊎_elim, ℕ, suc, ◌+◌, ◌-◌, ◌<◌, ◌≤◌, List, [], ◌∷◌, ◌++◌, length, Option, Some, None, slice_get, refl, sym, ap, ◌∙◌, subst, arith}
use Rattle.std.proofs.lemmas.Bool.{cases_lt}
use Rattle.std.proofs.lemmas.List.{take-append-le}
use Rattle.gum_messages.specs.Places.{at_place}
use Rattle.gum_messages.proofs.Placing.{get_push, get_within, place_old, place_within}
use Rattle.update_records.specs.Entry.{Entry}
use Rattle.cluster_rules.specs.Machines.{Machine, outcome_at, replay}
use Rattle.cluster_rules.specs.Nodes.{NodeState, Out, fresh}
use Rattle.cluster_rules.specs.Promises.{Answered}
use Rattle.cluster_rules.specs.Worlds.{Log, Point, World, acked, head_of, opening, points_of, put}
use Rattle.cluster_laws.proofs.Moves.{put_cases, slice_get_append, slice_get_back, slice_get_front}
use Rattle.cluster_laws.proofs.Events.{at_get}
use Rattle.cluster_laws.proofs.Orders.{GrewLog}
use Rattle.cluster_laws.proofs.Starting.{start_ext, started_world}
use Rattle.cluster_laws.proofs.Telling.{Leaves, Quiet, Tells}

-- what stands at a place, and what comes of it there, stays
by_grows : (M : Machine) (l m : Log) → GrewLog l m → (k : ℕ) (e : Entry) → at_place l.order k ≡ Some e → (at_place m.order k ≡ Some e) × (outcome_at M m.cap m.order (k - 1) e ≡ outcome_at M l.cap l.order (k - 1) e)
by_grows M l m g k e at =
    let b = place_within l.order k e at in
    let same : outcome_at M m.cap l.order (k - 1) e ≡ outcome_at M l.cap l.order (k - 1) e = ap (λ (c : ℕ). outcome_at M c l.order (k - 1) e) g.cap in
    let P : List Entry → Type 0 = λ o. (at_place o k ≡ Some e) × (outcome_at M m.cap o (k - 1) e ≡ outcome_at M l.cap l.order (k - 1) e) in
    ⊎_elim
    (λ (a : m.order ≡ l.order). subst P (sym a) (at, same))
    (λ (a : (r : Entry) × (m.order ≡ l.order ++ r ∷ [])). subst P (sym a.1) (
      place_old l.order a.0 k e at,
      ap (λ (o : List Entry). (M.apply e (replay M o (M.empty m.cap))).1) (take-append-le (k - 1) l.order (a.0 ∷ []) (omega (arith, b.1))) ∙ same,
    ))
    g.order

module _ {M : Machine} where
  abbrev pub AnsweredBy : Log → Point M → Type 0
  AnsweredBy l p = (e : Entry) × (at_place l.order p.place ≡ Some e) × (e.id ≡ record { node = p.node; inc = p.inc; req = p.req }) × (p.outcome ≡ Some (outcome_at M l.cap l.order (p.place - 1) e))

  -- a request of an incarnation was answered
  abbrev pub HasPoint : List (Point M) → ℕ → ℕ → ℕ → Type 0
  HasPoint ps n i k = (b : ℕ) × (q : Point M) × (slice_get ps b ≡ Some q) × (q.node ≡ n) × (q.inc ≡ i) × (q.req ≡ k)

  pub record Answering (w : World M) : Type 0 where
    pub stands : (a : ℕ) (p : Point M) → slice_get w.points a ≡ Some p → 0 < p.req → AnsweredBy w.log p
    pub rises : (a b : ℕ) (p q : Point M) → slice_get w.points a ≡ Some p → slice_get w.points b ≡ Some q → a < b → p.node ≡ q.node → p.inc ≡ q.inc → 0 < p.req → 0 < q.req → p.req < q.req
    pub none_left_out : (a k : ℕ) (p : Point M) → slice_get w.points a ≡ Some p → 0 < k → k < p.req → HasPoint w.points p.node p.inc k
    -- the incarnations were started, and those that run have answered each request that has passed and no other
    pub started : (a : ℕ) (p : Point M) → slice_get w.points a ≡ Some p → 0 < p.req → p.inc ≤ w.starts p.node
    pub passed : (a : ℕ) (p : Point M) → slice_get w.points a ≡ Some p → 0 < p.req → (x : NodeState M) → w.nodes p.node ≡ Some x → x.join.inc ≡ p.inc → p.req ≤ x.core.passed
    pub told : (n : ℕ) (x : NodeState M) (k : ℕ) → w.nodes n ≡ Some x → 0 < k → k ≤ x.core.passed → HasPoint w.points n x.join.inc k

  pub answer_grows : (l m : Log) (p : Point M) → GrewLog l m → AnsweredBy l p → AnsweredBy m p
  answer_grows l m p g s = let h = by_grows M l m g p.place s.0 s.1 in (s.0, h.0, s.2, s.3 ∙ ap (λ (u : M.Outcome). Some u) (sym h.1))

  pub tells_grow : (l m : Log) (n i q : ℕ) (o : Out M) → GrewLog l m → Tells l.cap l.order n i q o → Tells m.cap m.order n i q o
  tells_grow l m n i q o g t = ⊎_elim
      (λ (a : Quiet i q o). inl a)
      (λ (a : Leaves l.cap l.order n i q o).
      let h = by_grows M l m g a.entry.place a.entry a.stands in
      inr (record { view = a.view; entry = a.entry; told = a.told; stands = h.0; id = a.id; outcome = a.outcome ∙ ap (λ (u : M.Outcome). Some u) (sym h.1); left = a.left }))
      t

  -- no request is answered, and a node goes on in its incarnation, or stops
  pub quiet_step : (w w' : World M) (n : ℕ) (o : Option (NodeState M)) (new : List (Point M)) → Answering w → w'.nodes ≡ put w.nodes n o → w'.starts ≡ w.starts → w'.points ≡ w.points ++ new → GrewLog w.log w'.log
      → ((k : ℕ) (p : Point M) → slice_get new k ≡ Some p → p.req ≡ 0)
      → ((y : NodeState M) → o ≡ Some y → (x : NodeState M) × (w.nodes n ≡ Some x) × (y.join.inc ≡ x.join.inc) × (y.core.passed ≡ x.core.passed))
      → Answering w'
  quiet_step w w' n o new an nodes starts points log readers same = record {
    stands = λ a p e pos. answer_grows w.log w'.log p log (an.stands a p (old a p e pos) pos);
    rises = λ a b p q e f lt nd ic pp pq. an.rises a b p q (old a p e pp) (old b q f pq) lt nd ic pp pq;
    none_left_out = λ a k p e pos lt. front p.node p.inc k (an.none_left_out a k p (old a p e (omega arith)) pos lt);
    started = λ a p e pos. omega (arith, an.started a p (old a p e pos) pos, ap (λ (s : ℕ → ℕ). s p.node) starts);
    passed = λ a p e pos z at ic. ⊎_elim
        (λ (c : (p.node ≡ n) × (o ≡ Some z)). let b = same z c.1 in omega (arith, an.passed a p (old a p e pos) pos b.0 (ap w.nodes c.0 ∙ b.1) (sym b.2 ∙ ic), b.3))
        (λ (c : (p.node ≢ n) × (w.nodes p.node ≡ Some z)). an.passed a p (old a p e pos) pos z c.1 ic)
        (here p.node z at);
    told = λ m z k at pos le. ⊎_elim
        (λ (c : (m ≡ n) × (o ≡ Some z)).
        let b = same z c.1 in
        let h : HasPoint w'.points n b.0.join.inc k = front n b.0.join.inc k (an.told n b.0 k b.1 pos (omega (arith, b.3))) in
        subst (λ (t : ℕ). HasPoint w'.points t z.join.inc k) (sym c.0) (subst (λ (t : ℕ). HasPoint w'.points n t k) (sym b.2) h))
        (λ (c : (m ≢ n) × (w.nodes m ≡ Some z)). front m z.join.inc k (an.told m z k c.1 pos le))
        (here m z at);
  }
    where
      old : (a : ℕ) (p : Point M) → slice_get w'.points a ≡ Some p → 0 < p.req → slice_get w.points a ≡ Some p
      old a p e pos = ⊎_elim
          (λ (c : slice_get w.points a ≡ Some p). c)
          (λ (c : (j : ℕ) × (slice_get new j ≡ Some p)). absurd (omega (arith, readers c.0 p c.1)))
          (slice_get_append w.points new a p (ap (λ (l : List (Point M)). slice_get l a) (sym points) ∙ e))

      front : (m i k : ℕ) → HasPoint w.points m i k → HasPoint w'.points m i k
      front m i k h = (h.0, h.1, ap (λ (l : List (Point M)). slice_get l h.0) points ∙ slice_get_front w.points new h.0 h.1 h.2, h.3, h.4, h.5)

      here : (m : ℕ) (z : NodeState M) → w'.nodes m ≡ Some z → ((m ≡ n) × (o ≡ Some z)) ⊎ ((m ≢ n) × (w.nodes m ≡ Some z))
      here m z e = put_cases w.nodes n o m z ((λ i. sym nodes i m) ∙ e)

  -- a head leaves: the next request of its incarnation is answered
  pub leaves_step : (w w' : World M) (n : ℕ) (x : NodeState M) (o : Out M) → Answering w → w.nodes n ≡ Some x → x.join.inc ≡ w.starts n → w'.nodes ≡ put w.nodes n o.node → w'.starts ≡ w.starts → GrewLog w.log w'.log
      → (l : Leaves w'.log.cap w'.log.order n x.join.inc x.core.passed o)
      → w'.points ≡ w.points ++ record { node = n; inc = w.starts n; place = l.entry.place; req = x.core.passed + 1; outcome = o.outcome } ∷ []
      → Answering w'
  leaves_step w w' n x o an at inc nodes starts log l points = record {
    stands = λ a p e pos. ⊎_elim
        (λ (c : slice_get w.points a ≡ Some p). answer_grows w.log w'.log p log (an.stands a p c pos))
        (λ (c : (a ≡ length w.points) × (p ≡ pt)). subst (λ (t : Point M). AnsweredBy w'.log t) (sym c.1) (l.entry, l.stands, λ i. record { node = l.id.node i; inc = (l.id.inc ∙ inc) i; req = l.id.req i }, l.outcome))
        (split a p e);
    rises = λ a b p q e f lt nd ic pp pq. ⊎_elim
        (λ (c : slice_get w.points b ≡ Some q). ⊎_elim
        (λ (d : slice_get w.points a ≡ Some p). an.rises a b p q d c lt nd ic pp pq)
        (λ (d : (a ≡ length w.points) × (p ≡ pt)). absurd (omega (arith, d.0, get_within w.points b q c)))
        (split a p e))
        (λ (c : (b ≡ length w.points) × (q ≡ pt)). ⊎_elim
        (λ (d : slice_get w.points a ≡ Some p).
        let same_node : p.node ≡ n = nd ∙ ap (λ (t : Point M). t.node) c.1 in
        let same_inc : p.inc ≡ w.starts n = ic ∙ ap (λ (t : Point M). t.inc) c.1 in
        omega (arith, an.passed a p d pp x (ap w.nodes same_node ∙ at) (inc ∙ sym same_inc), ap (λ (t : Point M). t.req) c.1))
        (λ (d : (a ≡ length w.points) × (p ≡ pt)). absurd (omega (arith, c.0, d.0)))
        (split a p e))
        (split b q f);
    none_left_out = λ a k p e pos lt. ⊎_elim
        (λ (c : slice_get w.points a ≡ Some p). front p.node p.inc k (an.none_left_out a k p c pos lt))
        (λ (c : (a ≡ length w.points) × (p ≡ pt)). subst (λ (t : Point M). HasPoint w'.points t.node t.inc k) (sym c.1) (subst (λ (t : ℕ). HasPoint w'.points n t k) inc (front n x.join.inc k (an.told n x k at pos (omega (arith, ap (λ (t : Point M). t.req) c.1))))))
        (split a p e);
    started = λ a p e pos. ⊎_elim
        (λ (c : slice_get w.points a ≡ Some p). omega (arith, an.started a p c pos, ap (λ (s : ℕ → ℕ). s p.node) starts))
        (λ (c : (a ≡ length w.points) × (p ≡ pt)). subst (λ (t : Point M). t.inc ≤ w'.starts t.node) (sym c.1) (omega (arith, ap (λ (s : ℕ → ℕ). s n) starts)))
        (split a p e);
    passed = λ a p e pos z is ic. ⊎_elim
        (λ (c : slice_get w.points a ≡ Some p). ⊎_elim
        (λ (d : (p.node ≡ n) × (o.node ≡ Some z)). let b = l.left z d.1 in omega (arith, an.passed a p c pos x (ap w.nodes d.0 ∙ at) (sym b.0 ∙ ic), b.1))
        (λ (d : (p.node ≢ n) × (w.nodes p.node ≡ Some z)). an.passed a p c pos z d.1 ic)
        (here p.node z is))
        (λ (c : (a ≡ length w.points) × (p ≡ pt)). ⊎_elim
        (λ (d : (p.node ≡ n) × (o.node ≡ Some z)). let b = l.left z d.1 in omega (arith, ap (λ (t : Point M). t.req) c.1, b.1))
        (λ (d : (p.node ≢ n) × (w.nodes p.node ≡ Some z)). absurd (d.0 (ap (λ (t : Point M). t.node) c.1)))
        (here p.node z is))
        (split a p e);
    told = λ m z k is pos le. ⊎_elim
        (λ (c : (m ≡ n) × (o.node ≡ Some z)).
        let b = l.left z c.1 in
        let h : HasPoint w'.points n x.join.inc k = ⊎_elim
        (λ (d : x.core.passed < k). (new_at.0, pt, ap (λ (ps : List (Point M)). slice_get ps new_at.0) points ∙ new_at.1, refl, sym inc, omega (arith, b.1)))
        (λ (d : k ≤ x.core.passed). front n x.join.inc k (an.told n x k at pos d))
        (cases_lt x.core.passed k) in
        subst (λ (t : ℕ). HasPoint w'.points t z.join.inc k) (sym c.0) (subst (λ (t : ℕ). HasPoint w'.points n t k) (sym b.0) h))
        (λ (c : (m ≢ n) × (w.nodes m ≡ Some z)). front m z.join.inc k (an.told m z k c.1 pos le))
        (here m z is);
  }
    where
      pt : Point M
      pt = record { node = n; inc = w.starts n; place = l.entry.place; req = x.core.passed + 1; outcome = o.outcome }

      split : (a : ℕ) (p : Point M) → slice_get w'.points a ≡ Some p → (slice_get w.points a ≡ Some p) ⊎ ((a ≡ length w.points) × (p ≡ pt))
      split a p e = get_push w.points pt a p (ap (λ (ps : List (Point M)). slice_get ps a) (sym points) ∙ e)

      new_at : (j : ℕ) × (slice_get (w.points ++ pt ∷ []) j ≡ Some pt)
      new_at = slice_get_back w.points (pt ∷ []) 0 pt refl

      front : (m i k : ℕ) → HasPoint w.points m i k → HasPoint w'.points m i k
      front m i k h = (h.0, h.1, ap (λ (ps : List (Point M)). slice_get ps h.0) points ∙ slice_get_front w.points (pt ∷ []) h.0 h.1 h.2, h.3, h.4, h.5)

      here : (m : ℕ) (z : NodeState M) → w'.nodes m ≡ Some z → ((m ≡ n) × (o.node ≡ Some z)) ⊎ ((m ≢ n) × (w.nodes m ≡ Some z))
      here m z e = put_cases w.nodes n o.node m z ((λ i. sym nodes i m) ∙ e)

  -- what an event of a node tells
  pub tells_step : (w w' : World M) (n : ℕ) (x : NodeState M) (o : Out M) → Answering w → w.nodes n ≡ Some x → x.join.inc ≡ w.starts n → w'.nodes ≡ put w.nodes n o.node → w'.starts ≡ w.starts
      → w'.points ≡ w.points ++ points_of n (w.starts n) (head_of (w.nodes n)) o.outcome (acked o.effects)
      → GrewLog w.log w'.log → Tells w'.log.cap w'.log.order n x.join.inc x.core.passed o → Answering w'
  tells_step w w' n x o an at inc nodes starts points log t =
      let ps : ℕ → List (ℕ × ℕ) → List (Point M) = λ q acks. w.points ++ points_of n (w.starts n) q o.outcome acks in
      let told : w'.points ≡ ps (x.core.passed + 1) (acked o.effects) = points ∙ ap (λ (h : Option (NodeState M)). ps (head_of h) (acked o.effects)) at in
      ⊎_elim
      (λ (a : Quiet x.join.inc x.core.passed o). quiet_step w w' n o.node [] an nodes starts (told ∙ ap (ps (x.core.passed + 1)) a.told) log (λ k p e. absurd (cc)) (λ y e. let s = a.stays y e in (x, at, s.0, s.1)))
      (λ (a : Leaves w'.log.cap w'.log.order n x.join.inc x.core.passed o). leaves_step w w' n x o an at inc nodes starts log a (told ∙ ap (ps (x.core.passed + 1)) a.told))
      t

  -- a node stops
  pub stops_step : (w w' : World M) (n : ℕ) → Answering w → w'.nodes ≡ put w.nodes n None → w'.starts ≡ w.starts → w'.points ≡ w.points ++ [] → GrewLog w.log w'.log → Answering w'
  stops_step w w' n an nodes starts points log = quiet_step w w' n None [] an nodes starts points log (λ k p e. absurd (cc)) (λ y e. absurd (cc))

  -- an incarnation starts: it has answered nothing
  pub start_step : (w : World M) (n : ℕ) → w.nodes n ≡ None → Answering w → Answering (started_world w n)
  start_step w n off an = record {
    stands = an.stands;
    rises = an.rises;
    none_left_out = an.none_left_out;
    started = λ a p e pos. omega (arith, an.started a p e pos, (start_ext w n off).starts p.node);
    passed = λ a p e pos z at ic. ⊎_elim
        (λ (c : (p.node ≡ n) × (Some y ≡ Some z)). let f : y ≡ z = cc in absurd (omega (arith, an.started a p e pos, ic, ap (λ (t : NodeState M). t.join.inc) f, ap w.starts c.0)))
        (λ (c : (p.node ≢ n) × (w.nodes p.node ≡ Some z)). an.passed a p e pos z c.1 ic)
        (put_cases w.nodes n (Some y) p.node z at);
    told = λ m z k at pos le. ⊎_elim
        (λ (c : (m ≡ n) × (Some y ≡ Some z)). let f : y ≡ z = cc in absurd (omega (arith, ap (λ (t : NodeState M). t.core.passed) f)))
        (λ (c : (m ≢ n) × (w.nodes m ≡ Some z)). an.told m z k c.1 pos le)
        (put_cases w.nodes n (Some y) m z at);
  }
    where
      y : NodeState M
      y = fresh M n (w.starts n + 1)

  -- the law
  pub answered_ : (w : World M) → Answering w → Answered w
  answered_ w an = record {
    stands = λ a p e pos. an.stands (a - 1) p (at_get w.points a p e) pos;
    rises = λ a b p q e f lt nd ic pp pq. an.rises (a - 1) (b - 1) p q (at_get w.points a p e) (at_get w.points b q f) (omega (arith, (place_within w.points a p e).0)) nd ic pp pq;
    none_left_out = λ a k p e pos lt. let h = an.none_left_out (a - 1) k p (at_get w.points a p e) pos lt in (suc h.0, h.1, h.2, h.3, h.4, h.5);
  }

pub opening_answers : (M : Machine) (cap : ℕ) → Answering (opening M cap)
opening_answers M cap = record {
  stands = λ a p e. absurd (cc);
  rises = λ a b p q e. absurd (cc);
  none_left_out = λ a k p e. absurd (cc);
  started = λ a p e. absurd (cc);
  passed = λ a p e. absurd (cc);
  told = λ n x k e. absurd (cc);
}
