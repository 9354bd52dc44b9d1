-- The invariants don't see what the points of a world tell, but only where its nodes answered.
use Rattle.std.proofs.Common.{◌≡◌, ℕ, zero, suc, List, [], ◌∷◌, ◌++◌, Option, Some, None, slice_get, refl, sym, ap, ◌∙◌, subst, append-nil, arith}
use Rattle.cluster_rules.specs.Machines.{Machine}
use Rattle.cluster_rules.specs.Nodes.{NodeState, Out}
use Rattle.cluster_rules.specs.Worlds.{Point, World, absorb, acked, head_of, points_of, put}
use Rattle.cluster_laws.proofs.History.{absorbed, answered}
use Rattle.cluster_laws.proofs.Inv.{Invariant, OwnerOk, Past}
use Rattle.cluster_laws.proofs.Stable.{AskedOnly, Ext, all_reached, grown_refl, longer_refl, past, pooled}
use Rattle.cluster_laws.proofs.Moves.{log_on, node_on, with_history}
use Rattle.cluster_laws.proofs.Appending.{no_more}

put_back : {A : Type 0} (f : ℕ → A) (n : ℕ) → put f n (f n) ≡ f
put_back f n = λ i m. e m i
  where
    e : (m : ℕ) → put f n (f n) m ≡ f m
    e m = grind arith

module _ {M : Machine} where
  -- at the same nodes, incarnations and places
  abbrev pub SamePoints : List (Point M) → List (Point M) → Type 0
  SamePoints ps qs = (a : ℕ) (q : Point M) → slice_get qs a ≡ Some q → (p : Point M) × (slice_get ps a ≡ Some p) × (p.node ≡ q.node) × (p.inc ≡ q.inc) × (p.place ≡ q.place)

  acks_told : (n i req : ℕ) (out : Option M.Outcome) (l : List (ℕ × ℕ)) → SamePoints (answered n i l) (points_of n i req out l)
  acks_told n i req out [] a q e = absurd (cc)
  acks_told n i req out (b ∷ l) zero q e =
      let s : record { node = n; inc = i; place = b.1; req = req; outcome = out } ≡ q = cc in
      (record { node = n; inc = i; place = b.1; req = 0; outcome = None }, refl, ap (λ (t : Point M). t.node) s, ap (λ (t : Point M). t.inc) s, ap (λ (t : Point M). t.place) s)
  acks_told n i req out (b ∷ l) (suc a) q e = acks_told n i req out l a q e

  points_told : (n i req : ℕ) (out : Option M.Outcome) (ps : List (Point M)) (l : List (ℕ × ℕ)) → SamePoints (ps ++ answered n i l) (ps ++ points_of n i req out l)
  points_told n i req out [] l a q e = acks_told n i req out l a q e
  points_told n i req out (p ∷ ps) l zero q e = let s : p ≡ q = cc in (p, refl, ap (λ (t : Point M). t.node) s, ap (λ (t : Point M). t.inc) s, ap (λ (t : Point M). t.place) s)
  points_told n i req out (p ∷ ps) l (suc a) q e = points_told n i req out ps l a q e

  pub history_keeps : (w : World M) (qs : List (Point M)) → SamePoints w.points qs → Invariant w → Invariant (record w { points = qs })
  history_keeps w qs same j =
      let o : Out M = record { node = w.nodes 0; effects = []; outcome = None } in
      let w' : World M = absorbed 0 o (with_history w w.requests qs) in
      let back : (m : ℕ) (z : NodeState M) → put w.nodes 0 (w.nodes 0) m ≡ Some z → w.nodes m ≡ Some z = λ m z e. (λ i. sym (put_back w.nodes 0) i m) ∙ e in
      let e : Ext w w' = record { log = longer_refl w.log; chain = λ v u f. f; starts = λ m. omega arith; requests = λ m i q u f. f; nodes = λ m z f s. (z, back m z f, grown_refl z) } in
      let ao : AskedOnly w = λ r s. (j.log.asked r s).1 in
      let there : Invariant w' = record {
        chain = record { chain = j.chain.chain; started = j.chain.started; locker = j.chain.locker };
        log = log_on w w.requests qs 0 o e j.log.unasked j.log;
        nodes = λ m z f. node_on w w.requests qs 0 o m z e ao refl (j.nodes m z (back m z f));
        owner = λ m z s.
            let k : OwnerOk w m z = j.owner m z (record { runs = back m z s.runs; ready = s.ready; locker = s.locker; held = s.held }) in
            record { sure = k.sure; all_done = k.all_done; closed = k.closed; greatest = k.greatest; members = λ op a b f i. k.members op a b (back a b f) i };
        pool = λ k p f. pooled w w' p e ao (λ v i g. (j.log.counts v i g).0) (j.pool k p (no_more w.pool k p f));
        acks = λ a v k f. let g = j.acks a v k (no_more w.acks a (v, k) f) in record { view = g.view; declared = g.declared; place = g.place; later = g.later; members = all_reached w w' g.view.members k e g.members };
        points = λ a q f.
            let p = same a q (no_more qs a q f) in
            let old : Past w q.node q.inc q.place = subst (λ (t : ℕ). Past w q.node q.inc t) p.4 (subst (λ (t : ℕ). Past w q.node t p.0.place) p.3 (subst (λ (t : ℕ). Past w t p.0.inc p.0.place) p.2 (j.points a p.0 p.1))) in
            past w w' q.node q.inc q.place e old;
        steady = λ a b q r f g le nd ic.
            let p = same a q (no_more qs a q f) in
            let s = same b r (no_more qs b r g) in
            omega (arith, p.4, s.4, j.steady a b p.0 s.0 p.1 s.1 le (p.2 ∙ nd ∙ sym s.2) (p.3 ∙ ic ∙ sym s.3));
      } in
      let is : w' ≡ record w { points = qs } = λ i. record w { nodes = put_back w.nodes 0 i; pool = append-nil w.pool i; acks = append-nil w.acks i; points = append-nil qs i } in
      subst (λ (v : World M). Invariant v) is there

  -- what a node did, with all that its answers told
  pub told_keeps : (w : World M) (n : ℕ) (o : Out M) → Invariant (absorbed n o w) → Invariant (absorb n o w)
  told_keeps w n o j = history_keeps (absorbed n o w) (w.points ++ points_of n (w.starts n) (head_of (w.nodes n)) o.outcome (acked o.effects)) (points_told n (w.starts n) (head_of (w.nodes n)) o.outcome w.points (acked o.effects)) j
