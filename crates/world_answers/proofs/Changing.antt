-- What an event of the protocol changes of a world's history: who starts, who is gone, and which requests are taken.
use Rattle.std.proofs.Common.{◌≡◌, ◌⊎◌, inl, inr, ⊎_elim, ℕ, ◌+◌, ◌<◌, ◌≤◌, ◌^◌, Bool, true, false, List, [], ◌∷◌, ◌++◌, Option, Some, None, nat_eq, nat_lt, if◌then◌else◌, refl, sym, ap, ◌∙◌, append-nil, append_assoc, arith}
use Rattle.gum_messages.specs.declared.view.View.{View}
use Rattle.gum_messages.specs.Members.{is_locker}
use Rattle.gum_messages.specs.Places.{at_place}
use Rattle.gum_messages.proofs.Branches.{if_cases, option_cases}
use Rattle.update_records.specs.declared.update.Update.{Update}
use Rattle.view_reconcile.specs.Joining as joining
use Rattle.view_reconcile.specs.Chains.{view_in}
use Rattle.cluster_rules.specs.Machines.{Machine, IsMachine}
use Rattle.cluster_rules.specs.Nodes.{NodeState, fresh, halts, nothing, number_of}
use Rattle.cluster_rules.specs.Updates.{may_submit, submit}
use Rattle.cluster_rules.specs.Joins.{entered, recovers, takes_view}
use Rattle.cluster_rules.specs.Receiving.{checkpoint, clock, receive, tick}
use Rattle.cluster_rules.specs.Worlds.{Checkpoint, Clock, Declare, Deliver, Die, DieInDeliver, DieInInstall, Event, Install, Opening, Read, Recovered, Refused, Start, Submit, Tick, World, absorb, claimed, deliver, die_in_deliver, die_in_install, found_log, happens, install, leave, logs, may_declare, noted, put, raise, reads, run, stopped, with_log, written}
use Rattle.cluster_laws.proofs.Applying.{eq_true, lt_false, lt_true}
use Rattle.cluster_laws.proofs.Events.{at_keeps}
use Rattle.cluster_laws.proofs.Inv.{Invariant}
use Rattle.cluster_laws.proofs.Starting.{started_world}
use Rattle.cluster_laws.proofs.Theorem.{Holds, happens_holds}

-- ---- no request is taken

-- Only a submission takes a request.
abbrev pub TakesNone : Event → Type 0
TakesNone (Submit n u valid) = ⊥
TakesNone e = Unit {0}

module _ {M : Machine} where
  abbrev pub SameRequests : World M → World M → Type 0
  SameRequests w u = u.requests ≡ w.requests

  opened_same : (w : World M) (n : ℕ) (x : NodeState M) (v : View) (opening : Opening) → SameRequests w (elim opening [
    | Recovered found ↦ absorb n (recovers (entered v x) w.log.cap (found_log found w.log).order) (with_log (claimed v.number (found_log found w.log)) w)
    | Refused raised cause ↦ absorb n (halts cause) (with_log (raise raised v.number w.log) w)
  ])
  opened_same w n x v (Recovered found) = refl
  opened_same w n x v (Refused raised cause) = refl

  install_same : (w : World M) (n : ℕ) (x : NodeState M) (v : View) (opening : Opening) → SameRequests w (install w n x v opening)
  install_same w n x v opening =
      let P : World M → Type 0 = λ u. SameRequests w u in
      if_cases P (takes_view x v) _ _
      (λ g. if_cases P (is_locker v.members x.join.node) _ _ (λ l. if_cases P (nat_lt v.number w.log.held) _ _ (λ f. refl) (λ f. opened_same w n x v opening)) (λ l. refl))
      (λ g. refl)

  pub same_requests : (w : World M) (e : Event) → TakesNone e → (happens w e).requests ≡ w.requests
  same_requests w (Start n) t = option_cases (λ (u : World M). SameRequests w u) (w.nodes n) (started_world w n) (λ x. w) (λ none. refl) (λ x some. refl)
  same_requests w (Declare v) t = if_cases (λ (u : World M). SameRequests w u) (may_declare w v) _ _ (λ g. refl) (λ g. refl)
  same_requests w (Install n v opening) t = at_keeps (λ (u : World M). SameRequests w u) w n (λ x. elim (view_in w.chain v) [ None ↦ w | Some u ↦ install w n x u opening ]) refl
      (λ x at. option_cases (λ (u : World M). SameRequests w u) (view_in w.chain v) w (λ u. install w n x u opening) (λ none. refl) (λ u some. install_same w n x u opening))
  same_requests w (Deliver k answer) t = option_cases (λ (u : World M). SameRequests w u) (at_place w.pool k) w (λ p. deliver w p answer) (λ none. refl)
      (λ p some. option_cases (λ (u : World M). SameRequests w u) (w.nodes p.to) w (λ x. absorb p.to (receive x p w.log.held answer).out (logs (number_of x) (receive x p w.log.held answer) w)) (λ none. refl) (λ x at. refl))
  same_requests w (Submit n u valid) t = absurd t
  same_requests w (Read n) t = at_keeps (λ (v : World M). SameRequests w v) w n (λ x. if joining.is_open x.join then absorb n (nothing x) (reads n x w) else w) refl (λ x at. if_cases (λ (v : World M). SameRequests w v) (joining.is_open x.join) _ _ (λ g. refl) (λ g. refl))
  same_requests w (Tick n) t = at_keeps (λ (v : World M). SameRequests w v) w n (λ x. absorb n (tick x) w) refl (λ x at. refl)
  same_requests w (Clock n stamp) t = if_cases (λ (v : World M). SameRequests w v) (nat_lt stamp (2 ^ 64)) _ _ (λ g. at_keeps (λ (v : World M). SameRequests w v) w n (λ x. absorb n (clock x stamp) w) refl (λ x at. refl)) (λ g. refl)
  same_requests w (Checkpoint n good) t = at_keeps (λ (v : World M). SameRequests w v) w n (λ x. absorb n (checkpoint x w.log.held good) w) refl (λ x at. refl)
  same_requests w (Die n) t = refl
  same_requests w (DieInDeliver k answer) t = option_cases (λ (u : World M). SameRequests w u) (at_place w.pool k) w (λ p. die_in_deliver w p answer) (λ none. refl)
      (λ p some. option_cases (λ (u : World M). SameRequests w u) (w.nodes p.to) w (λ x. stopped p.to (with_log (leave (written (receive x p w.log.held answer)) (number_of x) w.log) w)) (λ none. refl) (λ x at. refl))
  same_requests w (DieInInstall n v raised) t = at_keeps (λ (u : World M). SameRequests w u) w n (λ x. elim (view_in w.chain v) [ None ↦ w | Some u ↦ die_in_install w n x u raised ]) refl
      (λ x at. option_cases (λ (u : World M). SameRequests w u) (view_in w.chain v) w (λ u. die_in_install w n x u raised) (λ none. refl) (λ u some. refl))

  -- ---- requests of an incarnation are those that it had, and at most one more where it runs

  abbrev pub Extends : World M → World M → ℕ → ℕ → Type 0
  Extends w u n i = (u.requests n i ≡ w.requests n i) ⊎ ((x : NodeState M) × (w.nodes n ≡ Some x) × (x.join.inc ≡ i) × (update : Update) × (u.requests n i ≡ w.requests n i ++ update ∷ []))

  noted_extends : (w : World M) (n m i : ℕ) (x : NodeState M) (u : Update) → w.nodes n ≡ Some x → Extends w (noted n x u w) m i
  noted_extends w n m i x u at =
      let E : List Update → Type 0 = λ l. (l ≡ w.requests m i) ⊎ ((y : NodeState M) × (w.nodes m ≡ Some y) × (y.join.inc ≡ i) × (update : Update) × (l ≡ w.requests m i ++ update ∷ [])) in
      if_cases (λ (v : World M). Extends w v m i) (may_submit x) _ _
      (λ may. if_cases (λ (f : ℕ → List Update). E (f i)) (nat_eq m n) (put (w.requests n) x.join.inc (w.requests n x.join.inc ++ u ∷ [])) (w.requests m)
      (λ a. let e : m ≡ n = eq_true m n a in if_cases (λ (l : List Update). E l) (nat_eq i x.join.inc) (w.requests n x.join.inc ++ u ∷ []) (w.requests n i)
      (λ b. let f : i ≡ x.join.inc = eq_true i x.join.inc b in inr (x, ap w.nodes e ∙ at, sym f, u, λ k. w.requests (sym e k) (sym f k) ++ u ∷ []))
      (λ b. inl (λ k. w.requests (sym e k) i)))
      (λ a. inl refl))
      (λ may. inl refl)

  -- ---- an event

  pub record Change (w u : World M) : Type 0 where
    pub starts : (n : ℕ) → w.starts n ≤ u.starts n
    pub gone : (n : ℕ) → w.nodes n ≡ None → (u.nodes n ≡ None) ⊎ (w.starts n < u.starts n)
    pub requests : (n i : ℕ) → Extends w u n i

  still : (w : World M) → Change w w
  still w = record { starts = λ n. omega arith; gone = λ n e. inl e; requests = λ n i. inl refl }

  put_none : (w : World M) (n m : ℕ) (o : Option (NodeState M)) → (m ≡ n → o ≡ None) → w.nodes m ≡ None → put w.nodes n o m ≡ None
  put_none w n m o gone none = if_cases (λ (z : Option (NodeState M)). z ≡ None) (nat_eq m n) o (w.nodes m) (λ e. gone (eq_true m n e)) (λ e. none)

  moves : (w u : World M) (n : ℕ) (x : NodeState M) (o : Option (NodeState M)) → w.nodes n ≡ Some x → u.nodes ≡ put w.nodes n o → u.starts ≡ w.starts → ((m i : ℕ) → Extends w u m i) → Change w u
  moves w u n x o at nodes starts requests = record {
    starts = λ m. let e : u.starts m ≡ w.starts m = λ i. starts i m in omega (arith, e);
    gone = λ m none. inl ((λ i. nodes i m) ∙ put_none w n m o (λ same. absurd (let e : w.nodes n ≡ None = ap w.nodes (sym same) ∙ none in cc (e, at))) none);
    requests = requests;
  }

  stops : (w u : World M) (n : ℕ) → u.nodes ≡ put w.nodes n None → u.starts ≡ w.starts → u.requests ≡ w.requests → Change w u
  stops w u n nodes starts requests = record {
    starts = λ m. let e : u.starts m ≡ w.starts m = λ i. starts i m in omega (arith, e);
    gone = λ m none. inl ((λ i. nodes i m) ∙ put_none w n m None (λ same. refl) none);
    requests = λ m i. inl (λ k. requests k m i);
  }

  begins : (w : World M) (n : ℕ) → Change w (started_world w n)
  begins w n = record {
    starts = λ m. if_cases (λ (k : ℕ). w.starts m ≤ k) (nat_eq m n) (w.starts n + 1) (w.starts m) (λ e. omega (arith, ap w.starts (eq_true m n e))) (λ e. omega arith);
    gone = λ m none. by m (nat_eq m n) (λ e. eq_true m n e) none;
    requests = λ m i. inl refl;
  }
    where
      by : (m : ℕ) (c : Bool) → (c ≡ true → m ≡ n) → w.nodes m ≡ None → ((if c then Some (fresh M n (w.starts n + 1)) else w.nodes m) ≡ None) ⊎ (w.starts m < (if c then w.starts n + 1 else w.starts m))
      by m true same none = inr (omega (arith, ap w.starts (same refl)))
      by m false same none = inl none

  opened_changes : (w : World M) (n : ℕ) (x : NodeState M) (v : View) (opening : Opening) → w.nodes n ≡ Some x → Change w (elim opening [
    | Recovered found ↦ absorb n (recovers (entered v x) w.log.cap (found_log found w.log).order) (with_log (claimed v.number (found_log found w.log)) w)
    | Refused raised cause ↦ absorb n (halts cause) (with_log (raise raised v.number w.log) w)
  ])
  opened_changes w n x v (Recovered found) at = moves w _ n x _ at refl refl (λ m i. inl refl)
  opened_changes w n x v (Refused raised cause) at = moves w _ n x _ at refl refl (λ m i. inl refl)

  install_changes : (w : World M) (n : ℕ) (x : NodeState M) (v : View) (opening : Opening) → w.nodes n ≡ Some x → Change w (install w n x v opening)
  install_changes w n x v opening at =
      let P : World M → Type 0 = λ u. Change w u in
      if_cases P (takes_view x v) _ _
      (λ g. if_cases P (is_locker v.members x.join.node) _ _
      (λ l. if_cases P (nat_lt v.number w.log.held) _ _ (λ f. moves w _ n x _ at refl refl (λ m i. inl refl)) (λ f. opened_changes w n x v opening at))
      (λ l. moves w _ n x _ at refl refl (λ m i. inl refl)))
      (λ g. still w)

  pub changes : (w : World M) (e : Event) → Change w (happens w e)
  changes w (Start n) = option_cases (λ (u : World M). Change w u) (w.nodes n) (started_world w n) (λ x. w) (λ none. begins w n) (λ x some. still w)
  changes w (Declare v) = if_cases (λ (u : World M). Change w u) (may_declare w v) _ _ (λ g. record { starts = λ n. omega arith; gone = λ n e. inl e; requests = λ n i. inl refl }) (λ g. still w)
  changes w (Install n v opening) = at_keeps (λ (u : World M). Change w u) w n (λ x. elim (view_in w.chain v) [ None ↦ w | Some u ↦ install w n x u opening ]) (still w)
      (λ x at. option_cases (λ (u : World M). Change w u) (view_in w.chain v) w (λ u. install w n x u opening) (λ none. still w) (λ u some. install_changes w n x u opening at))
  changes w (Deliver k answer) = option_cases (λ (u : World M). Change w u) (at_place w.pool k) w (λ p. deliver w p answer) (λ none. still w)
      (λ p some. option_cases (λ (u : World M). Change w u) (w.nodes p.to) w (λ x. absorb p.to (receive x p w.log.held answer).out (logs (number_of x) (receive x p w.log.held answer) w)) (λ none. still w)
      (λ x at. moves w _ p.to x _ at refl refl (λ m i. inl refl)))
  changes w (Submit n u valid) = at_keeps (λ (v : World M). Change w v) w n (λ x. absorb n (submit x u) (noted n x u w)) (still w) (λ x at. submits_changes x at)
    where
      submits_changes : (x : NodeState M) → w.nodes n ≡ Some x → Change w (absorb n (submit x u) (noted n x u w))
      submits_changes x at = if_cases (λ (v : World M). ((m i : ℕ) → Extends w v m i) → Change w (absorb n (submit x u) v)) (may_submit x) _ _
          (λ may extends. moves w _ n x _ at refl refl extends) (λ may extends. moves w _ n x _ at refl refl extends) (λ m i. noted_extends w n m i x u at)
  changes w (Read n) = at_keeps (λ (v : World M). Change w v) w n (λ x. if joining.is_open x.join then absorb n (nothing x) (reads n x w) else w) (still w)
      (λ x at. if_cases (λ (v : World M). Change w v) (joining.is_open x.join) _ _ (λ g. moves w _ n x _ at refl refl (λ m i. inl refl)) (λ g. still w))
  changes w (Tick n) = at_keeps (λ (v : World M). Change w v) w n (λ x. absorb n (tick x) w) (still w) (λ x at. moves w _ n x _ at refl refl (λ m i. inl refl))
  changes w (Clock n stamp) = if_cases (λ (v : World M). Change w v) (nat_lt stamp (2 ^ 64)) _ _
      (λ g. at_keeps (λ (v : World M). Change w v) w n (λ x. absorb n (clock x stamp) w) (still w) (λ x at. moves w _ n x _ at refl refl (λ m i. inl refl))) (λ g. still w)
  changes w (Checkpoint n good) = at_keeps (λ (v : World M). Change w v) w n (λ x. absorb n (checkpoint x w.log.held good) w) (still w) (λ x at. moves w _ n x _ at refl refl (λ m i. inl refl))
  changes w (Die n) = stops w (stopped n w) n refl refl refl
  changes w (DieInDeliver k answer) = option_cases (λ (u : World M). Change w u) (at_place w.pool k) w (λ p. die_in_deliver w p answer) (λ none. still w)
      (λ p some. option_cases (λ (u : World M). Change w u) (w.nodes p.to) w (λ x. stopped p.to (with_log (leave (written (receive x p w.log.held answer)) (number_of x) w.log) w)) (λ none. still w)
      (λ x at. stops w _ p.to refl refl refl))
  changes w (DieInInstall n v raised) = at_keeps (λ (u : World M). Change w u) w n (λ x. elim (view_in w.chain v) [ None ↦ w | Some u ↦ die_in_install w n x u raised ]) (still w)
      (λ x at. option_cases (λ (u : World M). Change w u) (view_in w.chain v) w (λ u. die_in_install w n x u raised) (λ none. still w) (λ u some. stops w _ n refl refl refl))

  -- ---- a run

  -- The incarnation is over: it was started, and runs no more.
  abbrev pub IsOver : World M → ℕ → ℕ → Type 0
  IsOver w n i = (i < w.starts n) ⊎ ((i ≡ w.starts n) × (w.nodes n ≡ None))

  over_stays : (w : World M) (e : Event) (n i : ℕ) → Invariant w → IsOver w n i → IsOver (happens w e) n i × ((happens w e).requests n i ≡ w.requests n i)
  over_stays w e n i j over =
      let c = changes w e in
      let more = c.starts n in (
        ⊎_elim
            (λ (lt : i < w.starts n). inl (omega (arith, lt, more)))
            (λ (at : (i ≡ w.starts n) × (w.nodes n ≡ None)). ⊎_elim
            (λ (none : (happens w e).nodes n ≡ None). same at none)
            (λ (lt : w.starts n < (happens w e).starts n). inl (omega (arith, at.0, lt)))
            (c.gone n at.1))
            over,
        ⊎_elim
            (λ (q : (happens w e).requests n i ≡ w.requests n i). q)
            (λ (r : (x : NodeState M) × (w.nodes n ≡ Some x) × (x.join.inc ≡ i) × (update : Update) × ((happens w e).requests n i ≡ w.requests n i ++ update ∷ [])). absurd (runs r.0 r.1 r.2))
            (c.requests n i),
      )
    where
      same : (i ≡ w.starts n) × (w.nodes n ≡ None) → (happens w e).nodes n ≡ None → IsOver (happens w e) n i
      same at none = by (nat_lt (w.starts n) ((happens w e).starts n)) refl
        where
          by : (c : Bool) → nat_lt (w.starts n) ((happens w e).starts n) ≡ c → IsOver (happens w e) n i
          by true lt = inl (let l = lt_true (w.starts n) ((happens w e).starts n) lt in omega (arith, at.0, l))
          by false ge = inr (let l = lt_false (w.starts n) ((happens w e).starts n) ge in let g = (changes w e).starts n in omega (arith, at.0, l, g), none)

      runs : (x : NodeState M) → w.nodes n ≡ Some x → x.join.inc ≡ i → ⊥
      runs x at inc =
          let k : x.join.inc ≡ w.starts n = (j.nodes n x at).inc in
          ⊎_elim (λ (lt : i < w.starts n). omega (arith, lt, inc, k)) (λ (o : (i ≡ w.starts n) × (w.nodes n ≡ None)). cc (o.1, at)) over

  pub over_run : IsMachine M → (es : List Event) (w : World M) (n i : ℕ) → Holds M w → IsOver w n i → (run es w).requests n i ≡ w.requests n i
  over_run law [] w n i h over = refl
  over_run law (e ∷ es) w n i h over =
      let s = over_stays w e n i h.invariant over in
      over_run law es (happens w e) n i (happens_holds M law w e h) s.0 ∙ s.1

  -- Requests are never lost.
  pub requests_grow : (es : List Event) (w : World M) (n i : ℕ) → (rest : List Update) × ((run es w).requests n i ≡ w.requests n i ++ rest)
  requests_grow [] w n i = ([], sym (append-nil (w.requests n i)))
  requests_grow (e ∷ es) w n i =
      let r = requests_grow es (happens w e) n i in
      ⊎_elim
      (λ (q : (happens w e).requests n i ≡ w.requests n i). (r.0, r.1 ∙ ap (λ (l : List Update). l ++ r.0) q))
      (λ (q : (x : NodeState M) × (w.nodes n ≡ Some x) × (x.join.inc ≡ i) × (update : Update) × ((happens w e).requests n i ≡ w.requests n i ++ update ∷ [])).
      (q.3 ∷ r.0, r.1 ∙ ap (λ (l : List Update). l ++ r.0) q.4 ∙ append_assoc (w.requests n i) (q.3 ∷ []) r.0))
      ((changes w e).requests n i)
