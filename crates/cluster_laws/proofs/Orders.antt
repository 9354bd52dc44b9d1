-- The update order only grows, by a record at a time, and a run goes on from where it stands.
use Rattle.std.proofs.Common.{◌≡◌, ◌⊎◌, inl, inr, ⊎_elim, ℕ, ◌+◌, ◌≤◌, ◌^◌, Bool, true, false, ◌&&◌, List, [], ◌∷◌, ◌++◌, length, Option, Some, None, nat_lt, if◌then◌else◌, refl, sym, ap, ◌∙◌, subst, arith, append_assoc}
use Rattle.gum_messages.specs.declared.view.View.{View}
use Rattle.gum_messages.specs.Members.{is_locker}
use Rattle.gum_messages.specs.Places.{at_place}
use Rattle.gum_messages.proofs.Branches.{if_cases, option_cases}
use Rattle.update_records.specs.Entry.{Entry}
use Rattle.update_records.specs.declared.update.Update.{Update}
use Rattle.view_reconcile.specs.Joining.{ReconcileState}
use Rattle.view_reconcile.specs.Joining as joining
use Rattle.view_reconcile.specs.Chains.{view_in}
use Rattle.cluster_rules.specs.Machines.{Machine, registry_at, replay}
use Rattle.cluster_rules.specs.Nodes.{NodeState, fresh, halts, nothing, number_of}
use Rattle.cluster_rules.specs.Updates.{may_submit, submit}
use Rattle.cluster_rules.specs.Joins.{entered, recovers, takes_view}
use Rattle.cluster_rules.specs.Receiving.{checkpoint, clock, receive, tick}
use Rattle.cluster_rules.specs.Worlds.{Checkpoint, Clock, Declare, Deliver, Die, DieInDeliver, DieInInstall, Event, Install, Log, Opening, Read, Recovered, Refused, Start, Submit, Tick, World, absorb, append, claimed, deliver, die_in_deliver, die_in_install, found_log, happens, install, leave, logs, may_declare, noted, opening, opens_log, put, raise, reads, run, stopped, with_log, written}
use Rattle.std.proofs.lemmas.List.{append-nil, take-append-le}
use Rattle.cluster_rules.specs.Promises.{Recovers}
use Rattle.cluster_laws.proofs.Growth.{length_snoc}
use Rattle.cluster_laws.proofs.Events.{at_keeps}

-- an order after an event
abbrev pub Grew : List Entry → List Entry → Type 0
Grew l m = (m ≡ l) ⊎ ((r : Entry) × (m ≡ l ++ r ∷ []))

-- a log after an event: the order grew, the capacity is as before
pub record GrewLog (l m : Log) : Type 0 where
  pub order : Grew l.order m.order
  pub cap : m.cap ≡ l.cap

pub log_same : (l : Log) → GrewLog l l
log_same l = record { order = inl refl; cap = refl }

pub leave_grew : (l m : Log) (o : Option Entry) (v : ℕ) → GrewLog l m → GrewLog l (leave o v m)
leave_grew l m None v h = h
leave_grew l m (Some e) v h = record { order = h.order; cap = h.cap }

pub append_grew : (l : Log) (o : Option Entry) (v : ℕ) → GrewLog l (append o v l)
append_grew l None v = log_same l
append_grew l (Some e) v = record { order = inr (e, refl); cap = refl }

pub found_grew : (l : Log) (found : Bool) → GrewLog l (found_log found l)
found_grew l found = option_cases (λ (m : Log). GrewLog l m) l.doubtful l (λ e. if found
    then record l { order = l.order ++ e ∷ []; view_at = put l.view_at (length l.order + 1) l.doubtful_view; doubtful = None }
    else record l { doubtful = None })
    (λ none. log_same l)
    (λ e some. if_cases (λ (m : Log). GrewLog l m) found _ _ (λ t. record { order = inr (e, refl); cap = refl }) (λ t. record { order = inl refl; cap = refl }))

pub raise_grew : (l : Log) (raised : Bool) (v : ℕ) → GrewLog l (raise raised v l)
raise_grew l true v = record { order = inl refl; cap = refl }
raise_grew l false v = log_same l

module _ {M : Machine} where
  abbrev pub Extends : World M → World M → Type 0
  Extends w v = GrewLog w.log v.log

  opening_step : (w : World M) (n : ℕ) (x : NodeState M) (v : View) (opening : Opening) → Extends w (elim opening [
    | Recovered found ↦ absorb n (recovers (entered v x) w.log.cap (found_log found w.log).order) (with_log (claimed v.number (found_log found w.log)) w)
    | Refused raised cause ↦ absorb n (halts cause) (with_log (raise raised v.number w.log) w)
  ])
  opening_step w n x v (Recovered found) = let g = found_grew w.log found in record { order = g.order; cap = g.cap }
  opening_step w n x v (Refused raised cause) = raise_grew w.log raised v.number

  pub install_step : (w : World M) (n : ℕ) (x : NodeState M) (v : View) (opening : Opening) → Extends w (install w n x v opening)
  install_step w n x v opening =
      let P : World M → Type 0 = λ u. Extends w u in
      if_cases P (takes_view x v) _ _
      (λ g. if_cases P (is_locker v.members x.join.node) _ _
      (λ lk. if_cases P (nat_lt v.number w.log.held) _ _ (λ f. log_same w.log) (λ f. opening_step w n x v opening))
      (λ lk. log_same w.log))
      (λ g. log_same w.log)

  noted_step : (w : World M) (n : ℕ) (x : NodeState M) (u : Update) → Extends w (noted n x u w)
  noted_step w n x u = if_cases (λ (v : World M). Extends w v) (may_submit x) _ _ (λ g. log_same w.log) (λ g. log_same w.log)

  pub happens_step : (w : World M) (e : Event) → Extends w (happens w e)
  happens_step w (Start n) = option_cases (λ (v : World M). Extends w v) (w.nodes n) (record w { nodes = put w.nodes n (Some (fresh M n (w.starts n + 1))); starts = put w.starts n (w.starts n + 1) }) (λ x. w) (λ none. log_same w.log) (λ x some. log_same w.log)
  happens_step w (Declare v) = if_cases (λ (u : World M). Extends w u) (may_declare w v) _ _ (λ g. log_same w.log) (λ g. log_same w.log)
  happens_step w (Install n v opening) = at_keeps (λ (u : World M). Extends w u) w n (λ x. elim (view_in w.chain v) [ None ↦ w | Some u ↦ install w n x u opening ]) (log_same w.log)
      (λ x at. option_cases (λ (u : World M). Extends w u) (view_in w.chain v) w (λ u. install w n x u opening) (λ none. log_same w.log) (λ u some. install_step w n x u opening))
  happens_step w (Deliver k answer) = option_cases (λ (u : World M). Extends w u) (at_place w.pool k) w (λ p. deliver w p answer) (λ none. log_same w.log)
      (λ p some. option_cases (λ (u : World M). Extends w u) (w.nodes p.to) w (λ x. absorb p.to (receive x p w.log.held answer).out (logs (number_of x) (receive x p w.log.held answer) w)) (λ none. log_same w.log)
      (λ x at. leave_grew w.log (append (receive x p w.log.held answer).appended (number_of x) w.log) (receive x p w.log.held answer).doubtful (number_of x) (append_grew w.log (receive x p w.log.held answer).appended (number_of x))))
  happens_step w (Submit n u valid) = at_keeps (λ (v : World M). Extends w v) w n (λ x. absorb n (submit x u) (noted n x u w)) (log_same w.log) (λ x at. let g = noted_step w n x u in record { order = g.order; cap = g.cap })
  happens_step w (Read n) = at_keeps (λ (v : World M). Extends w v) w n (λ x. if joining.is_open x.join then absorb n (nothing x) (reads n x w) else w) (log_same w.log) (λ x at. if_cases (λ (v : World M). Extends w v) (joining.is_open x.join) _ _ (λ op. log_same w.log) (λ op. log_same w.log))
  happens_step w (Tick n) = at_keeps (λ (v : World M). Extends w v) w n (λ x. absorb n (tick x) w) (log_same w.log) (λ x at. log_same w.log)
  happens_step w (Clock n stamp) = if_cases (λ (v : World M). Extends w v) (nat_lt stamp (2 ^ 64)) _ _ (λ g. at_keeps (λ (v : World M). Extends w v) w n (λ x. absorb n (clock x stamp) w) (log_same w.log) (λ x at. log_same w.log)) (λ g. log_same w.log)
  happens_step w (Checkpoint n good) = at_keeps (λ (v : World M). Extends w v) w n (λ x. absorb n (checkpoint x w.log.held good) w) (log_same w.log) (λ x at. log_same w.log)
  happens_step w (Die n) = log_same w.log
  happens_step w (DieInDeliver k answer) = option_cases (λ (u : World M). Extends w u) (at_place w.pool k) w (λ p. die_in_deliver w p answer) (λ none. log_same w.log)
      (λ p some. option_cases (λ (u : World M). Extends w u) (w.nodes p.to) w (λ x. stopped p.to (with_log (leave (written (receive x p w.log.held answer)) (number_of x) w.log) w)) (λ none. log_same w.log)
      (λ x at. leave_grew w.log w.log (written (receive x p w.log.held answer)) (number_of x) (log_same w.log)))
  happens_step w (DieInInstall n v raised) = at_keeps (λ (u : World M). Extends w u) w n (λ x. elim (view_in w.chain v) [ None ↦ w | Some u ↦ die_in_install w n x u raised ]) (log_same w.log)
      (λ x at. option_cases (λ (u : World M). Extends w u) (view_in w.chain v) w (λ u. die_in_install w n x u raised) (λ none. log_same w.log) (λ u some. raise_grew w.log (opens_log w x u && raised) u.number))

  -- what the first records made once, they make ever after
  pub registry_stays : (w : World M) (e : Event) (k : ℕ) → k ≤ length w.log.order → registry_at M (happens w e).log.cap (happens w e).log.order k ≡ registry_at M w.log.cap w.log.order k
  registry_stays w e k le =
      let g : Extends w (happens w e) = happens_step w e in
      let P : List Entry → Type 0 = λ l. registry_at M (happens w e).log.cap l k ≡ registry_at M w.log.cap w.log.order k in
      let same : P w.log.order = ap (λ (c : ℕ). registry_at M c w.log.order k) g.cap in
      ⊎_elim
      (λ (a : (happens w e).log.order ≡ w.log.order). subst P (sym a) same)
      (λ (a : (r : Entry) × ((happens w e).log.order ≡ w.log.order ++ r ∷ [])).
      subst P (sym a.1) (ap (λ (l : List Entry). replay M l (M.empty (happens w e).log.cap)) (take-append-le k w.log.order (a.0 ∷ []) le) ∙ same))
      g.order

  pub order_within : (w : World M) (e : Event) → length w.log.order ≤ length (happens w e).log.order
  order_within w e = ⊎_elim
      (λ (a : (happens w e).log.order ≡ w.log.order). omega (arith, ap (λ (l : List Entry). length l) a))
      (λ (a : (r : Entry) × ((happens w e).log.order ≡ w.log.order ++ r ∷ [])). omega (arith, ap (λ (l : List Entry). length l) a.1, length_snoc w.log.order a.0))
      (happens_step w e).order

  -- one event more
  pub run_more : (es : List Event) (e : Event) (w : World M) → run (es ++ e ∷ []) w ≡ happens (run es w) e
  run_more [] e w = refl
  run_more (a ∷ es) e w = run_more es e (happens w a)

  -- events that come one list after the other
  pub run_append : (es fs : List Event) (w : World M) → run (es ++ fs) w ≡ run fs (run es w)
  run_append [] fs w = refl
  run_append (e ∷ es) fs w = run_append es fs (happens w e)

  -- the order only grows
  pub order_grows : (es : List Event) (w : World M) → (rest : List Entry) × ((run es w).log.order ≡ w.log.order ++ rest)
  order_grows [] w = ([], sym (append-nil w.log.order))
  order_grows (e ∷ es) w =
      let g : (rest : List Entry) × ((run es (happens w e)).log.order ≡ (happens w e).log.order ++ rest) = order_grows es (happens w e) in
      ⊎_elim
      (λ (a : (happens w e).log.order ≡ w.log.order). (g.0, g.1 ∙ ap (λ (l : List Entry). l ++ g.0) a))
      (λ (a : (r : Entry) × ((happens w e).log.order ≡ w.log.order ++ r ∷ [])). (a.0 ∷ g.0, g.1 ∙ ap (λ (l : List Entry). l ++ g.0) a.1 ∙ append_assoc w.log.order (a.0 ∷ []) g.0))
      (happens_step w e).order

  pub all_grow : (w : World M) (es more : List Event) → (rest : List Entry) × ((run (es ++ more) w).log.order ≡ (run es w).log.order ++ rest)
  all_grow w es more =
      let g : (rest : List Entry) × ((run more (run es w)).log.order ≡ (run es w).log.order ++ rest) = order_grows more (run es w) in
      (g.0, ap (λ (v : World M). v.log.order) (run_append es more w) ∙ g.1)

  -- what a recovery finds
  pub recovers_order : (w : World M) (found : Bool) → Recovers w found
  recovers_order w found = ⊎_elim
      (λ (a : (found_log found w.log).order ≡ w.log.order). record { rest = []; begins = a ∙ sym (append-nil w.log.order); few = omega arith })
      (λ (a : (r : Entry) × ((found_log found w.log).order ≡ w.log.order ++ r ∷ [])). record { rest = a.0 ∷ []; begins = a.1; few = omega arith })
      (found_grew w.log found).order
