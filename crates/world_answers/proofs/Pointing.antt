-- The protocol's world keeps each point at which a node answered, and notes one for each acknowledgement.
use Rattle.std.proofs.Common.{◌≡◌, ℕ, ◌≤◌, ◌^◌, Bool, List, [], ◌∷◌, ◌++◌, length, Option, Some, None, nat_lt, if◌then◌else◌, slice_get, refl, sym, ap, ◌∙◌, subst, append-nil, append_assoc, arith}
use Rattle.gum_messages.specs.declared.view.View.{View}
use Rattle.gum_messages.specs.Members.{is_locker}
use Rattle.gum_messages.specs.Messages.{Sent}
use Rattle.gum_messages.specs.Places.{at_place}
use Rattle.gum_messages.proofs.Branches.{if_cases, option_cases}
use Rattle.view_reconcile.specs.Joining as joining
use Rattle.view_reconcile.specs.Chains.{view_in}
use Rattle.cluster_rules.specs.declared.effect.HaltCause.TheVariants as halt
use Rattle.cluster_rules.specs.Machines.{Machine}
use Rattle.cluster_rules.specs.Nodes.{NodeState, Out, halts, nothing, number_of}
use Rattle.cluster_rules.specs.Updates.{Answer, may_submit, submit}
use Rattle.cluster_rules.specs.Joins.{entered, recovers, takes_view}
use Rattle.cluster_rules.specs.Receiving.{checkpoint, clock, receive, tick}
use Rattle.cluster_rules.specs.Worlds.{Checkpoint, Clock, Declare, Deliver, Die, DieInDeliver, DieInInstall, Event, Install, Opening, Point, Read, Recovered, Refused, Start, Submit, Tick, World, absorb, acked, claimed, deliver, die_in_deliver, die_in_install, found_log, happens, head_of, install, leave, logs, may_declare, noted, points_of, raise, reads, run, stopped, with_log, written}
use Rattle.cluster_laws.proofs.Events.{at_keeps}
use Rattle.cluster_laws.proofs.Moves.{slice_get_front}
use Rattle.cluster_laws.proofs.Starting.{started_world}

module _ {M : Machine} where
  -- ---- points stay

  abbrev pub KeepsPoints : World M → World M → Type 0
  KeepsPoints w u = (rest : List (Point M)) × (u.points ≡ w.points ++ rest)

  as_before : (w : World M) → KeepsPoints w w
  as_before w = ([], sym (append-nil w.points))

  opened_keeps : (w : World M) (n : ℕ) (x : NodeState M) (v : View) (opening : Opening) → KeepsPoints w (elim opening [
    | Recovered found ↦ absorb n (recovers (entered v x) w.log.cap (found_log found w.log).order) (with_log (claimed v.number (found_log found w.log)) w)
    | Refused raised cause ↦ absorb n (halts cause) (with_log (raise raised v.number w.log) w)
  ])
  opened_keeps w n x v (Recovered found) = (_, refl)
  opened_keeps w n x v (Refused raised cause) = (_, refl)

  install_keeps : (w : World M) (n : ℕ) (x : NodeState M) (v : View) (opening : Opening) → KeepsPoints w (install w n x v opening)
  install_keeps w n x v opening =
      let P : World M → Type 0 = λ u. KeepsPoints w u in
      if_cases P (takes_view x v) _ _
      (λ g. if_cases P (is_locker v.members x.join.node) _ _ (λ l. if_cases P (nat_lt v.number w.log.held) _ _ (λ f. (_, refl)) (λ f. opened_keeps w n x v opening)) (λ l. (_, refl)))
      (λ g. as_before w)

  pub points_keep : (w : World M) (e : Event) → KeepsPoints w (happens w e)
  points_keep w (Start n) = option_cases (λ (u : World M). KeepsPoints w u) (w.nodes n) (started_world w n) (λ x. w) (λ none. as_before w) (λ x some. as_before w)
  points_keep w (Declare v) = if_cases (λ (u : World M). KeepsPoints w u) (may_declare w v) _ _ (λ g. as_before w) (λ g. as_before w)
  points_keep w (Install n v opening) = at_keeps (λ (u : World M). KeepsPoints w u) w n (λ x. elim (view_in w.chain v) [ None ↦ w | Some u ↦ install w n x u opening ]) (as_before w)
      (λ x at. option_cases (λ (u : World M). KeepsPoints w u) (view_in w.chain v) w (λ u. install w n x u opening) (λ none. as_before w) (λ u some. install_keeps w n x u opening))
  points_keep w (Deliver k answer) = option_cases (λ (u : World M). KeepsPoints w u) (at_place w.pool k) w (λ p. deliver w p answer) (λ none. as_before w)
      (λ p some. option_cases (λ (u : World M). KeepsPoints w u) (w.nodes p.to) w (λ x. absorb p.to (receive x p w.log.held answer).out (logs (number_of x) (receive x p w.log.held answer) w)) (λ none. as_before w) (λ x at. (_, refl)))
  points_keep w (Submit n u valid) = at_keeps (λ (v : World M). KeepsPoints w v) w n (λ x. absorb n (submit x u) (noted n x u w)) (as_before w)
      (λ x at. if_cases (λ (v : World M). KeepsPoints w (absorb n (submit x u) v)) (may_submit x) _ _ (λ g. (_, refl)) (λ g. (_, refl)))
  points_keep w (Read n) = at_keeps (λ (v : World M). KeepsPoints w v) w n (λ x. if joining.is_open x.join then absorb n (nothing x) (reads n x w) else w) (as_before w)
      (λ x at. if_cases (λ (v : World M). KeepsPoints w v) (joining.is_open x.join) _ _ (λ g. (_, append_assoc w.points _ _)) (λ g. as_before w))
  points_keep w (Tick n) = at_keeps (λ (v : World M). KeepsPoints w v) w n (λ x. absorb n (tick x) w) (as_before w) (λ x at. (_, refl))
  points_keep w (Clock n stamp) = if_cases (λ (v : World M). KeepsPoints w v) (nat_lt stamp (2 ^ 64)) _ _ (λ g. at_keeps (λ (v : World M). KeepsPoints w v) w n (λ x. absorb n (clock x stamp) w) (as_before w) (λ x at. (_, refl))) (λ g. as_before w)
  points_keep w (Checkpoint n good) = at_keeps (λ (v : World M). KeepsPoints w v) w n (λ x. absorb n (checkpoint x w.log.held good) w) (as_before w) (λ x at. (_, refl))
  points_keep w (Die n) = as_before w
  points_keep w (DieInDeliver k answer) = option_cases (λ (u : World M). KeepsPoints w u) (at_place w.pool k) w (λ p. die_in_deliver w p answer) (λ none. as_before w)
      (λ p some. option_cases (λ (u : World M). KeepsPoints w u) (w.nodes p.to) w (λ x. stopped p.to (with_log (leave (written (receive x p w.log.held answer)) (number_of x) w.log) w)) (λ none. as_before w) (λ x at. as_before w))
  points_keep w (DieInInstall n v raised) = at_keeps (λ (u : World M). KeepsPoints w u) w n (λ x. elim (view_in w.chain v) [ None ↦ w | Some u ↦ die_in_install w n x u raised ]) (as_before w)
      (λ x at. option_cases (λ (u : World M). KeepsPoints w u) (view_in w.chain v) w (λ u. die_in_install w n x u raised) (λ none. as_before w) (λ u some. as_before w))

  pub point_stays : (es : List Event) (w : World M) (a : ℕ) (p : Point M) → slice_get w.points a ≡ Some p → slice_get (run es w).points a ≡ Some p
  point_stays [] w a p e = e
  point_stays (f ∷ es) w a p e =
      let k = points_keep w f in
      point_stays es (happens w f) a p (ap (λ (l : List (Point M)). slice_get l a) k.1 ∙ slice_get_front w.points k.0 a p e)

  -- ---- what a node acknowledges it has answered

  pub record Alike (w u : World M) (n : ℕ) : Type 0 where
    pub told : List (ℕ × ℕ)
    pub req : ℕ
    pub outcome : Option M.Outcome
    pub acks : u.acks ≡ w.acks ++ told
    pub points : u.points ≡ w.points ++ points_of n (w.starts n) req outcome told

  alike_same : (w : World M) (n : ℕ) → Alike w w n
  alike_same w n = record { told = []; req = 0; outcome = None; acks = sym (append-nil w.acks); points = sym (append-nil w.points) }

  acts_alike : (w v : World M) (n : ℕ) (o : Out M) → v.acks ≡ w.acks → v.points ≡ w.points → v.starts ≡ w.starts → Alike w (absorb n o v) n
  acts_alike w v n o acks points starts = record {
    told = acked o.effects;
    req = head_of (v.nodes n);
    outcome = o.outcome;
    acks = ap (λ (l : List (ℕ × ℕ)). l ++ acked o.effects) acks;
    points = λ i. points i ++ points_of n (starts i n) (head_of (v.nodes n)) o.outcome (acked o.effects);
  }

  opened_alike : (w : World M) (n : ℕ) (x : NodeState M) (v : View) (opening : Opening) → Alike w (elim opening [
    | Recovered found ↦ absorb n (recovers (entered v x) w.log.cap (found_log found w.log).order) (with_log (claimed v.number (found_log found w.log)) w)
    | Refused raised cause ↦ absorb n (halts cause) (with_log (raise raised v.number w.log) w)
  ]) n
  opened_alike w n x v (Recovered found) = acts_alike w (with_log (claimed v.number (found_log found w.log)) w) n (recovers (entered v x) w.log.cap (found_log found w.log).order) refl refl refl
  opened_alike w n x v (Refused raised cause) = acts_alike w (with_log (raise raised v.number w.log) w) n (halts cause) refl refl refl

  pub install_alike : (w : World M) (n view : ℕ) (opening : Opening) → Alike w (happens w (Install n view opening)) n
  install_alike w n view opening =
      let P : World M → Type 0 = λ u. Alike w u n in
      at_keeps P w n (λ x. elim (view_in w.chain view) [ None ↦ w | Some u ↦ install w n x u opening ]) (alike_same w n)
      (λ x at. option_cases P (view_in w.chain view) w (λ u. install w n x u opening) (λ none. alike_same w n)
      (λ v some. if_cases P (takes_view x v) _ _
      (λ g. if_cases P (is_locker v.members x.join.node) _ _ (λ l. if_cases P (nat_lt v.number w.log.held) _ _ (λ f. acts_alike w w n (halts (halt.Fenced w.log.held)) refl refl refl) (λ f. opened_alike w n x v opening)) (λ l. acts_alike w w n (nothing (entered v x)) refl refl refl))
      (λ g. alike_same w n)))

  pub checkpoint_alike : (w : World M) (n : ℕ) (good : Bool) → Alike w (happens w (Checkpoint n good)) n
  checkpoint_alike w n good = at_keeps (λ (u : World M). Alike w u n) w n (λ x. absorb n (checkpoint x w.log.held good) w) (alike_same w n) (λ x at. acts_alike w w n (checkpoint x w.log.held good) refl refl refl)

  pub deliver_alike : (w : World M) (k : ℕ) (p : Sent) (answer : Answer) → at_place w.pool k ≡ Some p → Alike w (happens w (Deliver k answer)) p.to
  deliver_alike w k p answer some =
      subst (λ (u : World M). Alike w u p.to) (sym (ap (λ (o : Option Sent). elim o [ None ↦ w | Some q ↦ deliver w q answer ]) some))
      (option_cases (λ (u : World M). Alike w u p.to) (w.nodes p.to) w (λ x. absorb p.to (receive x p w.log.held answer).out (logs (number_of x) (receive x p w.log.held answer) w)) (λ none. alike_same w p.to)
      (λ x at. acts_alike w (logs (number_of x) (receive x p w.log.held answer) w) p.to (receive x p w.log.held answer).out refl refl refl))

  -- ---- the point of an acknowledgement

  -- It is none of those that were there.
  pub record NewPoint (w u : World M) (n i place : ℕ) : Type 0 where
    pub index : ℕ
    pub point : Point M
    pub behind : length w.points ≤ index
    pub stands : slice_get u.points index ≡ Some point
    pub node : point.node ≡ n
    pub inc : point.inc ≡ i
    pub at : point.place ≡ place

  get_there : (xs : List (Point M)) (y : Point M) (ys : List (Point M)) → slice_get (xs ++ y ∷ ys) (length xs) ≡ Some y
  get_there [] y ys = refl
  get_there (x ∷ xs) y ys = get_there xs y ys

  pub acked_point : (w u : World M) (n i view place : ℕ) (rest : List (ℕ × ℕ)) (a : Alike w u n) → w.starts n ≡ i → a.told ≡ (view, place) ∷ rest → NewPoint w u n i place
  acked_point w u n i view place rest a inc is = record {
    index = length w.points;
    point = record { node = n; inc = w.starts n; place = place; req = a.req; outcome = a.outcome };
    behind = omega arith;
    stands = ap (λ (l : List (Point M)). slice_get l (length w.points)) (a.points ∙ ap (λ (told : List (ℕ × ℕ)). w.points ++ points_of n (w.starts n) a.req a.outcome told) is) ∙ get_there w.points _ _;
    node = refl;
    inc = inc;
    at = refl;
  }

  pub point_later : (es : List Event) (w u : World M) (n i place : ℕ) → NewPoint w u n i place → NewPoint w (run es u) n i place
  point_later es w u n i place p = record { index = p.index; point = p.point; behind = p.behind; stands = point_stays es u p.index p.point p.stands; node = p.node; inc = p.inc; at = p.at }
