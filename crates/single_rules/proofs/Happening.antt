-- The events of a round in a world of the protocol, one after the other.
use Rattle.std.proofs.Common.{◌≡◌, ℕ, zero, suc, ◌+◌, ◌<◌, Bool, false, List, [], ◌∷◌, ◌++◌, length, Option, Some, None, nat_eq, slice_get, refl, sym, ap, ◌∙◌, subst, arith, if◌then◌else◌}
use Rattle.std.proofs.lemmas.List.{append-nil, append_assoc, length-append}
use Rattle.update_records.specs.declared.update.Update.{Update}
use Rattle.update_records.specs.Limits.{IsUpdate}
use Rattle.gum_messages.specs.Messages.{Sent}
use Rattle.gum_messages.specs.Places.{at_place}
use Rattle.gum_core.specs.Updating.{last_place, last_request}
use Rattle.cluster_rules.specs.Machines.{Machine}
use Rattle.cluster_rules.specs.declared.effect.Effect.TheVariants.{Acked, Send}
use Rattle.cluster_rules.specs.Nodes.{NodeState, Out, acknowledges, becomes, nothing, number_of}
use Rattle.cluster_rules.specs.Updates.{Logged, Written, submit, unlogged}
use Rattle.cluster_rules.specs.Receiving.{receive}
use Rattle.cluster_rules.specs.Worlds.{Deliver, Point, Submit, World, absorb, deliver, happens, head_of, logs, noted, points_of, put, run}
use Rattle.single_rules.specs.Single.{IsSound, Single, ask, asking, at_rest, grant, granting, made, outcome_of, release, releasing, updated}
use Rattle.single_rules.specs.Rounds.{HasRoom}
use Rattle.single_rules.specs.InWorlds.{RestsIn, RoundOf, answer_in, round_events}
use Rattle.single_rules.proofs.Comparisons.{less, same}
use Rattle.single_rules.proofs.Events.{finishes_one, frees_one, grants_one, submits_one}

get_end : {A : Type 0} (l : List A) (y : A) → slice_get (l ++ y ∷ []) (length l) ≡ Some y
get_end [] y = refl
get_end (x ∷ l) y = get_end l y

-- A message that was just sent is the last of the pool.
at_end : {A : Type 0} (l : List A) (y : A) (k : ℕ) → k ≡ length l + 1 → at_place (l ++ y ∷ []) k ≡ Some y
at_end l y zero e = absurd (omega (arith, e))
at_end {A} l y (suc k) e = let n : length l ≡ k = omega (arith, e) in subst (λ (j : ℕ). slice_get (l ++ y ∷ []) j ≡ Some y) n (get_end l y)

put_same : {A : Type 0} (f : ℕ → A) (n : ℕ) (v : A) → put f n v n ≡ v
put_same f n v = simp (same)

module _ {M : Machine} where
  submit_happens : (w : World M) (n : ℕ) (u : Update) (valid : IsUpdate u) (x : NodeState M) (o : Out M) (v : World M)
      → w.nodes n ≡ Some x → submit x u ≡ o → noted n x u w ≡ v → happens w (Submit n u valid) ≡ absorb n o v
  submit_happens w n u valid x o v at s e =
      ap (λ (t : Option (NodeState M)). elim t [ None ↦ w | Some y ↦ absorb n (submit y u) (noted n y u w) ]) at
      ∙ ap (λ (t : Out M). absorb n t (noted n x u w)) s
      ∙ ap (absorb n o) e

  delivery_happens : (w : World M) (k : ℕ) (p : Sent) (x : NodeState M) (d : Logged M) → at_place w.pool k ≡ Some p → w.nodes p.to ≡ Some x → receive x p w.log.held Written ≡ d
      → happens w (Deliver k Written) ≡ absorb p.to d.out (logs (number_of x) d w)
  delivery_happens w k p x d message at e =
      ap (λ (t : Option Sent). elim t [ None ↦ w | Some q ↦ deliver w q Written ]) message
      ∙ ap (λ (t : Option (NodeState M)). elim t [ None ↦ w | Some y ↦ absorb p.to (receive y p w.log.held Written).out (logs (number_of y) (receive y p w.log.held Written) w) ]) at
      ∙ ap (λ (t : Logged M). absorb p.to t.out (logs (number_of x) t w)) e

  module _ (a : Single M) (u : Update) (w : World M) where
    abbrev asked_out : Out M
    asked_out = becomes (asking a u) (Send (ask a u) ∷ [])

    abbrev granted : Logged M
    granted = record { out = becomes (granting a u) (Send (grant a u) ∷ []); appended = Some (made a u); doubtful = None }

    abbrev finished : Logged M
    finished = unlogged (acknowledges (releasing a u) (Some (outcome_of a u)) (Acked a.view (a.done + 1) ∷ Send (release a) ∷ []))

    abbrev freed : Logged M
    freed = unlogged (nothing (at_rest (updated a u)))

    -- the worlds behind the submit, the Ask, the Granted and the Release
    abbrev noting : World M
    noting = record w { requests = put w.requests a.node (put (w.requests a.node) a.inc (w.requests a.node a.inc ++ u ∷ [])) }

    abbrev after_submit : World M
    after_submit = absorb a.node asked_out noting

    abbrev after_ask : World M
    after_ask = absorb a.node granted.out (logs a.view granted after_submit)

    abbrev after_granted : World M
    after_granted = absorb a.node finished.out (logs a.view finished after_ask)

    abbrev after_release : World M
    after_release = absorb a.node freed.out (logs a.view freed after_granted)

    notes : a.passed < last_request → noted a.node (at_rest a) u w ≡ noting
    notes room = let l = less (a.passed + 0) last_request (omega arith) in ap (λ (b : Bool). if b then noting else w) l

    submit_step : (valid : IsUpdate u) → RestsIn a w → a.passed < last_request → happens w (Submit a.node u valid) ≡ after_submit
    submit_step valid rests room = submit_happens w a.node u valid (at_rest a) asked_out noting rests.node (submits_one a u room) (notes room)

    ask_step : RestsIn a w → IsSound a → a.done < last_place → happens after_submit (Deliver (length w.pool + 1) Written) ≡ after_ask
    ask_step rests s room =
        delivery_happens after_submit (length w.pool + 1) (ask a u) (asking a u) granted
        (at_end w.pool (ask a u) (length w.pool + 1) refl)
        (put_same w.nodes a.node (Some (asking a u)))
        (grants_one a u w.log.held s room rests.held)

    granted_step : IsSound a → happens after_ask (Deliver (length w.pool + 2) Written) ≡ after_granted
    granted_step s =
        delivery_happens after_ask (length w.pool + 2) (grant a u) (granting a u) finished
        (at_end (w.pool ++ ask a u ∷ []) (grant a u) (length w.pool + 2) (let n = length-append w.pool (ask a u ∷ []) in omega (arith, n)))
        (put_same after_submit.nodes a.node (Some (granting a u)))
        (finishes_one a u w.log.held Written s)

    release_step : IsSound a → happens after_granted (Deliver (length w.pool + 3) Written) ≡ after_release
    release_step s =
        delivery_happens after_granted (length w.pool + 3) (release a) (releasing a u) freed
        (at_end ((w.pool ++ ask a u ∷ []) ++ grant a u ∷ []) (release a) (length w.pool + 3)
        (let n = length-append w.pool (ask a u ∷ []) in let m = length-append (w.pool ++ ask a u ∷ []) (grant a u ∷ []) in omega (arith, n, m)))
        (put_same after_ask.nodes a.node (Some (releasing a u)))
        (frees_one a u w.log.held Written s)

    runs : (valid : IsUpdate u) → RestsIn a w → IsSound a → HasRoom a 1 → run (round_events a.node (length w.pool) u valid) w ≡ after_release
    runs valid rests s room =
        let r : a.passed < last_request = let k = room.requests in omega arith in
        let p : a.done < last_place = let k = room.places in omega arith in
        ap (λ (v : World M). happens (happens (happens v (Deliver (length w.pool + 1) Written)) (Deliver (length w.pool + 2) Written)) (Deliver (length w.pool + 3) Written)) (submit_step valid rests r)
        ∙ ap (λ (v : World M). happens (happens v (Deliver (length w.pool + 2) Written)) (Deliver (length w.pool + 3) Written)) (ask_step rests s p)
        ∙ ap (λ (v : World M). happens v (Deliver (length w.pool + 3) Written)) (granted_step s)
        ∙ release_step s

    -- who answers is the head that the node has behind its Ask
    answers : points_of a.node (w.starts a.node) (head_of (after_ask.nodes a.node)) (Some (outcome_of a u)) ((a.view, a.done + 1) ∷ []) ≡ answer_in w a u ∷ []
    answers = ap (λ (t : Option (NodeState M)). points_of a.node (w.starts a.node) (head_of t) (Some (outcome_of a u)) ((a.view, a.done + 1) ∷ [])) (put_same after_submit.nodes a.node (Some (granting a u)))

    others_stay : (n : ℕ) → nat_eq n a.node ≡ false → after_release.nodes n ≡ w.nodes n
    others_stay n other = simp other

    leaves : RestsIn a w → RoundOf a u w after_release
    leaves rests = record {
      rests = record { node = put_same after_granted.nodes a.node (Some (at_rest (updated a u))); held = rests.held };
      others = others_stay;
      order = refl;
      acks = append-nil (((w.acks ++ []) ++ []) ++ (a.view, a.done + 1) ∷ []) ∙ ap (λ (l : List (ℕ × ℕ)). l ++ (a.view, a.done + 1) ∷ []) (append-nil (w.acks ++ []) ∙ append-nil w.acks);
      points = append-nil (((w.points ++ []) ++ []) ++ points_of a.node (w.starts a.node) (head_of (after_ask.nodes a.node)) (Some (outcome_of a u)) ((a.view, a.done + 1) ∷ []))
          ∙ ap (λ (l : List (Point M)). l ++ points_of a.node (w.starts a.node) (head_of (after_ask.nodes a.node)) (Some (outcome_of a u)) ((a.view, a.done + 1) ∷ [])) (append-nil (w.points ++ []) ∙ append-nil w.points)
          ∙ ap (λ (l : List (Point M)). w.points ++ l) answers;
      pool = append-nil (((w.pool ++ ask a u ∷ []) ++ grant a u ∷ []) ++ release a ∷ [])
          ∙ append_assoc (w.pool ++ ask a u ∷ []) (grant a u ∷ []) (release a ∷ [])
          ∙ append_assoc w.pool (ask a u ∷ []) (grant a u ∷ release a ∷ []);
    }

    pub happens_in_worlds : (valid : IsUpdate u) → RestsIn a w → IsSound a → HasRoom a 1 → RoundOf a u w (run (round_events a.node (length w.pool) u valid) w)
    happens_in_worlds valid rests s room = subst (RoundOf a u w) (sym (runs valid rests s room)) (leaves rests)
