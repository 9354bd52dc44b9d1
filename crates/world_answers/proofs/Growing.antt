-- What an order explains, every longer one explains.
use Rattle.std.proofs.Common.{◌≡◌, ℕ, zero, suc, ◌+◌, ◌-◌, ◌≤◌, List, ◌++◌, length, Some, None, if◌then◌else◌, sym, ◌∙◌, subst, arith}
use Rattle.std.proofs.lemmas.List.{take-append-le}
use Rattle.gum_messages.specs.Places.{at_place}
use Rattle.gum_messages.proofs.Placing.{place_within}
use Rattle.update_records.specs.Entry.{Entry}
use Rattle.cluster_rules.specs.Machines.{outcome_at, replay}
use Rattle.cluster_laws.proofs.Moves.{slice_get_front}
use Rattle.registry_machine.specs.Machine.{registry_machine}
use Rattle.client_connections.specs.Finishing.{finished}
use Rattle.client_connections.specs.Taking.{Serving, serving}
use Rattle.cluster_node.specs.Explained.{Answered, Batches, Brings, Connects, Finishes, HangsUp, Heard, Incarnation, Input, IsStepBy, Other, ResumedAt, Step, Stops, acknowledged, serving_at}

pub place_longer : {A : Type 0} (xs ys : List A) (k : ℕ) (x : A) → at_place xs k ≡ Some x → at_place (xs ++ ys) k ≡ Some x
place_longer xs ys zero x e = absurd (cc)
place_longer xs ys (suc k) x e = slice_get_front xs ys k x e

module _ (cap : ℕ) (order rest : List Entry) where
  serving_same : (t : Step) → t.done ≤ length order → serving_at cap order t ≡ serving_at cap (order ++ rest) t
  serving_same t le = λ i. serving (if t.is_open then Some (replay registry_machine (sym (take-append-le t.done order rest le) i) (registry_machine.empty cap)).keys else None) t.done

  outcome_same : (k : ℕ) (e : Entry) → k ≤ length order → outcome_at registry_machine cap order k e ≡ outcome_at registry_machine cap (order ++ rest) k e
  outcome_same k e le = λ i. (registry_machine.apply e (replay registry_machine (sym (take-append-le k order rest le) i) (registry_machine.empty cap))).1

  answered_longer : (node inc : ℕ) (t : Step) (view place : ℕ) (s u : Incarnation) → t.done ≤ length order → Answered cap order node inc t view place s u → Answered cap (order ++ rest) node inc t view place s u
  answered_longer node inc t view place s u le h =
      let within : place ≤ length order = (place_within order place h.entry h.stands).1 in
      record {
        entry = h.entry;
        stands = place_longer order rest place h.entry h.stands;
        id = h.id;
        update = h.update;
        end = h.end;
        finishes = h.finishes ∙ (λ i. finished s.clients.common.waiting (s.passed + 1) place (Some (outcome_same (place - 1) h.entry (omega (arith, within)) i)) s.clients);
        more = h.more;
        told = h.told;
        continues = subst (λ (v : Serving). ResumedAt h.end.resumes v h.more (acknowledged s h.end.clients) u) (serving_same t le) h.continues;
      }

  pub step_longer : (input : Input) (node inc : ℕ) (t : Step) (s u : Incarnation) → t.done ≤ length order → IsStepBy input cap order node inc t s u → IsStepBy input cap (order ++ rest) node inc t s u
  step_longer (Connects conn) node inc t s u le h = h
  step_longer (Brings conn piece) node inc t s u le h = subst (λ (v : Serving). Heard v conn piece t.told s u) (serving_same t le) h
  step_longer (HangsUp conn) node inc t s u le h = h
  step_longer (Finishes view place) node inc t s u le h = answered_longer node inc t view place s u le h
  step_longer (Batches update) node inc t s u le h = h
  step_longer Stops node inc t s u le h = h
  step_longer Other node inc t s u le h = h
