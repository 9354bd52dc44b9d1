-- What is known where a record is logged, or applied in turn.
use Rattle.std.proofs.Common.{◌≡◌, ℕ, ◌+◌, ◌<◌, ◌^◌, true, Option, Some, None, refl, subst, sym, arith}
use Rattle.std.specs.Prelude.{IfSome}
use Rattle.gum_messages.specs.Members.{is_locker}
use Rattle.gum_core.specs.declared.decision.Decision.{Decision}
use Rattle.gum_core.specs.declared.decision.Decision.TheVariants as decision
use Rattle.gum_core.specs.Updating.{CoreState, applying, asked, last_place}
use Rattle.gum_core.specs.Updating as updating
use Rattle.gum_core.proofs.Cases.{applying_cases, asked_cases}
use Rattle.cluster_rules.specs.Nodes.{NodeState, Replica, done_of}
use Rattle.registry_machine.specs.Machine.{registry_machine}

-- What is known where an Ask has its update logged.
pub record Writing (c : CoreState) (from req done a b : ℕ) : Type 0 where
  pub opened : c.is_open ≡ true
  pub locks : updating.locks c ≡ true
  pub room : done < last_place
  pub sender : a ≡ from
  pub request : b ≡ req

pub writes_says : (c : CoreState) (from req done a b : ℕ) → asked c from req done ≡ decision.Write a b → Writing c from req done a b
writes_says c from req done a b is =
    asked_cases (λ d. d ≡ decision.Write a b → Writing c from req done a b) c from req done
    (λ e. absurd (cc))
    (λ opened locks free new room e. record { opened = opened; locks = locks; room = room; sender = (cc); request = (cc) })
    (λ opened locks l held node request e. absurd (cc))
    is

-- A record that is taken is the next one.
pub takes_next : (done place : ℕ) → applying done place ≡ decision.Take → place ≡ done + 1
takes_next done place is =
    applying_cases (λ d. d ≡ decision.Take → place ≡ done + 1) done place (λ next e. next) (λ old e. absurd (cc)) (λ early e. absurd (cc)) is

small : (n place : ℕ) → place ≡ n + 1 → place < 2 ^ 63 → n + 1 < 2 ^ 63
small n place e below = subst (λ (m : ℕ). m < 2 ^ 63) e below

room_in : (r : Option (Replica registry_machine)) (place : ℕ) → place ≡ (elim r [ None ↦ 0 | Some q ↦ q.done ]) + 1 → place < 2 ^ 63 → IfSome r (λ q. q.done + 1 < 2 ^ 63)
room_in None place e below = tt
room_in (Some q) place e below = small q.done place e below

pub room_to_apply : (x : NodeState registry_machine) (place : ℕ) → place ≡ done_of x + 1 → place < 2 ^ 63 → IfSome x.replica (λ q. q.done + 1 < 2 ^ 63)
room_to_apply x place e below = room_in x.replica place e below
