-- What a node sends again at a tick.
use Rattle.std.proofs.Common.{◌≡◌, ℕ, List, [], ◌++◌, Option, None, Some, refl, sym, ap, append_assoc}
use Rattle.gum_core.specs.declared.lock.Lock.{Lock}
use Rattle.gum_core.specs.Updating.{holder}
use Rattle.cluster_rules.specs.declared.effect.Effect.{Effect}
use Rattle.cluster_rules.specs.Nodes.{NodeState}
use Rattle.cluster_rules.specs.Updates.{tick_lock}
use Rattle.registry_machine.specs.Machine.{registry_machine}
use Rattle.member_rules.specs.Ticking.{grants_again}

pub in_turn : (head lock join : List Effect) → (head ++ lock) ++ join ≡ head ++ (lock ++ join)
in_turn head lock join = append_assoc head lock join

abbrev no_holder : Option (ℕ × ℕ × ℕ)
no_holder = None

abbrev held_by : ℕ → ℕ → ℕ → Option (ℕ × ℕ × ℕ)
held_by node req place = Some (node, req, place)

abbrev holder_of : Option Lock → Option (ℕ × ℕ × ℕ)
holder_of lock = elim lock [ None ↦ None | Some l ↦ Some (l.node, l.req, l.place) ]

abbrev holder_in : Option (ℕ × ℕ × ℕ) → ℕ
holder_in held = elim held [ None ↦ 0 | Some h ↦ h.0 ]

abbrev grants_by : NodeState registry_machine → Option Lock → List Effect
grants_by x lock = elim lock [ None ↦ [] | Some l ↦ grants_again x l.node ]

free_by : (x : NodeState registry_machine) (lock : Option Lock) → no_holder ≡ holder_of lock → grants_by x lock ≡ []
free_by x None e = refl
free_by x (Some l) e = absurd (cc)

held_with : (x : NodeState registry_machine) (lock : Option Lock) (node req place : ℕ) → held_by node req place ≡ holder_of lock
    → grants_by x lock ≡ grants_again x node
held_with x None node req place e = absurd (cc)
held_with x (Some l) node req place e = ap (λ n. grants_again x n) (sym (ap holder_in e))

pub free_is : (x : NodeState registry_machine) → no_holder ≡ holder x.core → tick_lock x ≡ []
free_is x e = free_by x x.core.lock e

pub held_is : (x : NodeState registry_machine) (node req place : ℕ) → held_by node req place ≡ holder x.core → tick_lock x ≡ grants_again x node
held_is x node req place e = held_with x x.core.lock node req place e
