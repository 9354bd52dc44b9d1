-- What a node keeps without its log and its connections, by its parts, and what the parts have in common.
use Rattle.std.specs.Prelude.{◌≡◌, ℕ, false, true, IsTrue, List, [], Option, Some, None, IsSome, option_map}
use Rattle.update_records.specs.Entry.{Entry}
use Rattle.registry_defs.specs.declared.outcome.Outcome.{Outcome}
use Rattle.registry_defs.specs.Spelling.{registry_text}
use Rattle.gum_core.specs.Updating.{CoreState}
use Rattle.view_reconcile.specs.Joining.{ReconcileState}
use Rattle.view_reconcile.specs.Joining as joining
use Rattle.cluster_rules.specs.declared.offering.Offering.{Offering}
use Rattle.cluster_rules.specs.Nodes.{NodeState, Replica}
use Rattle.registry_machine.specs.Machine.{registry_machine}

-- What was offered to a node that pulls, and the bytes that it has of the locker's state.
pub record PulledState : Type 0 where
  pub offer : Offering
  pub bytes : List ℕ

abbrev pub offer_in : Option PulledState → Option Offering
offer_in pulled = option_map (λ p. p.offer) pulled

abbrev pub bytes_in : Option PulledState → List ℕ
bytes_in pulled = elim pulled [ None ↦ [] | Some p ↦ p.bytes ]

abbrev pub state_of : ℕ → CoreState → ReconcileState → Option (Replica registry_machine) → Option Entry → Option PulledState → Option Entry → Option ℕ → Option Outcome → NodeState registry_machine
state_of stamp core join replica last pulled spreads settled outcome = record {
  stamp = stamp;
  core = core;
  join = join;
  replica = replica;
  last = last;
  offer = offer_in pulled;
  bytes = bytes_in pulled;
  spreads = spreads;
  settled = settled;
  outcome = outcome;
}

-- ---- what every node keeps

-- The node and its incarnation are those of its way into the view.
abbrev pub IsOf : ℕ → ℕ → ReconcileState → Type 0
IsOf node inc join = (node ≡ join.node) × (inc ≡ join.inc)

-- Global Update and the way into the view agree on the node, its view, and whether that is open.
pub record Agree (core : CoreState) (join : ReconcileState) : Type 0 where
  pub node : core.node ≡ join.node
  pub members : core.members ≡ join.view.members
  pub opened : core.is_open ≡ joining.is_open join

pub record IsStanding (join : ReconcileState) (replica : Option (Replica registry_machine)) (offer : Option Offering) : Type 0 where
  -- A node that is ready has a registry, and so has a locker.
  pub ready : IsTrue (joining.is_ready join) → IsSome replica
  pub keeps : IsTrue (joining.locks join) → IsSome replica
  -- One that pulls has an offer, and isn't the locker.
  pub pulls : IsSome (joining.pulled_bytes join) → IsSome offer
  pub follows : IsSome (joining.pulled_bytes join) → joining.locks join ≡ false

-- The bytes that are kept are those of the registry.
abbrev pub IsEncoding : Option (List ℕ) → Option (Replica registry_machine) → Type 0
IsEncoding None replica = Unit {0}
IsEncoding (Some bytes) None = ⊥
IsEncoding (Some bytes) (Some r) = bytes ≡ registry_text r.registry.keys

unfoldable pub AreKept : ℕ → ℕ → CoreState → ReconcileState → Option (Replica registry_machine) → Option Offering → Option (List ℕ) → Type 0
AreKept node inc core join replica offer encoded = IsOf node inc join × Agree core join × IsStanding join replica offer × IsEncoding encoded replica

-- All of that, which each call rebuilds.
pub record IsWhole (node inc : ℕ) (core : CoreState) (join : ReconcileState) (replica : Option (Replica registry_machine)) (offer : Option Offering) (encoded : Option (List ℕ)) : Type 0 where
  pub parts : AreKept node inc core join replica offer encoded

-- ---- what an event leaves as it is

-- The same way into the view, the same registry and the same last record.
pub record IsBeside (x y : NodeState registry_machine) : Type 0 where
  pub join : y.join ≡ x.join
  pub replica : y.replica ≡ x.replica
  pub last : y.last ≡ x.last

-- The same registry behind the same last record, at a locker of the same view that was ready before.
pub record IsSameLocker (x y : NodeState registry_machine) : Type 0 where
  pub ready : joining.is_ready x.join ≡ true
  pub locks : joining.locks x.join ≡ true
  pub number : y.join.view.number ≡ x.join.view.number
  pub replica : y.replica ≡ x.replica
  pub last : y.last ≡ x.last

-- Where the node is a locker that is ready, it was one before, with nothing more in its log.
pub record AddsNothing (x y : NodeState registry_machine) : Type 0 where
  pub stays : IsTrue (joining.is_ready y.join) → IsTrue (joining.locks y.join) → IsSameLocker x y
