-- What is replicated: the registry as a deterministic state machine, whose inputs are the records of the update order.
use Rattle.std.specs.Prelude.{◌≡◌, ℕ, ◌<◌, ◌≤◌, ◌^◌, List, [], ◌∷◌, Option, Some, take}
use Rattle.std.specs.List.{AllByRecursion}
use Rattle.update_records.specs.Grammar.{last_place}
use Rattle.update_records.specs.Entry.{Entry}
use Rattle.update_records.specs.Limits.{IsUpdate}

pub record Machine : Type 1 where
  pub Registry : Type 0
  -- What comes of a record for the one who asked for it.
  pub Outcome : Type 0
  -- The registry before the first record, in a log of this capacity.
  pub empty : ℕ → Registry
  pub cap : Registry → ℕ
  pub apply : Entry → Registry → Registry × Outcome
  -- The bytes of a registry, and the registry that bytes spell at a capacity.
  pub encode : Registry → List ℕ
  pub decode : ℕ → List ℕ → Option Registry
  -- The capacities that a log may have, and the records that it may hold.
  pub IsCap : ℕ → Type 0
  pub Fits : Entry → Type 0

-- A registry after more records.
abbrev pub replay : (M : Machine) → List Entry → M.Registry → M.Registry
replay M [] registry = registry
replay M (e ∷ es) registry = replay M es (M.apply e registry).0

-- The registry after the first records of an order.
abbrev pub registry_at : (M : Machine) → ℕ → List Entry → ℕ → M.Registry
registry_at M cap order count = replay M (take count order) (M.empty cap)

-- What comes of the record behind the first ones.
abbrev pub outcome_at : (M : Machine) → ℕ → List Entry → ℕ → Entry → M.Outcome
outcome_at M cap order count e = (M.apply e (registry_at M cap order count)).1

-- A registry keeps the capacity that it began with, and reads back from its bytes where each of its records fits. A
-- record of a valid update at a number of the order, with a stamp of 64 bits, fits.
pub record IsMachine (M : Machine) : Type 0 where
  pub begins : (cap : ℕ) → M.cap (M.empty cap) ≡ cap
  pub keeps : (e : Entry) (registry : M.Registry) → M.cap (M.apply e registry).0 ≡ M.cap registry
  pub reads_back : (cap : ℕ) (order : List Entry) → M.IsCap cap → AllByRecursion M.Fits order
      → M.decode cap (M.encode (replay M order (M.empty cap))) ≡ Some (replay M order (M.empty cap))
  pub fits : (e : Entry) → 0 < e.place → e.place ≤ last_place → e.stamp < 2 ^ 64 → IsUpdate e.update → M.Fits e
