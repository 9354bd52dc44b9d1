-- The registry as the deterministic machine that is replicated: its inputs are the records of the update order.
use Rattle.std.specs.Prelude.{ℕ, ◌<◌, ◌^◌, List, Option, Some, None, Result, Ok, Err}
use Rattle.update_records.specs.Entry.{Entry}
use Rattle.update_records.specs.Limits.{IsUpdate}
use Rattle.registry_defs.specs.declared.outcome.Outcome.{Outcome}
use Rattle.registry_defs.specs.Applying.{Applied, update_applied}
use Rattle.registry_defs.specs.Contents.{Contents, IsCap, keys_in}
use Rattle.registry_defs.specs.Keys.{Keys, root_alone}
use Rattle.registry_defs.specs.Nodes.{Node, keys_of}
use Rattle.registry_defs.specs.Spelling.{registry_text}
use Rattle.registry_defs.specs.StateFields.{Stop}
use Rattle.registry_defs.specs.StateGrammar.{state_of}
use Rattle.cluster_rules.specs.Machines.{Machine}

-- A registry: the size that it may have, and its keys in ascending order of their paths.
pub record ReplicatedRegistry : Type 0 where
  pub cap : ℕ
  pub keys : Keys

abbrev pub replicated : Contents → ReplicatedRegistry
replicated contents = record { cap = contents.cap; keys = keys_in contents }

abbrev pub empty_registry : ℕ → ReplicatedRegistry
empty_registry cap = record { cap = cap; keys = root_alone }

-- ---- what a record does

abbrev pub with_applied : ℕ → Applied → ReplicatedRegistry × Outcome
with_applied cap applied = (record { cap = cap; keys = applied.keys }, applied.outcome)

unfoldable pub record_applied : Entry → ReplicatedRegistry → ReplicatedRegistry × Outcome
record_applied e registry = with_applied registry.cap (update_applied registry.cap e.place e.stamp e.update registry.keys)

-- ---- its bytes

abbrev pub registry_below : ℕ → Result Node Stop → Option ReplicatedRegistry
registry_below cap (Ok root) = Some (record { cap = cap; keys = keys_of root })
registry_below cap (Err stop) = None

unfoldable pub registry_decoded : ℕ → List ℕ → Option ReplicatedRegistry
registry_decoded cap bytes = registry_below cap (state_of cap bytes)

-- ---- the machine

-- What a registry may be given: a valid update at a number of the order, with a stamp of 64 bits.
pub record IsFitting (e : Entry) : Type 0 where
  pub first : 0 < e.place
  pub last : e.place < 2 ^ 63
  pub stamp : e.stamp < 2 ^ 64
  pub update : IsUpdate e.update

abbrev pub registry_machine : Machine
registry_machine = record {
  Registry = ReplicatedRegistry;
  Outcome = Outcome;
  empty = empty_registry;
  cap = λ registry. registry.cap;
  apply = record_applied;
  encode = λ registry. registry_text registry.keys;
  decode = registry_decoded;
  IsCap = IsCap;
  Fits = IsFitting;
}
