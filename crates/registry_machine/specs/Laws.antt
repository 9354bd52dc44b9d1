-- What holds of the registry as a machine, and how the code's calls are tied to it.
use Rattle.std.specs.Prelude.{◌≡◌, ℕ, ◌≤◌, List, Some, None}
use Rattle.std.specs.List.{AllByRecursion}
use Rattle.wire_fields.specs.Numbers.{IsBytes}
use Rattle.gum_messages.specs.Places.{at_place}
use Rattle.update_records.specs.Entry.{Entry}
use Rattle.registry_defs.specs.declared.outcome.Outcome.{Outcome}
use Rattle.registry_defs.specs.Applying.{update_applied, registry_after}
use Rattle.registry_defs.specs.Contents.{Contents, IsCap, keys_in}
use Rattle.registry_defs.specs.Keys.{Keys, root_alone}
use Rattle.registry_defs.specs.Limits.{IsRegistry}
use Rattle.registry_defs.specs.Sizes.{size}
use Rattle.registry_defs.specs.Spelling.{registry_text}
use Rattle.registry_states.specs.declared.fault.StateFault.TheVariants.{Bad}
use Rattle.clus_registry.specs.Outcomes.{IsApplied}
use Rattle.clus_registry.specs.States.{IsReadFrom, FailsOn}
use Rattle.cluster_rules.specs.Machines.{registry_at, outcome_at}
use Rattle.registry_machine.specs.Machine.{IsFitting, registry_machine, replicated}

-- The keys obey all limits, and their encoding has no more bytes than the cap.
pub record IsWithin (cap : ℕ) (keys : Keys) : Type 0 where
  pub limits : IsRegistry keys
  pub fits : size keys ≤ cap

-- Behind fitting records a registry is one within its cap, so a state of at most as many bytes encodes it.
abbrev pub OrderKeeps : Type 0
OrderKeeps =
    (cap : ℕ) (order : List Entry) (count : ℕ) → IsCap cap → AllByRecursion IsFitting order
    → IsWithin cap (registry_at registry_machine cap order count).keys

-- Its encoding is bytes.
abbrev pub EncodingIsBytes : Type 0
EncodingIsBytes =
    (cap : ℕ) (order : List Entry) (count : ℕ) → IsCap cap → AllByRecursion IsFitting order
    → IsBytes (registry_machine.encode (registry_at registry_machine cap order count))

-- The registry behind records that stand at their places is the one of the definitions, which count the places.
abbrev pub ReplayIsFold : Type 0
ReplayIsFold =
    (cap : ℕ) (order : List Entry) (count : ℕ) → ((place : ℕ) (e : Entry) → at_place order place ≡ Some e → e.place ≡ place)
    → registry_at registry_machine cap order count ≡ record { cap = cap; keys = registry_after cap order count }

-- What comes of a record behind the first ones is what its update comes to by the definitions.
abbrev pub OutcomeIsOfFold : Type 0
OutcomeIsOfFold =
    (cap : ℕ) (order : List Entry) (count : ℕ) (e : Entry) → ((place : ℕ) (d : Entry) → at_place order place ≡ Some d → d.place ≡ place)
    → outcome_at registry_machine cap order count e ≡ (update_applied cap e.place e.stamp e.update (registry_after cap order count)).outcome

-- ---- the code's calls

-- The registry that `new` makes is the one before the first record.
abbrev pub BeginsAsMachine : Type 0
BeginsAsMachine =
    (cap : ℕ) (registry : Contents)
    → registry.cap ≡ cap → keys_in registry ≡ root_alone → replicated registry ≡ registry_machine.empty cap

-- What `apply` of a registry says of its outcome and of the registry afterwards is what the machine makes.
abbrev pub AppliesAsMachine : Type 0
AppliesAsMachine =
    (before now : Contents) (e : Entry) (outcome : Outcome)
    → IsApplied outcome before now (update_applied before.cap e.place e.stamp e.update (keys_in before))
    → registry_machine.apply e (replicated before) ≡ (replicated now, outcome)

-- The bytes that `to_bytes` makes are those of the machine.
abbrev pub EncodesAsMachine : Type 0
EncodesAsMachine =
    (registry : Contents) (bytes : List ℕ)
    → bytes ≡ registry_text (keys_in registry) → bytes ≡ registry_machine.encode (replicated registry)

-- The registry that is read from bytes is the one that the machine decodes.
abbrev pub ReadsAsMachine : Type 0
ReadsAsMachine =
    (cap : ℕ) (bytes : List ℕ) (registry : Contents)
    → IsCap cap → IsReadFrom cap bytes registry → registry_machine.decode cap bytes ≡ Some (replicated registry)

-- Where a field is told at fault the machine decodes nothing.
abbrev pub FailsAsMachine : Type 0
FailsAsMachine =
    (cap : ℕ) (bytes : List ℕ) (place : ℕ)
    → FailsOn cap bytes (Bad place) → registry_machine.decode cap bytes ≡ None
