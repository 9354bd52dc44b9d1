-- A state that is whole is what the machine decodes.
use Rattle.std.proofs.Common.{◌≡◌, ℕ, List, Option, Some, None, sym, subst}
use Rattle.registry_defs.specs.Contents.{Contents}
use Rattle.registry_states.specs.declared.fault.StateFault.TheVariants.{Bad}
use Rattle.gum_messages.specs.Messages.{IsOffered}
use Rattle.clus_registry.specs.States.{FailsOn, IsReadFrom}
use Rattle.registry_machine.specs.Machine.{ReplicatedRegistry, registry_decoded, replicated}
use Rattle.registry_machine.proofs.Calls.{fails_as_machine, reads_as_machine}

abbrev no_registry : Option ReplicatedRegistry
no_registry = None

pub found_is : (count cap built : ℕ) (bytes : List ℕ) (registry : Contents) → IsOffered count cap → built ≡ cap → IsReadFrom built bytes registry
    → Some (replicated registry) ≡ registry_decoded cap bytes
found_is count cap built bytes registry offered same read =
    sym (reads_as_machine cap bytes registry (offered.least_cap, offered.most_cap) (subst (λ (n : ℕ). IsReadFrom n bytes registry) same read))

pub fails_is : (cap built : ℕ) (bytes : List ℕ) (place : ℕ) → built ≡ cap → FailsOn built bytes (Bad place) → no_registry ≡ registry_decoded cap bytes
fails_is cap built bytes place same fails =
    sym (fails_as_machine cap bytes place (subst (λ (n : ℕ). FailsOn n bytes (Bad place)) same fails))
