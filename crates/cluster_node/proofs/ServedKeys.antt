-- The keys of the registry that a node has.
use Rattle.std.proofs.Common.{◌≡◌, Option, Some, None, refl, ap}
use Rattle.std.specs.Prelude.{option_map}
use Rattle.registry_defs.specs.Contents.{Contents, keys_in}
use Rattle.registry_defs.specs.Keys.{Keys}
use Rattle.cluster_rules.specs.Nodes.{Replica}
use Rattle.registry_machine.specs.Machine.{ReplicatedRegistry, registry_machine, replicated}

abbrev keys_given : Option ReplicatedRegistry → Option Keys
keys_given given = option_map (λ r. r.keys) given

pub keys_known : {A : Type 0} (f : A → Contents) (given : Option A) (replica : Option (Replica registry_machine))
    → option_map (λ a. replicated (f a)) given ≡ option_map (λ r. r.registry) replica
    → option_map (λ a. keys_in (f a)) given ≡ option_map (λ r. r.registry.keys) replica
keys_known f None None same = refl
keys_known f None (Some r) same = absurd (cc)
keys_known f (Some a) None same = absurd (cc)
keys_known f (Some a) (Some r) same = ap keys_given same
