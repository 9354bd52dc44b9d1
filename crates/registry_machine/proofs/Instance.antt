-- The registry is a machine as the protocol asks for.
use Rattle.std.proofs.Common.{◌≡◌, ℕ, ◌≤◌, List, Some, refl, sym, ap, ◌∙◌, arith}
use Rattle.std.specs.List.{AllByRecursion}
use Rattle.update_records.specs.Entry.{Entry}
use Rattle.registry_defs.specs.Contents.{IsCap}
use Rattle.registry_defs.specs.Keys.{Keys}
use Rattle.registry_defs.specs.Spelling.{registry_text}
use Rattle.registry_states.proofs.OnlyNodes.{spelled_is_read}
use Rattle.cluster_rules.specs.Machines.{IsMachine, replay}
use Rattle.registry_machine.specs.Machine.{ReplicatedRegistry, IsFitting, record_applied, registry_below, registry_decoded, empty_registry, registry_machine}
use Rattle.registry_machine.specs.Laws.{IsWithin}
use Rattle.registry_machine.proofs.Orders.{IsKept, replay_keeps, empty_kept}

pub encoded_is_decoded : (cap : ℕ) (keys : Keys) → cap ≤ 16777216 → IsWithin cap keys → registry_decoded cap (registry_text keys) ≡ Some (record { cap = cap; keys = keys })
unfolding registry_decoded
encoded_is_decoded cap keys most is =
    let read = spelled_is_read cap keys most is.limits is.fits in
    ap (registry_below cap) read.2 ∙ ap (λ (k : Keys). Some (record { cap = cap; keys = k })) read.1

kept_decodes : (cap : ℕ) (registry : ReplicatedRegistry) → cap ≤ 16777216 → IsKept cap registry → registry_decoded cap (registry_text registry.keys) ≡ Some registry
kept_decodes cap registry most is =
    encoded_is_decoded cap registry.keys most is.within ∙ ap (λ n. Some (record { cap = n; keys = registry.keys })) (sym is.same)

pub registry_reads_back : (cap : ℕ) (order : List Entry) → IsCap cap → AllByRecursion IsFitting order
    → registry_decoded cap (registry_text (replay registry_machine order (empty_registry cap)).keys) ≡ Some (replay registry_machine order (empty_registry cap))
registry_reads_back cap order is fits = kept_decodes cap (replay registry_machine order (empty_registry cap)) is.1 (replay_keeps cap order (empty_registry cap) fits (empty_kept cap is))

same_cap : (e : Entry) (registry : ReplicatedRegistry) → (record_applied e registry).0.cap ≡ registry.cap
unfolding record_applied
same_cap e registry = refl

pub is_machine : IsMachine registry_machine
is_machine = record {
  begins = λ cap. refl;
  keeps = same_cap;
  reads_back = registry_reads_back;
  fits = λ e first last stamp update. record { first = first; last = omega (arith, last); stamp = stamp; update = update };
}
