-- Records applied one after the other.
use Rattle.std.proofs.Common.{◌≡◌, ℕ, ◌+◌, ◌<◌, List, ◌∷◌, length, drop, get_or, sym, ap, ◌∙◌}
use Rattle.std.proofs.lemmas.List.{drop_more}
use Rattle.update_records.specs.Entry.{Entry}
use Rattle.registry_defs.specs.declared.outcome.Outcome.{Outcome}
use Rattle.registry_defs.specs.Applying.{update_applied}
use Rattle.registry_defs.specs.Contents.{Contents, keys_in}
use Rattle.clus_registry.specs.Outcomes.{IsApplied}
use Rattle.cluster_rules.specs.Machines.{replay}
use Rattle.registry_machine.specs.Machine.{ReplicatedRegistry, registry_machine, replicated}
use Rattle.registry_machine.proofs.Calls.{applies_as_machine}

-- The next of the records was applied.
pub replayed_more : (es : List Entry) (i : ℕ) (item e : Entry) (before now : Contents) (outcome : Outcome) → i < length es → item ≡ get_or es i item → item ≡ e
    → IsApplied outcome before now (update_applied before.cap e.place e.stamp e.update (keys_in before))
    → replay registry_machine (drop (i + 1) es) (replicated now) ≡ replay registry_machine (drop i es) (replicated before)
replayed_more es i item e before now outcome within is same applied =
    let split : drop i es ≡ e ∷ drop (i + 1) es = drop_more es i item within ∙ ap (λ (x : Entry). x ∷ drop (i + 1) es) (sym is ∙ same) in
    let made : registry_machine.apply e (replicated before) ≡ (replicated now, outcome) = applies_as_machine before now e outcome applied in
    sym (ap (λ (l : List Entry). replay registry_machine l (replicated before)) split ∙ ap (λ (p : ReplicatedRegistry × Outcome). replay registry_machine (drop (i + 1) es) p.0) made)
