-- Behind an order of fitting records a registry is one within its cap.
use Rattle.std.proofs.Common.{◌≡◌, ℕ, zero, suc, List, [], ◌∷◌, take, refl, sym, subst, arith}
use Rattle.std.specs.List.{AllByRecursion}
use Rattle.update_records.specs.Entry.{Entry}
use Rattle.registry_defs.specs.Contents.{IsCap}
use Rattle.registry_defs.specs.Keys.{root_alone}
use Rattle.registry_defs.specs.Sizes.{size}
use Rattle.registry_defs.proofs.Held.{root_registry}
use Rattle.cluster_rules.specs.Machines.{replay}
use Rattle.registry_machine.specs.Machine.{ReplicatedRegistry, IsFitting, record_applied, empty_registry, registry_machine}
use Rattle.registry_machine.specs.Laws.{IsWithin, OrderKeeps}
use Rattle.registry_machine.proofs.Changes.{update_keeps}

-- A registry that is within its cap, which is still the one that it began with.
pub record IsKept (cap : ℕ) (registry : ReplicatedRegistry) : Type 0 where
  pub same : registry.cap ≡ cap
  pub within : IsWithin cap registry.keys

record_keeps : (cap : ℕ) (e : Entry) (registry : ReplicatedRegistry) → IsFitting e → IsKept cap registry → IsKept cap (record_applied e registry).0
unfolding record_applied
record_keeps cap e registry fits is =
    let within = subst (λ n. IsWithin n registry.keys) (sym is.same) is.within in
    record {
      same = is.same;
      within = subst (λ n. IsWithin n (record_applied e registry).0.keys) is.same (update_keeps registry.cap e.place e.stamp e.update registry.keys (record { first = fits.first; last = fits.last; small = fits.stamp }) fits.update within);
    }

pub replay_keeps : (cap : ℕ) (order : List Entry) (registry : ReplicatedRegistry) → AllByRecursion IsFitting order → IsKept cap registry → IsKept cap (replay registry_machine order registry)
replay_keeps cap [] registry fits is = is
replay_keeps cap (e ∷ es) registry fits is = replay_keeps cap es (record_applied e registry).0 fits.1 (record_keeps cap e registry fits.0 is)

pub empty_kept : (cap : ℕ) → IsCap cap → IsKept cap (empty_registry cap)
empty_kept cap is =
    let least = is.0 in
    let sixteen : size root_alone ≡ 16 = refl in
    record { same = refl; within = record { limits = root_registry; fits = omega (arith, least, sixteen) } }

first_fit : (count : ℕ) (order : List Entry) → AllByRecursion IsFitting order → AllByRecursion IsFitting (take count order)
first_fit zero order h = tt
first_fit (suc count) [] h = tt
first_fit (suc count) (e ∷ es) h = (h.0, first_fit count es h.1)

pub order_keeps : OrderKeeps
order_keeps cap order count is fits = (replay_keeps cap (take count order) (empty_registry cap) (first_fit count order fits) (empty_kept cap is)).within
