-- What each node's registry is, and what each client is told, in a world of the registry.
use Rattle.std.specs.Prelude.{◌≡◌, ℕ, ◌-◌, ◌<◌, Some}
use Rattle.gum_messages.specs.Places.{at_place}
use Rattle.update_records.specs.Entry.{Entry}
use Rattle.registry_defs.specs.Applying.{registry_after, update_applied}
use Rattle.cluster_rules.specs.Nodes.{NodeState, Replica}
use Rattle.cluster_rules.specs.Worlds.{Point, World}
use Rattle.registry_machine.specs.Laws.{IsWithin}
use Rattle.registry_machine.specs.Machine.{registry_machine}

-- It is what the first `done` records of the update order make of the empty registry, and obeys all limits and the cap. A
-- client is told what its record comes to behind the records before it.
pub record IsFold (w : World registry_machine) : Type 0 where
  pub fold : (n : ℕ) (x : NodeState registry_machine) (r : Replica registry_machine) → w.nodes n ≡ Some x → x.replica ≡ Some r
      → r.registry ≡ record { cap = w.log.cap; keys = registry_after w.log.cap w.log.order r.done }
  pub within : (n : ℕ) (x : NodeState registry_machine) (r : Replica registry_machine) → w.nodes n ≡ Some x → x.replica ≡ Some r
      → IsWithin w.log.cap r.registry.keys
  pub told : (a : ℕ) (p : Point registry_machine) → at_place w.points a ≡ Some p → 0 < p.req
      → (e : Entry) × (at_place w.log.order p.place ≡ Some e)
      × (p.outcome ≡ Some (update_applied w.log.cap e.place e.stamp e.update (registry_after w.log.cap w.log.order (p.place - 1))).outcome)
