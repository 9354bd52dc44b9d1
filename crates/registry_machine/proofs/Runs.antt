-- The machine, seen to run: what two records make, by computation alone.
use Rattle.std.proofs.Common.{◌≡◌, List, [], ◌∷◌, refl}
use Rattle.update_records.specs.declared.update.Update.TheVariants.{Create, SetValue}
use Rattle.update_records.specs.Entry.{Entry}
use Rattle.cluster_rules.specs.Machines.{registry_at}
use Rattle.registry_machine.specs.Machine.{record_applied, registry_machine}

-- The key `A` is made, and has the value `v` set.
abbrev two : List Entry
two =
    record { place = 1; stamp = 5; id = record { node = 1; inc = 1; req = 1 }; update = Create [] 0 ((65 ∷ []) ∷ []) }
    ∷ record { place = 2; stamp = 7; id = record { node = 1; inc = 1; req = 2 }; update = SetValue ((97 ∷ []) ∷ []) 1 (118 ∷ []) 3 (9 ∷ []) }
    ∷ []

pub two_make : registry_at registry_machine 4096 two 2 ≡ record {
  cap = 4096;
  keys = ([], record { part = []; birth = 0; written = 5; values = [] })
      ∷ ((97 ∷ []) ∷ [], record { part = 65 ∷ []; birth = 1; written = 7; values = (118 ∷ [], record { name = 118 ∷ []; kind = 3; bytes = 9 ∷ [] }) ∷ [] })
      ∷ [];
}
unfolding record_applied
two_make = refl
