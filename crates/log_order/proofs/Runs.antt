-- What a log says of an order of two records, by computation alone.
use Rattle.std.proofs.Common.{◌≡◌, [], ◌∷◌, Some, refl}
use Rattle.update_records.specs.declared.update.Update.TheVariants.{Create, SetValue}
use Rattle.update_records.specs.Entry.{Entry}
use Rattle.cluster_rules.specs.Joins.{last_of}
use Rattle.registry_machine.specs.Machine.{ReplicatedRegistry, record_applied}
use Rattle.log_order.specs.Orders.{contents_at, contents_of, last_behind}

-- The key `A` is made, and has the value `v` set.
abbrev first : Entry
first = record { place = 1; stamp = 5; id = record { node = 1; inc = 1; req = 1 }; update = Create [] 0 ((65 ∷ []) ∷ []) }

abbrev second : Entry
second = record { place = 2; stamp = 7; id = record { node = 1; inc = 1; req = 2 }; update = SetValue ((97 ∷ []) ∷ []) 1 (118 ∷ []) 3 (9 ∷ []) }

abbrev behind_first : ReplicatedRegistry
behind_first = record {
  cap = 4096;
  keys = ([], record { part = []; birth = 0; written = 5; values = [] }) ∷ ((97 ∷ []) ∷ [], record { part = 65 ∷ []; birth = 1; written = 5; values = [] }) ∷ [];
}

-- With base 1 a log has the registry behind the first record, that record as its last one, and the second one behind it.
pub based_on_one : contents_at 4096 (first ∷ second ∷ []) 1 ≡ record { registry = contents_of behind_first; last = Some first; records = second ∷ [] }
unfolding record_applied
based_on_one = refl

pub ends_in_second : last_behind (Some first) (second ∷ []) ≡ last_of (first ∷ second ∷ [])
ends_in_second = refl
