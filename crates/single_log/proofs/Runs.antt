-- What a log says by computation alone: it was found with base 1 and one record behind it, and two further ones were added.
use Rattle.std.proofs.Common.{◌≡◌, [], ◌∷◌, Some, refl}
use Rattle.std.specs.FinMap.{entries-from_sorted}
use Rattle.clus_names.specs.Folding.{path_cmp}
use Rattle.update_records.specs.declared.update.Update.TheVariants.{Create, DeleteValue, SetValue}
use Rattle.update_records.specs.Entry.{Entry}
use Rattle.quorum_log.specs.declared.found.Found.{Found}
use Rattle.log_contents.specs.declared.contents.LogContents.{LogContents}
use Rattle.cluster_rules.specs.Machines.{replay}
use Rattle.registry_machine.specs.Machine.{ReplicatedRegistry, record_applied, registry_machine}
use Rattle.log_order.specs.Orders.{contents_of}
use Rattle.single_log.specs.Contents.{contents_behind}

-- The key `A` is made; it has the value `v` set, and set again; and the value is deleted.
abbrev first : Entry
first = record { place = 1; stamp = 5; id = record { node = 1; inc = 1; req = 1 }; update = Create [] 0 ((65 ∷ []) ∷ []) }

abbrev second : Entry
second = record { place = 2; stamp = 7; id = record { node = 1; inc = 1; req = 2 }; update = SetValue ((97 ∷ []) ∷ []) 1 (118 ∷ []) 3 (9 ∷ []) }

abbrev third : Entry
third = record { place = 3; stamp = 8; id = record { node = 1; inc = 3; req = 1 }; update = SetValue ((97 ∷ []) ∷ []) 1 (118 ∷ []) 3 (4 ∷ []) }

abbrev fourth : Entry
fourth = record { place = 4; stamp = 8; id = record { node = 1; inc = 3; req = 2 }; update = DeleteValue ((97 ∷ []) ∷ []) 1 (118 ∷ []) }

abbrev behind_first : ReplicatedRegistry
behind_first = record {
  cap = 4096;
  keys = ([], record { part = []; birth = 0; written = 5; values = [] }) ∷ ((97 ∷ []) ∷ [], record { part = 65 ∷ []; birth = 1; written = 5; values = [] }) ∷ [];
}

abbrev behind_third : ReplicatedRegistry
behind_third = record {
  cap = 4096;
  keys = ([], record { part = []; birth = 0; written = 5; values = [] })
      ∷ ((97 ∷ []) ∷ [], record { part = 65 ∷ []; birth = 1; written = 8; values = (118 ∷ [], record { name = 118 ∷ []; kind = 3; bytes = 4 ∷ [] }) ∷ [] }) ∷ [];
}

abbrev at_second : Found
at_second = record { version = 2; cap = 4096; half = 0; generation = 4; base = 1; state_at = 89; state = []; last_at = 89; last = []; records = record { at = 94; bytes = [] } ∷ [] }

abbrev held : LogContents
held = record { registry = contents_of behind_first; last = Some first; records = second ∷ [] }

-- With the base found the log begins as it was found.
pub begins_as_found : contents_behind at_second held (third ∷ fourth ∷ []) 1
    ≡ record { registry = contents_of behind_first; last = Some first; records = second ∷ third ∷ fourth ∷ [] }
begins_as_found = refl

-- With base 3 it was begun anew behind the first of the further records.
pub begins_anew : contents_behind at_second held (third ∷ fourth ∷ []) 3 ≡ record { registry = contents_of behind_third; last = Some third; records = fourth ∷ [] }
unfolding record_applied
begins_anew =
    let keys = entries-from_sorted path_cmp behind_first.keys tt in
    λ i. record { registry = contents_of (replay registry_machine (second ∷ third ∷ []) (record { cap = 4096; keys = keys i })); last = Some third; records = fourth ∷ [] }
