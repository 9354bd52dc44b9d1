use Rattle.std.proofs.Common.{◌≡◌, ◌-◌, None}
use Rattle.std.specs.Vec.Iter.{into_iter_items}
use Rattle.registry_tree.specs.Values.{RisingValues}
use Rattle.registry_states.specs.Assembled.{values_in}
use Rattle.registry_states.specs.Readers.{last_name}
use Rattle.registry_states.proofs.TreeLoops.{values_behind}
use Rattle.registry_states.proofs.assembling.assemble_values.Given as goal

abbrev pub invariant-values : goal.invariant-values
invariant-values l = record {
  made : values_behind l.values.items (values_in (l.count - l.counter) (last_name l.values.items) (into_iter_items l.items)) ≡ values_in l.count None (into_iter_items l.initial.items);
  rising : RisingValues l.values.items;
}
