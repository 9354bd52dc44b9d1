use Rattle.std.proofs.Common.{◌≡◌, ◌-◌, ◌+◌, ◌*◌, None}
use Rattle.std.specs.Vec.Iter.{into_iter_items}
use Rattle.clus_names.specs.Folding.{name_cmp}
use Rattle.registry_defs.specs.Nodes.{name_of}
use Rattle.registry_defs.specs.Rising.{Rising}
use Rattle.registry_states.specs.Assembled.{node_in, nodes_in}
use Rattle.registry_states.specs.Readers.{last_part}
use Rattle.registry_states.proofs.TreeLoops.{nodes_behind}
use Rattle.registry_states.proofs.assembling.+assemble.Given as goal

abbrev pub decreases-assemble : goal.decreases-assemble
decreases-assemble l = 2 * l.depth

abbrev pub decreases-assemble_subkeys : goal.decreases-assemble_subkeys
decreases-assemble_subkeys l = 2 * l.depth + 1

abbrev pub invariant-assemble_subkeys-subkeys : goal.invariant-assemble_subkeys-subkeys
invariant-assemble_subkeys-subkeys l = record {
  made : nodes_behind l.subkeys.items (nodes_in (node_in l.depth) (l.count - l.counter) (last_part l.subkeys.items) (into_iter_items l.items)) ≡ nodes_in (node_in l.depth) l.count None (into_iter_items l.initial.items);
  rising : Rising name_cmp name_of l.subkeys.items;
}
