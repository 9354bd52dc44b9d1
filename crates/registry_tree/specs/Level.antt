-- One level of the tree: the node that its fields are, and what it keeps.
use Rattle.clus_names.specs.Folding.{name_cmp}
use Rattle.registry_defs.specs.Nodes.{Node, name_of, spread}
use Rattle.registry_defs.specs.Rising.{Rising}
use Rattle.registry_tree.specs.Values.{entries_of, RisingValues}
use Rattle.registry_tree.specs.declared.key.Key.TheInside.{Inside}

abbrev pub node_of : Inside → Node
node_of key = record {
  here = record { part = key.part; birth = key.birth; written = key.written; values = entries_of key.values.items };
  below = spread key.subkeys.items;
}

pub record IsOrdered (key : Inside) : Type 0 where
  pub values : RisingValues key.values.items
  pub subkeys : Rising name_cmp name_of key.subkeys.items
