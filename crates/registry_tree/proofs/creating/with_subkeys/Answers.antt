use Rattle.std.proofs.Common.{arith}
use Rattle.registry_tree.proofs.Kept.{rising_short}
use Rattle.registry_defs.specs.Nodes.{name_of}
use Rattle.registry_tree.specs.Values.{value_name}
use Rattle.registry_tree.proofs.creating.with_subkeys.Goals as goal

pub invariant_of-result : goal.invariant_of-result
invariant_of-result c = record {
  values = rising_short value_name c.new-2.result.items (rw c.new-2.ensures.items (omega arith));
  subkeys = rising_short name_of c.args.subkeys.items c.requires;
}
