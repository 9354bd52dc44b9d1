use Rattle.std.proofs.Common.{◌≡◌, ◌++◌, take}
use Rattle.std.specs.Prelude.{flat_map}
use Rattle.registry_defs.specs.Nodes.{spread}
use Rattle.hive_text.proofs.KeyLines.{node_lines}
use Rattle.hive_text.proofs.printing.+print_key.Given as goal

abbrev pub decreases-print_key : goal.decreases-print_key
decreases-print_key l = goal.size-print_key l

abbrev pub invariant-subkeys : goal.invariant-subkeys
invariant-subkeys l = record {
  written : l.text.items ≡ l.initial.text.items ++ flat_map node_lines (take l.subkey-index l.subkey-items);
  below : spread l.subkey-items ≡ l.key.below;
}
