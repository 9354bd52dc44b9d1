use Rattle.std.proofs.Common.{◌≡◌, take}
use Rattle.std.specs.List.{flat_map}
use Rattle.registry_defs.specs.Nodes.{spread}
use Rattle.registry_tree.specs.Windows.{Fills}
use Rattle.registry_tree.proofs.Spelled.{subkey_text}
use Rattle.registry_tree.proofs.key.Key.+fill.Given as goal

abbrev pub decreases-fill : goal.decreases-fill
decreases-fill l = goal.size-fill l

abbrev pub invariant-subkeys : goal.invariant-subkeys
invariant-subkeys l = record {
  filled : Fills (flat_map subkey_text (take l.key-index l.key-items)) l.initial.window l.initial.into l.window l.into;
  below : spread l.key-items ≡ l.self.below;
}
