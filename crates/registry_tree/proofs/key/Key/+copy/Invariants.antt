use Rattle.std.proofs.Common.{◌≡◌, take}
use Rattle.registry_defs.specs.Nodes.{spread}
use Rattle.registry_tree.proofs.key.Key.+copy.Given as goal

abbrev pub decreases-copy : goal.decreases-copy
decreases-copy l = goal.size-copy l

abbrev pub invariant-loop-key : goal.invariant-loop-key
invariant-loop-key l = record {
  copied : l.subkeys.items ≡ take l.key-index l.key-items;
  below : spread l.key-items ≡ l.self.below;
}
