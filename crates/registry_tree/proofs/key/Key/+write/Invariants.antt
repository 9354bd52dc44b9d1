use Rattle.std.proofs.Common.{◌≡◌, ◌++◌, take}
use Rattle.std.specs.List.{flat_map}
use Rattle.wire_fields.specs.declared.endian.Endian.TheVariants.{Little}
use Rattle.registry_defs.specs.Nodes.{spread}
use Rattle.registry_tree.proofs.Spelled.{subkey_text}
use Rattle.registry_tree.proofs.key.Key.+write.Given as goal

abbrev pub decreases-write : goal.decreases-write
decreases-write l = goal.size-write l

abbrev pub invariant-subkeys : goal.invariant-subkeys
invariant-subkeys l = record {
  written : l.put ≡ record { endian = Little; bytes = l.initial.put.bytes ++ flat_map subkey_text (take l.key-index l.key-items) };
  below : spread l.key-items ≡ l.self.below;
}
