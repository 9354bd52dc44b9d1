use Rattle.std.proofs.Common.{◌≡◌, take}
use Rattle.std.specs.Prelude.{flat_map}
use Rattle.registry_defs.specs.Nodes.{spread}
use Rattle.hive_text.specs.Batching.{Takes}
use Rattle.hive_text.proofs.ChangeLists.{subkey_changes}
use Rattle.hive_text.proofs.batching.+take_key.Given as goal

abbrev pub decreases-take_key : goal.decreases-take_key
decreases-take_key l = goal.size-take_key l

abbrev pub invariant-subkeys : goal.invariant-subkeys
invariant-subkeys l = record {
  taken : Takes l.initial.batcher (flat_map (subkey_changes l.path) (take l.subkey-index l.subkey-items)) l.batcher;
  below : spread l.subkey-items ≡ l.key.below;
}
