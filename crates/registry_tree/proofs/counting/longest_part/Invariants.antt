use Rattle.std.proofs.Common.{◌≡◌, max, drop, length}
use Rattle.registry_defs.specs.Readings.{longest}
use Rattle.registry_defs.specs.Nodes.{Node}
use Rattle.registry_tree.proofs.counting.longest_part.Given as goal

abbrev pub invariant-keys : goal.invariant-keys
invariant-keys l = max l.most (longest (λ (key : Node). length key.here.part) (drop l.key-index l.keys)) ≡ longest (λ (key : Node). length key.here.part) l.keys
