use Rattle.std.proofs.Common.{◌≡◌, max, drop, length}
use Rattle.registry_defs.specs.Readings.{longest}
use Rattle.registry_tree.specs.declared.value.Value.{Value}
use Rattle.registry_tree.proofs.counting.longest_data.Given as goal

abbrev pub invariant-values : goal.invariant-values
invariant-values l = max l.most (longest (λ (value : Value). length value.bytes) (drop l.value-index l.values)) ≡ longest (λ (value : Value). length value.bytes) l.values
