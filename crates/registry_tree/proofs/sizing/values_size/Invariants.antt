use Rattle.std.proofs.Common.{◌≡◌, ◌+◌, drop}
use Rattle.registry_tree.proofs.Totals.{all_size}
use Rattle.registry_tree.proofs.sizing.values_size.Given as goal

abbrev pub invariant-values : goal.invariant-values
invariant-values l = l.size + all_size (drop l.value-index l.values) ≡ all_size l.values
