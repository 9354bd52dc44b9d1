use Rattle.std.proofs.Common.{◌≡◌, ◌++◌, take}
use Rattle.hive_text.specs.HiveText.{value_lines}
use Rattle.registry_tree.specs.Values.{entries_of}
use Rattle.hive_text.proofs.printing.push_values.Given as goal

abbrev pub invariant-values : goal.invariant-values
invariant-values l = l.text.items ≡ l.initial.text.items ++ value_lines (entries_of (take l.value-index l.values))
