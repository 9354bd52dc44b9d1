use Rattle.std.proofs.Common.{take}
use Rattle.std.specs.List.{flat_map}
use Rattle.registry_tree.specs.Windows.{Fills}
use Rattle.registry_tree.proofs.FieldTexts.{text_of_value}
use Rattle.registry_tree.proofs.windowing.fill_values.Given as goal

abbrev pub invariant-values : goal.invariant-values
invariant-values l = Fills (flat_map text_of_value (take l.value-index l.values)) l.initial.window l.initial.into l.window l.into
