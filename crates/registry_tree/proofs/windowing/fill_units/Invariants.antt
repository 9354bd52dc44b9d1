use Rattle.std.proofs.Common.{take}
use Rattle.update_records.specs.Spelling.{units_text}
use Rattle.registry_tree.specs.Windows.{Fills}
use Rattle.registry_tree.proofs.windowing.fill_units.Given as goal

abbrev pub invariant-units : goal.invariant-units
invariant-units l = Fills (units_text (take l.unit-index l.units)) l.initial.window l.initial.into l.window l.into
