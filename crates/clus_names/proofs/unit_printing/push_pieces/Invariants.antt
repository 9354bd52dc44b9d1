use Rattle.std.proofs.Common.{◌≡◌, ◌++◌, take}
use Rattle.clus_names.specs.UnitTexts.{unit_pieces}
use Rattle.clus_names.proofs.unit_printing.push_pieces.Given as goal

abbrev pub invariant-units : goal.invariant-units
invariant-units l = l.text.items ≡ l.initial.text.items ++ unit_pieces (take l.unit-index l.units)
