use Rattle.std.proofs.Common.{◌-◌, length}
use Rattle.clus_names.proofs.UnitLaws.{HaveRead}
use Rattle.clus_names.proofs.unit_reading.read_pieces.Given as goal

abbrev pub invariant-pieces : goal.invariant-pieces
invariant-pieces l = HaveRead l.text l.place l.units.items

abbrev pub decreases-pieces : goal.decreases-pieces
decreases-pieces l = length l.text - l.place
