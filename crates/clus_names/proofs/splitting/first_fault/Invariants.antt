use Rattle.std.proofs.Common.{◌≡◌, length}
use Rattle.clus_names.specs.Parts.{pieces_of}
use Rattle.clus_names.specs.Faults.{first_fault}
use Rattle.clus_names.proofs.splitting.first_fault.Given as goal

abbrev pub invariant-pieces : goal.invariant-pieces
invariant-pieces l = first_fault (pieces_of l.rest) ≡ first_fault (pieces_of l.text)

abbrev pub decreases-pieces : goal.decreases-pieces
decreases-pieces l = length l.rest
