use Rattle.std.proofs.Common.{◌≡◌, ◌++◌, length}
use Rattle.ndr_values.specs.Text.{text_of}
use Rattle.clusapi_methods.specs.Results.{units_in}
use Rattle.clusapi_methods.proofs.names.text_in.Given as goal

abbrev pub invariant-units : goal.invariant-units
invariant-units l = l.text.items ++ text_of (units_in l.rest) ≡ text_of (units_in l.fn.bytes)

abbrev pub decreases-units : goal.decreases-units
decreases-units l = length l.rest
