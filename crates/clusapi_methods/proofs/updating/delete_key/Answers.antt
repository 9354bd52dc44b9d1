use Rattle.std.proofs.Common.{◌<◌, length, arith}
use Rattle.std.proofs.lemmas.Bool.Decides.{nat_tests}
use Rattle.clusapi_methods.specs.Checked.{IsFit}
use Rattle.clusapi_methods.proofs.Checks.{some_parts}
use Rattle.clusapi_methods.proofs.updating.delete_key.Goals as goal

pub returns-clause-bounded : goal.returns-clause-bounded
returns-clause-bounded c =
    let fit : IsFit c.args.held.now.path c.args.below.now c.in-Ok.path = rw c.in-Ok.is at c.in_ok-path.ensures in
    let there : 0 < length c.as_slice.result.now = grind (arith, nat_tests) in
    let some : 0 < length c.args.below.now = rw c.as_slice.ensures at there in
    (rw c.in_ok-copy.ensures fit.short, some_parts c.in-Ok.path c.args.below.now fit.text some)
