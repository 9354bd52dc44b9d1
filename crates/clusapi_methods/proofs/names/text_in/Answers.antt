use Rattle.std.proofs.Common.{◌≡◌, ◌<◌, ◌+◌, ◌*◌, get_or, arith}
use Rattle.std.proofs.lemmas.Bool.Decides.{nat_tests}
use Rattle.ndr_values.specs.Text.{text_of}
use Rattle.clusapi_methods.specs.Results.{units_in}
use Rattle.clusapi_methods.proofs.NameTexts.{pair_goes_on}
use Rattle.clusapi_methods.proofs.names.text_in.Goals as goal

pub units-preserved : goal.units-preserved
units-preserved c =
    let there : 0 < c.from_le_bytes-unit.result = grind (arith, nat_tests) in
    let unit : c.from_le_bytes-unit.result ≡ get_or c.units.rest.now 0 0 + get_or c.units.rest.now 1 0 * 256 = c.from_le_bytes-unit.ensures in
    rw c.in_ok-push.ensures.items
    (pair_goes_on c.units.text.items c.units.rest.now (text_of (units_in c.args.bytes.now)) c.from_le_bytes-unit.result c.in-len2-up.len_at_least unit there c.units.invariant)
