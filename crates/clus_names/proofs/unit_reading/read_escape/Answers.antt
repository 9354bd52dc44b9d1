use Rattle.std.proofs.Common.{◌≡◌, ◌≤◌, false, sym, ap, ◌∙◌, arith}
use Rattle.clus_names.specs.UnitTexts.{is_plain, escape}
use Rattle.clus_names.specs.UnitFaults.{leading_digits}
use Rattle.clus_names.proofs.Escapes.{escape_spelled}
use Rattle.clus_names.proofs.UnitLaws.{escaped_piece}
use Rattle.clus_names.proofs.unit_reading.read_escape.Goals as goal

pub returns-clause-found : goal.returns-clause-found
returns-clause-found c =
    let digits = c.args.digits.now in
    let unit = c.spelled_unit-unit.result in
    let four : 4 ≤ leading_digits digits = omega (arith, c.leading_digits-count.ensures.count, c.if-count-lt4.false) in
    let other : is_plain unit ≡ false = sym c.is_plain.ensures ∙ c.if-is_plain.false in
    sym (escaped_piece unit other ∙ ap escape c.spelled_unit-unit.ensures ∙ (escape_spelled digits c.requires four).0)
