use Rattle.std.proofs.Common.{sym, ◌∙◌, arith}
use Rattle.clus_names.proofs.UnitLaws.{plain_at, escape_at}
use Rattle.clus_names.proofs.unit_reading.read_piece.Goals as goal

pub returns-then-is_plain-clause-found : goal.returns-then-is_plain-clause-found
returns-then-is_plain-clause-found c = plain_at c.args.text.now c.from-lead.result c.requires c.from-lead.ensures (sym c.is_plain.ensures ∙ c.if-is_plain.true)

pub returns-clause-found : goal.returns-clause-found
returns-clause-found c =
    escape_at c.args.text.now c.from-lead.result c.in_ok-unit.unit c.front_of.result.now c.requires c.from-lead.ensures (omega (arith, c.if-lead-ne-PERCENT.false)) c.front_of.ensures
    c.in_ok-unit.ensures.whole c.in_ok-unit.ensures.found c.in_ok-unit.ensures.unit
