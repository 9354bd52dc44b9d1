use Rattle.std.proofs.Common.{length, subst, arith}
use Rattle.wire_fields.specs.declared.endian.Endian.TheVariants.{Little}
use Rattle.wire_fields.specs.Numbers.{num}
use Rattle.update_records.specs.Spelling.{name_text}
use Rattle.registry_tree.specs.declared.window.Window.{Window}
use Rattle.registry_tree.specs.Windows.{Fills}
use Rattle.registry_tree.proofs.Filling.{fills_then}
use Rattle.update_records.proofs.Fields.{length-name_text}
use Rattle.registry_tree.proofs.windowing.fill_name.Goals as goal

pub returns-then-passes : goal.returns-then-passes
returns-then-passes c = c.passes.ensures.passed c.if-passes.true (name_text c.args.units.now) c.args.into.now (omega (arith, length-name_text c.args.units.now)) c.requires.within

pub returns : goal.returns
unfolding name_text
returns c =
    let count = num Little 2 (length c.args.units.now) in
    let first = subst (λ (w : Window). Fills count w c.args.into.now c.put_u16.new.self c.put_u16.new.into) (c.passes.ensures.kept c.if-passes.false) c.put_u16.ensures in
    fills_then c.requires.within first c.fill_units.ensures
