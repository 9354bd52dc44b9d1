use Rattle.std.proofs.Common.{get_or, refl}
use Rattle.wire_fields.specs.declared.endian.Endian.TheVariants.{Little}
use Rattle.wire_fields.specs.Numbers.{num}
use Rattle.registry_tree.proofs.Filling.{fills_more}
use Rattle.registry_tree.proofs.windowing.fill_units.Goals as goal

pub units-preserved : goal.units-preserved
units-preserved c =
    let units = c.args.units.now in
    let i = c.units.unit-index in
    fills_more (λ unit. num Little 2 unit) units i (get_or units i 0) 0 refl c.units-test.true c.requires.within c.units.invariant c.put_u16.ensures
