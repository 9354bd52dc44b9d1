use Rattle.std.proofs.Common.{ℕ, List, sym, subst}
use Rattle.clus_names.specs.Limits.{LacksZero}
use Rattle.clus_names.proofs.UnitLaws.{no_zero}
use Rattle.hive_text.proofs.printing.push_value.Goals as goal

pub print_units-requires : goal.print_units-requires
print_units-requires c = subst (λ (units : List ℕ). LacksZero units) (sym c.units.ensures.units) (no_zero c.args.value.now.name c.units.ensures.limits.units)
