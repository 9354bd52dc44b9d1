use Rattle.std.proofs.Common.{List, ℕ, length, sym, subst, ap, arith}
use Rattle.clus_names.specs.Limits.{LacksZero}
use Rattle.clus_names.proofs.UnitLaws.{no_zero}
use Rattle.hive_text.proofs.ChangeLists.{short_enough}
use Rattle.hive_text.proofs.parsing.name_of.Goals as goal

pub new-requires : goal.new-requires
new-requires c = subst (λ (units : List ℕ). LacksZero units) (sym c.as_slice.ensures) (no_zero c.args.units.now c.requires.units)

pub out_of_memory-requires : goal.out_of_memory-requires
out_of_memory-requires c =
    let short = c.requires.short in
    short_enough (length c.as_slice.result.now) c.in-Err.fault (omega (arith, short, ap (λ (l : List ℕ). length l) c.as_slice.ensures)) c.in-Err.ensures.fault
