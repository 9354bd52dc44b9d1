use Rattle.std.proofs.Common.{refl, arith}
use Rattle.clus_names.proofs.Texts.{valid_name}
use Rattle.clus_names.proofs.name.Name.new.Goals as goal

pub invariant_of-result : goal.invariant_of-result
invariant_of-result c =
    rw (c.in_ok-to_vec.ensures.items_if_clones_equal (λ x y e. e))
    (valid_name c.args.units.now (omega arith) c.requires (λ i. omega (arith, c.type_inv.units i)))

pub returns-clause-found : goal.returns-clause-found
returns-clause-found c =
    rw (c.in_ok-to_vec.ensures.items_if_clones_equal (λ x y e. e))
    (refl, valid_name c.args.units.now (omega arith) c.requires (λ i. omega (arith, c.type_inv.units i)))
