use Rattle.std.proofs.Common.{sym, arith}
use Rattle.clus_names.proofs.Texts.{path_text, name_units, never_refused, found_text, only_text}
use Rattle.clus_names.proofs.path.Path.parse.Goals as goal

pub returns-in-Some-clause-only : goal.returns-in-Some-clause-only
returns-in-Some-clause-only c = λ path valid is. never_refused path c.args.units.now c.in-Some.fault valid is c.in-Some.ensures

pub invariant_of-result : goal.invariant_of-result
invariant_of-result c =
    rw (c.in_ok-to_vec-in-None.ensures.items_if_clones_equal (λ x y e. e))
    (path_text c.args.units.now (sym c.in-None.ensures) (name_units c.args.units.now c.requires (λ i. omega (arith, c.type_inv.units i))))

pub returns-in_ok-to_vec-in-None-clause-found : goal.returns-in_ok-to_vec-in-None-clause-found
returns-in_ok-to_vec-in-None-clause-found c =
    rw (c.in_ok-to_vec-in-None.ensures.items_if_clones_equal (λ x y e. e))
    (found_text c.args.units.now (path_text c.args.units.now (sym c.in-None.ensures) (name_units c.args.units.now c.requires (λ i. omega (arith, c.type_inv.units i)))))

pub returns-in_ok-to_vec-in-None-clause-only : goal.returns-in_ok-to_vec-in-None-clause-only
returns-in_ok-to_vec-in-None-clause-only c =
    rw (c.in_ok-to_vec-in-None.ensures.items_if_clones_equal (λ x y e. e))
    (only_text c.args.units.now)
