use Rattle.std.proofs.Common.{sym, ap, subst, ◌∙◌, arith}
use Rattle.clus_names.specs.Folding.{path_cmp}
use Rattle.registry_defs.specs.Contents.{Contents}
use Rattle.registry_defs.specs.Limits.{IsRegistry}
use Rattle.registry_defs.specs.Nodes.{keys_of}
use Rattle.registry_defs.specs.Sizes.{size}
use Rattle.registry_defs.proofs.Orders.{rising_from_sorted}
use Rattle.registry_defs.proofs.Held.{keys_are}
use Rattle.registry_defs.proofs.Lengths.{length-registry}
use Rattle.registry_defs.proofs.Fields.{have_fields}
use Rattle.clus_registry.proofs.registry.Registry.root.Goals as goal

keys : goal.returns-clause-keys
keys c = sym (keys_are c.args.self.now c.self.inside.cap (keys_of c.self.inside.root) c.self.view_is c.self.invariant.limits)

pub returns-clause-keys : goal.returns-clause-keys
returns-clause-keys c = keys c

pub returns-clause-limits : goal.returns-clause-limits
returns-clause-limits c = subst IsRegistry (keys c) c.self.invariant.limits

pub returns-clause-fits : goal.returns-clause-fits
returns-clause-fits c =
    let counted = c.self.invariant.counted in
    let fits = c.self.invariant.fits in
    omega (arith, counted, fits, ap size (keys c), ap (λ (v : Contents). v.cap) c.self.view_is)

pub returns-clause-length : goal.returns-clause-length
returns-clause-length c = length-registry (keys_of c.self.inside.root) ∙ ap size (keys c)

pub returns-clause-rising : goal.returns-clause-rising
returns-clause-rising c = rising_from_sorted path_cmp (keys_of c.self.inside.root) c.self.invariant.limits.rising

pub returns-clause-fields : goal.returns-clause-fields
returns-clause-fields c =
    let h = c.self.invariant in
    let counted = h.counted in
    let fits = h.fits in
    let most = h.range.1 in
    have_fields (keys_of c.self.inside.root) h.limits (omega (arith, counted, fits, most))
