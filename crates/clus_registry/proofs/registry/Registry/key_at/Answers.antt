use Rattle.std.proofs.Common.{◌<◌, ◌^◌, sym, subst, arith}
use Rattle.clus_names.specs.Folding.{folded_parts}
use Rattle.registry_defs.specs.Keys.{Keys}
use Rattle.registry_defs.specs.Contents.{keys_in}
use Rattle.registry_defs.specs.Limits.{IsRegistry}
use Rattle.registry_defs.specs.Nodes.{keys_of, path_of}
use Rattle.registry_defs.specs.Sizes.{size}
use Rattle.registry_defs.proofs.Held.{keys_are}
use Rattle.clus_registry.proofs.Seen.{rising_found, fields_found, path_is, found_at}
use Rattle.clus_registry.proofs.registry.Registry.key_at.Goals as goal

found : goal.returns-clause-found
found c =
    let es = keys_of c.self.inside.root in
    found_at c.find.result (path_of c.units.result.now) (folded_parts c.args.path.now) es (keys_in c.args.self.now)
    (path_is c.units.result.now c.args.path.now c.units.ensures.parts)
    (keys_are c.args.self.now c.self.inside.cap es c.self.view_is c.self.invariant.limits)
    c.find.ensures.found c.find.ensures.section

pub returns-clause-found : goal.returns-clause-found
returns-clause-found c = found c

pub returns-clause-limits : goal.returns-clause-limits
returns-clause-limits c = subst IsRegistry (sym (keys_are c.args.self.now c.self.inside.cap (keys_of c.self.inside.root) c.self.view_is c.self.invariant.limits)) c.self.invariant.limits

pub returns-clause-rising : goal.returns-clause-rising
returns-clause-rising c =
    let es = keys_of c.self.inside.root in
    let keys = keys_are c.args.self.now c.self.inside.cap es c.self.view_is c.self.invariant.limits in
    rising_found c.find.result (folded_parts c.args.path.now) (keys_in c.args.self.now) (subst IsRegistry (sym keys) c.self.invariant.limits) (found c)

pub returns-clause-fields : goal.returns-clause-fields
returns-clause-fields c =
    let es = keys_of c.self.inside.root in
    let h = c.self.invariant in
    let counted = h.counted in
    let fits = h.fits in
    let most = h.range.1 in
    let keys = keys_are c.args.self.now c.self.inside.cap es c.self.view_is h.limits in
    let small : size es < 2 ^ 32 = omega (arith, counted, fits, most) in
    fields_found c.find.result (folded_parts c.args.path.now) (keys_in c.args.self.now) (subst IsRegistry (sym keys) h.limits) (subst (λ (l : Keys). size l < 2 ^ 32) (sym keys) small) (found c)
