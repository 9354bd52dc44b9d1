use Rattle.std.proofs.Common.{◌≡◌, sym, ap, subst, ◌∙◌, arith}
use Rattle.std.specs.Prelude.{is_some}
use Rattle.clus_names.specs.Folding.{folded_parts}
use Rattle.clus_names.specs.Parts.{parts_of}
use Rattle.registry_defs.specs.Applying.{answered, if_born, create_applied}
use Rattle.registry_defs.specs.Changes.{created}
use Rattle.registry_defs.specs.Contents.{Contents, keys_in}
use Rattle.registry_defs.specs.Keys.{key_at}
use Rattle.registry_defs.specs.Limits.{IsRegistry}
use Rattle.registry_defs.specs.Nodes.{keys_of}
use Rattle.registry_defs.proofs.Held.{keys_are, registry_in}
use Rattle.clus_registry.proofs.Seen.{comes_to, unchanged, changed}
use Rattle.registry_defs.proofs.Steps.{there_in, create_sum, create_registry, created_is, size_is}
use Rattle.clus_registry.proofs.Verdicts.{fits, too_large, target_at, create_there, create_missing}
use Rattle.clus_registry.proofs.registry.Registry.create.Goals as goal

pub size_after-size-requires-clause-freed : goal.size_after-size-requires-clause-freed
size_after-size-requires-clause-freed c =
    let now = c.args.self.now in
    let es = keys_in now in
    let root = keys_of c.self.inside.root in
    let keys = keys_are now c.self.inside.cap root c.self.view_is c.self.invariant.limits in
    let registry = registry_in now c.self.inside.cap root c.self.view_is c.self.invariant.limits in
    let node = c.in-Some.found.now in
    let at = c.in-Some.ensures in
    let key = c.args.key.now in
    let q = folded_parts key in
    let subkey = c.args.subkey.now in
    let place = c.args.place in
    let stamp = c.args.stamp in
    let sum = create_sum place stamp key subkey (parts_of c.units-in-None-find.result.now) es node c.creation_growth.result.added c.creation_growth.result.freed registry at.at c.units-in-None-find.ensures.parts c.creation_growth.ensures.added c.creation_growth.ensures.freed in
    omega (arith, sum)

pub returns-in-Some-find : goal.returns-in-Some-find
returns-in-Some-find c =
    let now = c.args.self.now in
    let es = keys_in now in
    let root = keys_of c.self.inside.root in
    let keys = keys_are now c.self.inside.cap root c.self.view_is c.self.invariant.limits in
    let registry = registry_in now c.self.inside.cap root c.self.view_is c.self.invariant.limits in
    let node = c.in-Some.found.now in
    let at = c.in-Some.ensures in
    let key = c.args.key.now in
    let q = folded_parts key in
    let subkey = c.args.subkey.now in
    let place = c.args.place in
    let stamp = c.args.stamp in
    let target = c.in-Some-find.target.now in
    let found = sym (target_at key subkey c.units.result.now es node at.at c.units.ensures.parts) ∙ c.in-Some-find.ensures.found in
    let a = if_born c.args.birth (key_at q es) es (create_applied now.cap place stamp key subkey es) in
    unchanged now c.opened.result a
    (create_there c.args.birth key es node at now.cap place stamp subkey target.here found
    ∙ ap (λ b. answered 0 2 b es) (sym c.birth.ensures) ∙ ap (comes_to es) (sym c.opened.ensures))

pub returns-then-self-size : goal.returns-then-self-size
returns-then-self-size c =
    let now = c.args.self.now in
    let es = keys_in now in
    let root = keys_of c.self.inside.root in
    let keys = keys_are now c.self.inside.cap root c.self.view_is c.self.invariant.limits in
    let registry = registry_in now c.self.inside.cap root c.self.view_is c.self.invariant.limits in
    let node = c.in-Some.found.now in
    let at = c.in-Some.ensures in
    let key = c.args.key.now in
    let q = folded_parts key in
    let subkey = c.args.subkey.now in
    let place = c.args.place in
    let stamp = c.args.stamp in
    let sum = create_sum place stamp key subkey (parts_of c.units-in-None-find.result.now) es node c.creation_growth.result.added c.creation_growth.result.freed registry at.at c.units-in-None-find.ensures.parts c.creation_growth.ensures.added c.creation_growth.ensures.freed in
    let missing = sym (target_at key subkey c.units.result.now es node at.at c.units.ensures.parts) ∙ c.in-None-find.ensures.found in
    let news = created place stamp q subkey es in
    let same : c.self.inside.cap ≡ now.cap = ap (λ (b : Contents). b.cap) c.self.view_is in
    let past = c.if-self-size.true in
    let told = c.size_after-size.ensures in
    let a = if_born c.args.birth (key_at q es) es (create_applied now.cap place stamp key subkey es) in
    unchanged now c.refused-then-self-size.result a
    (create_missing c.args.birth key es node at now.cap place stamp subkey missing
    ∙ too_large now.cap es (answered 0 1 place news) (omega (arith, past, told, sum, same))
    ∙ ap (comes_to es) (sym c.refused-then-self-size.ensures))

pub create-requires : goal.create-requires
create-requires c =
    let now = c.args.self.now in
    let es = keys_in now in
    let root = keys_of c.self.inside.root in
    let keys = keys_are now c.self.inside.cap root c.self.view_is c.self.invariant.limits in
    let registry = registry_in now c.self.inside.cap root c.self.view_is c.self.invariant.limits in
    let node = c.in-Some.found.now in
    let at = c.in-Some.ensures in
    let key = c.args.key.now in
    let q = folded_parts key in
    record { there = there_in key c.units-in-None-find-2.result.now es root node at.at c.units-in-None-find-2.ensures.parts keys }

pub invariant_of-self-in-None-find : goal.invariant_of-self-in-None-find
invariant_of-self-in-None-find c =
    let now = c.args.self.now in
    let es = keys_in now in
    let root = keys_of c.self.inside.root in
    let keys = keys_are now c.self.inside.cap root c.self.view_is c.self.invariant.limits in
    let registry = registry_in now c.self.inside.cap root c.self.view_is c.self.invariant.limits in
    let node = c.in-Some.found.now in
    let at = c.in-Some.ensures in
    let key = c.args.key.now in
    let q = folded_parts key in
    let subkey = c.args.subkey.now in
    let place = c.args.place in
    let stamp = c.args.stamp in
    let sum = create_sum place stamp key subkey (parts_of c.units-in-None-find.result.now) es node c.creation_growth.result.added c.creation_growth.result.freed registry at.at c.units-in-None-find.ensures.parts c.creation_growth.ensures.added c.creation_growth.ensures.freed in
    let news = created place stamp q subkey es in
    let next : keys_of c.create.new.self ≡ news =
    c.in_ok-create-in-None-find.ensures.ok ∙ created_is place stamp key subkey c.units-in-None-find-2.result.now c.units-in-None-find-3.result.now es root c.units-in-None-find-2.ensures.parts c.units-in-None-find-3.ensures.parts keys in
    let kept = create_registry place stamp key subkey es registry (ap is_some at.at.here) (record { first = c.requires.first; last = c.requires.last; small = omega arith }) c.requires.valid (c.units.ensures.limits.parts) in
    record {
      limits = subst IsRegistry (sym next) kept;
      counted = size_is c.size_after-size.result c.creation_growth.result.added c.creation_growth.result.freed es news (keys_of c.create.new.self) c.size_after-size.ensures sum next;
      fits = c.if-self-size.false;
      range = c.self.invariant.range;
    }

pub returns-in_ok-create-in-None-find : goal.returns-in_ok-create-in-None-find
returns-in_ok-create-in-None-find c =
    let now = c.args.self.now in
    let es = keys_in now in
    let root = keys_of c.self.inside.root in
    let keys = keys_are now c.self.inside.cap root c.self.view_is c.self.invariant.limits in
    let registry = registry_in now c.self.inside.cap root c.self.view_is c.self.invariant.limits in
    let node = c.in-Some.found.now in
    let at = c.in-Some.ensures in
    let key = c.args.key.now in
    let q = folded_parts key in
    let subkey = c.args.subkey.now in
    let place = c.args.place in
    let stamp = c.args.stamp in
    let sum = create_sum place stamp key subkey (parts_of c.units-in-None-find.result.now) es node c.creation_growth.result.added c.creation_growth.result.freed registry at.at c.units-in-None-find.ensures.parts c.creation_growth.ensures.added c.creation_growth.ensures.freed in
    let news = created place stamp q subkey es in
    let next : keys_of c.create.new.self ≡ news =
    c.in_ok-create-in-None-find.ensures.ok ∙ created_is place stamp key subkey c.units-in-None-find-2.result.now c.units-in-None-find-3.result.now es root c.units-in-None-find-2.ensures.parts c.units-in-None-find-3.ensures.parts keys in
    let kept = create_registry place stamp key subkey es registry (ap is_some at.at.here) (record { first = c.requires.first; last = c.requires.last; small = omega arith }) c.requires.valid (c.units.ensures.limits.parts) in
    let missing = sym (target_at key subkey c.units.result.now es node at.at c.units.ensures.parts) ∙ c.in-None-find.ensures.found in
    let same : c.self.inside.cap ≡ now.cap = ap (λ (b : Contents). b.cap) c.self.view_is in
    let within = c.if-self-size.false in
    let told = c.size_after-size.ensures in
    let a = if_born c.args.birth (key_at q es) es (create_applied now.cap place stamp key subkey es) in
    changed now c.self.inside.cap (keys_of c.create.new.self) c.opened-in-None-find.result a same (subst IsRegistry (sym next) kept)
    (create_missing c.args.birth key es node at now.cap place stamp subkey missing
    ∙ fits now.cap es (answered 0 1 place news) (omega (arith, within, told, sum, same))
    ∙ ap (λ l. answered 0 1 place l) (sym next) ∙ ap (comes_to (keys_of c.create.new.self)) (sym c.opened-in-None-find.ensures))
