use Rattle.std.proofs.Common.{◌≡◌, refl, sym, ap, subst, ◌∙◌, arith}
use Rattle.clus_names.specs.Folding.{folded_parts}
use Rattle.registry_defs.specs.Applying.{done, if_born, set_value_applied}
use Rattle.registry_defs.specs.Changes.{at_key, with_value}
use Rattle.registry_defs.specs.Contents.{Contents, keys_in}
use Rattle.registry_defs.specs.Keys.{KeyData, key_at}
use Rattle.registry_defs.specs.Limits.{IsRegistry}
use Rattle.registry_defs.specs.Nodes.{keys_of, path_of}
use Rattle.registry_defs.proofs.Keeping.{registry_set}
use Rattle.registry_defs.proofs.Held.{keys_are, registry_in}
use Rattle.clus_registry.proofs.Seen.{comes_to, unchanged, changed}
use Rattle.registry_defs.proofs.Steps.{change_sum, change_is, size_is}
use Rattle.clus_registry.proofs.Verdicts.{born, fits, too_large}
use Rattle.clus_registry.proofs.registry.Registry.set_value.Goals as goal

pub size_after-size-requires-clause-freed : goal.size_after-size-requires-clause-freed
size_after-size-requires-clause-freed c =
    let now = c.args.self.now in
    let es = keys_in now in
    let root = keys_of c.self.inside.root in
    let keys = keys_are now c.self.inside.cap root c.self.view_is c.self.invariant.limits in
    let registry = registry_in now c.self.inside.cap root c.self.view_is c.self.invariant.limits in
    let node = c.in-Some.found.now in
    let at = c.in-Some.ensures in
    let key = c.args.key.now in
    let q = folded_parts key in
    let name = c.args.name.now in
    let kind = c.args.kind in
    let bytes = c.args.bytes.now in
    let stamp = c.args.stamp in
    let f : KeyData → KeyData = with_value name kind bytes stamp in
    let sum = change_sum f q es node c.value_growth.result.added c.value_growth.result.freed registry at.at (c.value_growth.ensures.exact q kind bytes refl) in
    omega (arith, sum)

pub returns-then-self-size : goal.returns-then-self-size
returns-then-self-size c =
    let now = c.args.self.now in
    let es = keys_in now in
    let root = keys_of c.self.inside.root in
    let keys = keys_are now c.self.inside.cap root c.self.view_is c.self.invariant.limits in
    let registry = registry_in now c.self.inside.cap root c.self.view_is c.self.invariant.limits in
    let node = c.in-Some.found.now in
    let at = c.in-Some.ensures in
    let key = c.args.key.now in
    let q = folded_parts key in
    let name = c.args.name.now in
    let kind = c.args.kind in
    let bytes = c.args.bytes.now in
    let stamp = c.args.stamp in
    let f : KeyData → KeyData = with_value name kind bytes stamp in
    let sum = change_sum f q es node c.value_growth.result.added c.value_growth.result.freed registry at.at (c.value_growth.ensures.exact q kind bytes refl) in
    let news = at_key f q es in
    let same : c.self.inside.cap ≡ now.cap = ap (λ (b : Contents). b.cap) c.self.view_is in
    let past = c.if-self-size.true in
    let told = c.size_after-size.ensures in
    let change = set_value_applied now.cap stamp key name kind bytes es in
    unchanged now c.refused-then-self-size.result (if_born c.args.birth (key_at q es) es change)
    (born c.args.birth q es change node at
    ∙ too_large now.cap es (done news) (omega (arith, past, told, sum, same))
    ∙ ap (comes_to es) (sym c.refused-then-self-size.ensures))

pub invariant_of-self-in-Some : goal.invariant_of-self-in-Some
invariant_of-self-in-Some c =
    let now = c.args.self.now in
    let es = keys_in now in
    let root = keys_of c.self.inside.root in
    let keys = keys_are now c.self.inside.cap root c.self.view_is c.self.invariant.limits in
    let registry = registry_in now c.self.inside.cap root c.self.view_is c.self.invariant.limits in
    let node = c.in-Some.found.now in
    let at = c.in-Some.ensures in
    let key = c.args.key.now in
    let q = folded_parts key in
    let name = c.args.name.now in
    let kind = c.args.kind in
    let bytes = c.args.bytes.now in
    let stamp = c.args.stamp in
    let f : KeyData → KeyData = with_value name kind bytes stamp in
    let sum = change_sum f q es node c.value_growth.result.added c.value_growth.result.freed registry at.at (c.value_growth.ensures.exact q kind bytes refl) in
    let news = at_key f q es in
    let next : keys_of c.set_value.new.self ≡ news =
    c.in_ok-set_value-in-Some.ensures.ok
    ∙ ap (λ b. at_key (with_value name kind b stamp) (path_of c.units.result.now) root) (c.new-copied.ensures ∙ c.in_ok-to_vec-in-Some.ensures.items_if_clones_equal (λ x y e. e))
    ∙ change_is f key c.units.result.now es root c.units.ensures.parts keys in
    let kept = registry_set name kind bytes stamp q es c.units-units.ensures.limits (record { kind_fits = omega arith; short = c.requires.valid; are_bytes = λ i. omega (arith, c.type_inv.bytes i) }) (omega arith) registry in
    record {
      limits = subst IsRegistry (sym next) kept;
      counted = size_is c.size_after-size.result c.value_growth.result.added c.value_growth.result.freed es news (keys_of c.set_value.new.self) c.size_after-size.ensures sum next;
      fits = c.if-self-size.false;
      range = c.self.invariant.range;
    }

pub returns-in_ok-set_value-in-Some : goal.returns-in_ok-set_value-in-Some
returns-in_ok-set_value-in-Some c =
    let now = c.args.self.now in
    let es = keys_in now in
    let root = keys_of c.self.inside.root in
    let keys = keys_are now c.self.inside.cap root c.self.view_is c.self.invariant.limits in
    let registry = registry_in now c.self.inside.cap root c.self.view_is c.self.invariant.limits in
    let node = c.in-Some.found.now in
    let at = c.in-Some.ensures in
    let key = c.args.key.now in
    let q = folded_parts key in
    let name = c.args.name.now in
    let kind = c.args.kind in
    let bytes = c.args.bytes.now in
    let stamp = c.args.stamp in
    let f : KeyData → KeyData = with_value name kind bytes stamp in
    let sum = change_sum f q es node c.value_growth.result.added c.value_growth.result.freed registry at.at (c.value_growth.ensures.exact q kind bytes refl) in
    let news = at_key f q es in
    let next : keys_of c.set_value.new.self ≡ news =
    c.in_ok-set_value-in-Some.ensures.ok
    ∙ ap (λ b. at_key (with_value name kind b stamp) (path_of c.units.result.now) root) (c.new-copied.ensures ∙ c.in_ok-to_vec-in-Some.ensures.items_if_clones_equal (λ x y e. e))
    ∙ change_is f key c.units.result.now es root c.units.ensures.parts keys in
    let kept = registry_set name kind bytes stamp q es c.units-units.ensures.limits (record { kind_fits = omega arith; short = c.requires.valid; are_bytes = λ i. omega (arith, c.type_inv.bytes i) }) (omega arith) registry in
    let same : c.self.inside.cap ≡ now.cap = ap (λ (b : Contents). b.cap) c.self.view_is in
    let within = c.if-self-size.false in
    let told = c.size_after-size.ensures in
    let change = set_value_applied now.cap stamp key name kind bytes es in
    changed now c.self.inside.cap (keys_of c.set_value.new.self) c.done.result (if_born c.args.birth (key_at q es) es change) same (subst IsRegistry (sym next) kept)
    (born c.args.birth q es change node at
    ∙ fits now.cap es (done news) (omega (arith, within, told, sum, same))
    ∙ ap done (sym next) ∙ ap (comes_to (keys_of c.set_value.new.self)) (sym c.done.ensures))
