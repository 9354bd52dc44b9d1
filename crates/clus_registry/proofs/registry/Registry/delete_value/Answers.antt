use Rattle.std.proofs.Common.{◌≡◌, ◌+◌, true, sym, ap, subst, ◌∙◌, arith}
use Rattle.clus_names.specs.Folding.{folded, folded_parts}
use Rattle.registry_defs.specs.Applying.{done, if_born, delete_value_applied}
use Rattle.registry_defs.specs.Changes.{at_key, without_value}
use Rattle.registry_defs.specs.Contents.{Contents, keys_in}
use Rattle.registry_defs.specs.Keys.{KeyData, key_at, value_at}
use Rattle.std.specs.Prelude.{is_some}
use Rattle.registry_defs.specs.Limits.{IsRegistry}
use Rattle.registry_defs.specs.Nodes.{keys_of, path_of}
use Rattle.registry_defs.specs.Sizes.{key_size, size}
use Rattle.registry_defs.proofs.Keeping.{registry_unset}
use Rattle.registry_defs.proofs.Held.{keys_are, registry_in}
use Rattle.clus_registry.proofs.Seen.{comes_to, changed}
use Rattle.registry_defs.proofs.Steps.{change_sum, unset_smaller, change_is, size_is}
use Rattle.clus_registry.proofs.Verdicts.{value_goes}
use Rattle.clus_registry.proofs.registry.Registry.delete_value.Goals as goal

pub size_after-size-requires-clause-freed : goal.size_after-size-requires-clause-freed
size_after-size-requires-clause-freed c =
    let now = c.args.self.now in
    let es = keys_in now in
    let root = keys_of c.self.inside.root in
    let keys = keys_are now c.self.inside.cap root c.self.view_is c.self.invariant.limits in
    let registry = registry_in now c.self.inside.cap root c.self.view_is c.self.invariant.limits in
    let node = c.in-Some.found.now in
    let at = c.in-Some.ensures in
    let key = c.args.key.now in
    let q = folded_parts key in
    let name = c.args.name.now in
    let stamp = c.args.stamp in
    let f : KeyData → KeyData = without_value name stamp in
    let growth = c.in-Some-value_removal.growth in
    let named = c.units.ensures.units in
    let sum = change_sum f q es node growth.added growth.freed registry at.at (subst (λ n. key_size q (without_value n stamp node.here) + growth.freed ≡ key_size q node.here + growth.added) named (c.in-Some-value_removal.ensures.exact q)) in
    let some = subst (λ n. is_some (value_at (folded n) node.here.values) ≡ true) named c.in-Some-value_removal.ensures.found in
    omega (arith, sum)

pub overflow_cast-self : goal.overflow_cast-self
overflow_cast-self c =
    let now = c.args.self.now in
    let es = keys_in now in
    let root = keys_of c.self.inside.root in
    let keys = keys_are now c.self.inside.cap root c.self.view_is c.self.invariant.limits in
    let registry = registry_in now c.self.inside.cap root c.self.view_is c.self.invariant.limits in
    let node = c.in-Some.found.now in
    let at = c.in-Some.ensures in
    let key = c.args.key.now in
    let q = folded_parts key in
    let name = c.args.name.now in
    let stamp = c.args.stamp in
    let f : KeyData → KeyData = without_value name stamp in
    let growth = c.in-Some-value_removal.growth in
    let named = c.units.ensures.units in
    let sum = change_sum f q es node growth.added growth.freed registry at.at (subst (λ n. key_size q (without_value n stamp node.here) + growth.freed ≡ key_size q node.here + growth.added) named (c.in-Some-value_removal.ensures.exact q)) in
    let some = subst (λ n. is_some (value_at (folded n) node.here.values) ≡ true) named c.in-Some-value_removal.ensures.found in
    let told = c.size_after-size.ensures in
    let less = unset_smaller name stamp q es node.here registry at.at.here some in
    let counted = c.self.invariant.counted in
    let fits = c.self.invariant.fits in
    let most = c.self.invariant.range.1 in
    let sizes : size es ≡ size root = ap size keys in
    omega (arith, told, sum, less, sizes, counted, fits, most)

pub invariant_of-self : goal.invariant_of-self
invariant_of-self c =
    let now = c.args.self.now in
    let es = keys_in now in
    let root = keys_of c.self.inside.root in
    let keys = keys_are now c.self.inside.cap root c.self.view_is c.self.invariant.limits in
    let registry = registry_in now c.self.inside.cap root c.self.view_is c.self.invariant.limits in
    let node = c.in-Some.found.now in
    let at = c.in-Some.ensures in
    let key = c.args.key.now in
    let q = folded_parts key in
    let name = c.args.name.now in
    let stamp = c.args.stamp in
    let f : KeyData → KeyData = without_value name stamp in
    let growth = c.in-Some-value_removal.growth in
    let named = c.units.ensures.units in
    let sum = change_sum f q es node growth.added growth.freed registry at.at (subst (λ n. key_size q (without_value n stamp node.here) + growth.freed ≡ key_size q node.here + growth.added) named (c.in-Some-value_removal.ensures.exact q)) in
    let some = subst (λ n. is_some (value_at (folded n) node.here.values) ≡ true) named c.in-Some-value_removal.ensures.found in
    let news = at_key f q es in
    let next : keys_of c.delete_value.new.self ≡ news =
    c.delete_value.ensures.keys
    ∙ ap (λ n. at_key (without_value n stamp) (path_of c.units-in-Some-value_removal.result.now) root) c.units-in-Some-value_removal-2.ensures.units
    ∙ change_is f key c.units-in-Some-value_removal.result.now es root c.units-in-Some-value_removal.ensures.parts keys in
    let kept = registry_unset name stamp q es (omega arith) registry in
    let told = c.size_after-size.ensures in
    let less = unset_smaller name stamp q es node.here registry at.at.here some in
    let counted = c.self.invariant.counted in
    let fits = c.self.invariant.fits in
    let most = c.self.invariant.range.1 in
    let sizes : size es ≡ size root = ap size keys in
    record {
      limits = subst IsRegistry (sym next) kept;
      counted = size_is c.size_after-size.result growth.added growth.freed es news (keys_of c.delete_value.new.self) told sum next;
      fits = omega (arith, told, sum, less, sizes, counted, fits);
      range = c.self.invariant.range;
    }

pub returns-in-Some-value_removal : goal.returns-in-Some-value_removal
returns-in-Some-value_removal c =
    let now = c.args.self.now in
    let es = keys_in now in
    let root = keys_of c.self.inside.root in
    let keys = keys_are now c.self.inside.cap root c.self.view_is c.self.invariant.limits in
    let registry = registry_in now c.self.inside.cap root c.self.view_is c.self.invariant.limits in
    let node = c.in-Some.found.now in
    let at = c.in-Some.ensures in
    let key = c.args.key.now in
    let q = folded_parts key in
    let name = c.args.name.now in
    let stamp = c.args.stamp in
    let f : KeyData → KeyData = without_value name stamp in
    let growth = c.in-Some-value_removal.growth in
    let named = c.units.ensures.units in
    let sum = change_sum f q es node growth.added growth.freed registry at.at (subst (λ n. key_size q (without_value n stamp node.here) + growth.freed ≡ key_size q node.here + growth.added) named (c.in-Some-value_removal.ensures.exact q)) in
    let some = subst (λ n. is_some (value_at (folded n) node.here.values) ≡ true) named c.in-Some-value_removal.ensures.found in
    let news = at_key f q es in
    let next : keys_of c.delete_value.new.self ≡ news =
    c.delete_value.ensures.keys
    ∙ ap (λ n. at_key (without_value n stamp) (path_of c.units-in-Some-value_removal.result.now) root) c.units-in-Some-value_removal-2.ensures.units
    ∙ change_is f key c.units-in-Some-value_removal.result.now es root c.units-in-Some-value_removal.ensures.parts keys in
    let kept = registry_unset name stamp q es (omega arith) registry in
    let same : c.self.inside.cap ≡ now.cap = ap (λ (b : Contents). b.cap) c.self.view_is in
    changed now c.self.inside.cap (keys_of c.delete_value.new.self) c.done.result (if_born c.args.birth (key_at q es) es (delete_value_applied stamp key name es)) same (subst IsRegistry (sym next) kept)
    (value_goes c.args.birth key es node at stamp name some ∙ ap done (sym next) ∙ ap (comes_to (keys_of c.delete_value.new.self)) (sym c.done.ensures))
