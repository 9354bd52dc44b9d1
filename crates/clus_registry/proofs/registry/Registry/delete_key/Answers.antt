use Rattle.std.proofs.Common.{◌≡◌, true, false, ◌++◌, length, sym, ap, subst, ◌∙◌, arith}
use Rattle.clus_names.specs.Folding.{folded_parts}
use Rattle.registry_defs.specs.Applying.{done, if_born, delete_key_applied}
use Rattle.registry_defs.specs.Changes.{key_deleted}
use Rattle.registry_defs.specs.Contents.{Contents, keys_in}
use Rattle.registry_defs.specs.Keys.{KeyData, key_at}
use Rattle.registry_defs.specs.Limits.{IsRegistry}
use Rattle.registry_defs.specs.Nodes.{keys_of, name_of}
use Rattle.std.specs.Prelude.{is_some, nat_lt, option_map}
use Rattle.registry_defs.specs.Sections.{has_subkeys, parent_of}
use Rattle.registry_defs.specs.Sizes.{size}
use Rattle.registry_defs.proofs.Held.{keys_are, registry_in}
use Rattle.clus_registry.proofs.Seen.{comes_to, unchanged, changed}
use Rattle.registry_defs.proofs.Steps.{is_below, delete_sum, delete_smaller, below_within, delete_registry, joined_is}
use Rattle.clus_registry.proofs.Verdicts.{target_at, section_at, no_key, key_holds, key_goes}
use Rattle.clus_registry.proofs.registry.Registry.delete_key.Goals as goal

pub returns-in-None-find : goal.returns-in-None-find
returns-in-None-find c =
    let now = c.args.self.now in
    let es = keys_in now in
    let root = keys_of c.self.inside.root in
    let keys = keys_are now c.self.inside.cap root c.self.view_is c.self.invariant.limits in
    let registry = registry_in now c.self.inside.cap root c.self.view_is c.self.invariant.limits in
    let node = c.in-Some.found.now in
    let at = c.in-Some.ensures in
    let key = c.args.key.now in
    let q = folded_parts key in
    let subkey = c.args.subkey.now in
    let stamp = c.args.stamp in
    let path = folded_parts (key ++ subkey) in
    let missing = sym (target_at key subkey c.units.result.now es node at.at c.units.ensures.parts) ∙ c.in-None-find.ensures.found in
    unchanged now c.refused-in-None-find.result (if_born c.args.birth (key_at q es) es (delete_key_applied stamp path es))
    (no_key c.args.birth key es node at stamp path missing ∙ ap (comes_to es) (sym c.refused-in-None-find.ensures))

pub returns-then-has_subkeys : goal.returns-then-has_subkeys
returns-then-has_subkeys c =
    let now = c.args.self.now in
    let es = keys_in now in
    let root = keys_of c.self.inside.root in
    let keys = keys_are now c.self.inside.cap root c.self.view_is c.self.invariant.limits in
    let registry = registry_in now c.self.inside.cap root c.self.view_is c.self.invariant.limits in
    let node = c.in-Some.found.now in
    let at = c.in-Some.ensures in
    let key = c.args.key.now in
    let q = folded_parts key in
    let subkey = c.args.subkey.now in
    let stamp = c.args.stamp in
    let path = folded_parts (key ++ subkey) in
    let target = c.in-Some-find.target.now in
    let found = sym (target_at key subkey c.units.result.now es node at.at c.units.ensures.parts) ∙ c.in-Some-find.ensures.found in
    let all = section_at key subkey c.units.result.now es node target at.at c.units.ensures.parts c.in-Some-find.ensures.section in
    let more : has_subkeys path es ≡ true = ap (λ l. nat_lt 1 (length l)) (sym all) ∙ sym c.has_subkeys.ensures ∙ c.if-has_subkeys.true in
    unchanged now c.refused-then-has_subkeys.result (if_born c.args.birth (key_at q es) es (delete_key_applied stamp path es))
    (key_holds c.args.birth key es node at stamp path target.here found more ∙ ap (comes_to es) (sym c.refused-then-has_subkeys.ensures))

pub own_size-freed-requires : goal.own_size-freed-requires
own_size-freed-requires c =
    let now = c.args.self.now in
    let es = keys_in now in
    let root = keys_of c.self.inside.root in
    let keys = keys_are now c.self.inside.cap root c.self.view_is c.self.invariant.limits in
    let registry = registry_in now c.self.inside.cap root c.self.view_is c.self.invariant.limits in
    let node = c.in-Some.found.now in
    let at = c.in-Some.ensures in
    let key = c.args.key.now in
    let q = folded_parts key in
    let subkey = c.args.subkey.now in
    let stamp = c.args.stamp in
    let path = folded_parts (key ++ subkey) in
    let target = c.in-Some-find.target.now in
    let found = sym (target_at key subkey c.units.result.now es node at.at c.units.ensures.parts) ∙ c.in-Some-find.ensures.found in
    let below = is_below key subkey c.requires.valid in
    let within = below_within path (name_of target) target.here es below registry found in
    let counted = c.self.invariant.counted in
    let fits = c.self.invariant.fits in
    let most = c.self.invariant.range.1 in
    let sizes : size es ≡ size root = ap size keys in
    omega (arith, within, counted, fits, most, sizes)

pub remove-written-requires-clause-there : goal.remove-written-requires-clause-there
remove-written-requires-clause-there c =
    let now = c.args.self.now in
    let es = keys_in now in
    let root = keys_of c.self.inside.root in
    let keys = keys_are now c.self.inside.cap root c.self.view_is c.self.invariant.limits in
    let registry = registry_in now c.self.inside.cap root c.self.view_is c.self.invariant.limits in
    let node = c.in-Some.found.now in
    let at = c.in-Some.ensures in
    let key = c.args.key.now in
    let q = folded_parts key in
    let subkey = c.args.subkey.now in
    let stamp = c.args.stamp in
    let path = folded_parts (key ++ subkey) in
    let target = c.in-Some-find.target.now in
    let found = sym (target_at key subkey c.units.result.now es node at.at c.units.ensures.parts) ∙ c.in-Some-find.ensures.found in
    let joined = joined_is key subkey c.units-in-Some-find.result.now c.units-in-Some-find-2.result.now c.units-in-Some-find.ensures.parts c.units-in-Some-find-2.ensures.parts in
    ap (λ l. is_some (key_at l root)) joined ∙ ap (λ l. is_some (key_at path l)) (sym keys) ∙ ap is_some found

pub remove-written-requires-clause-leaf : goal.remove-written-requires-clause-leaf
remove-written-requires-clause-leaf c =
    let now = c.args.self.now in
    let es = keys_in now in
    let root = keys_of c.self.inside.root in
    let keys = keys_are now c.self.inside.cap root c.self.view_is c.self.invariant.limits in
    let registry = registry_in now c.self.inside.cap root c.self.view_is c.self.invariant.limits in
    let node = c.in-Some.found.now in
    let at = c.in-Some.ensures in
    let key = c.args.key.now in
    let q = folded_parts key in
    let subkey = c.args.subkey.now in
    let stamp = c.args.stamp in
    let path = folded_parts (key ++ subkey) in
    let target = c.in-Some-find.target.now in
    let found = sym (target_at key subkey c.units.result.now es node at.at c.units.ensures.parts) ∙ c.in-Some-find.ensures.found in
    let all = section_at key subkey c.units.result.now es node target at.at c.units.ensures.parts c.in-Some-find.ensures.section in
    let leaf : has_subkeys path es ≡ false = ap (λ l. nat_lt 1 (length l)) (sym all) ∙ sym c.has_subkeys.ensures ∙ c.if-has_subkeys.false in
    let joined = joined_is key subkey c.units-in-Some-find.result.now c.units-in-Some-find-2.result.now c.units-in-Some-find.ensures.parts c.units-in-Some-find-2.ensures.parts in
    ap (λ l. has_subkeys l root) joined ∙ ap (has_subkeys path) (sym keys) ∙ leaf

pub overflow_sub-self : goal.overflow_sub-self
overflow_sub-self c =
    let now = c.args.self.now in
    let es = keys_in now in
    let root = keys_of c.self.inside.root in
    let keys = keys_are now c.self.inside.cap root c.self.view_is c.self.invariant.limits in
    let registry = registry_in now c.self.inside.cap root c.self.view_is c.self.invariant.limits in
    let node = c.in-Some.found.now in
    let at = c.in-Some.ensures in
    let key = c.args.key.now in
    let q = folded_parts key in
    let subkey = c.args.subkey.now in
    let stamp = c.args.stamp in
    let path = folded_parts (key ++ subkey) in
    let target = c.in-Some-find.target.now in
    let found = sym (target_at key subkey c.units.result.now es node at.at c.units.ensures.parts) ∙ c.in-Some-find.ensures.found in
    let joined = joined_is key subkey c.units-in-Some-find.result.now c.units-in-Some-find-2.result.now c.units-in-Some-find.ensures.parts c.units-in-Some-find-2.ensures.parts in
    let was = ap (λ l. option_map (λ (k : KeyData). k.written) (key_at (parent_of path) l)) keys ∙ ap (λ l. option_map (λ (k : KeyData). k.written) (key_at (parent_of l) root)) (sym joined) ∙ c.remove-written.ensures.was in
    let sum = delete_sum stamp c.remove-written.result path (name_of target) target.here es (is_below key subkey c.requires.valid) registry found was in
    let own = c.own_size-freed.ensures in
    let first = c.written_size.ensures in
    let counted = c.self.invariant.counted in
    let sizes : size es ≡ size root = ap size keys in
    omega (arith, sum, own, first, counted, sizes)

pub overflow_sub-self-in-Some-find : goal.overflow_sub-self-in-Some-find
overflow_sub-self-in-Some-find c =
    let now = c.args.self.now in
    let es = keys_in now in
    let root = keys_of c.self.inside.root in
    let keys = keys_are now c.self.inside.cap root c.self.view_is c.self.invariant.limits in
    let registry = registry_in now c.self.inside.cap root c.self.view_is c.self.invariant.limits in
    let node = c.in-Some.found.now in
    let at = c.in-Some.ensures in
    let key = c.args.key.now in
    let q = folded_parts key in
    let subkey = c.args.subkey.now in
    let stamp = c.args.stamp in
    let path = folded_parts (key ++ subkey) in
    let target = c.in-Some-find.target.now in
    let found = sym (target_at key subkey c.units.result.now es node at.at c.units.ensures.parts) ∙ c.in-Some-find.ensures.found in
    let joined = joined_is key subkey c.units-in-Some-find.result.now c.units-in-Some-find-2.result.now c.units-in-Some-find.ensures.parts c.units-in-Some-find-2.ensures.parts in
    let was = ap (λ l. option_map (λ (k : KeyData). k.written) (key_at (parent_of path) l)) keys ∙ ap (λ l. option_map (λ (k : KeyData). k.written) (key_at (parent_of l) root)) (sym joined) ∙ c.remove-written.ensures.was in
    let sum = delete_sum stamp c.remove-written.result path (name_of target) target.here es (is_below key subkey c.requires.valid) registry found was in
    let own = c.own_size-freed.ensures in
    let first = c.written_size.ensures in
    let counted = c.self.invariant.counted in
    let sizes : size es ≡ size root = ap size keys in
    let second = c.written_size-in-Some-find.ensures in
    omega (arith, sum, own, first, second, counted, sizes)

pub invariant_of-self : goal.invariant_of-self
invariant_of-self c =
    let now = c.args.self.now in
    let es = keys_in now in
    let root = keys_of c.self.inside.root in
    let keys = keys_are now c.self.inside.cap root c.self.view_is c.self.invariant.limits in
    let registry = registry_in now c.self.inside.cap root c.self.view_is c.self.invariant.limits in
    let node = c.in-Some.found.now in
    let at = c.in-Some.ensures in
    let key = c.args.key.now in
    let q = folded_parts key in
    let subkey = c.args.subkey.now in
    let stamp = c.args.stamp in
    let path = folded_parts (key ++ subkey) in
    let target = c.in-Some-find.target.now in
    let found = sym (target_at key subkey c.units.result.now es node at.at c.units.ensures.parts) ∙ c.in-Some-find.ensures.found in
    let all = section_at key subkey c.units.result.now es node target at.at c.units.ensures.parts c.in-Some-find.ensures.section in
    let leaf : has_subkeys path es ≡ false = ap (λ l. nat_lt 1 (length l)) (sym all) ∙ sym c.has_subkeys.ensures ∙ c.if-has_subkeys.false in
    let joined = joined_is key subkey c.units-in-Some-find.result.now c.units-in-Some-find-2.result.now c.units-in-Some-find.ensures.parts c.units-in-Some-find-2.ensures.parts in
    let news = key_deleted stamp path es in
    let next : keys_of c.remove-written.new.self ≡ news = c.remove-written.ensures.keys ∙ ap (λ l. key_deleted stamp l root) joined ∙ ap (key_deleted stamp path) (sym keys) in
    let below = is_below key subkey c.requires.valid in
    let kept = delete_registry stamp path target.here es below registry (omega arith) found leaf in
    let was = ap (λ l. option_map (λ (k : KeyData). k.written) (key_at (parent_of path) l)) keys ∙ ap (λ l. option_map (λ (k : KeyData). k.written) (key_at (parent_of l) root)) (sym joined) ∙ c.remove-written.ensures.was in
    let sum = delete_sum stamp c.remove-written.result path (name_of target) target.here es (is_below key subkey c.requires.valid) registry found was in
    let own = c.own_size-freed.ensures in
    let first = c.written_size.ensures in
    let counted = c.self.invariant.counted in
    let sizes : size es ≡ size root = ap size keys in
    let second = c.written_size-in-Some-find.ensures in
    let less = delete_smaller stamp c.remove-written.result path (name_of target) target.here es sum in
    let fits = c.self.invariant.fits in
    record {
      limits = subst IsRegistry (sym next) kept;
      counted = omega (arith, sum, own, first, second, counted, sizes, ap size next);
      fits = omega (arith, sum, own, first, second, counted, sizes, less, fits);
      range = c.self.invariant.range;
    }

pub returns-else-has_subkeys : goal.returns-else-has_subkeys
returns-else-has_subkeys c =
    let now = c.args.self.now in
    let es = keys_in now in
    let root = keys_of c.self.inside.root in
    let keys = keys_are now c.self.inside.cap root c.self.view_is c.self.invariant.limits in
    let registry = registry_in now c.self.inside.cap root c.self.view_is c.self.invariant.limits in
    let node = c.in-Some.found.now in
    let at = c.in-Some.ensures in
    let key = c.args.key.now in
    let q = folded_parts key in
    let subkey = c.args.subkey.now in
    let stamp = c.args.stamp in
    let path = folded_parts (key ++ subkey) in
    let target = c.in-Some-find.target.now in
    let found = sym (target_at key subkey c.units.result.now es node at.at c.units.ensures.parts) ∙ c.in-Some-find.ensures.found in
    let all = section_at key subkey c.units.result.now es node target at.at c.units.ensures.parts c.in-Some-find.ensures.section in
    let leaf : has_subkeys path es ≡ false = ap (λ l. nat_lt 1 (length l)) (sym all) ∙ sym c.has_subkeys.ensures ∙ c.if-has_subkeys.false in
    let joined = joined_is key subkey c.units-in-Some-find.result.now c.units-in-Some-find-2.result.now c.units-in-Some-find.ensures.parts c.units-in-Some-find-2.ensures.parts in
    let news = key_deleted stamp path es in
    let next : keys_of c.remove-written.new.self ≡ news = c.remove-written.ensures.keys ∙ ap (λ l. key_deleted stamp l root) joined ∙ ap (key_deleted stamp path) (sym keys) in
    let below = is_below key subkey c.requires.valid in
    let kept = delete_registry stamp path target.here es below registry (omega arith) found leaf in
    let same : c.self.inside.cap ≡ now.cap = ap (λ (b : Contents). b.cap) c.self.view_is in
    changed now c.self.inside.cap (keys_of c.remove-written.new.self) c.done.result (if_born c.args.birth (key_at q es) es (delete_key_applied stamp path es)) same (subst IsRegistry (sym next) kept)
    (key_goes c.args.birth key es node at stamp path target.here found leaf ∙ ap done (sym next) ∙ ap (comes_to (keys_of c.remove-written.new.self)) (sym c.done.ensures))
