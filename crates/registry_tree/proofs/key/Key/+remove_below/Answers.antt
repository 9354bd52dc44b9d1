use Rattle.std.proofs.Common.{◌≡◌, List, [], ◌∷◌, set, sym, ap, subst, ◌∙◌, arith}
use Rattle.std.specs.Prelude.{IsSome}
use Rattle.clus_names.specs.Folding.{folded, name_cmp}
use Rattle.registry_defs.specs.Keys.{key_at}
use Rattle.registry_defs.specs.Sections.{has_subkeys}
use Rattle.registry_defs.specs.Rising.{Rising}
use Rattle.registry_defs.specs.Changes.{stamped}
use Rattle.registry_defs.specs.Nodes.{Node, name_of, spread}
use Rattle.registry_tree.specs.Places.{IsAt, IsGap}
use Rattle.registry_tree.proofs.Kept.{rising_set, rising_remove}
use Rattle.registry_tree.proofs.Plug.{find_plug}
use Rattle.registry_tree.proofs.Descents.{read_into, missing_into}
use Rattle.registry_tree.proofs.Deletions.{leaf_law, no_key, some_path, some_parts, delete_here, delete_into, parent_into}
use Rattle.registry_tree.proofs.key.Key.+remove_below.Goals as goal

pub invariant_of-self : goal.invariant_of-self
invariant_of-self t c = record {
  values = c.self.invariant.values;
  subkeys = subst (λ (l : List Node). Rising name_cmp name_of l) (sym c.remove.ensures.items) (rising_remove name_of c.self.inside.subkeys.items c.in-Ok.at c.self.invariant.subkeys);
}

pub remove_below-requires : goal.remove_below-requires
remove_below-requires t c =
    let at : IsAt name_of c.self.inside.subkeys.items (folded c.in-Some.part.now) c.in-Ok.at = rw c.deref.ensures.value at c.in-Ok.ensures.found in
    let below : c.args.self.now.below ≡ spread c.self.inside.subkeys.items = ap (λ (n : Node). n.below) (sym c.self.view_is) in
    let there = read_into key_at c.args.self.now c.self.inside.subkeys.items c.args.below.now c.in-Some.part.now c.in-Some.rest.now c.in-Ok.at c.index_mut-key.result.now below c.in-Some.ensures.parts at c.index_mut-key.ensures.value (λ p q front back frame es. find_plug p front back frame q es) in
    let leaf = read_into has_subkeys c.args.self.now c.self.inside.subkeys.items c.args.below.now c.in-Some.part.now c.in-Some.rest.now c.in-Ok.at c.index_mut-key.result.now below c.in-Some.ensures.parts at c.index_mut-key.ensures.value leaf_law in
    (omega (arith, c.in-Some.ensures.shorter, c.decreases), (some_parts c.in-Some.rest.now c.in-Some-split_first_part.field-0.0.now c.in-Some-split_first_part.field-0.1.now c.in-Some-split_first_part.ensures.parts, (subst IsSome there c.requires.there, sym leaf ∙ c.requires.leaf)))

pub invariant_of-self-in-Some-split_first_part : goal.invariant_of-self-in-Some-split_first_part
invariant_of-self-in-Some-split_first_part t c = record {
  values = c.self.invariant.values;
  subkeys = rising_set name_of c.self.inside.subkeys.items c.in-Ok.at c.index_mut-key.result.now c.remove_below.new.self c.index_mut-key.ensures.value (ap folded c.remove_below.ensures.part) c.self.invariant.subkeys;
}

pub unreachable-requires-in-Err : goal.unreachable-requires-in-Err
unreachable-requires-in-Err t c =
    let gap : IsGap name_of c.self.inside.subkeys.items (folded c.in-Some.part.now) c.in-Err.field-0 = rw c.deref.ensures.value at c.in-Err.ensures.absent in
    let below : c.args.self.now.below ≡ spread c.self.inside.subkeys.items = ap (λ (n : Node). n.below) (sym c.self.view_is) in
    no_key (subst IsSome (missing_into c.args.self.now c.self.inside.subkeys.items c.args.below.now c.in-Some.part.now c.in-Some.rest.now c.in-Err.field-0 below c.in-Some.ensures.parts gap) c.requires.there)

pub returns-in-None-split_first_part-clause-keys : goal.returns-in-None-split_first_part-clause-keys
returns-in-None-split_first_part-clause-keys t c =
    let at : IsAt name_of c.self.inside.subkeys.items (folded c.in-Some.part.now) c.in-Ok.at = rw c.deref.ensures.value at c.in-Ok.ensures.found in
    let below : c.args.self.now.below ≡ spread c.self.inside.subkeys.items = ap (λ (n : Node). n.below) (sym c.self.view_is) in
    ap (λ (n : Node). ([], stamped c.args.stamp n.here) ∷ spread c.remove.new.self.items) c.self.view_is
    ∙ ap (λ (l : List Node). ([], stamped c.args.stamp c.args.self.now.here) ∷ spread l) c.remove.ensures.items
    ∙ delete_here c.args.stamp c.args.self.now c.self.inside.subkeys.items c.args.below.now c.in-Some.part.now c.in-Some.rest.now c.in-Ok.at c.remove.result
    below c.in-Some.ensures.parts at c.remove.ensures.value c.in-None-split_first_part.ensures.parts c.requires.leaf

pub returns-in-Some-split_first_part-clause-keys : goal.returns-in-Some-split_first_part-clause-keys
returns-in-Some-split_first_part-clause-keys t c =
    let at : IsAt name_of c.self.inside.subkeys.items (folded c.in-Some.part.now) c.in-Ok.at = rw c.deref.ensures.value at c.in-Ok.ensures.found in
    let below : c.args.self.now.below ≡ spread c.self.inside.subkeys.items = ap (λ (n : Node). n.below) (sym c.self.view_is) in
    ap (λ (n : Node). ([], n.here) ∷ spread (set c.self.inside.subkeys.items c.in-Ok.at c.remove_below.new.self)) c.self.view_is
    ∙ delete_into c.args.stamp c.args.self.now c.self.inside.subkeys.items c.args.below.now c.in-Some.part.now c.in-Some.rest.now c.in-Ok.at c.index_mut-key.result.now
    below c.in-Some.ensures.parts at c.index_mut-key.ensures.value c.remove_below.new.self (some_path c.in-Some.rest.now (some_parts c.in-Some.rest.now c.in-Some-split_first_part.field-0.0.now c.in-Some-split_first_part.field-0.1.now c.in-Some-split_first_part.ensures.parts)) c.remove_below.ensures.part c.remove_below.ensures.keys

pub returns-in-Some-split_first_part-clause-was : goal.returns-in-Some-split_first_part-clause-was
returns-in-Some-split_first_part-clause-was t c =
    let at : IsAt name_of c.self.inside.subkeys.items (folded c.in-Some.part.now) c.in-Ok.at = rw c.deref.ensures.value at c.in-Ok.ensures.found in
    let below : c.args.self.now.below ≡ spread c.self.inside.subkeys.items = ap (λ (n : Node). n.below) (sym c.self.view_is) in
    parent_into c.args.stamp c.args.self.now c.self.inside.subkeys.items c.args.below.now c.in-Some.part.now c.in-Some.rest.now c.in-Ok.at c.index_mut-key.result.now
    below c.in-Some.ensures.parts at c.index_mut-key.ensures.value (some_path c.in-Some.rest.now (some_parts c.in-Some.rest.now c.in-Some-split_first_part.field-0.0.now c.in-Some-split_first_part.field-0.1.now c.in-Some-split_first_part.ensures.parts))
    ∙ c.remove_below.ensures.was
