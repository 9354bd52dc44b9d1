use Rattle.std.proofs.Common.{◌≡◌, [], ◌∷◌, ◌++◌, set, sym, ap, subst, ◌∙◌, arith}
use Rattle.std.specs.Prelude.{IsSome}
use Rattle.clus_names.specs.Folding.{folded}
use Rattle.registry_defs.specs.Keys.{key_at}
use Rattle.registry_defs.specs.Sections.{has_subkeys, parent_of}
use Rattle.registry_defs.specs.Changes.{key_deleted}
use Rattle.registry_defs.specs.Nodes.{Node, name_of, spread, path_of}
use Rattle.registry_tree.specs.Places.{IsAt, IsGap}
use Rattle.registry_tree.proofs.Kept.{rising_set}
use Rattle.registry_tree.proofs.Plug.{find_plug}
use Rattle.registry_tree.proofs.Descents.{read_into, changed_into}
use Rattle.registry_tree.proofs.Deletions.{deleted_law, parent_law, leaf_law, written_at, some_path, some_joined, missing_below}
use Rattle.registry_tree.proofs.key.Key.+remove.Goals as goal

pub remove-requires : goal.remove-requires
remove-requires t c =
    let at : IsAt name_of c.self.inside.subkeys.items (folded c.in-Some.part.now) c.in-Ok.at = rw c.deref.ensures.value at c.in-Ok.ensures.found in
    let below : c.args.self.now.below ≡ spread c.self.inside.subkeys.items = ap (λ (n : Node). n.below) (sym c.self.view_is) in
    let r = path_of c.args.below.now in
    let there = read_into (λ q es. key_at (q ++ r) es) c.args.self.now c.self.inside.subkeys.items c.args.path.now c.in-Some.part.now c.in-Some.rest.now c.in-Ok.at c.index_mut-key.result.now below c.in-Some.ensures.parts at c.index_mut-key.ensures.value (λ p q front back frame es. find_plug p front back frame (q ++ r) es) in
    let leaf = read_into (λ q es. has_subkeys (q ++ r) es) c.args.self.now c.self.inside.subkeys.items c.args.path.now c.in-Some.part.now c.in-Some.rest.now c.in-Ok.at c.index_mut-key.result.now below c.in-Some.ensures.parts at c.index_mut-key.ensures.value (λ p q. leaf_law p (q ++ r)) in
    (omega (arith, c.in-Some.ensures.shorter, c.decreases), (c.requires.some, (subst IsSome there c.requires.there, sym leaf ∙ c.requires.leaf)))

pub invariant_of-self : goal.invariant_of-self
invariant_of-self t c = record {
  values = c.self.invariant.values;
  subkeys = rising_set name_of c.self.inside.subkeys.items c.in-Ok.at c.index_mut-key.result.now c.remove.new.self c.index_mut-key.ensures.value (ap folded c.remove.ensures.part) c.self.invariant.subkeys;
}

pub unreachable-requires : goal.unreachable-requires
unreachable-requires t c =
    let gap : IsGap name_of c.self.inside.subkeys.items (folded c.in-Some.part.now) c.in-Err.field-0 = rw c.deref.ensures.value at c.in-Err.ensures.absent in
    let below : c.args.self.now.below ≡ spread c.self.inside.subkeys.items = ap (λ (n : Node). n.below) (sym c.self.view_is) in
    missing_below c.args.self.now c.self.inside.subkeys.items c.args.path.now c.in-Some.part.now c.in-Some.rest.now (path_of c.args.below.now) c.in-Err.field-0 below c.in-Some.ensures.parts gap c.requires.there

pub returns-in-Ok-clause-keys : goal.returns-in-Ok-clause-keys
returns-in-Ok-clause-keys t c =
    let at : IsAt name_of c.self.inside.subkeys.items (folded c.in-Some.part.now) c.in-Ok.at = rw c.deref.ensures.value at c.in-Ok.ensures.found in
    let below : c.args.self.now.below ≡ spread c.self.inside.subkeys.items = ap (λ (n : Node). n.below) (sym c.self.view_is) in
    let r = path_of c.args.below.now in
    ap (λ (n : Node). ([], n.here) ∷ spread (set c.self.inside.subkeys.items c.in-Ok.at c.remove.new.self)) c.self.view_is
    ∙ changed_into (λ q es. key_deleted c.args.stamp (q ++ r) es) c.args.self.now c.self.inside.subkeys.items c.args.path.now c.in-Some.part.now c.in-Some.rest.now c.in-Ok.at c.index_mut-key.result.now c.remove.new.self
    below c.in-Some.ensures.parts at c.index_mut-key.ensures.value c.remove.ensures.part c.remove.ensures.keys
    (λ p q. deleted_law c.args.stamp p (q ++ r) (some_joined q r (some_path c.args.below.now c.requires.some)))

pub returns-in-Ok-clause-was : goal.returns-in-Ok-clause-was
returns-in-Ok-clause-was t c =
    let at : IsAt name_of c.self.inside.subkeys.items (folded c.in-Some.part.now) c.in-Ok.at = rw c.deref.ensures.value at c.in-Ok.ensures.found in
    let below : c.args.self.now.below ≡ spread c.self.inside.subkeys.items = ap (λ (n : Node). n.below) (sym c.self.view_is) in
    let r = path_of c.args.below.now in
    read_into (λ q es. written_at (key_at (parent_of (q ++ r)) es)) c.args.self.now c.self.inside.subkeys.items c.args.path.now c.in-Some.part.now c.in-Some.rest.now c.in-Ok.at c.index_mut-key.result.now below c.in-Some.ensures.parts at c.index_mut-key.ensures.value (λ p q. parent_law p (q ++ r) (some_joined q r (some_path c.args.below.now c.requires.some)))
    ∙ c.remove.ensures.was
