use Rattle.std.proofs.Common.{◌≡◌, [], ◌∷◌, set, sym, ap, subst, ◌∙◌, arith}
use Rattle.std.specs.Prelude.{IsSome}
use Rattle.clus_names.specs.Folding.{folded}
use Rattle.clus_names.specs.Parts.{parts_of}
use Rattle.registry_defs.specs.Keys.{key_at}
use Rattle.registry_defs.specs.Changes.{created}
use Rattle.registry_defs.specs.Nodes.{Node, name_of, spread}
use Rattle.registry_tree.specs.Places.{IsAt, IsGap}
use Rattle.registry_tree.proofs.Kept.{rising_set}
use Rattle.registry_tree.proofs.Plug.{created_plug, find_plug}
use Rattle.registry_tree.proofs.Descents.{read_into, changed_into, missing_into}
use Rattle.registry_tree.proofs.Deletions.{no_key}
use Rattle.registry_tree.proofs.key.Key.+create.Goals as goal

pub invariant_of-self-in-Ok : goal.invariant_of-self-in-Ok
invariant_of-self-in-Ok t c = record {
  values = c.self.invariant.values;
  subkeys = rising_set name_of c.self.inside.subkeys.items c.in-Ok.at c.index_mut-key.result.now c.create.new.self c.index_mut-key.ensures.value (ap folded c.create.ensures.part) c.self.invariant.subkeys;
}

pub create-requires : goal.create-requires
create-requires t c =
    let at : IsAt name_of c.self.inside.subkeys.items (folded c.in-Some.part.now) c.in-Ok.at = rw c.deref.ensures.value at c.in-Ok.ensures.found in
    let below : c.args.self.now.below ≡ spread c.self.inside.subkeys.items = ap (λ (n : Node). n.below) (sym c.self.view_is) in
    let there = read_into key_at c.args.self.now c.self.inside.subkeys.items c.args.path.now c.in-Some.part.now c.in-Some.rest.now c.in-Ok.at c.index_mut-key.result.now below c.in-Some.ensures.parts at c.index_mut-key.ensures.value (λ p q front back frame es. find_plug p front back frame q es) in
    (omega (arith, c.in-Some.ensures.shorter, c.decreases), subst IsSome there c.requires.there)

pub unreachable-requires : goal.unreachable-requires
unreachable-requires t c =
    let gap : IsGap name_of c.self.inside.subkeys.items (folded c.in-Some.part.now) c.in-Err.field-0 = rw c.deref.ensures.value at c.in-Err.ensures.absent in
    let below : c.args.self.now.below ≡ spread c.self.inside.subkeys.items = ap (λ (n : Node). n.below) (sym c.self.view_is) in
    no_key (subst IsSome (missing_into c.args.self.now c.self.inside.subkeys.items c.args.path.now c.in-Some.part.now c.in-Some.rest.now c.in-Err.field-0 below c.in-Some.ensures.parts gap) c.requires.there)

pub returns-in_ok-create-in-Ok-clause-ok : goal.returns-in_ok-create-in-Ok-clause-ok
returns-in_ok-create-in-Ok-clause-ok t c =
    let at : IsAt name_of c.self.inside.subkeys.items (folded c.in-Some.part.now) c.in-Ok.at = rw c.deref.ensures.value at c.in-Ok.ensures.found in
    let below : c.args.self.now.below ≡ spread c.self.inside.subkeys.items = ap (λ (n : Node). n.below) (sym c.self.view_is) in
    let parts = parts_of c.args.below.now in
    ap (λ (n : Node). ([], n.here) ∷ spread (set c.self.inside.subkeys.items c.in-Ok.at c.create.new.self)) c.self.view_is
    ∙ changed_into (λ q es. created c.args.place c.args.stamp q parts es) c.args.self.now c.self.inside.subkeys.items c.args.path.now c.in-Some.part.now c.in-Some.rest.now c.in-Ok.at c.index_mut-key.result.now c.create.new.self
    below c.in-Some.ensures.parts at c.index_mut-key.ensures.value c.create.ensures.part c.in_ok-create-in-Ok.ensures.ok (λ p q front back frame es. created_plug p front back frame c.args.place c.args.stamp q parts es)
