use Rattle.std.proofs.Common.{◌≡◌, List, [], ◌∷◌, set, sym, ap, subst, ◌∙◌}
use Rattle.clus_names.specs.Folding.{folded, name_cmp}
use Rattle.registry_defs.specs.Rising.{Rising}
use Rattle.registry_defs.specs.Changes.{stamped}
use Rattle.registry_defs.specs.Nodes.{Node, name_of, spread}
use Rattle.registry_tree.specs.Places.{IsAt, IsGap}
use Rattle.registry_tree.proofs.Kept.{rising_set, rising_insert}
use Rattle.registry_tree.proofs.Creations.{create_into, create_here}
use Rattle.registry_tree.proofs.key.Key.+create_below.Goals as goal

pub invariant_of-self-in-Ok : goal.invariant_of-self-in-Ok
invariant_of-self-in-Ok t c = record {
  values = c.self.invariant.values;
  subkeys = rising_set name_of c.self.inside.subkeys.items c.in-Ok.at c.index_mut-key.result.now c.create_below.new.self c.index_mut-key.ensures.value (ap folded c.create_below.ensures.part) c.self.invariant.subkeys;
}

pub invariant_of-self-in-Err : goal.invariant_of-self-in-Err
invariant_of-self-in-Err t c = record {
  values = c.self.invariant.values;
  subkeys =
      let gap : IsGap name_of c.self.inside.subkeys.items (folded c.in-Some.part.now) c.in-Err.at = rw c.deref.ensures.value at c.in-Err.ensures.absent in
      subst (λ (l : List Node). Rising name_cmp name_of l) (sym c.in_ok-insert_at-in-Err.ensures.ok)
      (rising_insert name_of c.self.inside.subkeys.items c.in-Err.at c.in_ok-made-in-Err.made (folded c.in-Some.part.now) gap (ap folded c.in_ok-made-in-Err.ensures.part) c.self.invariant.subkeys);
}

pub returns-in_ok-create_below-in-Ok-clause-ok : goal.returns-in_ok-create_below-in-Ok-clause-ok
returns-in_ok-create_below-in-Ok-clause-ok t c =
    let at : IsAt name_of c.self.inside.subkeys.items (folded c.in-Some.part.now) c.in-Ok.at = rw c.deref.ensures.value at c.in-Ok.ensures.found in
    let below : c.args.self.now.below ≡ spread c.self.inside.subkeys.items = ap (λ (n : Node). n.below) (sym c.self.view_is) in
    ap (λ (n : Node). ([], n.here) ∷ spread (set c.self.inside.subkeys.items c.in-Ok.at c.create_below.new.self)) c.self.view_is
    ∙ create_into c.args.place c.args.stamp c.args.self.now c.self.inside.subkeys.items c.args.below.now c.in-Some.part.now c.in-Some.rest.now c.in-Ok.at c.index_mut-key.result.now c.create_below.new.self
    below c.in-Some.ensures.parts at c.index_mut-key.ensures.value c.create_below.ensures.part c.in_ok-create_below-in-Ok.ensures.ok

pub returns-in_ok-insert_at-in-Err-clause-ok : goal.returns-in_ok-insert_at-in-Err-clause-ok
returns-in_ok-insert_at-in-Err-clause-ok t c =
    let gap : IsGap name_of c.self.inside.subkeys.items (folded c.in-Some.part.now) c.in-Err.at = rw c.deref.ensures.value at c.in-Err.ensures.absent in
    let below : c.args.self.now.below ≡ spread c.self.inside.subkeys.items = ap (λ (n : Node). n.below) (sym c.self.view_is) in
    ap (λ (n : Node). ([], stamped c.args.stamp n.here) ∷ spread c.insert_at.new.items.items) c.self.view_is
    ∙ ap (λ (l : List Node). ([], stamped c.args.stamp c.args.self.now.here) ∷ spread l) c.in_ok-insert_at-in-Err.ensures.ok
    ∙ create_here c.args.place c.args.stamp c.args.self.now c.self.inside.subkeys.items c.args.below.now c.in-Some.part.now c.in-Some.rest.now c.in-Err.at c.in_ok-made-in-Err.made
    below c.in-Some.ensures.parts gap c.in_ok-made-in-Err.ensures.part c.in_ok-made-in-Err.ensures.keys
