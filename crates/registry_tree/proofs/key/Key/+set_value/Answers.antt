use Rattle.std.proofs.Common.{◌≡◌, [], ◌∷◌, set, sym, ap, ◌∙◌}
use Rattle.clus_names.specs.Folding.{folded}
use Rattle.registry_defs.specs.Keys.{KeyData}
use Rattle.registry_defs.specs.Changes.{at_key, with_value}
use Rattle.registry_defs.specs.Nodes.{Node, keys_of, name_of, spread, path_of}
use Rattle.registry_tree.specs.Places.{IsAt, IsGap}
use Rattle.registry_tree.proofs.Kept.{rising_set}
use Rattle.registry_tree.proofs.Plug.{at_key_plug}
use Rattle.registry_tree.proofs.Descents.{changed_into, missing_into, unchanged_missing}
use Rattle.registry_tree.proofs.key.Key.+set_value.Goals as goal

pub invariant_of-self-in-Ok : goal.invariant_of-self-in-Ok
invariant_of-self-in-Ok t c = record {
  values = c.self.invariant.values;
  subkeys = rising_set name_of c.self.inside.subkeys.items c.in-Ok.at c.index_mut-key.result.now c.set_value.new.self c.index_mut-key.ensures.value (ap folded c.set_value.ensures.part) c.self.invariant.subkeys;
}

pub returns-in_ok-set_value-in-Ok-clause-ok : goal.returns-in_ok-set_value-in-Ok-clause-ok
returns-in_ok-set_value-in-Ok-clause-ok t c =
    let at : IsAt name_of c.self.inside.subkeys.items (folded c.in-Some.part.now) c.in-Ok.at = rw c.deref.ensures.value at c.in-Ok.ensures.found in
    let below : c.args.self.now.below ≡ spread c.self.inside.subkeys.items = ap (λ (n : Node). n.below) (sym c.self.view_is) in
    let change : KeyData → KeyData = with_value c.args.name.now c.args.kind c.args.bytes c.args.stamp in
    ap (λ (n : Node). ([], n.here) ∷ spread (set c.self.inside.subkeys.items c.in-Ok.at c.set_value.new.self)) c.self.view_is
    ∙ changed_into (at_key change) c.args.self.now c.self.inside.subkeys.items c.args.path.now c.in-Some.part.now c.in-Some.rest.now c.in-Ok.at c.index_mut-key.result.now c.set_value.new.self
    below c.in-Some.ensures.parts at c.index_mut-key.ensures.value c.set_value.ensures.part c.in_ok-set_value-in-Ok.ensures.ok (λ p q front back frame es. at_key_plug p front back frame change q es)

pub returns-in-Err-clause-ok : goal.returns-in-Err-clause-ok
returns-in-Err-clause-ok t c =
    let gap : IsGap name_of c.self.inside.subkeys.items (folded c.in-Some.part.now) c.in-Err.field-0 = rw c.deref.ensures.value at c.in-Err.ensures.absent in
    let below : c.args.self.now.below ≡ spread c.self.inside.subkeys.items = ap (λ (n : Node). n.below) (sym c.self.view_is) in
    unchanged_missing (with_value c.args.name.now c.args.kind c.args.bytes c.args.stamp) (path_of c.args.path.now) (keys_of c.args.self.now)
    (missing_into c.args.self.now c.self.inside.subkeys.items c.args.path.now c.in-Some.part.now c.in-Some.rest.now c.in-Err.field-0 below c.in-Some.ensures.parts gap)
