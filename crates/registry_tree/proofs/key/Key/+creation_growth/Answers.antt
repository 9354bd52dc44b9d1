use Rattle.std.proofs.Common.{◌≡◌, ◌+◌, sym, ap, ◌∙◌}
use Rattle.clus_names.specs.Folding.{folded}
use Rattle.registry_defs.specs.Nodes.{Node, name_of, spread}
use Rattle.registry_defs.specs.Sizes.{written_size}
use Rattle.registry_tree.specs.Places.{IsAt, IsGap}
use Rattle.registry_tree.proofs.Creations.{added_into, freed_into, added_here, freed_here}
use Rattle.registry_tree.proofs.key.Key.+creation_growth.Goals as goal

pub returns-in-Ok-clause-added : goal.returns-in-Ok-clause-added
returns-in-Ok-clause-added t c =
    let at : IsAt name_of c.self.inside.subkeys.items (folded c.in-Some.part.now) c.in-Ok.at = rw c.deref.ensures.value at c.in-Ok.ensures.found in
    let below : c.args.self.now.below ≡ spread c.self.inside.subkeys.items = ap (λ (n : Node). n.below) (sym c.self.view_is) in
    c.creation_growth.ensures.added
    ∙ sym (added_into c.args.self.now c.self.inside.subkeys.items c.args.below.now c.in-Some.part.now c.in-Some.rest.now c.in-Ok.at below c.in-Some.ensures.parts c.args.stamp c.index-key.result.now at c.index-key.ensures)

pub returns-in-Ok-clause-freed : goal.returns-in-Ok-clause-freed
returns-in-Ok-clause-freed t c =
    let at : IsAt name_of c.self.inside.subkeys.items (folded c.in-Some.part.now) c.in-Ok.at = rw c.deref.ensures.value at c.in-Ok.ensures.found in
    let below : c.args.self.now.below ≡ spread c.self.inside.subkeys.items = ap (λ (n : Node). n.below) (sym c.self.view_is) in
    c.creation_growth.ensures.freed
    ∙ sym (freed_into c.args.self.now c.self.inside.subkeys.items c.args.below.now c.in-Some.part.now c.in-Some.rest.now c.in-Ok.at below c.in-Some.ensures.parts c.index-key.result.now at c.index-key.ensures)

pub returns-in-Err-clause-added : goal.returns-in-Err-clause-added
returns-in-Err-clause-added t c =
    let gap : IsGap name_of c.self.inside.subkeys.items (folded c.in-Some.part.now) c.in-Err.field-0 = rw c.deref.ensures.value at c.in-Err.ensures.absent in
    let below : c.args.self.now.below ≡ spread c.self.inside.subkeys.items = ap (λ (n : Node). n.below) (sym c.self.view_is) in
    (λ i. c.written_size.ensures.exact i + c.chain_size.ensures.exact i)
    ∙ sym (added_here c.args.self.now c.self.inside.subkeys.items c.args.below.now c.in-Some.part.now c.in-Some.rest.now c.in-Err.field-0 below c.in-Some.ensures.parts c.args.stamp gap)

pub returns-in-Err-clause-freed : goal.returns-in-Err-clause-freed
returns-in-Err-clause-freed t c =
    let gap : IsGap name_of c.self.inside.subkeys.items (folded c.in-Some.part.now) c.in-Err.field-0 = rw c.deref.ensures.value at c.in-Err.ensures.absent in
    let below : c.args.self.now.below ≡ spread c.self.inside.subkeys.items = ap (λ (n : Node). n.below) (sym c.self.view_is) in
    c.written_size-in-Err.ensures.exact
    ∙ ap (λ (n : Node). written_size n.here.written) c.self.view_is
    ∙ sym (freed_here c.args.self.now c.self.inside.subkeys.items c.args.below.now c.in-Some.part.now c.in-Some.rest.now c.in-Err.field-0 below c.in-Some.ensures.parts gap)
