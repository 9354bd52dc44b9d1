use Rattle.std.proofs.Common.{◌≡◌, sym, ap, subst, ◌∙◌}
use Rattle.std.specs.Prelude.{MatchOption, IfSome, None, Some}
use Rattle.clus_names.specs.Folding.{folded}
use Rattle.registry_defs.specs.Keys.{key_at}
use Rattle.registry_defs.specs.Nodes.{Node, keys_of, name_of}
use Rattle.registry_defs.specs.Sections.{section}
use Rattle.registry_tree.specs.Places.{IsAt, IsGap}
use Rattle.registry_tree.proofs.Plug.{find_plug, section_plug}
use Rattle.registry_tree.proofs.Descents.{path_end, section_root, read_into, missing_into}
use Rattle.registry_tree.proofs.key.Key.+find.Goals as goal

pub returns-in-None-clause-section : goal.returns-in-None-clause-section
returns-in-None-clause-section t c =
    let none = rw c.in-None.is at c.split_first_part.ensures.parts in
    sym (section_root (keys_of c.args.self.now)) ∙ ap (λ q. section q (keys_of c.args.self.now)) (sym (path_end c.args.path.now c.in-None.ensures.parts))

pub returns-in-Ok-clause-found : goal.returns-in-Ok-clause-found
returns-in-Ok-clause-found t c =
    let at : IsAt name_of c.self.inside.subkeys.items (folded c.in-Some.part.now) c.in-Ok.at = rw c.deref.ensures.value at c.in-Ok.ensures.found in
    let into = read_into key_at c.args.self.now c.self.inside.subkeys.items c.args.path.now c.in-Some.part.now c.in-Some.rest.now c.in-Ok.at c.index-key.result.now
    (ap (λ (n : Node). n.below) (sym c.self.view_is)) c.in-Some.ensures.parts at c.index-key.ensures (λ p q front back frame es. find_plug p front back frame q es) in
    subst (λ o. MatchOption c.find.result (o ≡ None) (λ key. o ≡ Some key.now.here)) (sym into) c.find.ensures.found

pub returns-in-Ok-clause-section : goal.returns-in-Ok-clause-section
returns-in-Ok-clause-section t c =
    let at : IsAt name_of c.self.inside.subkeys.items (folded c.in-Some.part.now) c.in-Ok.at = rw c.deref.ensures.value at c.in-Ok.ensures.found in
    let into = read_into section c.args.self.now c.self.inside.subkeys.items c.args.path.now c.in-Some.part.now c.in-Some.rest.now c.in-Ok.at c.index-key.result.now
    (ap (λ (n : Node). n.below) (sym c.self.view_is)) c.in-Some.ensures.parts at c.index-key.ensures (λ p q front back frame es. section_plug p front back frame q es) in
    subst (λ es. IfSome c.find.result (λ key. keys_of key.now ≡ es)) (sym into) c.find.ensures.section

pub returns-in-Err-clause-found : goal.returns-in-Err-clause-found
returns-in-Err-clause-found t c =
    let gap : IsGap name_of c.self.inside.subkeys.items (folded c.in-Some.part.now) c.in-Err.field-0 = rw c.deref.ensures.value at c.in-Err.ensures.absent in
    missing_into c.args.self.now c.self.inside.subkeys.items c.args.path.now c.in-Some.part.now c.in-Some.rest.now c.in-Err.field-0
    (ap (λ (n : Node). n.below) (sym c.self.view_is)) c.in-Some.ensures.parts gap
