use Rattle.std.proofs.Common.{◌≡◌, List, [], ◌∷◌, sym, ap, ◌∙◌}
use Rattle.clus_names.specs.Parts.{parts_of}
use Rattle.registry_defs.specs.Changes.{new_key, chain_made}
use Rattle.registry_defs.specs.Nodes.{Node, keys_of, spread}
use Rattle.registry_tree.proofs.Creations.{chain_link, ok_map}
use Rattle.registry_tree.proofs.creating.+chain.Goals as goal

pub returns-in_ok-single-in-Some-clause-keys : goal.returns-in_ok-single-in-Some-clause-keys
returns-in_ok-single-in-Some-clause-keys t c =
    let link = chain_link c.args.place c.args.stamp c.args.part.now c.in-Some.next.now (parts_of c.in-Some.others.now) c.in_ok-key-in-Some.key c.in_ok-key-in-Some.ensures.part c.in_ok-key-in-Some.ensures.keys in
    ok_map c.with_subkeys-in-Some.result _
    (λ key. keys_of key ≡ chain_made c.args.place c.args.stamp [] (parts_of c.args.rest.now) (([], new_key c.args.place c.args.stamp c.args.part.now) ∷ []))
    (λ key is. ap keys_of is
    ∙ ap (λ (l : List Node). ([], new_key c.args.place c.args.stamp c.args.part.now) ∷ spread l) c.in_ok-single-in-Some.ensures
    ∙ link
    ∙ ap (λ ps. chain_made c.args.place c.args.stamp [] ps (([], new_key c.args.place c.args.stamp c.args.part.now) ∷ [])) (sym c.in-Some.ensures.parts))
    c.with_subkeys-in-Some.ensures
