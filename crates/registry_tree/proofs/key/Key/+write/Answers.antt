use Rattle.std.proofs.Common.{◌≡◌, ℕ, List, ◌++◌, length, take, sym, ap, subst, ◌∙◌, append_assoc, arith}
use Rattle.std.specs.List.{flat_map}
use Rattle.std.proofs.lemmas.List.{take_all}
use Rattle.wire_fields.specs.declared.endian.Endian.TheVariants.{Little}
use Rattle.wire_fields.specs.Written.{Written}
use Rattle.clus_names.specs.Folding.{name_cmp}
use Rattle.registry_defs.specs.Nodes.{Node, keys_of, name_of}
use Rattle.registry_defs.specs.Rising.{Rising}
use Rattle.registry_defs.specs.Sections.{subkeys}
use Rattle.registry_defs.specs.Spelling.{key_text}
use Rattle.registry_tree.proofs.Spelled.{subkey_text, spelled}
use Rattle.registry_tree.proofs.Subkeys.{fit_kid}
use Rattle.registry_tree.proofs.key.Key.+write.Goals as goal

pub put_counted-requires-clause-short : goal.put_counted-requires-clause-short
put_counted-requires-clause-short t c =
    let kid = fit_kid c.args.self.now c.deref-key-items.result.now c.subkeys.key-index c.key-item.result c.subkeys.invariant.below c.key-item.is c.subkeys-test.true c.requires.rising c.requires.fields in
    let short = kid.short in
    let named = ap length c.part.ensures in
    omega (arith, short, named)

pub write-requires : goal.write-requires
write-requires t c =
    let kid = fit_kid c.args.self.now c.deref-key-items.result.now c.subkeys.key-index c.key-item.result c.subkeys.invariant.below c.key-item.is c.subkeys-test.true c.requires.rising c.requires.fields in
    let lighter = kid.lighter in
    (omega (arith, lighter, c.decreases), (ap (λ (p : Written). p.endian) c.in_ok-put_counted.ensures, (kid.rising, kid.fields)))

pub returns : goal.returns
returns t c =
    let nodes = c.deref-key-items.result.now in
    let named : Rising name_cmp name_of nodes = subst (λ (l : List Node). Rising name_cmp name_of l) (sym c.deref-key-items.ensures.value) c.self.invariant.subkeys in
    let made : List ℕ → Written = λ bytes. record { endian = Little; bytes = bytes } in
    let own = key_text c.args.self.now.here (length (subkeys (keys_of c.args.self.now))) in
    let ends : take c.subkeys.key-index nodes ≡ nodes = take_all c.subkeys.key-index nodes c.subkeys-test.false in
    c.subkeys.invariant.written
    ∙ ap (λ (l : List Node). made (c.write_alone.new.put.bytes ++ flat_map subkey_text l)) ends
    ∙ ap (λ (p : Written). made (p.bytes ++ flat_map subkey_text nodes)) c.in_ok-write_alone.ensures
    ∙ ap made (append_assoc c.args.put.now.bytes own (flat_map subkey_text nodes) ∙ ap (λ t. c.args.put.now.bytes ++ t) (sym (spelled c.args.self.now nodes (sym c.subkeys.invariant.below) named c.requires.rising)))
