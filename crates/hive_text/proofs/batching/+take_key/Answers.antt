use Rattle.std.proofs.Common.{◌≡◌, List, ◌++◌, take, ap, sym, subst, ◌∙◌, arith}
use Rattle.std.specs.Prelude.{flat_map}
use Rattle.std.proofs.lemmas.List.{take_all}
use Rattle.registry_defs.specs.Nodes.{Node}
use Rattle.update_records.specs.declared.change.Change.{Change}
use Rattle.hive_text.specs.Batching.{Takes}
use Rattle.hive_text.specs.Changes.{key_changes}
use Rattle.hive_text.proofs.ChangeLists.{changes_of_key, fit_kid, subkey_changes}
use Rattle.hive_text.proofs.CutLaws.{takes_more}
use Rattle.hive_text.proofs.batching.+take_key.Goals as goal

pub path_below-requires-clause-part : goal.path_below-requires-clause-part
path_below-requires-clause-part t c =
    let kid = fit_kid c.args.path.now c.args.key.now c.subkeys-subkey-items.result.now c.subkeys.subkey-index c.subkey-item.result c.subkeys.invariant.below c.subkey-item.is c.subkeys-test.true c.requires.rising c.requires.fields c.requires.paths in
    rw c.part.ensures kid.part

pub path_below-requires-clause-short : goal.path_below-requires-clause-short
path_below-requires-clause-short t c =
    let kid = fit_kid c.args.path.now c.args.key.now c.subkeys-subkey-items.result.now c.subkeys.subkey-index c.subkey-item.result c.subkeys.invariant.below c.subkey-item.is c.subkeys-test.true c.requires.rising c.requires.fields c.requires.paths in
    rw c.part.ensures kid.short

pub take_key-requires : goal.take_key-requires
take_key-requires t c =
    let kid = fit_kid c.args.path.now c.args.key.now c.subkeys-subkey-items.result.now c.subkeys.subkey-index c.subkey-item.result c.subkeys.invariant.below c.subkey-item.is c.subkeys-test.true c.requires.rising c.requires.fields c.requires.paths in
    let lighter = kid.lighter in
    (omega (arith, lighter, c.decreases), (c.subkeys.invariant.taken.sound, (kid.rising, (kid.fields, rw (c.in_ok-below.ensures, c.part.ensures) kid.paths))))

pub returns : goal.returns
returns t c =
    let old = c.args.batcher.now in
    let path = c.args.path.now in
    let key = c.args.key.now in
    let nodes = c.subkeys-subkey-items.result.now in
    let own = key_changes path key.here in
    let ends : take c.subkeys.subkey-index nodes ≡ nodes = take_all c.subkeys.subkey-index nodes c.subkeys-test.false in
    let all = takes_more old own c.take_alone.new.batcher (flat_map (subkey_changes path) (take c.subkeys.subkey-index nodes)) c.subkeys.batcher c.in_ok-take_alone.ensures c.subkeys.invariant.taken in
    subst (λ (l : List Change). Takes old l c.subkeys.batcher)
    (ap (λ (l : List Node). own ++ flat_map (subkey_changes path) l) ends ∙ sym (changes_of_key path key nodes c.subkeys.invariant.below c.requires.rising))
    all
