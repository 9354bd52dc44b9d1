use Rattle.std.proofs.Common.{◌≡◌, List, ◌++◌, take, ap, ◌∙◌, arith}
use Rattle.std.specs.Prelude.{flat_map}
use Rattle.std.proofs.lemmas.List.{take_all}
use Rattle.registry_defs.specs.Keys.{Values}
use Rattle.registry_defs.specs.Nodes.{Node}
use Rattle.hive_text.specs.HiveText.{value_lines}
use Rattle.hive_text.proofs.KeyLines.{fit_kid, node_lines, printed}
use Rattle.hive_text.proofs.printing.+print_key.Goals as goal

pub print_key-requires : goal.print_key-requires
print_key-requires t c =
    let kid = fit_kid c.args.key.now c.subkeys-subkey-items.result.now c.subkeys.subkey-index c.subkey-item.result c.subkeys.invariant.below c.subkey-item.is c.subkeys-test.true c.requires in
    let lighter = kid.lighter in
    (omega (arith, lighter, c.decreases), kid.names)

pub returns : goal.returns
returns t c =
    let nodes = c.subkeys-subkey-items.result.now in
    let ends : take c.subkeys.subkey-index nodes ≡ nodes = take_all c.subkeys.subkey-index nodes c.subkeys-test.false in
    c.in_ok-extend_from_slice.ensures.items
    ∙ printed c.args.key.now nodes c.subkeys.invariant.below c.args.text.now.items c.push_key.new.text.items c.push_values.new.text.items c.subkeys.text.items c.in_ok-push_key.ensures
    (c.in_ok-push_values.ensures ∙ ap (λ (values : Values). c.push_key.new.text.items ++ value_lines values) c.values.ensures.entries)
    (c.subkeys.invariant.written ∙ ap (λ (l : List Node). c.push_values.new.text.items ++ flat_map node_lines l) ends)
