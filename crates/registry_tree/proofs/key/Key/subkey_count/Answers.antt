use Rattle.std.proofs.Common.{length, sym, ap, ◌∙◌, arith}
use Rattle.registry_defs.specs.Nodes.{Node}
use Rattle.registry_tree.proofs.Subkeys.{few_kids, count_is}
use Rattle.registry_tree.proofs.key.Key.subkey_count.Goals as goal

pub overflow_cast-result : goal.overflow_cast-result
overflow_cast-result c =
    let below = ap (λ (n : Node). length n.below) c.self.view_is in
    let len = c.len.ensures in
    let ok = c.self.inside.subkeys.ok.0 in
    omega (arith, few_kids c.self.inside.subkeys.items, below, len, ok, c.requires.few)

pub returns : goal.returns
returns c =
    c.len.ensures ∙ c.self.inside.subkeys.ok.0
    ∙ sym (count_is c.args.self.now c.self.inside.subkeys.items (ap (λ (n : Node). n.below) (sym c.self.view_is)) c.requires.rising)
