use Rattle.std.proofs.Common.{length, sym, ap, ◌∙◌, arith}
use Rattle.registry_defs.specs.Nodes.{Node}
use Rattle.registry_defs.specs.Readings.{longest}
use Rattle.registry_tree.proofs.Longest.{of_subkeys, short_parts}
use Rattle.registry_tree.proofs.key.Key.longest_subkey.Goals as goal

pub overflow_cast-result : goal.overflow_cast-result
overflow_cast-result c =
    let is = c.longest_part.ensures ∙ ap (longest (λ (n : Node). length n.here.part)) c.deref.ensures.value in
    let bound = short_parts c.args.self.now c.self.inside.subkeys.items (ap (λ (n : Node). n.below) (sym c.self.view_is)) c.requires.fields.each in
    omega (arith, is, bound)

pub returns : goal.returns
returns c =
    c.longest_part.ensures
    ∙ ap (longest (λ (n : Node). length n.here.part)) c.deref.ensures.value
    ∙ of_subkeys c.args.self.now c.self.inside.subkeys.items (ap (λ (n : Node). n.below) (sym c.self.view_is)) c.requires.rising
