use Rattle.std.proofs.Common.{sym, ap, ◌∙◌}
use Rattle.std.specs.Prelude.{slice_get}
use Rattle.registry_defs.specs.Nodes.{Node}
use Rattle.registry_tree.proofs.Subkeys.{nth_is}
use Rattle.registry_tree.proofs.key.Key.nth_subkey.Goals as goal

pub returns : goal.returns
returns c =
    nth_is c.args.self.now c.self.inside.subkeys.items c.args.index c.item_at.result (ap (λ (n : Node). n.below) (sym c.self.view_is)) c.requires.rising
    (c.item_at.ensures ∙ ap (λ l. slice_get l c.args.index) c.deref.ensures.value)
