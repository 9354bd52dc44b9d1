use Rattle.std.proofs.Common.{not, length, suc, ap, ◌∙◌}
use Rattle.std.specs.Prelude.{nat_lt}
use Rattle.registry_tree.proofs.Descents.{has_below}
use Rattle.registry_tree.proofs.key.Key.has_subkeys.Goals as goal

pub returns : goal.returns
returns c =
    ap not c.is_empty.ensures
    ∙ has_below c.self.inside.subkeys.items _ c.self.inside.subkeys.ok.0
    ∙ ap (λ (n : _). nat_lt 1 (suc (length n.below))) c.self.view_is
