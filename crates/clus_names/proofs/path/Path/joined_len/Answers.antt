use Rattle.std.proofs.Common.{length, ap, ◌∙◌}
use Rattle.clus_names.proofs.Texts.{joined_paths}
use Rattle.clus_names.proofs.path.Path.joined_len.Goals as goal

pub returns : goal.returns
returns c =
    let above = c.self.inside.text.items in
    let below = c.below.inside.text.items in
    let j = joined_paths above below c.self.invariant c.below.invariant in
    let counted = rw (c.deref.ensures.value, c.deref-2.ensures.value) at c.joined_len.ensures in
    rw (← c.self.view_is, ← c.below.view_is) (counted ∙ ap (λ t. length t) j.is_text)
