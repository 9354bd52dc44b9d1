use Rattle.clus_names.proofs.Folds.{parts_same, texts_same}
use Rattle.clus_names.proofs.path.Path.same.Goals as goal

pub returns : goal.returns
returns c =
    let same = rw (c.deref.ensures.value, c.deref-2.ensures.value) at c.same_folded.ensures in
    rw (← c.self.view_is, ← c.other.view_is)
    (λ yes. parts_same c.self.inside.text.items c.other.inside.text.items (same.0 yes), λ are. same.1 (texts_same c.self.inside.text.items c.other.inside.text.items c.self.invariant c.other.invariant are))
