use Rattle.std.proofs.Common.{sym, ap, ◌∙◌}
use Rattle.clus_names.specs.Folding.{folded}
use Rattle.registry_defs.specs.Keys.{value_at}
use Rattle.registry_defs.specs.Nodes.{Node}
use Rattle.registry_tree.specs.Places.{IsAt, IsGap}
use Rattle.registry_tree.specs.Values.{value_name}
use Rattle.registry_tree.proofs.Entries.{value_found, value_missing}
use Rattle.registry_tree.proofs.key.Key.value.Goals as goal

pub returns-in-Ok : goal.returns-in-Ok
returns-in-Ok c =
    let at : IsAt value_name c.self.inside.values.items (folded c.args.name.now) c.in-Ok.at = rw c.deref.ensures.value at c.in-Ok.ensures.found in
    ap (λ (n : Node). value_at (folded c.args.name.now) n.here.values) (sym c.self.view_is)
    ∙ value_found (folded c.args.name.now) c.self.inside.values.items c.in-Ok.at c.index.result.now at c.index.ensures

pub returns-in-Err : goal.returns-in-Err
returns-in-Err c =
    let gap : IsGap value_name c.self.inside.values.items (folded c.args.name.now) c.in-Err.field-0 = rw c.deref.ensures.value at c.in-Err.ensures.absent in
    ap (λ (n : Node). value_at (folded c.args.name.now) n.here.values) (sym c.self.view_is)
    ∙ value_missing (folded c.args.name.now) c.self.inside.values.items c.in-Err.field-0 gap
