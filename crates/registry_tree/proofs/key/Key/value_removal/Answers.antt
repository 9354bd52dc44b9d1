use Rattle.std.proofs.Common.{◌≡◌, sym, ap, ◌∙◌, arith}
use Rattle.std.specs.Prelude.{is_some}
use Rattle.clus_names.specs.Folding.{folded}
use Rattle.registry_defs.specs.Keys.{value_at}
use Rattle.registry_defs.specs.Nodes.{Node}
use Rattle.registry_defs.specs.Sizes.{written_size}
use Rattle.registry_tree.specs.Places.{IsAt, IsGap}
use Rattle.registry_tree.specs.Values.{value_name, entries_of}
use Rattle.registry_tree.proofs.Entries.{value_found, value_missing}
use Rattle.registry_tree.proofs.Totals.{shrinks}
use Rattle.registry_tree.proofs.key.Key.value_removal.Goals as goal

pub returns-in-Ok-clause-found : goal.returns-in-Ok-clause-found
returns-in-Ok-clause-found c =
    let at : IsAt value_name c.self.inside.values.items (folded c.args.name.now) c.in-Ok.at = rw c.deref.ensures.value at c.in-Ok.ensures.found in
    ap (λ (n : Node). is_some (value_at (folded c.args.name.now) n.here.values)) (sym c.self.view_is)
    ∙ ap is_some (value_found (folded c.args.name.now) c.self.inside.values.items c.in-Ok.at c.index-value.result.now at c.index-value.ensures)

pub returns-in-Ok-clause-exact : goal.returns-in-Ok-clause-exact
returns-in-Ok-clause-exact c = λ path.
    let at : IsAt value_name c.self.inside.values.items (folded c.args.name.now) c.in-Ok.at = rw c.deref.ensures.value at c.in-Ok.ensures.found in
    let values : c.args.self.now.here.values ≡ entries_of c.self.inside.values.items = ap (λ (n : Node). n.here.values) (sym c.self.view_is) in
    let was : written_size c.self.inside.written ≡ written_size c.args.self.now.here.written = ap (λ (n : Node). written_size n.here.written) c.self.view_is in
    let less = shrinks c.args.name.now c.self.inside.values.items c.in-Ok.at c.args.self.now.here c.args.stamp c.index-value.result.now path values at c.index-value.ensures in
    let new = c.written_size.ensures.exact in
    let old = c.written_size-in-Ok.ensures.exact in
    let freed = c.value_size.ensures.exact in
    omega (arith, less, was, new, old, freed)

pub returns-in-Err-clause-found : goal.returns-in-Err-clause-found
returns-in-Err-clause-found c =
    let gap : IsGap value_name c.self.inside.values.items (folded c.args.name.now) c.in-Err.field-0 = rw c.deref.ensures.value at c.in-Err.ensures.absent in
    ap (λ (n : Node). is_some (value_at (folded c.args.name.now) n.here.values)) (sym c.self.view_is)
    ∙ ap is_some (value_missing (folded c.args.name.now) c.self.inside.values.items c.in-Err.field-0 gap)
