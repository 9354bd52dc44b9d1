use Rattle.std.proofs.Common.{◌≡◌, length, sym, ap, arith}
use Rattle.clus_names.specs.Folding.{folded}
use Rattle.registry_defs.specs.Nodes.{Node}
use Rattle.registry_defs.specs.Sizes.{written_size}
use Rattle.registry_tree.specs.Places.{IsAt, IsGap}
use Rattle.registry_tree.specs.Values.{value_name, entries_of}
use Rattle.registry_tree.proofs.Totals.{grows_found, grows_missing}
use Rattle.registry_tree.proofs.key.Key.value_growth.Goals as goal

pub returns-in-Ok-clause-exact : goal.returns-in-Ok-clause-exact
returns-in-Ok-clause-exact c = λ path kind bytes long.
    let at : IsAt value_name c.self.inside.values.items (folded c.args.name.now) c.in-Ok.at = rw (c.deref.ensures.value, c.units-units.ensures.units) at c.in-Ok.ensures.found in
    let values : c.args.self.now.here.values ≡ entries_of c.self.inside.values.items = ap (λ (n : Node). n.here.values) (sym c.self.view_is) in
    let was : written_size c.self.inside.written ≡ written_size c.args.self.now.here.written = ap (λ (n : Node). written_size n.here.written) c.self.view_is in
    let long_data = ap length c.as_slice.ensures in
    let grows = grows_found c.args.name.now c.self.inside.values.items c.in-Ok.at c.args.self.now.here c.args.stamp kind bytes c.index-value.result.now path values at c.index-value.ensures in
    let new = c.written_size.ensures.exact in
    let old = c.written_size-in-Ok.ensures.exact in
    omega (arith, grows, was, long_data, new, old, long)

pub returns-in-Err-clause-exact : goal.returns-in-Err-clause-exact
returns-in-Err-clause-exact c = λ path kind bytes long.
    let gap : IsGap value_name c.self.inside.values.items (folded c.args.name.now) c.in-Err.field-0 = rw (c.deref.ensures.value, c.units-units.ensures.units) at c.in-Err.ensures.absent in
    let values : c.args.self.now.here.values ≡ entries_of c.self.inside.values.items = ap (λ (n : Node). n.here.values) (sym c.self.view_is) in
    let was : written_size c.self.inside.written ≡ written_size c.args.self.now.here.written = ap (λ (n : Node). written_size n.here.written) c.self.view_is in
    let named = ap length c.units-units.ensures.units in
    let grows = grows_missing c.args.name.now c.self.inside.values.items c.in-Err.field-0 c.args.self.now.here c.args.stamp kind bytes path values gap in
    let new = c.written_size-in-Err.ensures.exact in
    let old = c.written_size-in-Err-2.ensures.exact in
    omega (arith, grows, was, named, new, old, long)
