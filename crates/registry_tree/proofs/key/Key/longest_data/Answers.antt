use Rattle.std.proofs.Common.{ℕ, length, sym, ap, ◌∙◌, arith}
use Rattle.registry_defs.specs.Keys.{ValueData}
use Rattle.registry_defs.specs.Nodes.{Node}
use Rattle.registry_defs.specs.Readings.{longest}
use Rattle.registry_tree.specs.declared.value.Value.{Value}
use Rattle.registry_tree.proofs.Longest.{longest_bound, of_values}
use Rattle.registry_tree.proofs.key.Key.longest_data.Goals as goal

pub overflow_cast-result : goal.overflow_cast-result
overflow_cast-result c =
    let measure : ValueData → ℕ = λ v. length v.bytes in
    let is = c.longest_data.ensures
    ∙ ap (longest (λ (v : Value). length v.bytes)) c.deref.ensures.value
    ∙ of_values measure c.args.self.now.here.values c.self.inside.values.items (ap (λ (n : Node). n.here.values) (sym c.self.view_is)) in
    let bound = longest_bound (λ e. measure e.1) 49152 c.args.self.now.here.values c.requires.short in
    omega (arith, is, bound)

pub returns : goal.returns
returns c =
    let measure : ValueData → ℕ = λ v. length v.bytes in
    c.longest_data.ensures
    ∙ ap (longest (λ (v : Value). length v.bytes)) c.deref.ensures.value
    ∙ of_values measure c.args.self.now.here.values c.self.inside.values.items (ap (λ (n : Node). n.here.values) (sym c.self.view_is))
