use Rattle.std.proofs.Common.{ℕ, length, sym, ap, ◌∙◌}
use Rattle.registry_defs.specs.Keys.{ValueData}
use Rattle.registry_defs.specs.Nodes.{Node}
use Rattle.registry_defs.specs.Readings.{longest}
use Rattle.registry_tree.specs.declared.value.Value.{Value}
use Rattle.registry_tree.proofs.Longest.{of_values}
use Rattle.registry_tree.proofs.key.Key.longest_name.Goals as goal

pub returns : goal.returns
returns c =
    let measure : ValueData → ℕ = λ v. length v.name in
    c.longest_name.ensures.exact
    ∙ ap (longest (λ (v : Value). length v.name)) c.deref.ensures.value
    ∙ of_values measure c.args.self.now.here.values c.self.inside.values.items (ap (λ (n : Node). n.here.values) (sym c.self.view_is))
