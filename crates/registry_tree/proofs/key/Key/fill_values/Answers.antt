use Rattle.std.proofs.Common.{◌≤◌, List, length, sym, ap, subst}
use Rattle.std.specs.List.{AllByRecursion}
use Rattle.registry_defs.specs.Nodes.{Node}
use Rattle.registry_tree.specs.declared.value.Value.{Value}
use Rattle.registry_tree.proofs.Entries.{values_fit}
use Rattle.registry_tree.proofs.key.Key.fill_values.Goals as goal

pub fill_values-requires-clause-names : goal.fill_values-requires-clause-names
fill_values-requires-clause-names c =
    subst (λ (l : List Value). AllByRecursion (λ v. length v.name ≤ 1023) l) (sym c.deref.ensures.value)
    (values_fit c.args.self.now.here c.self.inside.values.items (ap (λ (n : Node). n.here.values) (sym c.self.view_is)) c.requires.fields).0

pub fill_values-requires-clause-short : goal.fill_values-requires-clause-short
fill_values-requires-clause-short c =
    subst (λ (l : List Value). AllByRecursion (λ v. length v.bytes ≤ 49152) l) (sym c.deref.ensures.value)
    (values_fit c.args.self.now.here c.self.inside.values.items (ap (λ (n : Node). n.here.values) (sym c.self.view_is)) c.requires.fields).1
