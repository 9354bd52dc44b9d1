use Rattle.std.proofs.Common.{sym, ap, subst, ◌∙◌}
use Rattle.clus_names.specs.Folding.{folded}
use Rattle.registry_tree.specs.Places.{IsAt, IsGap}
use Rattle.registry_tree.specs.Values.{value_name, entries_of, RisingValues}
use Rattle.registry_tree.proofs.Entries.{value_removed, value_not_removed}
use Rattle.registry_tree.proofs.Kept.{rising_remove}
use Rattle.registry_tree.proofs.values.delete_in.Goals as goal

pub returns-in-Ok-clause-rising : goal.returns-in-Ok-clause-rising
returns-in-Ok-clause-rising c = subst RisingValues (sym c.remove.ensures.items) (rising_remove value_name c.args.values.now.items c.in-Ok.at c.requires)

pub returns-in-Ok-clause-entries : goal.returns-in-Ok-clause-entries
returns-in-Ok-clause-entries c =
    let at : IsAt value_name c.args.values.now.items (folded c.args.name.now) c.in-Ok.at = rw c.deref.ensures.value at c.in-Ok.ensures.found in
    ap entries_of c.remove.ensures.items ∙ sym (value_removed (folded c.args.name.now) c.args.values.now.items c.in-Ok.at c.remove.result at c.remove.ensures.value)

pub returns-in-Err-clause-entries : goal.returns-in-Err-clause-entries
returns-in-Err-clause-entries c =
    let gap : IsGap value_name c.args.values.now.items (folded c.args.name.now) c.in-Err.field-0 = rw c.deref.ensures.value at c.in-Err.ensures.absent in
    sym (value_not_removed (folded c.args.name.now) c.args.values.now.items c.in-Err.field-0 gap)
