use Rattle.std.proofs.Common.{refl, sym, ap, subst, ◌∙◌}
use Rattle.clus_names.specs.Folding.{folded}
use Rattle.registry_tree.specs.declared.value.Value.{Value}
use Rattle.registry_tree.specs.Places.{IsAt, IsGap}
use Rattle.registry_tree.specs.Values.{value_name, entries_of, RisingValues}
use Rattle.registry_tree.proofs.Entries.{set_found, set_missing}
use Rattle.registry_tree.proofs.Kept.{rising_set, rising_insert}
use Rattle.registry_tree.proofs.values.set_in.Goals as goal

pub returns-in-Ok-clause-rising : goal.returns-in-Ok-clause-rising
returns-in-Ok-clause-rising c =
    let new : Value = record { name = c.index_mut-value.result.now.name; kind = c.args.kind; bytes = c.args.bytes } in
    rising_set value_name c.args.values.now.items c.in-Ok.at c.index_mut-value.result.now new c.index_mut-value.ensures.value refl c.requires

pub returns-in-Ok-clause-ok : goal.returns-in-Ok-clause-ok
returns-in-Ok-clause-ok c =
    let new : Value = record { name = c.index_mut-value.result.now.name; kind = c.args.kind; bytes = c.args.bytes } in
    let at : IsAt value_name c.args.values.now.items (folded c.args.name.now) c.in-Ok.at = rw (c.deref.ensures.value, c.units.ensures.units) at c.in-Ok.ensures.found in
    set_found c.args.name.now c.args.kind c.args.bytes c.args.values.now.items c.in-Ok.at c.index_mut-value.result.now new at c.index_mut-value.ensures.value refl

pub returns-in_ok-insert_at-in-Err-clause-rising : goal.returns-in_ok-insert_at-in-Err-clause-rising
returns-in_ok-insert_at-in-Err-clause-rising c =
    let new : Value = record { name = c.in_ok-name-in-Err.name; kind = c.args.kind; bytes = c.args.bytes } in
    let gap : IsGap value_name c.args.values.now.items (folded c.args.name.now) c.in-Err.at = rw (c.deref.ensures.value, c.units.ensures.units) at c.in-Err.ensures.absent in
    subst RisingValues (sym c.in_ok-insert_at-in-Err.ensures.ok) (rising_insert value_name c.args.values.now.items c.in-Err.at new (folded c.args.name.now) gap (ap folded c.in_ok-name-in-Err.ensures) c.requires)

pub returns-in_ok-insert_at-in-Err-clause-ok : goal.returns-in_ok-insert_at-in-Err-clause-ok
returns-in_ok-insert_at-in-Err-clause-ok c =
    let new : Value = record { name = c.in_ok-name-in-Err.name; kind = c.args.kind; bytes = c.args.bytes } in
    let gap : IsGap value_name c.args.values.now.items (folded c.args.name.now) c.in-Err.at = rw (c.deref.ensures.value, c.units.ensures.units) at c.in-Err.ensures.absent in
    ap entries_of c.in_ok-insert_at-in-Err.ensures.ok
    ∙ set_missing c.args.name.now c.args.kind c.args.bytes c.args.values.now.items c.in-Err.at new gap (λ i. record { name = c.in_ok-name-in-Err.ensures i; kind = c.args.kind; bytes = c.args.bytes })
