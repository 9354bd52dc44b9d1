use Rattle.std.proofs.Common.{Option, Some, ap, sym, ◌∙◌}
use Rattle.std.specs.Ordering.{is_lt}
use Rattle.clus_names.specs.Folding.{folded, name_cmp}
use Rattle.registry_defs.specs.StateGrammar.{is_above}
use Rattle.registry_states.specs.Ahead.{value_name}
use Rattle.registry_states.specs.declared.item.Item.{Item}
use Rattle.registry_states.proofs.Lasts.{last_got}
use Rattle.registry_states.proofs.taking.is_above_item.Goals as goal

pub returns-in-Some-Value : goal.returns-in-Some-Value
returns-in-Some-Value c =
    c.is_lt.ensures
    ∙ ap is_lt (c.cmp_folded.ensures ∙ ap (λ last. name_cmp (folded last) (folded c.args.name.now)) c.units.ensures.units)
    ∙ ap (λ (item : Item). is_above (value_name (Some item)) c.args.name.now) (sym c.in-Some-Value.field-0-is)
    ∙ ap (λ (last : Option Item). is_above (value_name last) c.args.name.now) (c.in-Some-Value.ensures.value ∙ last_got c.args.items.now)

pub returns-in-Some-Head : goal.returns-in-Some-Head
returns-in-Some-Head c =
    ap (λ (item : Item). is_above (value_name (Some item)) c.args.name.now) (sym c.in-Some-Head.field-0-is)
    ∙ ap (λ (last : Option Item). is_above (value_name last) c.args.name.now) (c.in-Some-Head.ensures.value ∙ last_got c.args.items.now)

pub returns-in-Some-Subkeys : goal.returns-in-Some-Subkeys
returns-in-Some-Subkeys c =
    ap (λ (item : Item). is_above (value_name (Some item)) c.args.name.now) (sym c.in-Some-Subkeys.field-0-is)
    ∙ ap (λ (last : Option Item). is_above (value_name last) c.args.name.now) (c.in-Some-Subkeys.ensures.value ∙ last_got c.args.items.now)
