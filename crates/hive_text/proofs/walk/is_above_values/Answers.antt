use Rattle.std.proofs.Common.{Option, ap, ◌∙◌}
use Rattle.std.specs.Prelude.{option_map}
use Rattle.std.specs.Ordering.{is_lt}
use Rattle.clus_names.specs.Folding.{folded, name_cmp}
use Rattle.registry_defs.specs.StateGrammar.{is_above}
use Rattle.registry_states.proofs.Lasts.{last_got}
use Rattle.registry_tree.specs.declared.value.Value.{Value}
use Rattle.hive_text.proofs.walk.is_above_values.Goals as goal

pub returns-in-Some : goal.returns-in-Some
returns-in-Some c =
    c.is_lt.ensures
    ∙ ap is_lt (c.cmp_folded.ensures ∙ ap (λ last. name_cmp (folded last) (folded c.args.name.now)) c.units.ensures.units)
    ∙ ap (λ (o : Option Value). is_above (option_map (λ (value : Value). value.name) o) c.args.name.now) (c.in-Some.ensures.value ∙ last_got c.args.values.now)
