use Rattle.std.proofs.Common.{sym, subst}
use Rattle.registry_tree.specs.Windows.{Fills}
use Rattle.registry_tree.proofs.FieldTexts.{text_of_value, texts_of_values}
use Rattle.registry_tree.proofs.Filling.{fills_more, fills_rest, fills_all}
use Rattle.registry_tree.proofs.windowing.fill_values.Goals as goal

pub values-preserved : goal.values-preserved
values-preserved c =
    fills_more text_of_value c.args.values.now c.values.value-index c.value-item.result c.value-item.result c.value-item.is c.values-test.true c.requires.within c.values.invariant c.fill_value.ensures

pub returns-then-is_full : goal.returns-then-is_full
returns-then-is_full c =
    subst (λ text. Fills text c.args.window.now c.args.into.now c.values.window c.values.into) (sym (texts_of_values c.args.values.now))
    (fills_rest text_of_value c.args.values.now c.values.value-index c.requires.within c.values.invariant (c.is_full.ensures c.if-is_full.true))

pub returns : goal.returns
returns c =
    subst (λ text. Fills text c.args.window.now c.args.into.now c.values.window c.values.into) (sym (texts_of_values c.args.values.now))
    (fills_all text_of_value c.args.values.now c.values.value-index c.values-test.false c.values.invariant)
