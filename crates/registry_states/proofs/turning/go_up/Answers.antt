use Rattle.std.proofs.Common.{refl, sym, ap, ◌∙◌}
use Rattle.registry_states.specs.Ahead.{Course}
use Rattle.registry_states.proofs.Goings.{level_goes_up, same_stack, stack_breaks, stack_done}
use Rattle.registry_states.proofs.turning.go_up.Goals as goal

pub returns-in-Some : goal.returns-in-Some
returns-in-Some c =
    level_goes_up c.args.end c.args.items.now c.args.fields.now c.args.ahead.now c.requires c.ahead.inside.above.items c.pop.new.self.items c.in-Some.level
    (ap (λ (ahead : Course). ahead.above) (sym c.ahead.view_is)) c.in-Some.ensures.items

pub returns-then-left-ne0 : goal.returns-then-left-ne0
returns-then-left-ne0 c = (
  refl,
  stack_breaks c.args.end c.args.items.now c.args.fields.now c.args.ahead.now c.requires _ c.ahead.inside.above.items c.pop.new.self.items
      (ap (λ (ahead : Course). ahead.above) (sym c.ahead.view_is)) c.in-None.ensures.cases.0 c.in-None.ensures.rest c.in-None.ensures.items c.place.result c.place.ensures
      (λ none. c.if-left-ne0.true (c.left.ensures ∙ none)),
)

pub returns-else-left-ne0 : goal.returns-else-left-ne0
returns-else-left-ne0 c = (
  refl,
  same_stack c.ahead.inside.next c.ahead.inside.above.items c.pop.new.self.items c.in-None.ensures.items ∙ c.ahead.view_is,
  stack_done c.args.end c.args.items.now c.args.fields.now c.args.ahead.now c.requires _ c.ahead.inside.above.items c.pop.new.self.items
      (ap (λ (ahead : Course). ahead.above) (sym c.ahead.view_is)) c.in-None.ensures.cases.0 c.in-None.ensures.rest c.in-None.ensures.items
      (sym c.left.ensures ∙ c.if-left-ne0.false),
)
