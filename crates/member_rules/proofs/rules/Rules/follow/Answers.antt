use Rattle.std.proofs.Common.{ap, refl, sym, ◌∙◌}
use Rattle.view_reconcile.specs.declared.step.Step.TheVariants as step
use Rattle.view_reconcile.specs.Joining.{is_ready, locks}
use Rattle.cluster_rules.specs.Nodes.{NodeState}
use Rattle.cluster_rules.specs.Joins.{known_done}
use Rattle.registry_machine.specs.Machine.{registry_machine}
use Rattle.member_rules.specs.States.{state_of}
use Rattle.member_rules.proofs.Follows.{lacks_last, step_whole}
use Rattle.member_rules.proofs.rules.Rules.follow.Goals as goal

pub invariant_of-self : goal.invariant_of-self
invariant_of-self c =
    let waits = ap (λ (z : NodeState registry_machine). is_ready z.join) c.self.view_is ∙ c.requires.waits in
    let other = ap (λ (z : NodeState registry_machine). locks z.join) c.self.view_is ∙ c.requires.other in
    let known = c.known_done-known.ensures ∙ ap (λ (z : NodeState registry_machine). known_done z) (sym c.self.view_is) in
    step_whole c.offer.new.self step.Ready c.args.offer.count c.place_of.result c.known_done-known.result c.self.invariant known waits other c.in-Ready.ensures tt

pub invariant_of-self-in-ApplyLast : goal.invariant_of-self-in-ApplyLast
invariant_of-self-in-ApplyLast c =
    let waits = ap (λ (z : NodeState registry_machine). is_ready z.join) c.self.view_is ∙ c.requires.waits in
    let other = ap (λ (z : NodeState registry_machine). locks z.join) c.self.view_is ∙ c.requires.other in
    let known = c.known_done-known.ensures ∙ ap (λ (z : NodeState registry_machine). known_done z) (sym c.self.view_is) in
    step_whole c.offer.new.self step.ApplyLast c.args.offer.count c.place_of.result c.known_done-known.result c.self.invariant known waits other c.in-ApplyLast.ensures tt

pub take_last-requires : goal.take_last-requires
take_last-requires c =
    let inside = c.self.inside in
    let x : NodeState registry_machine = state_of inside.stamp inside.core inside.join inside.replica inside.last inside.pulled inside.spreads inside.settled inside.outcome in
    let y : NodeState registry_machine = state_of inside.stamp inside.core c.offer.new.self inside.replica inside.last inside.pulled inside.spreads inside.settled inside.outcome in
    let waits = ap (λ (z : NodeState registry_machine). is_ready z.join) c.self.view_is ∙ c.requires.waits in
    let other = ap (λ (z : NodeState registry_machine). locks z.join) c.self.view_is ∙ c.requires.other in
    let known = c.known_done-known.ensures ∙ ap (λ (z : NodeState registry_machine). known_done z) (sym c.self.view_is) in
    record { lacks = lacks_last x y c.args.offer c.place_of.result c.known_done-known.result c.place_of.ensures known other waits c.in-ApplyLast.ensures refl }
