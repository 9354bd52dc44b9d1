use Rattle.std.proofs.Common.{Option, ap, subst, sym, ◌∙◌}
use Rattle.std.specs.Prelude.{IsSome}
use Rattle.view_reconcile.specs.declared.step.Step.TheVariants as step
use Rattle.cluster_rules.specs.declared.offering.Offering.{Offering}
use Rattle.cluster_rules.specs.Nodes.{NodeState}
use Rattle.registry_machine.specs.Machine.{registry_machine}
use Rattle.member_rules.specs.States.{IsWhole}
use Rattle.member_rules.proofs.Opened.{is_opened}
use Rattle.member_rules.proofs.Recoveries.{has_stood_up}
use Rattle.member_rules.proofs.Ways.{stood_open_whole, stood_up_whole}
use Rattle.member_rules.proofs.rules.Rules.stand_up.Goals as goal

pub invariant_of-self : goal.invariant_of-self
invariant_of-self c =
    let inside = c.self.inside in
    let is = c.self.view_is ∙ c.join_up.ensures in
    let taking = ap (λ (z : NodeState registry_machine). z.join.stage) is ∙ c.requires.taking in
    let some = subst (λ (z : NodeState registry_machine). IsSome z.replica) (sym is) c.requires.some in
    let ready = has_stood_up inside.join c.taken.new.self step.Ready c.in-Ready.ensures in
    subst (λ (o : Option Offering). IsWhole inside.node inside.inc inside.core c.taken.new.self inside.replica o inside.encoded) (sym (ap (λ (z : NodeState registry_machine). z.offer) is))
    (stood_up_whole c.taken.new.self c.self.invariant taking some ready)

pub invariant_of-self-in-Open : goal.invariant_of-self-in-Open
invariant_of-self-in-Open c =
    let inside = c.self.inside in
    let is = c.self.view_is ∙ c.join_up.ensures in
    let some = subst (λ (z : NodeState registry_machine). IsSome z.replica) (sym is) c.requires.some in
    let stood = has_stood_up inside.join c.taken.new.self step.Open c.in-Open.ensures in
    let opens = is_opened inside.core c.open-decision.new.self inside.settled c.open-decision.result c.open-decision.ensures in
    subst (λ (o : Option Offering). IsWhole inside.node inside.inc c.open-decision.new.self c.taken.new.self inside.replica o inside.encoded)
    (sym (ap (λ (z : NodeState registry_machine). z.offer) is))
    (stood_open_whole c.open-decision.new.self c.taken.new.self c.self.invariant opens some stood)
