use Rattle.view_reconcile.specs.declared.step.Step.TheVariants as step
use Rattle.member_rules.proofs.Ways.{ready_marks_whole, ready_opens_whole}
use Rattle.member_rules.proofs.rules.Rules.ready.Goals as goal

pub invariant_of-self-in-Open : goal.invariant_of-self-in-Open
invariant_of-self-in-Open c =
    ready_opens_whole c.open-decision.new.self c.ready.new.self c.args.from c.self.inside.settled c.open-decision.result c.self.invariant c.in-Open.ensures c.open-decision.ensures

pub invariant_of-self-in-Nothing : goal.invariant_of-self-in-Nothing
invariant_of-self-in-Nothing c = ready_marks_whole c.ready.new.self step.Nothing c.args.from c.self.invariant c.in-Nothing.ensures tt
