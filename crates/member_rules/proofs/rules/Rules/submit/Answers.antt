use Rattle.member_rules.proofs.Ways.{submitted_whole}
use Rattle.member_rules.proofs.rules.Rules.submit.Goals as goal

pub invariant_of-self-2 : goal.invariant_of-self-2
invariant_of-self-2 c =
    submitted_whole c.submit.new.self c.in_ok-decision.field-0-0 c.in_ok-decision.decision c.args.update c.self.invariant c.in_ok-decision.ensures.submitted
