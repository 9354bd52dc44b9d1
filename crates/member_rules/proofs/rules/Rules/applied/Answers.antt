use Rattle.member_rules.proofs.Ways.{applied_whole}
use Rattle.member_rules.proofs.rules.Rules.applied.Goals as goal

pub invariant_of-self : goal.invariant_of-self
invariant_of-self c = applied_whole c.applied-decision.new.self c.applied-decision.result _ _ c.self.invariant c.applied-decision.ensures
