use Rattle.member_rules.proofs.Ways.{granted_whole}
use Rattle.member_rules.proofs.rules.Rules.granted.Goals as goal

pub invariant_of-self : goal.invariant_of-self
invariant_of-self c = granted_whole c.granted-decision.new.self c.granted-decision.result _ _ c.self.invariant c.granted-decision.ensures
