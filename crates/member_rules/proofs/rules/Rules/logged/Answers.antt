use Rattle.member_rules.proofs.Ways.{logged_whole}
use Rattle.member_rules.proofs.rules.Rules.logged.Goals as goal

pub invariant_of-self : goal.invariant_of-self
invariant_of-self c = logged_whole c.logged.new.self c.logged.result _ _ _ c.self.invariant c.logged.ensures

pub invariant_of-self-2 : goal.invariant_of-self-2
invariant_of-self-2 c = logged_whole c.logged.new.self c.logged.result _ _ _ c.self.invariant c.logged.ensures
