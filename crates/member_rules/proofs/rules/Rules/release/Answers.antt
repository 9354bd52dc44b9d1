use Rattle.member_rules.proofs.Ways.{released_whole}
use Rattle.member_rules.proofs.rules.Rules.release.Goals as goal

pub invariant_of-self : goal.invariant_of-self
invariant_of-self c = released_whole c.release.new.self c.release.result c.args.from c.args.req c.self.invariant c.release.ensures
