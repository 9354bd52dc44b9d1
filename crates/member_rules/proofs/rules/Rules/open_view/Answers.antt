use Rattle.member_rules.proofs.Ways.{open_view_whole}
use Rattle.member_rules.proofs.rules.Rules.open_view.Goals as goal

pub invariant_of-self-2 : goal.invariant_of-self-2
invariant_of-self-2 c =
    open_view_whole c.open-decision.new.self c.open.new.self c.self.inside.settled c.open-decision.result c.self.invariant c.if-not-open.ensures c.open-decision.ensures
