use Rattle.std.proofs.Common.{IfOk, subst}
use Rattle.cluster_rules.specs.Receiving.{tick}
use Rattle.member_rules.specs.Steps.{GoesOn}
use Rattle.cluster_member.specs.States.{MemberState}
use Rattle.cluster_member.proofs.member.Member.tick.Goals as goal

pub returns : goal.returns
returns c = subst (λ (m : MemberState). IfOk c.tick.result (λ told. GoesOn (tick m.rules) m.rules told)) c.self.view_is c.tick.ensures
