use Rattle.std.proofs.Common.{ap, ◌∙◌}
use Rattle.view_reconcile.specs.Joining.{locks}
use Rattle.cluster_rules.specs.Nodes.{NodeState}
use Rattle.registry_machine.specs.Machine.{registry_machine}
use Rattle.member_rules.proofs.Follows.{again_step_whole}
use Rattle.member_rules.proofs.rules.Rules.begin_again.Goals as goal

pub invariant_of-self : goal.invariant_of-self
invariant_of-self c =
    let taking = ap (λ (z : NodeState registry_machine). z.join.stage) c.self.view_is ∙ c.requires.taking in
    let other = ap (λ (z : NodeState registry_machine). locks z.join) c.self.view_is ∙ c.requires.other in
    again_step_whole c.taken.new.self c.taken.result c.begin.result.offer c.self.invariant taking other c.taken.ensures
