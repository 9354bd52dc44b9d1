use Rattle.std.proofs.Common.{ap, ◌∙◌}
use Rattle.cluster_rules.specs.Nodes.{NodeState}
use Rattle.cluster_rules.specs.Joins.{entered}
use Rattle.registry_machine.specs.Machine.{registry_machine, replicated}
use Rattle.member_rules.specs.Recovery.{on_its_way}
use Rattle.member_rules.proofs.Enters.{recovers_is}
use Rattle.member_rules.proofs.Follows.{goes_as}
use Rattle.member_rules.proofs.rules.Rules.recover.Goals as goal

pub returns-clause-recovers : goal.returns-clause-recovers
returns-clause-recovers c =
    let x = c.args.self.now in
    let v = c.args.view.now in
    goes_as _ _ _ _ (
    recovers_is x v c.args.count (replicated c.args.registry) c.requires.takes c.set_out.new.self c.args.cap c.args.last
    (c.in_ok-set_out.ensures ∙ ap (λ (z : NodeState registry_machine). on_its_way (entered v z)) c.in_ok-catch_up.ensures)
    ) c.stand_up.ensures.stands
