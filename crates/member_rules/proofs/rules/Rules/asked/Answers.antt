use Rattle.std.proofs.Common.{subst}
use Rattle.cluster_rules.specs.Nodes.{NodeState}
use Rattle.registry_machine.specs.Machine.{registry_machine}
use Rattle.member_rules.specs.Steps.{LogsAt}
use Rattle.member_rules.proofs.Ways.{asked_here}
use Rattle.member_rules.proofs.rules.Rules.asked.Goals as goal

pub returns-clause-here : goal.returns-clause-here
returns-clause-here c =
    subst (λ (m : NodeState registry_machine). LogsAt m.join c.ask.result) c.self.view_is
    (asked_here c.ask.result c.args.from c.args.req _ c.self.invariant c.ask.ensures)
