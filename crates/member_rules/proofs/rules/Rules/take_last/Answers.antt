use Rattle.std.proofs.Common.{◌≡◌, ap, ◌∙◌}
use Rattle.view_reconcile.specs.Joining.{ReconcileState, locks}
use Rattle.cluster_rules.specs.Nodes.{NodeState}
use Rattle.cluster_rules.specs.Updates.{replica_after}
use Rattle.registry_machine.specs.Machine.{registry_machine}
use Rattle.member_rules.proofs.Follows.{last_taken_whole}
use Rattle.member_rules.proofs.rules.Rules.take_last.Goals as goal

pub invariant_of-self : goal.invariant_of-self
invariant_of-self c =
    let x = c.args.self.now in
    let e = c.in-Some.entry in
    let is = c.self.view_is ∙ c.in_ok-apply_here-in-Some.ensures.applied in
    let join : c.self.inside.join ≡ x.join = ap (λ (z : NodeState registry_machine). z.join) is in
    let after : c.self.inside.replica ≡ replica_after e x.replica = ap (λ (z : NodeState registry_machine). z.replica) is in
    last_taken_whole c.taken.new.self c.taken.result e x.replica c.self.invariant
    (ap (λ (j : ReconcileState). j.stage) join ∙ c.requires.lacks.taking) (ap locks join ∙ c.requires.lacks.follows) c.requires.lacks.some after c.taken.ensures
