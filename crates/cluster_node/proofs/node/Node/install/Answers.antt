use Rattle.std.proofs.Common.{◌≡◌, Some, sym, ap, ◌∙◌}
use Rattle.cluster_node.specs.States.{NodeValue, RunningNode, runs}
use Rattle.cluster_node.proofs.Behind.{leads_by}
use Rattle.cluster_node.proofs.node.Node.install.Goals as goal

pub returns-clause-installs : goal.returns-clause-installs
returns-clause-installs g c =
    let x : RunningNode = runs c.running.inside.member c.running.inside.clients in
    let was : c.args.self.now.running ≡ Some x = sym (ap (λ (n : NodeValue). n.running) c.self.view_is) ∙ (c.in-Some.is ∙ ap (λ (r : RunningNode). Some r) (sym c.running.view_is)) in
    rw was (leads_by _ x c.follow-followed.new.running c.install-came.result c.install-came.new.self c.follow-followed.result c.end.result c.end.new.self.running
    c.install-came.ensures.installs (rw c.head_request-request.ensures at c.follow-followed.ensures) c.end.ensures.ends c.end.ensures.stops)
