use Rattle.std.proofs.Common.{◌≡◌, Some, sym, ap, ◌∙◌}
use Rattle.cluster_node.specs.States.{NodeValue, RunningNode, runs}
use Rattle.cluster_node.proofs.Changed.{ticks}
use Rattle.cluster_node.proofs.node.Node.tick.Goals as goal

pub returns-in-Ok-clause-ticks : goal.returns-in-Ok-clause-ticks
returns-in-Ok-clause-ticks c =
    let x : RunningNode = runs c.running.inside.member c.running.inside.clients in
    let was : c.args.self.now.running ≡ Some x = sym (ap (λ (n : NodeValue). n.running) c.self.view_is) ∙ (c.in-Some.is ∙ ap (λ (r : RunningNode). Some r) (sym c.running.view_is)) in
    ticks c.args.self.now.running x c.in-Ok.told was c.in-Ok.ensures
