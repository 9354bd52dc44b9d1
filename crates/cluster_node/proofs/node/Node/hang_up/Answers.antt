use Rattle.std.proofs.Common.{◌≡◌, Some, sym, ap, ◌∙◌}
use Rattle.cluster_node.specs.States.{NodeValue, RunningNode, runs}
use Rattle.cluster_node.proofs.Changed.{hangs_up}
use Rattle.cluster_node.proofs.node.Node.hang_up.Goals as goal

pub returns-in-Ok-clause-hangs_up : goal.returns-in-Ok-clause-hangs_up
returns-in-Ok-clause-hangs_up c =
    let x : RunningNode = runs c.running.inside.member c.running.inside.clients in
    let was : c.args.self.now.running ≡ Some x = sym (ap (λ (n : NodeValue). n.running) c.self.view_is) ∙ (c.in-Some.is ∙ ap (λ (r : RunningNode). Some r) (sym c.running.view_is)) in
    hangs_up c.args.conn c.args.self.now.running x c.hang_up-effect.new.self c.hang_up-effect.result c.in-Ok.effects was c.hang_up-effect.ensures c.in-Ok.ensures
