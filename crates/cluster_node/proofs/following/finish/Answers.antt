use Rattle.std.proofs.lemmas.Result.{IfOk-weaker}
use Rattle.cluster_node.proofs.Behind.{finishes}
use Rattle.cluster_node.proofs.following.finish.Goals as goal

pub returns : goal.returns
returns c =
    IfOk-weaker c.continued.result _ _
    (λ told continued. finishes c.in_ok-end.end c.finish.new.self _ c.args.member.now c.continued.new.member c.continued.new.clients c.args.effects.items
    c.in_ok-answered.answered.items continued.0 told.items c.in_ok-end.ensures c.in_ok-answered.ensures continued.1 continued.2)
    c.continued.ensures
