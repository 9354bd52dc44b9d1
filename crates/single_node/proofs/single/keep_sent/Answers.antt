use Rattle.std.proofs.Common.{arith}
use Rattle.single_node.proofs.Sending.{sends_more}
use Rattle.single_node.proofs.single.keep_sent.Goals as goal

pub effects-preserved : goal.effects-preserved
effects-preserved c =
    sends_more c.args.effects.now c.effects.effect-index c.effect-item.result c.args.left.now.items c.effects.left.items _ (omega arith) c.effect-item.is c.effects.invariant c.in_ok-keep_if_sent.ensures
