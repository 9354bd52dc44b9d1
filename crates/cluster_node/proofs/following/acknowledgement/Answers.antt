use Rattle.std.proofs.Common.{sym, ◌∙◌, arith}
use Rattle.cluster_node.proofs.Acknowledging.{found, goes_on}
use Rattle.cluster_node.proofs.following.acknowledgement.Goals as goal

pub returns-in-Some : goal.returns-in-Some
returns-in-Some c =
    found c.args.effects.now c.effects.index c.effect-item.result c.in-Some.place (omega arith) (rw c.effects.invariant.counted c.effect-item.is)
    (sym c.acks.ensures ∙ c.in-Some.is) c.effects.invariant.unacked

pub effects-preserved : goal.effects-preserved
effects-preserved c = record {
  counted = omega arith;
  unacked = goes_on c.args.effects.now c.effects.index c.effect-item.result (omega arith) (rw c.effects.invariant.counted c.effect-item.is)
      (sym c.acks.ensures ∙ c.in_default.is) c.effects.invariant.unacked;
}
