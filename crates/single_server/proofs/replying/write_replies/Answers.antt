use Rattle.std.proofs.Common.{arith}
use Rattle.single_server.proofs.ReplyLaws.{wrote_all, wrote_more, wrote_some}
use Rattle.single_server.proofs.Written.{wrote_nothing}
use Rattle.single_server.proofs.replying.write_replies.Goals as goal

pub effects-init : goal.effects-init
effects-init g c = record { wrote = wrote_nothing (g.K.Sink.written c.args.output.now); later = omega arith }

pub effects-preserved : goal.effects-preserved
effects-preserved g c = record {
  wrote = wrote_more c.args.conn c.args.effects.now c.effects.effect-index c.effect-item.result (omega arith) c.effect-item.is _ (g.K.Sink.written c.effects.output) _ c.effects.invariant.wrote c.in-Ok.ensures.whole;
  later = (let a = c.effects.invariant.later in let b = c.in-Ok.ensures.cause.later in omega (arith, a, b));
}

pub returns-in-Err-clause-prefix : goal.returns-in-Err-clause-prefix
returns-in-Err-clause-prefix g c =
    wrote_some c.args.conn c.args.effects.now c.effects.effect-index c.effect-item.result (omega arith) c.effect-item.is _ (g.K.Sink.written c.effects.output) _ c.effects.invariant.wrote c.in-Err.ensures.prefix
