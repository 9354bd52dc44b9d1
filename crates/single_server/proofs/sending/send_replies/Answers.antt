use Rattle.std.proofs.Common.{refl, arith, ◌∙◌}
use Rattle.single_server.proofs.DoorLaws.{says_nothing}
use Rattle.single_server.proofs.ReplyLaws.{says_all, says_more}
use Rattle.single_server.proofs.sending.send_replies.Goals as goal

pub effects-init : goal.effects-init
effects-init g c = record { says = says_nothing c.args.is_broken.now (g.G.Door.visits c.args.door.now); accepts = refl }

pub effects-preserved : goal.effects-preserved
effects-preserved g c = record {
  says = says_more c.args.conn c.args.effects.now c.effects.effect-index c.effect-item.result (omega arith) c.effect-item.is c.args.is_broken.now c.effects.is_broken c.send_reply.new.is_broken
      (g.G.Door.visits c.args.door.now) (g.G.Door.visits c.effects.door) (g.G.Door.visits c.send_reply.new.door) c.effects.invariant.says c.send_reply.ensures.says;
  accepts = c.send_reply.ensures.accepts ∙ c.effects.invariant.accepts;
}

pub returns-clause-says : goal.returns-clause-says
returns-clause-says g c = says_all c.args.conn c.args.effects.now c.effects.effect-index c.args.is_broken.now c.effects.is_broken (g.G.Door.visits c.args.door.now) (g.G.Door.visits c.effects.door) c.effects-test.false c.effects.invariant.says

pub returns-clause-accepts : goal.returns-clause-accepts
returns-clause-accepts g c = c.effects.invariant.accepts
