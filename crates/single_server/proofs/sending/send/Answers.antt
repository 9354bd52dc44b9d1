use Rattle.std.proofs.Common.{rules}
use Rattle.single_server.proofs.DoorLaws.{nothing_sent, sent_all, sent_in_part, sent_more}
use Rattle.single_server.proofs.sending.send.Goals as goal

pub pieces-init : goal.pieces-init
pieces-init g c = record { within = search rules; sent = nothing_sent c.args.bytes.now (g.G.Door.visits c.args.door.now); accepts = search rules }

pub pieces-preserved : goal.pieces-preserved
pieces-preserved g c = record {
  within = search rules;
  sent = sent_more c.args.bytes.now c.pieces.done c.in-Ok.count (g.G.Door.visits c.args.door.now) (g.G.Door.visits c.pieces.door) (g.G.Door.visits c.write.new.self)
      c.pieces.invariant.sent c.in-Ok.ensures.told;
  accepts = search rules;
}

pub returns-clause-sends : goal.returns-clause-sends
returns-clause-sends g c = sent_all c.args.bytes.now c.pieces.done (g.G.Door.visits c.args.door.now) (g.G.Door.visits c.pieces.door) c.pieces-test.false c.pieces.invariant.sent

pub returns-in-Err-clause-sends : goal.returns-in-Err-clause-sends
returns-in-Err-clause-sends g c =
    sent_in_part c.args.bytes.now c.pieces.done (g.G.Door.visits c.args.door.now) (g.G.Door.visits c.pieces.door) (g.G.Door.visits c.write.new.self) c.pieces.invariant.sent
    c.in-Err.ensures.told
