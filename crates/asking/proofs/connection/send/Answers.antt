use Rattle.std.proofs.Common.{rules}
use Rattle.std.proofs.lemmas.Result.{err_from_is_err_and}
use Rattle.asking.proofs.VisitLaws.{nothing_sent, sent_all, sent_in_part, sent_more}
use Rattle.asking.proofs.connection.send.Goals as goal

pub pieces-init : goal.pieces-init
pieces-init g c =
    record { within = search rules; sent = nothing_sent c.args.bytes.now (g.G.Door.visits c.args.door.now); accepts = search rules; reads = search rules; later = search rules }

pub pieces-preserved : goal.pieces-preserved
pieces-preserved g c = record {
  within = search rules;
  sent = sent_more c.args.bytes.now c.pieces.done c.in_ok-done.field-0 (g.G.Door.visits c.args.door.now) (g.G.Door.visits c.pieces.door) (g.G.Door.visits c.write.new.self)
      c.pieces.invariant.sent c.in_ok-done.ensures.told;
  accepts = search rules;
  reads = search rules;
  later = search rules;
}

pub returns-clause-sends : goal.returns-clause-sends
returns-clause-sends g c =
    sent_all c.args.bytes.now c.pieces.done (g.G.Door.visits c.args.door.now) (g.G.Door.visits c.pieces.door) c.pieces-test.false c.pieces.invariant.sent

pub returns-in_err-done-clause-sends : goal.returns-in_err-done-clause-sends
returns-in_err-done-clause-sends g c =
    let p = err_from_is_err_and c.from_residual.result c.from_residual.ensures.1 in
    rw p.1
    (sent_in_part c.args.bytes.now c.pieces.done (g.G.Door.visits c.args.door.now) (g.G.Door.visits c.pieces.door) (g.G.Door.visits c.write.new.self) c.pieces.invariant.sent
    c.in_err-done.ensures.told)
