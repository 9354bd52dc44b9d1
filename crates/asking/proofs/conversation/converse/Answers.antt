use Rattle.std.proofs.Common.{rules, ◌++◌}
use Rattle.asking.proofs.TalkLaws.{piece_read, receiving_halts, stream_ends}
use Rattle.asking.proofs.conversation.converse.Goals as goal

pub pieces-init : goal.pieces-init
pieces-init g c = record { opened = c.requires.opened; at = λ origin commands stream given at. (stream, given, at); later = search rules }

pub returns-in-Ok-Idle-clause-rests : goal.returns-in-Ok-Idle-clause-rests
returns-in-Ok-Idle-clause-rests g c = λ origin commands stream given at.
    let here = c.pieces.invariant.at origin commands stream given at in
    let gave = (rw c.in-Ok-Idle.field-0-is at c.in-Ok-Idle.ensures.gives) origin commands here.0 here.1 here.2 in
    record { stream = here.0; given = gave.0; at = gave.1; done = gave.2 }

pub returns-in-Err-clause-rests : goal.returns-in-Err-clause-rests
returns-in-Err-clause-rests g c = λ origin commands stream given at.
    let here = c.pieces.invariant.at origin commands stream given at in
    c.in-Err.ensures.gives origin commands here.0 here.1 here.2

pub returns-in-Err-receive-clause-rests : goal.returns-in-Err-receive-clause-rests
returns-in-Err-receive-clause-rests g c = λ origin commands stream given at.
    let here = c.pieces.invariant.at origin commands stream given at in
    let gave = (rw c.in-Ok-Wait.field-0-is at c.in-Ok-Wait.ensures.gives) origin commands here.0 here.1 here.2 in
    receiving_halts c.in-Err-receive.halt c.give.new.client c.receive.new.client (g.K.Sink.written c.give.new.output) (g.G.Door.visits c.give.new.door) (g.G.Door.visits c.receive.new.door)
    c.in-Err-receive.ensures.receives origin commands here.0 gave.0 gave.1

pub returns-in-Ok-End-clause-rests : goal.returns-in-Ok-End-clause-rests
returns-in-Ok-End-clause-rests g c = λ origin commands stream given at.
    let here = c.pieces.invariant.at origin commands stream given at in
    let gave = (rw c.in-Ok-Wait.field-0-is at c.in-Ok-Wait.ensures.gives) origin commands here.0 here.1 here.2 in
    let ready = rw c.in-Ok-Wait.field-0-is at c.in-Ok-Wait.ensures.paused in
    let end = rw c.in-Ok-End.field-0-is at c.in-Ok-End.ensures.receives in
    let received = rw end.0 at c.received.ensures in
    stream_ends c.received.result c.give.new.client (g.K.Sink.written c.give.new.output) (g.G.Door.visits c.give.new.door) (g.G.Door.visits c.receive.new.door)
    end.1 origin commands here.0 gave.0 (received commands here.0 gave.0 gave.1.holds ready.looks) gave.2 gave.1

pub pieces-preserved : goal.pieces-preserved
pieces-preserved g c = record {
  opened = search rules;
  at = λ origin commands stream given at.
      let here = c.pieces.invariant.at origin commands stream given at in
      let gave = (rw c.in-Ok-Wait.field-0-is at c.in-Ok-Wait.ensures.gives) origin commands here.0 here.1 here.2 in
      let fed = rw c.in-Ok-Piece.field-0-is at c.in-Ok-Piece.ensures.receives in (
        here.0 ++ fed.0,
        gave.0,
        piece_read fed.0 c.give.new.client c.receive.new.client (g.K.Sink.written c.give.new.output) (g.G.Door.visits c.give.new.door) (g.G.Door.visits c.receive.new.door)
            fed.1 fed.2 origin commands here.0 gave.0 gave.1,
      );
  later = search rules;
}
