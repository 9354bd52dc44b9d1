use Rattle.std.proofs.Common.{◌≡◌, ◌≤◌, List, ℕ, take, length, sym, ◌∙◌, arith, length-take}
use Rattle.single_server.specs.Session.{piece_length}
use Rattle.single_server.proofs.ConverseLaws.{ends_there, fails_there, is_cut, is_over, reaches, starts_there, takes_heard}
use Rattle.single_server.proofs.Written.{same_disk_still, same_then}
use Rattle.single_server.proofs.running.converse.Goals as goal

pub pieces-init : goal.pieces-init
pieces-init g c = record {
  alone = c.requires.alone;
  quiet = c.requires.quiet;
  connected = c.requires.connected;
  room = c.requires.room;
  reached = λ b starts. starts_there c.args.conn b (g.S.Source.left c.args.input.now) (g.K.Sink.written c.args.output.now) c.args.single.now (g.D.Disk.view c.args.disk.now) starts;
  few = omega arith;
  same_disk = same_disk_still (g.D.Disk.view c.args.disk.now);
  later_in = omega arith;
  later_out = omega arith;
}

pub returns-in-End-clause-converses : goal.returns-in-End-clause-converses
returns-in-End-clause-converses g c = λ b starts.
    let r = c.pieces.invariant.reached b starts in
    let comes = c.in-End.ensures.comes in
    ends_there c.args.conn b (g.S.Source.left c.args.input.now) (g.S.Source.left c.pieces.input) (g.S.Source.left c.read_piece.new.input) (g.K.Sink.written c.args.output.now) (g.K.Sink.written c.pieces.output)
    c.pieces.taken c.pieces.single (g.D.Disk.view c.pieces.disk) r comes.0 c.pieces.invariant.quiet comes.1 comes.2 comes.3

pub returns-in-Fails-clause-converses : goal.returns-in-Fails-clause-converses
returns-in-Fails-clause-converses g c = λ b starts.
    let r = c.pieces.invariant.reached b starts in
    fails_there c.args.conn b (g.S.Source.left c.args.input.now) (g.S.Source.left c.pieces.input) (g.S.Source.left c.read_piece.new.input) (g.K.Sink.written c.args.output.now) (g.K.Sink.written c.pieces.output)
    c.pieces.taken c.pieces.single (g.D.Disk.view c.pieces.disk) r c.in-Fails.ensures.comes

pub returns-in-Err-clause-converses : goal.returns-in-Err-clause-converses
returns-in-Err-clause-converses g c = λ b starts.
    let r = c.pieces.invariant.reached b starts in
    let comes = c.in-Bytes.ensures.comes in
    let piece : List ℕ = take c.in-Bytes.size c.read_piece.new.buffer in
    let size = comes.2 in
    let short : length piece ≤ piece_length = omega (arith, size, length-take c.in-Bytes.size c.read_piece.new.buffer) in
    is_cut c.args.conn b (g.S.Source.left c.args.input.now) (g.S.Source.left c.pieces.input) (g.S.Source.left c.read_piece.new.input) (g.K.Sink.written c.args.output.now) (g.K.Sink.written c.pieces.output)
    c.pieces.taken c.pieces.single (g.D.Disk.view c.pieces.disk) r (g.K.Sink.written c.hear.new.output) piece c.hear.new.single (g.D.Disk.view c.hear.new.disk) comes.0 c.in-Err.ended short
    (c.in-Err.ensures.hears b r.stream r.told r.heard)

pub returns-in-Err-clause-read : goal.returns-in-Err-clause-read
returns-in-Err-clause-read g c = λ e. absurd (c.in-Err.ensures.read e)

pub returns-then-not-is_connected-clause-converses : goal.returns-then-not-is_connected-clause-converses
returns-then-not-is_connected-clause-converses g c = λ b starts.
    let r = c.pieces.invariant.reached b starts in
    let comes = c.in-Bytes.ensures.comes in
    let piece : List ℕ = take c.in-Bytes.size c.read_piece.new.buffer in
    let size = comes.2 in
    let short : length piece ≤ piece_length = omega (arith, size, length-take c.in-Bytes.size c.read_piece.new.buffer) in
    let h = c.in-Ok.ensures.hears b r.stream r.told r.heard in
    is_over c.args.conn b (g.S.Source.left c.args.input.now) (g.S.Source.left c.pieces.input) (g.S.Source.left c.read_piece.new.input) (g.K.Sink.written c.args.output.now) (g.K.Sink.written c.pieces.output)
    c.pieces.taken c.pieces.single (g.D.Disk.view c.pieces.disk) r (g.K.Sink.written c.hear.new.output) piece c.hear.new.single (g.D.Disk.view c.hear.new.disk) comes.0 short h.1 h.0
    (sym c.is_connected.ensures ∙ c.if-not-is_connected.true)

pub pieces-preserved : goal.pieces-preserved
pieces-preserved g c =
    let comes = c.in-Bytes.ensures.comes in
    let piece : List ℕ = take c.in-Bytes.size c.read_piece.new.buffer in
    let size = comes.2 in
    let all = c.read_piece.array_long in
    let long : length piece ≡ c.in-Bytes.size = omega (arith, size, all, length-take c.in-Bytes.size c.read_piece.new.buffer) in
    let a = c.pieces.invariant.alone in
    let h = c.in-Ok.ensures.hears a.0 a.1 a.2 a.3 in
    record {
      alone = takes_heard c.args.conn a.0 a.1 piece a.2 c.hear.new.single (g.D.Disk.view c.hear.new.disk) (g.K.Sink.written c.pieces.output) (g.K.Sink.written c.hear.new.output) h.0;
      quiet = h.1;
      connected = sym c.is_connected.ensures ∙ c.if-not-is_connected.false;
      room = c.in-Ok.ensures.room;
      reached = λ b starts. (let r = c.pieces.invariant.reached b starts in
          reaches c.args.conn b (g.S.Source.left c.args.input.now) (g.S.Source.left c.pieces.input) (g.S.Source.left c.read_piece.new.input) (g.K.Sink.written c.args.output.now) (g.K.Sink.written c.pieces.output)
          c.pieces.taken c.pieces.single (g.D.Disk.view c.pieces.disk) r (g.K.Sink.written c.hear.new.output) piece c.hear.new.single (g.D.Disk.view c.hear.new.disk) comes.0 c.in-Bytes.size long
          (c.in-Ok.ensures.hears b r.stream r.told r.heard).0 (sym c.is_connected.ensures ∙ c.if-not-is_connected.false));
      few = comes.3;
      same_disk = same_then (g.D.Disk.view c.args.disk.now) (g.D.Disk.view c.pieces.disk) (g.D.Disk.view c.hear.new.disk) c.pieces.invariant.same_disk c.in-Ok.ensures.same_disk;
      later_in = (let x = c.pieces.invariant.later_in in let y = c.in-Bytes.ensures.later in omega (arith, x, y));
      later_out = (let x = c.pieces.invariant.later_out in let y = c.in-Ok.ensures.later in omega (arith, x, y));
    }
