use Rattle.std.proofs.Common.{◌≡◌, ◌≤◌, List, ℕ, take, length, refl, arith, sym, ◌∙◌}
use Rattle.std.proofs.lemmas.List.{length-take}
use Rattle.wire_fields.specs.Numbers.{IsBytes}
use Rattle.single_server.specs.Session.{piece_length}
use Rattle.single_server.proofs.ConversingLaws.{breaks_at, closes_at, ends_at_door, fails_at_door, is_cut_at, reaches_at, starts_at, takes_at}
use Rattle.single_server.proofs.QueueLaws.{queues_none, queues_then}
use Rattle.single_server.proofs.Written.{same_disk_still, same_then}
use Rattle.single_server.proofs.talking.converse.Goals as goal

pub pieces-init : goal.pieces-init
pieces-init g c = record {
  alone = c.requires.alone;
  quiet = c.requires.quiet;
  connected = c.requires.connected;
  room = c.requires.room;
  reached = λ b starts. starts_at c.args.conn b c.args.single.now (g.D.Disk.view c.args.disk.now) (g.G.Door.visits c.args.door.now) starts;
  few = omega arith;
  whole = refl;
  queues = queues_none c.args.conn c.args.single.now.node;
  accepts = refl;
  same_disk = same_disk_still (g.D.Disk.view c.args.disk.now);
}

pub returns-in-End-clause-converses : goal.returns-in-End-clause-converses
returns-in-End-clause-converses g c = λ b starts.
    let r = c.pieces.invariant.reached b starts in
    let reads = c.in-End.ensures.reads in
    ends_at_door c.args.conn b c.pieces.taken c.pieces.single (g.D.Disk.view c.pieces.disk) (g.G.Door.visits c.args.door.now) (g.G.Door.visits c.pieces.door) r reads.0 (g.G.Door.visits c.read_piece.new.door)
    reads.1 c.pieces.invariant.quiet reads.2

pub returns-in-Fails-clause-converses : goal.returns-in-Fails-clause-converses
returns-in-Fails-clause-converses g c = λ b starts.
    let r = c.pieces.invariant.reached b starts in
    fails_at_door c.args.conn b c.pieces.taken c.pieces.single (g.D.Disk.view c.pieces.disk) (g.G.Door.visits c.args.door.now) (g.G.Door.visits c.pieces.door) r (g.G.Door.visits c.read_piece.new.door)
    c.pieces.invariant.quiet c.in-Fails.ensures.reads

pub returns-in-Err-clause-converses : goal.returns-in-Err-clause-converses
returns-in-Err-clause-converses g c = λ b starts.
    let r = c.pieces.invariant.reached b starts in
    let reads = c.in-Bytes.ensures.reads in
    let piece : List ℕ = take c.in-Bytes.size c.read_piece.new.buffer in
    let size = reads.2 in
    let short : length piece ≤ piece_length = omega (arith, size, length-take c.in-Bytes.size c.read_piece.new.buffer) in
    let bytes : IsBytes piece = c.in-Err.ensures.bytes in
    is_cut_at c.args.conn b c.pieces.taken c.pieces.single (g.D.Disk.view c.pieces.disk) (g.G.Door.visits c.args.door.now) (g.G.Door.visits c.pieces.door) r piece
    (g.G.Door.visits c.read_piece.new.door) (g.G.Door.visits c.hear.new.door) bytes reads.0 c.hear.new.single (g.D.Disk.view c.hear.new.disk) c.in-Err.ended c.hear.new.is_broken short
    (rw c.pieces.invariant.whole at c.in-Err.ensures.hears b r.stream r.told r.heard)

pub returns-then-is_broken-clause-converses : goal.returns-then-is_broken-clause-converses
returns-then-is_broken-clause-converses g c = λ b starts.
    let r = c.pieces.invariant.reached b starts in
    let reads = c.in-Bytes.ensures.reads in
    let piece : List ℕ = take c.in-Bytes.size c.read_piece.new.buffer in
    let size = reads.2 in
    let short : length piece ≤ piece_length = omega (arith, size, length-take c.in-Bytes.size c.read_piece.new.buffer) in
    let bytes : IsBytes piece = c.in-Ok.ensures.bytes in
    let h = rw (c.pieces.invariant.whole, c.if-is_broken.true) at c.in-Ok.ensures.hears b r.stream r.told r.heard in
    breaks_at c.args.conn b c.pieces.taken c.pieces.single (g.D.Disk.view c.pieces.disk) (g.G.Door.visits c.args.door.now) (g.G.Door.visits c.pieces.door) r piece
    (g.G.Door.visits c.read_piece.new.door) (g.G.Door.visits c.hear.new.door) bytes reads.0 c.hear.new.single (g.D.Disk.view c.hear.new.disk) short h.1 h.0

pub returns-then-not-is_connected-clause-converses : goal.returns-then-not-is_connected-clause-converses
returns-then-not-is_connected-clause-converses g c = λ b starts.
    let r = c.pieces.invariant.reached b starts in
    let reads = c.in-Bytes.ensures.reads in
    let piece : List ℕ = take c.in-Bytes.size c.read_piece.new.buffer in
    let size = reads.2 in
    let short : length piece ≤ piece_length = omega (arith, size, length-take c.in-Bytes.size c.read_piece.new.buffer) in
    let bytes : IsBytes piece = c.in-Ok.ensures.bytes in
    let h = rw (c.pieces.invariant.whole, c.if-is_broken.false) at c.in-Ok.ensures.hears b r.stream r.told r.heard in
    closes_at c.args.conn b c.pieces.taken c.pieces.single (g.D.Disk.view c.pieces.disk) (g.G.Door.visits c.args.door.now) (g.G.Door.visits c.pieces.door) r piece
    (g.G.Door.visits c.read_piece.new.door) (g.G.Door.visits c.hear.new.door) bytes reads.0 c.hear.new.single (g.D.Disk.view c.hear.new.disk) short h.1 h.0
    (sym c.is_connected.ensures ∙ c.if-not-is_connected.true)

pub pieces-preserved : goal.pieces-preserved
pieces-preserved g c =
    let reads = c.in-Bytes.ensures.reads in
    let piece : List ℕ = take c.in-Bytes.size c.read_piece.new.buffer in
    let size = reads.2 in
    let all = c.read_piece.array_long in
    let long : length piece ≡ c.in-Bytes.size = omega (arith, size, all, length-take c.in-Bytes.size c.read_piece.new.buffer) in
    let bytes : IsBytes piece = c.in-Ok.ensures.bytes in
    let a = c.pieces.invariant.alone in
    let h = c.in-Ok.ensures.hears a.0 a.1 a.2 a.3 in
    record {
      alone = takes_at c.args.conn a.0 a.1 piece a.2 c.hear.new.single (g.D.Disk.view c.hear.new.disk) c.pieces.is_broken c.hear.new.is_broken (g.G.Door.visits c.read_piece.new.door) (g.G.Door.visits c.hear.new.door) h.0;
      quiet = h.1;
      connected = sym c.is_connected.ensures ∙ c.if-not-is_connected.false;
      room = c.in-Ok.ensures.room;
      reached = λ b starts. (let r = c.pieces.invariant.reached b starts in
          reaches_at c.args.conn b c.pieces.taken c.pieces.single (g.D.Disk.view c.pieces.disk) (g.G.Door.visits c.args.door.now) (g.G.Door.visits c.pieces.door) r piece
          (g.G.Door.visits c.read_piece.new.door) (g.G.Door.visits c.hear.new.door) bytes reads.0 c.hear.new.single (g.D.Disk.view c.hear.new.disk) c.in-Bytes.size long
          (rw (c.pieces.invariant.whole, c.if-is_broken.false) at c.in-Ok.ensures.hears b r.stream r.told r.heard).0 (sym c.is_connected.ensures ∙ c.if-not-is_connected.false));
      few = reads.3;
      whole = c.if-is_broken.false;
      queues = queues_then c.args.conn c.args.single.now.node c.pieces.single.node c.hear.new.single.node c.pieces.invariant.queues c.in-Ok.ensures.queues;
      accepts = c.in-Ok.ensures.accepts ∙ c.in-Bytes.ensures.accepts ∙ c.pieces.invariant.accepts;
      same_disk = same_then (g.D.Disk.view c.args.disk.now) (g.D.Disk.view c.pieces.disk) (g.D.Disk.view c.hear.new.disk) c.pieces.invariant.same_disk c.in-Ok.ensures.same_disk;
    }
