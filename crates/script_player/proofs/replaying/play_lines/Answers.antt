use Rattle.std.proofs.Common.{rules, ◌+◌, ◌-◌, ◌<◌, suc, length, refl, sym, ◌∙◌, arith}
use Rattle.text_lines.specs.Lines.{lines_of}
use Rattle.script_player.proofs.Lines.{fewer_lines}
use Rattle.script_player.proofs.Reaching.{next_line, no_line, reach_all, reach_more, reach_none, stops_at}
use Rattle.script_player.proofs.replaying.play_lines.Goals as goal

pub lines-init : goal.lines-init
lines-init g c = record {
  left = sym c.new-lines.ensures;
  reaches = reach_none (lines_of c.args.text.now) c.args.stage.now (g.K.Sink.written c.args.output.now) c.requires.unbegun;
  room = rw c.requires.unbegun (omega arith);
  later = search rules;
}

pub returns-in_default-clause-lines : goal.returns-in_default-clause-lines
returns-in_default-clause-lines g c =
    reach_all (lines_of c.args.text.now) c.lines.number c.lines.stage (g.K.Sink.written c.args.output.now) (g.K.Sink.written c.lines.output) c.lines.invariant.reaches
    (no_line (lines_of c.args.text.now) c.lines.number (c.lines.invariant.left ∙ c.in_default.ensures.none))

pub overflow_add-number : goal.overflow_add-number
overflow_add-number g c =
    let next = next_line (lines_of c.args.text.now) c.lines.number c.in-Some.line.now c.next.new.self (c.lines.invariant.left ∙ c.in-Some.ensures.line) in
    let less : c.lines.number < length (lines_of c.args.text.now) = next.0 in
    omega (arith, less, c.requires.few)

pub play_one-requires : goal.play_one-requires
play_one-requires g c =
    let next = next_line (lines_of c.args.text.now) c.lines.number c.in-Some.line.now c.next.new.self (c.lines.invariant.left ∙ c.in-Some.ensures.line) in
    let less : c.lines.number < length (lines_of c.args.text.now) = next.0 in
    record { room = fewer_lines (16_777_217 - c.lines.number) 1 c.lines.stage (omega (arith, less, c.requires.few)) c.lines.invariant.room }

pub lines-preserved : goal.lines-preserved
lines-preserved g c =
    let next = next_line (lines_of c.args.text.now) c.lines.number c.in-Some.line.now c.next.new.self (c.lines.invariant.left ∙ c.in-Some.ensures.line) in
    let less : c.lines.number < length (lines_of c.args.text.now) = next.0 in
    record {
      left = next.2;
      reaches = reach_more (lines_of c.args.text.now) c.lines.number c.in-Some.line.now c.lines.stage c.play_one.new.stage (g.K.Sink.written c.args.output.now) (g.K.Sink.written c.lines.output) (g.K.Sink.written c.play_one.new.output)
          c.lines.invariant.reaches next.0 next.1 c.in-Ok.ensures.plays;
      room = c.in-Ok.ensures.room (16_777_217 - (c.lines.number + 1))
          (fewer_lines (16_777_217 - c.lines.number) (suc (16_777_217 - (c.lines.number + 1))) c.lines.stage (omega (arith, less, c.requires.few)) c.lines.invariant.room);
      later = search rules;
    }

pub returns-in-Err-clause-lines : goal.returns-in-Err-clause-lines
returns-in-Err-clause-lines g c =
    let next = next_line (lines_of c.args.text.now) c.lines.number c.in-Some.line.now c.next.new.self (c.lines.invariant.left ∙ c.in-Some.ensures.line) in
    stops_at c.in-Err.replayed (lines_of c.args.text.now) c.lines.number (c.lines.number + 1) c.in-Some.line.now c.lines.stage c.play_one.new.stage (g.K.Sink.written c.args.output.now) (g.K.Sink.written c.lines.output)
    (g.K.Sink.written c.play_one.new.output) refl c.lines.invariant.reaches next.0 next.1 c.in-Err.ensures.plays
