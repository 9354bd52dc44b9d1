use Rattle.std.proofs.Common.{◌≡◌, ◌-◌, ◌≤◌, length, drop}
use Rattle.text_lines.specs.Lines.{lines_of}
use Rattle.script_player.specs.Bounds.{HasRoomFor}
use Rattle.script_player.proofs.Reaching.{Reaches}
use Rattle.script_player.proofs.replaying.play_lines.Given as goal

abbrev pub invariant-lines : goal.invariant-lines
invariant-lines g l = record {
  left : drop l.number (lines_of l.text) ≡ l.lines;
  reaches : Reaches (lines_of l.text) l.number l.stage (g.K.Sink.written l.initial.output) (g.K.Sink.written l.output);
  room : HasRoomFor (16_777_217 - l.number) l.stage;
  later : g.K.Sink.faults l.initial.output ≤ g.K.Sink.faults l.output;
}

abbrev pub decreases-lines : goal.decreases-lines
decreases-lines g l = length l.lines
