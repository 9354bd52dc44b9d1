use Rattle.std.proofs.Common.{◌≤◌, take}
use Rattle.causes.specs.Writing.{Wrote}
use Rattle.single_items.specs.Events.{told_to}
use Rattle.single_server.proofs.replying.write_replies.Given as goal

abbrev pub invariant-effects : goal.invariant-effects
invariant-effects g l = record {
  wrote : Wrote (g.K.Sink.written l.initial.output) (g.K.Sink.written l.output) (told_to l.conn (take l.effect-index l.effects));
  later : g.K.Sink.faults l.initial.output ≤ g.K.Sink.faults l.output;
}
