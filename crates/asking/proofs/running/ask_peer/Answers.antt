use Rattle.std.proofs.Common.{refl, inl, inr}
use Rattle.asking.specs.Asking.{edges}
use Rattle.asking.proofs.AskLaws.{runs_on, too_long, was_read}
use Rattle.asking.proofs.VisitLaws.{accepted, hung_up_is}
use Rattle.asking.proofs.running.ask_peer.Goals as goal

pub returns-in-TooLong-clause-runs : goal.returns-in-TooLong-clause-runs
returns-in-TooLong-clause-runs g c = (too_long (g.S.Source.left c.args.input.now) (g.S.Source.left c.read_whole.new.source) c.in-TooLong.ensures.told, refl)

pub returns-in-Ok-false-clause-runs : goal.returns-in-Ok-false-clause-runs
returns-in-Ok-false-clause-runs g c = (
  c.in-Bytes.text.items,
  was_read (g.S.Source.left c.args.input.now) (g.S.Source.left c.read_whole.new.source) c.in-Bytes.text.items c.in-Bytes.ensures.told c.in-Bytes.ensures.small,
  (refl, rw c.in-Ok-false.field-0-test at c.in-Ok-false.ensures.told),
)

pub returns-in-Err-clause-runs : goal.returns-in-Err-clause-runs
returns-in-Err-clause-runs g c = inl (refl, inr c.in-Err.ensures.told)

pub returns-clause-runs : goal.returns-clause-runs
returns-clause-runs g c =
    runs_on c.run_text-asked.result (g.S.Source.left c.args.input.now) (g.S.Source.left c.read_whole.new.source) c.in-Bytes.text.items
    (edges (g.K.Sink.written c.args.output.now) (g.G.Door.visits c.args.door.now)) (g.K.Sink.written c.run_text-asked.new.output) (g.G.Door.visits c.run_text-asked.new.door) (g.G.Door.visits c.hang_up.new.self)
    (was_read (g.S.Source.left c.args.input.now) (g.S.Source.left c.read_whole.new.source) c.in-Bytes.text.items c.in-Bytes.ensures.told c.in-Bytes.ensures.small)
    (rw c.deref.ensures.value at (c.run_text-asked.ensures.comes (g.G.Door.visits c.args.door.now) (accepted (g.G.Door.visits c.args.door.now) (g.G.Door.visits c.accept.new.self) (rw c.in-Ok-true.field-0-test at c.in-Ok-true.ensures.told))))
    (hung_up_is (g.G.Door.visits c.run_text-asked.new.door) (g.G.Door.visits c.hang_up.new.self) c.hang_up.ensures.told)
