use Rattle.std.proofs.Common.{[]}
use Rattle.asking.specs.Asking.{edges}
use Rattle.asking.specs.Inputs.{parsed}
use Rattle.asking.proofs.RunLaws.{is_new}
use Rattle.asking.proofs.TalkLaws.{halt_comes, halts_more}
use Rattle.asking.proofs.running.run_text.Goals as goal

pub returns-in-Ok-clause-comes : goal.returns-in-Ok-clause-comes
returns-in-Ok-clause-comes g c = λ first talks.
    let origin = edges (g.K.Sink.written c.args.output.now) first in
    c.run_lines.ensures.comes origin
    (c.in-Ok.ensures.rests origin (is_new first (g.K.Sink.written c.args.output.now) (g.G.Door.visits c.args.door.now) c.new-client.result c.new-client.ensures.holds talks))

pub returns-clause-comes : goal.returns-clause-comes
returns-clause-comes g c = λ first talks.
    let origin = edges (g.K.Sink.written c.args.output.now) first in
    let now = edges (g.K.Sink.written c.begin.new.output) (g.G.Door.visits c.begin.new.door) in
    let halts = c.in-Err.ensures.rests origin (is_new first (g.K.Sink.written c.args.output.now) (g.G.Door.visits c.args.door.now) c.new-client.result c.new-client.ensures.holds talks) in
    rw c.from.ensures (halt_comes c.in-Err.halt origin (parsed c.args.text.now) now (halts_more c.in-Err.halt origin [] (parsed c.args.text.now).commands now halts))
