use Rattle.client_commands.specs.Commands.{command_of}
use Rattle.asking.specs.Asking.{edges}
use Rattle.asking.specs.Inputs.{line_first}
use Rattle.asking.proofs.TalkLaws.{command_done, command_halts, line_bad, line_unread, nothing_said}
use Rattle.asking.proofs.running.run_line.Goals as goal

pub returns-in-Ok-None-clause-runs : goal.returns-in-Ok-None-clause-runs
returns-in-Ok-None-clause-runs g c = λ origin commands others resting.
    nothing_said c.args.number (command_of c.args.line.now) origin commands others c.args.client.now (edges (g.K.Sink.written c.args.output.now) (g.G.Door.visits c.args.door.now))
    (rw c.in-Ok-None.field-0-is at c.in-Ok-None.ensures.command) resting

pub returns-in-Err-Column-clause-runs : goal.returns-in-Err-Column-clause-runs
returns-in-Err-Column-clause-runs g c = λ origin commands others resting.
    line_bad c.args.number c.in-Err-Column.column (command_of c.args.line.now) origin commands others c.args.client.now (g.K.Sink.written c.args.output.now) (g.G.Door.visits c.args.door.now)
    (rw c.in-Err-Column.field-0-is at c.in-Err-Column.ensures.command) resting

pub returns-in-Err-Memory-clause-runs : goal.returns-in-Err-Memory-clause-runs
returns-in-Err-Memory-clause-runs g c = λ origin commands others resting.
    line_unread origin commands (line_first c.args.number (command_of c.args.line.now) others) c.args.client.now (g.K.Sink.written c.args.output.now) (g.G.Door.visits c.args.door.now) resting

pub returns-in-Ok-clause-runs : goal.returns-in-Ok-clause-runs
returns-in-Ok-clause-runs g c = λ origin commands others resting.
    command_done c.args.number (command_of c.args.line.now) c.in-Ok-Some.command origin commands others c.carry_out.new.client
    (edges (g.K.Sink.written c.carry_out.new.output) (g.G.Door.visits c.carry_out.new.door)) (rw c.in-Ok-Some.field-0-is at c.in-Ok-Some.ensures.command)
    (c.in-Ok.ensures.rests origin commands resting)

pub returns-in-Err-clause-runs : goal.returns-in-Err-clause-runs
returns-in-Err-clause-runs g c = λ origin commands others resting.
    rw c.from.ensures
    (command_halts c.args.number (command_of c.args.line.now) c.in-Ok-Some.command c.in-Err.halt origin commands others
    (edges (g.K.Sink.written c.carry_out.new.output) (g.G.Door.visits c.carry_out.new.door)) (rw c.in-Ok-Some.field-0-is at c.in-Ok-Some.ensures.command)
    (c.in-Err.ensures.rests origin commands resting))
