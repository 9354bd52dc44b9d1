use Rattle.std.proofs.Common.{[]}
use Rattle.single_server.proofs.SessionLaws.{first_begins, not_connected, not_hung_up}
use Rattle.single_server.specs.Session.{beginning_at}
use Rattle.single_server.proofs.running.serve_stream.Goals as goal

pub returns-in-Err-clause-serves : goal.returns-in-Err-clause-serves
returns-in-Err-clause-serves g c = λ first x runs free none begun.
    (c.args.single.now, not_connected (beginning_at first x (g.D.Disk.view c.args.disk.now)) (g.S.Source.left c.args.input.now) (g.K.Sink.written c.args.output.now))

pub converse-requires-clause-alone : goal.converse-requires-clause-alone
converse-requires-clause-alone g c =
    let f = c.requires.fresh in
    let begins = first_begins 1 c.args.single.now c.connect.new.self (g.D.Disk.view c.args.disk.now) c.in-Ok.field-0 f.node f.first f.runs f.quiet f.unconnected f.none_taken f.begun c.in-Ok.ensures.connects c.in-Ok.ensures.left in
    (beginning_at f.first f.node (g.D.Disk.view c.args.disk.now), [], [], begins.0)

pub returns-in-Err-converse-clause-serves : goal.returns-in-Err-converse-clause-serves
returns-in-Err-converse-clause-serves g c = λ first x runs free none begun.
    let begins = first_begins 1 c.args.single.now c.connect.new.self (g.D.Disk.view c.args.disk.now) c.in-Ok.field-0 x first runs c.requires.fresh.quiet free none begun c.in-Ok.ensures.connects c.in-Ok.ensures.left in
    (c.converse.new.single, c.in-Err-converse.ensures.converses (beginning_at first x (g.D.Disk.view c.args.disk.now)) begins.0)

pub returns-in-Err-hang_up-clause-serves : goal.returns-in-Err-hang_up-clause-serves
returns-in-Err-hang_up-clause-serves g c = λ first x runs free none begun.
    let begins = first_begins 1 c.args.single.now c.connect.new.self (g.D.Disk.view c.args.disk.now) c.in-Ok.field-0 x first runs c.requires.fresh.quiet free none begun c.in-Ok.ensures.connects c.in-Ok.ensures.left in
    let out = c.in-Ok-converse.ensures.converses (beginning_at first x (g.D.Disk.view c.args.disk.now)) begins.0 in (
      c.converse.new.single,
      not_hung_up (beginning_at first x (g.D.Disk.view c.args.disk.now)) (g.S.Source.left c.args.input.now) (g.S.Source.left c.converse.new.input) (g.K.Sink.written c.args.output.now)
          (g.K.Sink.written c.converse.new.output) c.converse.new.single (g.D.Disk.view c.converse.new.disk) out,
    )

pub returns-clause-serves : goal.returns-clause-serves
returns-clause-serves g c = λ first x runs free none begun.
    let begins = first_begins 1 c.args.single.now c.connect.new.self (g.D.Disk.view c.args.disk.now) c.in-Ok.field-0 x first runs c.requires.fresh.quiet free none begun c.in-Ok.ensures.connects c.in-Ok.ensures.left in
    (c.converse.new.single, c.in-Ok-converse.ensures.converses (beginning_at first x (g.D.Disk.view c.args.disk.now)) begins.0)
