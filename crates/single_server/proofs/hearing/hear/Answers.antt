use Rattle.single_server.proofs.HearLaws.{heard_after, hears_all, out_of_memory, stops_writing}
use Rattle.single_server.proofs.hearing.hear.Goals as goal

pub returns-in-Err-clause-hears : goal.returns-in-Err-clause-hears
returns-in-Err-clause-hears g c = λ b stream told h.
    out_of_memory c.args.conn c.args.piece.now c.args.single.now c.bytes.new.self (g.D.Disk.view c.args.disk.now) b stream told (g.K.Sink.written c.args.output.now) h

pub returns-in-Err-write_replies-clause-hears : goal.returns-in-Err-write_replies-clause-hears
returns-in-Err-write_replies-clause-hears g c = λ b stream told h.
    stops_writing c.args.conn c.args.piece.now c.args.single.now c.bytes.new.self (g.D.Disk.view c.args.disk.now) c.in-Ok.effects c.requires.quiet c.in-Ok.ensures.hears c.in-Ok.ensures.left b stream told h
    (g.K.Sink.written c.args.output.now) (g.K.Sink.written c.write_replies.new.output) (rw c.as_slice.ensures at c.in-Err-write_replies.ensures.prefix)

pub deliver_all-requires-clause-alone : goal.deliver_all-requires-clause-alone
deliver_all-requires-clause-alone g c =
    heard_after c.args.conn c.args.piece.now c.args.single.now c.bytes.new.self (g.D.Disk.view c.args.disk.now) c.in-Ok.effects c.requires.quiet c.in-Ok.ensures.hears c.in-Ok.ensures.left c.requires.alone

pub returns-clause-hears : goal.returns-clause-hears
returns-clause-hears g c = λ b stream told h.
    hears_all c.args.conn c.args.piece.now c.args.single.now c.bytes.new.self (g.D.Disk.view c.args.disk.now) c.in-Ok.effects c.requires.quiet c.in-Ok.ensures.hears c.in-Ok.ensures.left b stream told h
    c.deliver_all.result c.deliver_all.new.single (g.D.Disk.view c.deliver_all.new.disk) (g.K.Sink.written c.args.output.now) (g.K.Sink.written c.write_replies.new.output) (g.K.Sink.written c.deliver_all.new.output)
    (rw c.as_slice.ensures at c.in-Ok-write_replies.ensures.whole) c.deliver_all.ensures.delivers c.deliver_all.ensures.still
