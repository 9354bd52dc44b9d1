use Rattle.std.proofs.Common.{Ok, Err}
use Rattle.single_server.proofs.EndLaws.{disk_cause, is_done, serves_part}
use Rattle.single_server.proofs.SessionLaws.{fenced_at, served_from, unserved}
use Rattle.single_server.specs.Session.{Serves, beginning_at}
use Rattle.single_server.proofs.running.session.Goals as goal

pub returns-in-Err-clause-serves : goal.returns-in-Err-clause-serves
returns-in-Err-clause-serves g c = unserved c.in-Err.ended c.args.stamp (g.S.Source.left c.args.input.now) (g.K.Sink.written c.args.output.now) (g.D.Disk.view c.args.disk.now) (g.D.Disk.view c.open.new.disk) c.in-Err.ensures.begins

pub returns-in-Err-serve_stream-clause-serves : goal.returns-in-Err-serve_stream-clause-serves
returns-in-Err-serve_stream-clause-serves g c =
    let b = c.in-Ok.ensures.begins in
    let r = served_from (Err c.in-Err-serve_stream.ended) c.args.stamp (g.S.Source.left c.args.input.now) (g.S.Source.left c.serve_stream.new.input) (g.K.Sink.written c.args.output.now)
    (g.K.Sink.written c.serve_stream.new.output) (g.D.Disk.view c.args.disk.now) (g.D.Disk.view c.open.new.disk) (g.D.Disk.view c.serve_stream.new.disk) c.in-Ok.single b c.in-Err-serve_stream.ensures.serves in
    let serves : Serves c.in-Err-serve_stream.ended c.args.stamp (g.S.Source.left c.args.input.now) (g.S.Source.left c.serve_stream.new.input) (g.K.Sink.written c.args.output.now)
    (g.K.Sink.written c.serve_stream.new.output) (g.D.Disk.view c.args.disk.now) (g.D.Disk.view c.serve_stream.new.disk) =
    serves_part c.args.stamp (g.S.Source.left c.args.input.now) (g.S.Source.left c.serve_stream.new.input) (g.K.Sink.written c.args.output.now) (g.K.Sink.written c.serve_stream.new.output)
    (g.D.Disk.view c.args.disk.now) (g.D.Disk.view c.serve_stream.new.disk) (beginning_at b.first b.node (g.D.Disk.view c.open.new.disk)) b.begins c.in-Err-serve_stream.ended r.1 in serves

pub returns-in-Err-serve_stream-clause-disk : goal.returns-in-Err-serve_stream-clause-disk
returns-in-Err-serve_stream-clause-disk g c =
    let b = c.in-Ok.ensures.begins in
    let r = served_from (Err c.in-Err-serve_stream.ended) c.args.stamp (g.S.Source.left c.args.input.now) (g.S.Source.left c.serve_stream.new.input) (g.K.Sink.written c.args.output.now)
    (g.K.Sink.written c.serve_stream.new.output) (g.D.Disk.view c.args.disk.now) (g.D.Disk.view c.open.new.disk) (g.D.Disk.view c.serve_stream.new.disk) c.in-Ok.single b c.in-Err-serve_stream.ensures.serves in
    let serves : Serves c.in-Err-serve_stream.ended c.args.stamp (g.S.Source.left c.args.input.now) (g.S.Source.left c.serve_stream.new.input) (g.K.Sink.written c.args.output.now)
    (g.K.Sink.written c.serve_stream.new.output) (g.D.Disk.view c.args.disk.now) (g.D.Disk.view c.serve_stream.new.disk) =
    serves_part c.args.stamp (g.S.Source.left c.args.input.now) (g.S.Source.left c.serve_stream.new.input) (g.K.Sink.written c.args.output.now) (g.K.Sink.written c.serve_stream.new.output)
    (g.D.Disk.view c.args.disk.now) (g.D.Disk.view c.serve_stream.new.disk) (beginning_at b.first b.node (g.D.Disk.view c.open.new.disk)) b.begins c.in-Err-serve_stream.ended r.1 in
    disk_cause c.in-Err-serve_stream.ended c.args.stamp (g.S.Source.left c.args.input.now) (g.S.Source.left c.serve_stream.new.input) (g.K.Sink.written c.args.output.now) (g.K.Sink.written c.serve_stream.new.output)
    (g.D.Disk.view c.args.disk.now) (g.D.Disk.view c.serve_stream.new.disk) serves

pub returns-in-Err-serve_stream-clause-fenced : goal.returns-in-Err-serve_stream-clause-fenced
returns-in-Err-serve_stream-clause-fenced g c =
    let b = c.in-Ok.ensures.begins in
    let r = served_from (Err c.in-Err-serve_stream.ended) c.args.stamp (g.S.Source.left c.args.input.now) (g.S.Source.left c.serve_stream.new.input) (g.K.Sink.written c.args.output.now)
    (g.K.Sink.written c.serve_stream.new.output) (g.D.Disk.view c.args.disk.now) (g.D.Disk.view c.open.new.disk) (g.D.Disk.view c.serve_stream.new.disk) c.in-Ok.single b c.in-Err-serve_stream.ensures.serves in
    let serves : Serves c.in-Err-serve_stream.ended c.args.stamp (g.S.Source.left c.args.input.now) (g.S.Source.left c.serve_stream.new.input) (g.K.Sink.written c.args.output.now)
    (g.K.Sink.written c.serve_stream.new.output) (g.D.Disk.view c.args.disk.now) (g.D.Disk.view c.serve_stream.new.disk) =
    serves_part c.args.stamp (g.S.Source.left c.args.input.now) (g.S.Source.left c.serve_stream.new.input) (g.K.Sink.written c.args.output.now) (g.K.Sink.written c.serve_stream.new.output)
    (g.D.Disk.view c.args.disk.now) (g.D.Disk.view c.serve_stream.new.disk) (beginning_at b.first b.node (g.D.Disk.view c.open.new.disk)) b.begins c.in-Err-serve_stream.ended r.1 in
    fenced_at c.in-Err-serve_stream.ended c.args.stamp (g.S.Source.left c.args.input.now) (g.S.Source.left c.serve_stream.new.input) (g.K.Sink.written c.args.output.now) (g.K.Sink.written c.serve_stream.new.output)
    (g.D.Disk.view c.args.disk.now) (g.D.Disk.view c.serve_stream.new.disk) serves

pub returns-clause-serves : goal.returns-clause-serves
returns-clause-serves g c =
    let b = c.in-Ok.ensures.begins in
    let r = served_from (Ok tt) c.args.stamp (g.S.Source.left c.args.input.now) (g.S.Source.left c.serve_stream.new.input) (g.K.Sink.written c.args.output.now)
    (g.K.Sink.written c.serve_stream.new.output) (g.D.Disk.view c.args.disk.now) (g.D.Disk.view c.open.new.disk) (g.D.Disk.view c.serve_stream.new.disk) c.in-Ok.single b c.in-Ok-serve_stream.ensures.serves in
    is_done c.args.stamp (g.S.Source.left c.args.input.now) (g.S.Source.left c.serve_stream.new.input) (g.K.Sink.written c.args.output.now) (g.K.Sink.written c.serve_stream.new.output)
    (g.D.Disk.view c.args.disk.now) (g.D.Disk.view c.serve_stream.new.disk) (beginning_at b.first b.node (g.D.Disk.view c.open.new.disk)) b.begins r.0 r.1
