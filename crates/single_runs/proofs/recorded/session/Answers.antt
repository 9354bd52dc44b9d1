use Rattle.single_runs.proofs.BadLogs.{session_bad, session_exact}
use Rattle.single_runs.proofs.Fences.{session_fences}
use Rattle.single_runs.proofs.SessionLaws.{runs_session}
use Rattle.single_runs.proofs.recorded.session.Goals as goal

pub returns-clause-runs : goal.returns-clause-runs
returns-clause-runs g c =
    runs_session c.args.stamp (g.S.Source.left c.args.input.now) (g.S.Source.left c.session.new.input) (g.K.Sink.written c.args.output.now) (g.K.Sink.written c.session.new.output)
    (g.D.Disk.view c.args.disk.now) (g.D.Disk.view c.session.new.disk) c.session.result c.session.ensures.serves

pub returns-clause-bad_log : goal.returns-clause-bad_log
returns-clause-bad_log g c = λ place is told.
    session_bad (g.D.Disk.view c.args.disk.now) (g.D.Disk.view c.session.new.disk) c.requires.disk_size c.session.result c.args.stamp (g.S.Source.left c.args.input.now) (g.S.Source.left c.session.new.input)
    (g.K.Sink.written c.args.output.now) (g.K.Sink.written c.session.new.output) c.session.ensures.serves place is told

pub returns-clause-exact : goal.returns-clause-exact
returns-clause-exact g c = λ place told bad.
    session_exact (g.D.Disk.view c.args.disk.now) (g.D.Disk.view c.session.new.disk) c.requires.disk_size told (g.met.D.Disk.whole c.args.disk.now told) place bad c.session.result c.args.stamp
    (g.S.Source.left c.args.input.now) (g.S.Source.left c.session.new.input) (g.K.Sink.written c.args.output.now) (g.K.Sink.written c.session.new.output) c.session.ensures.serves

pub returns-clause-fences : goal.returns-clause-fences
returns-clause-fences g c = λ later.
    session_fences (g.D.Disk.view c.args.disk.now) (g.D.Disk.view c.session.new.disk) later c.session.result c.args.stamp (g.S.Source.left c.args.input.now) (g.S.Source.left c.session.new.input)
    (g.K.Sink.written c.args.output.now) (g.K.Sink.written c.session.new.output) c.session.ensures.serves
