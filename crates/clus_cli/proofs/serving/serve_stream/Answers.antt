use Rattle.std.proofs.Common.{◌≡◌, refl, sym, subst}
use Rattle.command_words.specs.Commands as asked
use Rattle.clus_cli.specs.declared.status.Status.{Status}
use Rattle.clus_cli.specs.Ends.{MayEnd, Outside, outside}
use Rattle.clus_cli.specs.Showlog.{EndsAtBad}
use Rattle.clus_cli.proofs.RunLaws.{at_bad, session_ends}
use Rattle.clus_cli.proofs.serving.serve_stream.Goals as goal

pub returns-clause-ends : goal.returns-clause-ends
returns-clause-ends g c = λ old now.
    let v : Outside = outside (g.S.Source.faults c.args.input.now) (g.K.Sink.faults c.args.output.now) old (g.D.Disk.view c.args.disk.now) in
    let w : Outside = outside (g.S.Source.faults c.session.new.input) (g.K.Sink.faults c.session.new.output) now (g.D.Disk.view c.session.new.disk) in
    subst (λ (s : Status). MayEnd (asked.session c.args.stamp) s v w) (sym c.from.ensures)
    (session_ends v w c.session.result c.session.ensures.disk c.session.ensures.fenced c.session.ensures.bad_log c.args.stamp c.session.ensures.read c.session.ensures.write c.session.result refl)

pub returns-clause-bad_log : goal.returns-clause-bad_log
returns-clause-bad_log g c = λ place told bad. subst (λ (s : Status). EndsAtBad place s) (sym c.from.ensures) (at_bad place c.session.result (c.session.ensures.exact place told bad))
