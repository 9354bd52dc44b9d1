use Rattle.std.proofs.Common.{◌≡◌, refl, sym, subst}
use Rattle.command_words.specs.Commands as asked
use Rattle.clus_cli.specs.declared.status.Status.{Status}
use Rattle.clus_cli.specs.Ends.{MayEnd, Outside, outside}
use Rattle.clus_cli.specs.Showlog.{EndsAtBad}
use Rattle.clus_cli.proofs.RunLaws.{at_bad, door_ends}
use Rattle.clus_cli.proofs.serving.serve_door.Goals as goal

pub returns-clause-ends : goal.returns-clause-ends
returns-clause-ends g c = λ address reads now_reads writes now_writes.
    let v : Outside = outside reads writes (g.G.Door.faults c.args.door.now) (g.D.Disk.view c.args.disk.now) in
    let w : Outside = outside now_reads now_writes (g.G.Door.faults c.serve.new.door) (g.D.Disk.view c.serve.new.disk) in
    subst (λ (s : Status). MayEnd (asked.serve address c.args.count c.args.stamp) s v w) (sym c.from.ensures)
    (door_ends v w c.serve.result c.serve.ensures.disk c.serve.ensures.fenced c.serve.ensures.bad_log address c.args.count c.args.stamp c.serve.ensures.accept c.serve.ensures.write c.serve.result refl)

pub returns-clause-bad_log : goal.returns-clause-bad_log
returns-clause-bad_log g c = λ place told bad. subst (λ (s : Status). EndsAtBad place s) (sym c.from.ensures) (at_bad place c.serve.result (c.serve.ensures.exact place told bad))
