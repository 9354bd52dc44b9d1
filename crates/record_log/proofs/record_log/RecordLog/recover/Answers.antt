use Rattle.std.proofs.lemmas.Result.{err_from_is_err_and}
use Rattle.record_log.proofs.Outcomes.{decoding_fails, held_before, opening_fails}
use Rattle.record_log.proofs.record_log.RecordLog.recover.Goals as goal

pub returns-in_err-log-clause-opens : goal.returns-in_err-log-clause-opens
returns-in_err-log-clause-opens g c =
    let p = err_from_is_err_and c.from_residual.result c.from_residual.ensures.1 in
    rw (p.1, p.2) (opening_fails c.args.claim (g.D.Disk.view c.args.disk.now) (g.D.Disk.view c.open.new.disk) c.in_err-log.field-0.0 c.in_err-log.ensures.fault)

pub returns-in_err-recovered-clause-opens : goal.returns-in_err-recovered-clause-opens
returns-in_err-recovered-clause-opens g c =
    let v = g.D.Disk.view c.args.disk.now in
    let w = g.D.Disk.view c.open.new.disk in
    let found = c.in_ok-log.found in
    let p = err_from_is_err_and c.from_residual-in_err-recovered.result c.from_residual-in_err-recovered.ensures.1 in
    rw (p.1, p.2) (decoding_fails c.args.claim v w found c.in_err-recovered.field-0.0 (held_before c.args.claim v w found c.in_ok-log.ensures.calls) c.in_ok-log.ensures.read c.in_err-recovered.ensures)

pub returns-clause-opens : goal.returns-clause-opens
returns-clause-opens g c =
    let v = g.D.Disk.view c.args.disk.now in
    let w = g.D.Disk.view c.open.new.disk in
    let found = c.in_ok-log.found in
    record {
      held_before = held_before c.args.claim v w found c.in_ok-log.ensures.calls;
      held = c.in_ok-log.ensures.claimed.1;
      found = found;
      read = c.in_ok-log.ensures.read;
      limits = c.in_ok-log.ensures.limits;
      recovered = c.in_ok-recovered.ensures;
      other_valid = c.in_ok-log.ensures.value.0;
      value = c.in_ok-log.ensures.value.1;
      stands = c.in_ok-log.ensures.found;
    }
