use Rattle.std.proofs.lemmas.Result.{err_from_is_err_and}
use Rattle.log_contents.proofs.Parts.{last_fails, records_fail}
use Rattle.log_contents.proofs.decoding.read_contents.Goals as goal

pub returns-in_err-last-clause-fault : goal.returns-in_err-last-clause-fault
returns-in_err-last-clause-fault c =
    let p = err_from_is_err_and c.from_residual-in_err-last.result c.from_residual-in_err-last.ensures.1 in
    rw (p.1, p.2) (last_fails c.args.found.now c.in_err-last.field-0.0 c.in_ok-registry.registry c.in_ok-registry.ensures c.in_err-last.ensures)

pub returns-in_err-records-clause-fault : goal.returns-in_err-records-clause-fault
returns-in_err-records-clause-fault c =
    let p = err_from_is_err_and c.from_residual-in_err-records.result c.from_residual-in_err-records.ensures.1 in
    rw (p.1, p.2) (records_fail c.args.found.now c.in_err-records.field-0.0 c.in_ok-registry.registry c.in_ok-last.last c.in_ok-registry.ensures c.in_ok-last.ensures c.in_err-records.ensures)
