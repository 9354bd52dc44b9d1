use Rattle.std.proofs.lemmas.Result.{err_from_is_err_and}
use Rattle.clus_cli.specs.Showlog.{log_line, record_lines}
use Rattle.clus_cli.proofs.ShowLaws.{printed_behind, some_first}
use Rattle.clus_cli.proofs.showing.print_log.Goals as goal

pub returns-clause-prints : goal.returns-clause-prints
returns-clause-prints g c =
    let x = c.args.found.now in
    printed_behind (g.K.Sink.written c.args.output.now) (g.K.Sink.written c.write_whole.new.sink) (g.K.Sink.written c.print_records.new.output) (log_line x) (record_lines x.base x.records) c.print_records.result
    (rw (c.as_bytes.ensures.value, c.in_ok-first_line.ensures) at c.in_ok-write_whole.ensures.whole) (rw c.as_slice.ensures at c.print_records.ensures.prints)

pub returns-in_err-write_whole-clause-prints : goal.returns-in_err-write_whole-clause-prints
returns-in_err-write_whole-clause-prints g c =
    let x = c.args.found.now in
    let p = err_from_is_err_and c.from_residual-in_err-write_whole.result c.from_residual-in_err-write_whole.ensures.1 in
    rw (p.1, p.2)
    (some_first (g.K.Sink.written c.args.output.now) (g.K.Sink.written c.write_whole.new.sink) (log_line x) (record_lines x.base x.records)
    (rw (c.as_bytes.ensures.value, c.in_ok-first_line.ensures) at c.in_err-write_whole.ensures.prefix))
