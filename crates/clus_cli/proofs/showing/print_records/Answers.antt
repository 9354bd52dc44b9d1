use Rattle.std.proofs.Common.{◌≤◌, length, arith}
use Rattle.std.proofs.lemmas.Result.{err_from_is_err_and}
use Rattle.clus_cli.proofs.ShowLaws.{printed_all, printed_more, printed_part, printed_stopped}
use Rattle.clus_cli.proofs.showing.print_records.Goals as goal

pub returns-in_err-line-clause-prints : goal.returns-in_err-line-clause-prints
returns-in_err-line-clause-prints g c =
    let p = err_from_is_err_and c.from_residual.result c.from_residual.ensures.1 in
    rw (p.1, p.2) (printed_part (g.K.Sink.written c.args.output.now) (g.K.Sink.written c.records.output) c.args.base c.args.records.now c.records.place c.records.record-index c.records.invariant.printed)

pub returns-in_err-write_whole-clause-prints : goal.returns-in_err-write_whole-clause-prints
returns-in_err-write_whole-clause-prints g c =
    let p = err_from_is_err_and c.from_residual-in_err-write_whole.result c.from_residual-in_err-write_whole.ensures.1 in
    let some = rw (c.as_bytes.ensures.value, c.in_ok-line.ensures, c.as_slice.ensures) at c.in_err-write_whole.ensures.prefix in
    rw (p.1, p.2)
    (printed_stopped (g.K.Sink.written c.args.output.now) (g.K.Sink.written c.records.output) (g.K.Sink.written c.write_whole.new.sink) c.args.base c.args.records.now
    c.records.place c.records.record-index c.record-item.result c.records-test.true c.record-item.is c.records.invariant.printed some)

pub records-preserved : goal.records-preserved
records-preserved g c =
    let wrote = rw (c.as_bytes.ensures.value, c.in_ok-line.ensures, c.as_slice.ensures) at c.in_ok-write_whole.ensures.whole in
    record {
      printed = printed_more (g.K.Sink.written c.args.output.now) (g.K.Sink.written c.records.output) (g.K.Sink.written c.write_whole.new.sink) c.args.base c.args.records.now
          c.records.place c.records.record-index c.record-item.result c.records-test.true c.record-item.is c.records.invariant.printed wrote;
      later = omega (arith, c.records.invariant.later, c.in_ok-write_whole.ensures.cause.later);
    }

pub returns-clause-prints : goal.returns-clause-prints
returns-clause-prints g c =
    let all : length c.args.records.now ≤ c.records.record-index = omega (arith, c.records-test.false) in
    printed_all (g.K.Sink.written c.args.output.now) (g.K.Sink.written c.records.output) c.args.base c.args.records.now c.records.place c.records.record-index all c.records.invariant.printed
