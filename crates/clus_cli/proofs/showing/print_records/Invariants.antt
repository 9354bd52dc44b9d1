use Rattle.std.proofs.Common.{◌≤◌}
use Rattle.clus_cli.proofs.ShowLaws.{IsPrintedTo}
use Rattle.clus_cli.proofs.showing.print_records.Given as goal

abbrev pub invariant-records : goal.invariant-records
invariant-records g l = record {
  printed : IsPrintedTo (g.K.Sink.written l.initial.output) (g.K.Sink.written l.output) l.base l.records l.place l.record-index;
  later : g.K.Sink.faults l.initial.output ≤ g.K.Sink.faults l.output;
}
