use Rattle.std.proofs.Common.{rules}
use Rattle.edge_io.proofs.Pieces.{Wrote-take}
use Rattle.edge_io.proofs.writing.write_whole.Goals as goal

pub pieces-preserved : goal.pieces-preserved
pieces-preserved g c = record {
  within = search rules;
  wrote = Wrote-take _ _ _ c.args.bytes.now c.pieces.done c.in_ok-done.field-0 c.pieces.invariant.wrote c.in_ok-done.ensures.bytes;
  later = search rules;
}
