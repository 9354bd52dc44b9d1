use Rattle.std.proofs.Common.{◌≡◌, ◌-◌, ◌≤◌, ◌++◌, drop, length}
use Rattle.rpc_calls.specs.Cutting.{cut_by, piece_of}
use Rattle.rpc_calls.proofs.cutting.cut.Given as goal

abbrev pub invariant-pieces : goal.invariant-pieces
invariant-pieces l = record {
  within : l.place ≤ length l.stub;
  flag : l.first ≤ 1;
  cut : l.pdus.items ++ cut_by (piece_of l.sent) (l.max_xmit - 24) l.first (drop l.place l.stub)
      ≡ cut_by (piece_of l.sent) (l.max_xmit - 24) 1 l.stub;
}

abbrev pub decreases-pieces : goal.decreases-pieces
decreases-pieces l = length l.stub - l.place
