use Rattle.std.proofs.Common.{◌≡◌, ◌-◌, ◌≤◌, length}
use Rattle.rpc_calls.specs.Intakes.{stream_length}
use Rattle.rpc_calls.proofs.tests.items.Given as goal

abbrev pub invariant-pieces : goal.invariant-pieces
invariant-pieces l = record {
  within : l.place ≤ length l.stream;
  fed : stream_length l.intake ≡ l.place;
}

abbrev pub decreases-pieces : goal.decreases-pieces
decreases-pieces l = length l.stream - l.place
