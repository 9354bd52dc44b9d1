use Rattle.std.proofs.Common.{◌≡◌}
use Rattle.rpc_calls.specs.Intakes.{stream_length}
use Rattle.rpc_calls.proofs.tests.drain.Given as goal

abbrev pub invariant-items : goal.invariant-items
invariant-items l = stream_length l.intake ≡ stream_length l.initial.intake
