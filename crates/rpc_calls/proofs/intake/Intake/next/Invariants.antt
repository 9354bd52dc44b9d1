use Rattle.std.proofs.Common.{length}
use Rattle.rpc_calls.proofs.NextLaws.{GoneOn}
use Rattle.rpc_calls.proofs.intake.Intake.next.Given as goal

abbrev pub invariant-frames : goal.invariant-frames
invariant-frames l = GoneOn l.initial.self l.self

abbrev pub decreases-frames : goal.decreases-frames
decreases-frames l = length l.self.rest
