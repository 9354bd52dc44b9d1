use Rattle.rpc_calls.proofs.HoldingLaws.{holds_nothing}
use Rattle.rpc_calls.proofs.intake.Intake.new.Goals as goal

pub returns-clause-holds : goal.returns-clause-holds
returns-clause-holds c = rw c.new.ensures.items (holds_nothing c.args.side)
