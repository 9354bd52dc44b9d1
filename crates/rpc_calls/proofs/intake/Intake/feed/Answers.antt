use Rattle.rpc_calls.proofs.HoldingLaws.{fed_holds}
use Rattle.rpc_calls.proofs.intake.Intake.feed.Goals as goal

pub returns-clause-holds : goal.returns-clause-holds
returns-clause-holds c = fed_holds c.take_in.result c.args.self.now c.take_in.new.self c.args.piece.now c.take_in.ensures
