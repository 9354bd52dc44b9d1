use Rattle.rpc_assoc.proofs.AcceptedLaws.{accepts_as_told}
use Rattle.rpc_assoc.proofs.laws.contexts_are_accepted_as_told.Goals as goal

pub returns : goal.returns
returns c = accepts_as_told
