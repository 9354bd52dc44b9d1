use Rattle.context_handles.proofs.Serials.{differ}
use Rattle.context_handles.proofs.laws.handles_differ.Goals as goal

pub returns : goal.returns
returns c = differ
