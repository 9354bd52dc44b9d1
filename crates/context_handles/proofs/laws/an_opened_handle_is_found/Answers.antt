use Rattle.context_handles.proofs.Opening.{opens_one}
use Rattle.context_handles.proofs.laws.an_opened_handle_is_found.Goals as goal

pub returns : goal.returns
returns c = opens_one
