use Rattle.rpc_calls.proofs.CallsOfStreams.{parts_tell, parts_tell_all}
use Rattle.rpc_calls.proofs.laws.calls_are_their_fragments.Goals as goal

pub returns-clause-told : goal.returns-clause-told
returns-clause-told c = parts_tell

pub returns-clause-no_others : goal.returns-clause-no_others
returns-clause-no_others c = parts_tell_all
