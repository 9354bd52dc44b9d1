use Rattle.log_order.proofs.Fencing.{checkpoint_fenced, fenced_keeps}
use Rattle.log_order.proofs.crashing.fenced_calls_change_nothing.Goals as goal

pub returns-clause-calls : goal.returns-clause-calls
returns-clause-calls c = fenced_keeps

pub returns-clause-checkpoint : goal.returns-clause-checkpoint
returns-clause-checkpoint c = checkpoint_fenced
