use Rattle.log_order.proofs.Writes.{checkpoint_refines}
use Rattle.log_order.proofs.checkpointing.checkpointed_log_refines.Goals as goal

pub returns : goal.returns
returns c = checkpoint_refines
