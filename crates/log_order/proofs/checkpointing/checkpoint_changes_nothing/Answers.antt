use Rattle.log_order.proofs.Writes.{checkpoint_moments}
use Rattle.log_order.proofs.checkpointing.checkpoint_changes_nothing.Goals as goal

pub returns : goal.returns
returns c = checkpoint_moments
