use Rattle.log_order.proofs.Writes.{format_refines}
use Rattle.log_order.proofs.checkpointing.formatted_log_refines.Goals as goal

pub returns : goal.returns
returns c = format_refines
