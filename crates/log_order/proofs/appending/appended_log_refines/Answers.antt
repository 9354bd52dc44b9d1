use Rattle.log_order.proofs.Writes.{append_refines}
use Rattle.log_order.proofs.appending.appended_log_refines.Goals as goal

pub returns : goal.returns
returns c = append_refines
