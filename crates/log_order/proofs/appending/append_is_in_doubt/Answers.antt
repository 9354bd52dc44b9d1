use Rattle.log_order.proofs.Writes.{append_moments}
use Rattle.log_order.proofs.appending.append_is_in_doubt.Goals as goal

pub returns : goal.returns
returns c = append_moments
