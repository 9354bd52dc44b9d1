use Rattle.log_order.proofs.Crashes.{same_moment}
use Rattle.log_order.proofs.crashing.same_moment_refines.Goals as goal

pub returns : goal.returns
returns c = same_moment
