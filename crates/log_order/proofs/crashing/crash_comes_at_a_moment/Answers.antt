use Rattle.log_order.proofs.Crashes.{log_died}
use Rattle.log_order.proofs.crashing.crash_comes_at_a_moment.Goals as goal

pub returns : goal.returns
returns c = log_died
