use Rattle.log_order.proofs.Crashes.{log_now, now_refines}
use Rattle.log_order.proofs.crashing.present_moment_is_one.Goals as goal

pub returns-clause-moment : goal.returns-clause-moment
returns-clause-moment c = log_now

pub returns-clause-refines : goal.returns-clause-refines
returns-clause-refines c = now_refines
