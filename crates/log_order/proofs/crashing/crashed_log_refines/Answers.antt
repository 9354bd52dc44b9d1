use Rattle.log_order.proofs.Crashes.{crashed_refines, crashed_refines_one, died_refines}
use Rattle.log_order.proofs.crashing.crashed_log_refines.Goals as goal

pub returns-clause-moment : goal.returns-clause-moment
returns-clause-moment c = died_refines

pub returns-clause-log : goal.returns-clause-log
returns-clause-log c = crashed_refines

pub returns-clause-one : goal.returns-clause-one
returns-clause-one c = crashed_refines_one
