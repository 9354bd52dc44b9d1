use Rattle.cluster_node.proofs.StayingInStep.{batches_in_step, checks_in_step, clocks_in_step, connects_in_step, hangs_up_in_step, hears_in_step, installs_in_step, receives_in_step, starts_in_step, ticks_in_step}
use Rattle.cluster_node.proofs.laws.stays_in_step.Goals as goal

pub returns-clause-starts : goal.returns-clause-starts
returns-clause-starts c = starts_in_step

pub returns-clause-installs : goal.returns-clause-installs
returns-clause-installs c = installs_in_step

pub returns-clause-receives : goal.returns-clause-receives
returns-clause-receives c = receives_in_step

pub returns-clause-checks : goal.returns-clause-checks
returns-clause-checks c = checks_in_step

pub returns-clause-ticks : goal.returns-clause-ticks
returns-clause-ticks c = ticks_in_step

pub returns-clause-clocks : goal.returns-clause-clocks
returns-clause-clocks c = clocks_in_step

pub returns-clause-connects : goal.returns-clause-connects
returns-clause-connects c = connects_in_step

pub returns-clause-hangs_up : goal.returns-clause-hangs_up
returns-clause-hangs_up c = hangs_up_in_step

pub returns-clause-hears : goal.returns-clause-hears
returns-clause-hears c = hears_in_step

pub returns-clause-batches : goal.returns-clause-batches
returns-clause-batches c = batches_in_step
