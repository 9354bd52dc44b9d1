use Rattle.cluster_node.proofs.KeepingNumbers.{batch_uses_no_more, bytes_use_no_more, checkpoint_uses_no_more, clock_uses_no_more, connect_uses_one, hang_up_uses_no_more, install_uses_no_more, receive_uses_no_more, start_uses_none, stopped_uses_none, tick_uses_no_more}
use Rattle.cluster_node.proofs.laws.keeps_numbers.Goals as goal

pub returns-clause-starts : goal.returns-clause-starts
returns-clause-starts c = start_uses_none

pub returns-clause-stopped : goal.returns-clause-stopped
returns-clause-stopped c = stopped_uses_none

pub returns-clause-installs : goal.returns-clause-installs
returns-clause-installs c = install_uses_no_more

pub returns-clause-receives : goal.returns-clause-receives
returns-clause-receives c = receive_uses_no_more

pub returns-clause-checks : goal.returns-clause-checks
returns-clause-checks c = checkpoint_uses_no_more

pub returns-clause-ticks : goal.returns-clause-ticks
returns-clause-ticks c = tick_uses_no_more

pub returns-clause-clocks : goal.returns-clause-clocks
returns-clause-clocks c = clock_uses_no_more

pub returns-clause-connects : goal.returns-clause-connects
returns-clause-connects c = connect_uses_one

pub returns-clause-hears : goal.returns-clause-hears
returns-clause-hears c = bytes_use_no_more

pub returns-clause-hangs_up : goal.returns-clause-hangs_up
returns-clause-hangs_up c = hang_up_uses_no_more

pub returns-clause-batches : goal.returns-clause-batches
returns-clause-batches c = batch_uses_no_more
