use Rattle.cluster_node.proofs.KeepingRoom.{batch_keeps_room, bytes_keep_room, checkpoint_keeps_room, clock_keeps_room, connect_keeps_room, hang_up_keeps_room, install_gives_room, install_keeps_room, receive_keeps_room, same_disk_has_room, start_has_room, stopped_has_room, tick_keeps_room}
use Rattle.cluster_node.proofs.laws.keeps_room.Goals as goal

pub returns-clause-starts : goal.returns-clause-starts
returns-clause-starts c = start_has_room

pub returns-clause-stopped : goal.returns-clause-stopped
returns-clause-stopped c = stopped_has_room

pub returns-clause-same_disk : goal.returns-clause-same_disk
returns-clause-same_disk c = same_disk_has_room

pub returns-clause-installs : goal.returns-clause-installs
returns-clause-installs c = install_keeps_room

pub returns-clause-enters : goal.returns-clause-enters
returns-clause-enters c = install_gives_room

pub returns-clause-receives : goal.returns-clause-receives
returns-clause-receives c = receive_keeps_room

pub returns-clause-checks : goal.returns-clause-checks
returns-clause-checks c = checkpoint_keeps_room

pub returns-clause-ticks : goal.returns-clause-ticks
returns-clause-ticks c = tick_keeps_room

pub returns-clause-clocks : goal.returns-clause-clocks
returns-clause-clocks c = clock_keeps_room

pub returns-clause-connects : goal.returns-clause-connects
returns-clause-connects c = connect_keeps_room

pub returns-clause-hears : goal.returns-clause-hears
returns-clause-hears c = bytes_keep_room

pub returns-clause-hangs_up : goal.returns-clause-hangs_up
returns-clause-hangs_up c = hang_up_keeps_room

pub returns-clause-batches : goal.returns-clause-batches
returns-clause-batches c = batch_keeps_room
