use Rattle.cluster_replay.proofs.Keeping.{bytes_keep, checkpoint_keeps, hang_up_keeps, tick_keeps}
use Rattle.cluster_replay.proofs.reacting.react.Goals as goal

pub returns-in-Bytes-clause-keeps : goal.returns-in-Bytes-clause-keeps
returns-in-Bytes-clause-keeps g c = bytes_keep _ _ _ c.in-Bytes.conn c.as_slice.result.now c.bytes.result c.bytes.ensures.hears c.bytes.ensures.stops c.bytes.ensures.same

pub returns-in-HangUp-clause-keeps : goal.returns-in-HangUp-clause-keeps
returns-in-HangUp-clause-keeps g c = hang_up_keeps _ _ _ c.in-HangUp.conn c.hang_up.result c.hang_up.ensures.hangs_up c.hang_up.ensures.stops c.hang_up.ensures.same

pub returns-in-Tick-clause-keeps : goal.returns-in-Tick-clause-keeps
returns-in-Tick-clause-keeps g c = tick_keeps _ _ _ c.tick.result c.tick.ensures.ticks c.tick.ensures.stops c.tick.ensures.same

pub returns-in-Checkpoint-clause-keeps : goal.returns-in-Checkpoint-clause-keeps
returns-in-Checkpoint-clause-keeps g c = checkpoint_keeps _ _ _ _ c.checkpoint.result c.checkpoint.ensures.writes c.checkpoint.ensures.same c.checkpoint.ensures.same_disk
