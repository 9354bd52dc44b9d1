-- How a run ends where it is cut off.
use Rattle.std.specs.Prelude.{ℕ}
use Rattle.disk_core.specs.declared.fault.DiskFault.{DiskFault}
use Rattle.disk_core.specs.declared.fault.DiskFault.TheVariants as disk_faults
use Rattle.cluster_rules.specs.declared.effect.HaltCause.{HaltCause}
use Rattle.cluster_rules.specs.declared.effect.HaltCause.TheVariants as halt
use Rattle.single_node.specs.declared.fault.StartFault.{StartFault}
use Rattle.single_node.specs.declared.fault.StartFault.TheVariants as start
use Rattle.single_server.specs.declared.ended.Ended.{Ended}
use Rattle.single_server.specs.declared.ended.Ended.TheVariants.{BadLog, DiskFault as DiskFails, Fenced, NoMemory}

-- By a node that halted.
abbrev pub ended_by : HaltCause → Ended
ended_by halt.Disk = DiskFails
ended_by (halt.Fenced held) = Fenced held
ended_by (halt.Image place) = BadLog place

-- By one that wasn't opened.
abbrev pub ended_at : StartFault → Ended
ended_at (start.Halted cause) = ended_by cause
ended_at start.Memory = NoMemory

-- By a call of the disk.
abbrev pub ended_from : DiskFault → Ended
ended_from disk_faults.Failed = DiskFails
ended_from (disk_faults.Fenced held) = Fenced held
