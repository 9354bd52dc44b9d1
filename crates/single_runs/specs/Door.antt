-- What a run over the connections of a door does, and what it leaves on the disk.
use Rattle.std.specs.Prelude.{◌≡◌, ◌⊎◌, ℕ, ◌+◌, ◌<◌, List, length, Option}
use Rattle.edge_io.specs.Visits.{Visits}
use Rattle.disk_core.specs.Views.{DiskView}
use Rattle.single_items.specs.Events.{told_to}
use Rattle.single_server.specs.declared.ended.Ended.{Ended}
use Rattle.single_server.specs.declared.ended.Ended.TheVariants.{BadLog, DiskFault, Done, Fenced, NoMemory, ReadFault, WriteFault}
use Rattle.single_server.specs.Begins.{BeginsOn}
use Rattle.single_server.specs.Hearing.{Beginning}
use Rattle.single_server.specs.Serving.{AreEnough, HaveServed, HaveServedInPart, IsUnvisited}
use Rattle.single_server.specs.Visits.{records_of}
use Rattle.single_runs.specs.Images.{LeavesAll, LeavesFirst}

-- Connections were served, one after another, and their records logged.
pub record ServesWhole (stamp count : ℕ) (old now : Option Visits) (v w : DiskView) : Type 0 where
  pub start : Beginning
  pub begins : BeginsOn stamp v start.first start.member start.disk
  pub served : HaveServed start count old now w
  pub leaves : LeavesAll begins (records_of 1 start.first served.talks) w

-- The run was cut off at a connection, behind others. That one was sent all that was told, or a front of it where a write failed.
pub record ServesInPart (ended : Ended) (stamp count : ℕ) (old now : Option Visits) (v w : DiskView) : Type 0 where
  pub start : Beginning
  pub begins : BeginsOn stamp v start.first start.member start.disk
  pub served : HaveServedInPart ended start count old now w
  pub leaves : LeavesFirst begins (records_of 1 start.first served.talks) (1 + length served.talks) served.last.first served.off.stream (told_to (1 + length served.talks) served.off.told) w

abbrev pub RunsDoor : Ended → ℕ → ℕ → Option Visits → Option Visits → DiskView → DiskView → Type 0
RunsDoor Done stamp count old now v w = (out : ServesWhole stamp count old now v w) × AreEnough count out.served.talks now
RunsDoor ReadFault stamp count old now v w = (out : ServesWhole stamp count old now v w) × (length out.served.talks < count)
RunsDoor WriteFault stamp count old now v w = ⊥
RunsDoor DiskFault stamp count old now v w = IsUnvisited DiskFault old now v w ⊎ ServesInPart DiskFault stamp count old now v w
RunsDoor NoMemory stamp count old now v w = IsUnvisited NoMemory old now v w ⊎ ServesInPart NoMemory stamp count old now v w
RunsDoor (BadLog place) stamp count old now v w = IsUnvisited (BadLog place) old now v w
RunsDoor (Fenced held) stamp count old now v w = IsUnvisited (Fenced held) old now v w
