-- What a run over one recorded stream does, and what it leaves on the disk.
use Rattle.std.specs.Prelude.{◌≡◌, ◌⊎◌, ℕ, List, [], Option}
use Rattle.disk_core.specs.Views.{DiskView}
use Rattle.single_items.specs.Events.{told_to}
use Rattle.single_server.specs.declared.ended.Ended.{Ended}
use Rattle.single_server.specs.declared.ended.Ended.TheVariants.{BadLog, DiskFault, Done, Fenced, NoMemory, ReadFault, WriteFault}
use Rattle.single_server.specs.Session.{IsDone, IsInPart, IsUnserved}
use Rattle.single_runs.specs.Images.{LeavesAll, LeavesFirst}

-- The stream was heard to its end, its answers were written and its records logged.
pub record RunsToEnd (stamp : ℕ) (left now written holds : Option (List ℕ)) (v w : DiskView) : Type 0 where
  pub served : IsDone stamp left now written holds v w
  pub leaves : LeavesAll served.begins served.records w

-- The run was cut off behind the opening of the log. What was written is all that was told, or a front of it where a write failed.
pub record RunsInPart (ended : Ended) (stamp : ℕ) (left now written holds : Option (List ℕ)) (v w : DiskView) : Type 0 where
  pub served : IsInPart ended stamp left now written holds v w
  pub leaves : LeavesFirst served.begins [] 1 served.start.first served.off.stream (told_to 1 served.off.told) w

abbrev pub RunsSession : Ended → ℕ → Option (List ℕ) → Option (List ℕ) → Option (List ℕ) → Option (List ℕ) → DiskView → DiskView → Type 0
RunsSession Done stamp left now written holds v w = RunsToEnd stamp left now written holds v w
RunsSession ReadFault stamp left now written holds v w = RunsInPart ReadFault stamp left now written holds v w
RunsSession WriteFault stamp left now written holds v w = RunsInPart WriteFault stamp left now written holds v w
RunsSession DiskFault stamp left now written holds v w = IsUnserved DiskFault left now written holds v w ⊎ RunsInPart DiskFault stamp left now written holds v w
RunsSession NoMemory stamp left now written holds v w = IsUnserved NoMemory left now written holds v w ⊎ RunsInPart NoMemory stamp left now written holds v w
RunsSession (BadLog place) stamp left now written holds v w = IsUnserved (BadLog place) left now written holds v w
RunsSession (Fenced held) stamp left now written holds v w = IsUnserved (Fenced held) left now written holds v w
