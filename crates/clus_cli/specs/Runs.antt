-- What `session` and `serve` come to: a run over the log of the disk.
use Rattle.std.specs.Prelude.{◌≡◌, ◌⊎◌, ℕ, List, Option}
use Rattle.edge_io.specs.Visits.{Visits}
use Rattle.disk_core.specs.Views.{DiskView}
use Rattle.single_server.specs.declared.ended.Ended.{Ended}
use Rattle.single_server.specs.declared.ended.Ended.TheVariants as endings
use Rattle.single_runs.specs.Door.{RunsDoor}
use Rattle.single_runs.specs.Session.{RunsSession}
use Rattle.clus_cli.specs.declared.status.Status.{Status}
use Rattle.clus_cli.specs.declared.status.Status.TheVariants as statuses

abbrev pub status_by : Ended → Status
status_by endings.Done = statuses.Done
status_by endings.ReadFault = statuses.ReadFault
status_by endings.WriteFault = statuses.WriteFault
status_by endings.DiskFault = statuses.DiskFault
status_by endings.NoMemory = statuses.NoMemory
status_by (endings.BadLog place) = statuses.BadLog place
status_by (endings.Fenced held) = statuses.Fenced held

-- The stream is served by one node over the log of the disk: what was read and written, and what each image holds then.
abbrev pub SessionRuns : ℕ → Status → Option (List ℕ) → Option (List ℕ) → Option (List ℕ) → Option (List ℕ) → DiskView → DiskView → Type 0
SessionRuns stamp status left now written holds v w = (ended : Ended) × (status ≡ status_by ended) × RunsSession ended stamp left now written holds v w

-- So are the connections of the door, one after another.
abbrev pub DoorRuns : ℕ → ℕ → Status → Option Visits → Option Visits → DiskView → DiskView → Type 0
DoorRuns stamp count status old now v w = (ended : Ended) × (status ≡ status_by ended) × RunsDoor ended stamp count old now v w
