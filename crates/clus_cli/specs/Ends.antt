-- How each command may end.
use Rattle.std.specs.Prelude.{◌≡◌, ℕ, ◌<◌, IsTrue, List}
use Rattle.causes.specs.Counts.{Rose}
use Rattle.disk_core.specs.Views.{DiskView}
use Rattle.edge_io.specs.Visits.{Faults}
use Rattle.asking.specs.Asking.{Counts, counts}
use Rattle.command_words.specs.Commands.{Asked, Asks, ask, drill, export, format, replay, serve, session, showlog}
use Rattle.clus_cli.specs.declared.status.Status.{Status}
use Rattle.clus_cli.specs.declared.status.Status.TheVariants as statuses
use Rattle.single_runs.specs.BadLogs.{IsBadLog as IsFaultyLog}
use Rattle.clus_cli.specs.Asking.{MayAsk}
use Rattle.clus_cli.specs.Scripts.{MayDrill, MayReplay}
use Rattle.clus_cli.specs.Showlog.{IsBadLog}

-- How many calls of each kind failed so far, and what the disk shows.
pub record Outside : Type 0 where
  pub reads : ℕ
  pub writes : ℕ
  pub door : Faults
  pub disk : DiskView

abbrev pub outside : ℕ → ℕ → Faults → DiskView → Outside
outside reads writes door disk = record { reads = reads; writes = writes; door = door; disk = disk }

abbrev pub FailedRead : Outside → Outside → Type 0
FailedRead v w = Rose v.reads w.reads

abbrev pub FailedWrite : Outside → Outside → Type 0
FailedWrite v w = Rose v.writes w.writes

abbrev pub FailedAccept : Outside → Outside → Type 0
FailedAccept v w = Rose v.door.accept w.door.accept

abbrev pub FailedDisk : Outside → Outside → Type 0
FailedDisk v w = Rose v.disk.faults w.disk.faults

-- The counts without the disk.
abbrev pub calls : Outside → Counts
calls v = counts v.reads v.writes v.door

-- The disk holds a greater fencing token than the command's, which is 1.
abbrev pub HoldsGreater : Outside → ℕ → Type 0
HoldsGreater v held = (1 < v.disk.current.held) × (held ≡ v.disk.current.held)

abbrev pub HoldsBadLog : Outside → ℕ → Type 0
HoldsBadLog v place = IsTrue v.disk.tells → IsBadLog v.disk.current.seen v.disk.size place

-- The statuses of a command that opens the log and prints of it.
abbrev pub MayPrint : Status → Outside → Outside → Type 0
MayPrint statuses.Done v w = Unit {0}
MayPrint statuses.WriteFault v w = FailedWrite v w
MayPrint statuses.DiskFault v w = FailedDisk v w
MayPrint statuses.NoMemory v w = Unit {0}
MayPrint (statuses.BadLog place) v w = HoldsBadLog v place
MayPrint (statuses.Fenced held) v w = HoldsGreater v held
MayPrint status v w = ⊥

-- The image fails a check there, or its log doesn't decode from there on; a blank one isn't at fault.
abbrev pub HoldsFaultyLog : Outside → ℕ → Type 0
HoldsFaultyLog v place = IsTrue v.disk.tells → IsFaultyLog v.disk.current.seen v.disk.size place

-- The statuses of a node over the log, but for those of what it serves.
abbrev pub MayRun : Status → Outside → Outside → Type 0
MayRun statuses.Done v w = Unit {0}
MayRun statuses.DiskFault v w = FailedDisk v w
MayRun statuses.NoMemory v w = Unit {0}
MayRun (statuses.BadLog place) v w = HoldsFaultyLog v place
MayRun (statuses.Fenced held) v w = HoldsGreater v held
MayRun status v w = ⊥

-- Each command's statuses, and what was before where it ends so.
abbrev pub MayEnd : Asked → Status → Outside → Outside → Type 0
MayEnd (session stamp) statuses.ReadFault v w = FailedRead v w
MayEnd (session stamp) statuses.WriteFault v w = FailedWrite v w
MayEnd (session stamp) status v w = MayRun status v w
MayEnd (serve address count stamp) statuses.ReadFault v w = FailedAccept v w
MayEnd (serve address count stamp) status v w = MayRun status v w
MayEnd replay status v w = MayReplay status v.reads w.reads v.writes w.writes
MayEnd (drill number events) status v w = MayDrill status v.writes w.writes
MayEnd (format cap) statuses.Done v w = Unit {0}
MayEnd (format cap) statuses.DiskFault v w = FailedDisk v w
MayEnd (format cap) statuses.NoMemory v w = Unit {0}
MayEnd (format cap) (statuses.Fenced held) v w = HoldsGreater v held
MayEnd showlog status v w = MayPrint status v w
MayEnd export status v w = MayPrint status v w
MayEnd (ask address) status v w = MayAsk status (calls v) (calls w)
MayEnd asked status v w = ⊥

-- Whatever the words ask for, the run ends as that may end. Of words that ask for nothing this says nothing.
unfoldable pub Ends : List (List ℕ) → Status → Outside → Outside → Type 0
Ends words status v w = (asked : Asked) → Asks words asked → MayEnd asked status v w
