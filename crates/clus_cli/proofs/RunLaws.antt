-- A run over the log, told by its status.
use Rattle.std.proofs.Common.{◌≡◌, ℕ, ◌<◌, List, Option, IsTrue, refl, sym, ap, ◌∙◌, subst}
use Rattle.causes.specs.Counts.{Rose}
use Rattle.disk_core.specs.Views.{DiskView}
use Rattle.command_words.specs.Commands.{serve, session}
use Rattle.single_server.specs.declared.ended.Ended.{Ended}
use Rattle.single_server.specs.declared.ended.Ended.TheVariants as endings
use Rattle.single_runs.specs.BadLogs.{FoundBad}
use Rattle.single_runs.specs.BadLogs as runs
use Rattle.clus_cli.specs.declared.status.Status.{Status}
use Rattle.clus_cli.specs.declared.status.Status.TheVariants as statuses
use Rattle.clus_cli.specs.Ends.{HoldsGreater, MayEnd, Outside}
use Rattle.clus_cli.specs.Runs.{status_by}
use Rattle.clus_cli.specs.Showlog.{EndsAtBad}

module _ (v w : Outside) (ended : Ended) (disk : ended ≡ endings.DiskFault → Rose v.disk.faults w.disk.faults) (fenced : (held : ℕ) → ended ≡ endings.Fenced held → HoldsGreater v held)
    (bad : (place : ℕ) → ended ≡ endings.BadLog place → IsTrue v.disk.tells → FoundBad place v.disk w.disk) where
  pub session_ends : (stamp : Option ℕ) → (ended ≡ endings.ReadFault → Rose v.reads w.reads) → (ended ≡ endings.WriteFault → Rose v.writes w.writes) → (e : Ended) → ended ≡ e → MayEnd (session stamp) (status_by e) v w
  session_ends stamp read write endings.Done is = tt
  session_ends stamp read write endings.ReadFault is = read is
  session_ends stamp read write endings.WriteFault is = write is
  session_ends stamp read write endings.DiskFault is = disk is
  session_ends stamp read write endings.NoMemory is = tt
  session_ends stamp read write (endings.BadLog place) is = λ told. (bad place is told).bad
  session_ends stamp read write (endings.Fenced held) is = fenced held is

  pub door_ends : (address : List ℕ) (count : ℕ) (stamp : Option ℕ) → (ended ≡ endings.ReadFault → Rose v.door.accept w.door.accept) → (ended ≡ endings.WriteFault → ⊥) → (e : Ended) → ended ≡ e
      → MayEnd (serve address count stamp) (status_by e) v w
  door_ends address count stamp accept write endings.Done is = tt
  door_ends address count stamp accept write endings.ReadFault is = accept is
  door_ends address count stamp accept write endings.WriteFault is = absurd (write is)
  door_ends address count stamp accept write endings.DiskFault is = disk is
  door_ends address count stamp accept write endings.NoMemory is = tt
  door_ends address count stamp accept write (endings.BadLog place) is = λ told. (bad place is told).bad
  door_ends address count stamp accept write (endings.Fenced held) is = fenced held is

-- ---- a log at fault

pub at_bad : (place : ℕ) (ended : Ended) → runs.EndsAtBad place ended → EndsAtBad place (status_by ended)
at_bad place (endings.BadLog at) h = h
at_bad place endings.DiskFault h = tt
at_bad place (endings.Fenced held) h = tt
at_bad place endings.NoMemory h = tt
at_bad place endings.Done h = absurd h
at_bad place endings.ReadFault h = absurd h
at_bad place endings.WriteFault h = absurd h

is_bad : (ended : Ended) (place : ℕ) → status_by ended ≡ statuses.BadLog place → ended ≡ endings.BadLog place
is_bad (endings.BadLog at) place is = let same : at ≡ place = cc is in ap endings.BadLog same
is_bad endings.Done place is = absurd (cc is)
is_bad endings.ReadFault place is = absurd (cc is)
is_bad endings.WriteFault place is = absurd (cc is)
is_bad endings.DiskFault place is = absurd (cc is)
is_bad endings.NoMemory place is = absurd (cc is)
is_bad (endings.Fenced held) place is = absurd (cc is)

pub bad_unchanged : (v w : DiskView) (ended : Ended) → ((place : ℕ) → ended ≡ endings.BadLog place → IsTrue v.tells → FoundBad place v w) → (place : ℕ) → status_by ended ≡ statuses.BadLog place
    → IsTrue v.tells → w.current.seen ≡ v.current.seen
bad_unchanged v w ended bad place is told = (bad place (is_bad ended place is) told).unchanged

-- Such a status isn't that of words that are no command.
pub no_usage : {A : Type 0} (ended : Ended) → status_by ended ≡ statuses.Usage → A
no_usage endings.Done is = absurd (cc is)
no_usage endings.ReadFault is = absurd (cc is)
no_usage endings.WriteFault is = absurd (cc is)
no_usage endings.DiskFault is = absurd (cc is)
no_usage endings.NoMemory is = absurd (cc is)
no_usage (endings.BadLog place) is = absurd (cc is)
no_usage (endings.Fenced held) is = absurd (cc is)
