-- What `ask ADDR` comes to.
use Rattle.std.specs.Prelude.{◌≡◌, ◌⊎◌, ℕ, List, Option}
use Rattle.causes.specs.Counts.{Rose}
use Rattle.asking.specs.declared.asked.Asked.{Asked}
use Rattle.asking.specs.declared.asked.Asked.TheVariants as comes
use Rattle.asking.specs.Asking.{Counts, Edges, Runs}
use Rattle.clus_cli.specs.declared.status.Status.{Status}
use Rattle.clus_cli.specs.declared.status.Status.TheVariants as statuses

-- The status that tells what came of a client's commands.
abbrev pub status_of : Asked → Status
status_of comes.Done = statuses.Done
status_of comes.ReadFault = statuses.ReadFault
status_of comes.WriteFault = statuses.WriteFault
status_of comes.NoMemory = statuses.NoMemory
status_of comes.TooLong = statuses.TooLong
status_of (comes.BadCommand line column) = statuses.BadCommand line column
status_of (comes.BadReply place) = statuses.BadReply place
status_of comes.NoPeer = statuses.NoPeer

-- A client's commands were run over a door's connection, and this status tells what came of them.
pub record AskRuns (status : Status) (left left_now : Option (List ℕ)) (v w : Edges) : Type 0 where
  pub asked : Asked
  pub told : status ≡ status_of asked
  pub runs : Runs asked left left_now v w

-- Its statuses, and the calls of which one failed where it ends by a fault.
abbrev pub MayAsk : Status → Counts → Counts → Type 0
MayAsk statuses.Done v w = Unit {0}
MayAsk statuses.ReadFault v w = Rose v.input w.input ⊎ (Rose v.door.accept w.door.accept ⊎ Rose v.door.read w.door.read)
MayAsk statuses.WriteFault v w = Rose v.output w.output ⊎ Rose v.door.write w.door.write
MayAsk statuses.NoMemory v w = Unit {0}
MayAsk statuses.TooLong v w = Unit {0}
MayAsk (statuses.BadCommand line column) v w = Unit {0}
MayAsk (statuses.BadReply place) v w = Unit {0}
MayAsk statuses.NoPeer v w = Unit {0}
MayAsk status v w = ⊥
