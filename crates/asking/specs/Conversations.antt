-- The steps of a conversation. Clauses of private functions alone cite this.
use Rattle.std.specs.Prelude.{◌≡◌, ◌⊎◌, ℕ, ◌≤◌, List, ◌++◌, Option, None, Some, Result, Ok, Err}
use Rattle.std.specs.Option.{option_map}
use Rattle.causes.specs.Counts.{Rose}
use Rattle.causes.specs.Writing.{Wrote}
use Rattle.edge_io.specs.Visits.{Faults, Visits, hung_up}
use Rattle.client_commands.specs.declared.command.Command.{Command}
use Rattle.rpc_client.specs.declared.ask.Ask.{Ask}
use Rattle.rpc_client.specs.Clients.{Holds, IsIdle, Kept}
use Rattle.rpc_client.specs.Exchange.{Exchange, more, nothing}
use Rattle.rpc_client.specs.Progress.{IsOpen}
use Rattle.asking.specs.declared.asked.Asked.{Asked}
use Rattle.asking.specs.declared.asked.Asked.TheVariants as comes
use Rattle.asking.specs.declared.connection.Received.{Received}
use Rattle.asking.specs.declared.connection.Received.TheVariants.{End, Piece}
use Rattle.asking.specs.declared.conversation.Pause.{Pause}
use Rattle.asking.specs.declared.conversation.Pause.TheVariants.{Idle, Wait}
use Rattle.asking.specs.declared.halt.Halt.{Halt}
use Rattle.asking.specs.declared.halt.Halt.TheVariants as halts
use Rattle.asking.specs.Asking.{AreBegun, AreRefused, Comes, Edges}
use Rattle.asking.specs.Connections.{HasBegun, HasEnded, HasExchanged}
use Rattle.asking.specs.Given.{printed_in, sent_in}
use Rattle.asking.specs.Inputs.{Parsed, behind}
use Rattle.asking.specs.Meetings.{Leads, Talks}

-- ---- a piece of the stream

-- The client is fed this piece.
abbrev pub Feeds : Kept → Kept → List ℕ → Type 0
Feeds old new piece = (commands : List Command) (stream : List ℕ) (given : List Ask) → Holds old commands stream given → Holds new commands (stream ++ piece) given

abbrev pub Receives : Result Received Halt → Kept → Kept → Option Visits → Option Visits → Type 0
Receives (Ok Piece) kept fed old new =
    (piece : List ℕ) × Feeds kept fed piece × ((stream text : List ℕ) → Leads (HasExchanged stream text) (HasExchanged (stream ++ piece) text) old new)
Receives (Ok End) kept fed old new = (fed ≡ kept) × ((stream text : List ℕ) → Leads (HasExchanged stream text) (HasEnded stream text) old new)
Receives (Err (halts.BadReply place)) kept fed old new = ⊥
Receives (Err halt) kept fed old new = (stream text : List ℕ) → Leads (HasExchanged stream text) (HasBegun stream text) old new

-- ---- the client with its connection

-- The client was given these commands and this stream, and all that it has given was printed or sent.
pub record IsAt (origin : Edges) (commands : List Command) (stream : List ℕ) (given : List Ask) (kept : Kept) (now : Edges) : Type 0 where
  pub holds : Holds kept commands stream given
  pub printed : Wrote origin.output now.output (printed_in given)
  pub talks : Talks (HasExchanged stream (sent_in given)) origin.door now.door

-- And nothing is awaited.
pub record IsResting (origin : Edges) (commands : List Command) (kept : Kept) (now : Edges) : Type 0 where
  pub stream : List ℕ
  pub given : List Ask
  pub at : IsAt origin commands stream given kept now
  pub done : Exchange commands stream given nothing

-- What will be told once the door hangs up.
abbrev pub parted : Edges → Edges
parted now = record { output = now.output; door = option_map hung_up now.door }

-- Why a conversation ends before it is done.
abbrev pub Halts : Halt → Edges → List Command → Edges → Type 0
Halts (halts.BadReply place) origin commands now = AreRefused place commands origin (parted now)
Halts halt origin commands now = AreBegun commands origin (parted now)

-- All that the client has to give was given.
abbrev pub Gives : Result Pause Halt → Edges → List Command → List ℕ → Kept → Edges → Type 0
Gives (Ok Wait) origin commands stream kept now = (given : List Ask) × IsAt origin commands stream given kept now × Exchange commands stream given more
Gives (Ok Idle) origin commands stream kept now = (given : List Ask) × IsAt origin commands stream given kept now × Exchange commands stream given nothing
Gives (Err halt) origin commands stream kept now = Halts halt origin commands now

-- One thing that it has to give, or all.
abbrev pub GivesNext : Result (Option Pause) Halt → Edges → List Command → List ℕ → Kept → Edges → Type 0
GivesNext (Ok None) origin commands stream kept now = (given : List Ask) × IsAt origin commands stream given kept now
GivesNext (Ok (Some pause)) origin commands stream kept now = Gives (Ok pause) origin commands stream kept now
GivesNext (Err halt) origin commands stream kept now = Halts halt origin commands now

abbrev pub Rests : {X : Type 0} → Result X Halt → Edges → List Command → Kept → Edges → Type 0
Rests (Ok done) origin commands kept now = IsResting origin commands kept now
Rests (Err halt) origin commands kept now = Halts halt origin commands now

-- ---- the lines

-- A line was run, and these others stand behind it; or the run ends with it.
abbrev pub RunsLine : {X : Type 0} → Result X Asked → Edges → List Command → Parsed → Parsed → Kept → Edges → Type 0
RunsLine (Ok done) origin commands whole others kept now =
    (after : List Command) × IsResting origin after kept now × (behind commands whole ≡ behind after others)
RunsLine (Err asked) origin commands whole others kept now = Comes asked (behind commands whole) origin (parted now)

-- ---- the faults

abbrev pub asked_by : Halt → Asked
asked_by halts.ReadFault = comes.ReadFault
asked_by halts.WriteFault = comes.WriteFault
asked_by halts.NoMemory = comes.NoMemory
asked_by (halts.BadReply place) = comes.BadReply place

-- No count falls, and no connection is accepted.
pub record IsLater (printed prints : ℕ) (old new : Faults) : Type 0 where
  pub output : printed ≤ prints
  pub accept : new.accept ≡ old.accept
  pub read : old.read ≤ new.read
  pub write : old.write ≤ new.write

-- A fault of a conversation comes only where a call failed.
abbrev pub StopsBy : Asked → ℕ → ℕ → Faults → Faults → Type 0
StopsBy comes.ReadFault printed prints old new = Rose old.read new.read
StopsBy comes.WriteFault printed prints old new = Rose printed prints ⊎ Rose old.write new.write
StopsBy asked printed prints old new = Unit {0}

abbrev pub HaltsBy : {X : Type 0} → Result X Halt → ℕ → ℕ → Faults → Faults → Type 0
HaltsBy (Ok done) printed prints old new = Unit {0}
HaltsBy (Err halt) printed prints old new = StopsBy (asked_by halt) printed prints old new

abbrev pub EndsBy : {X : Type 0} → Result X Asked → ℕ → ℕ → Faults → Faults → Type 0
EndsBy (Ok done) printed prints old new = Unit {0}
EndsBy (Err asked) printed prints old new = StopsBy asked printed prints old new

-- What a client is ready for that gives nothing.
abbrev pub IsPausedFor : Pause → Kept → Type 0
IsPausedFor Wait kept = IsOpen kept
IsPausedFor Idle kept = IsIdle kept
