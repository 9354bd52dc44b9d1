-- What comes of a client over a door's connection.
use Rattle.std.specs.Prelude.{◌≡◌, ◌⊎◌, ℕ, ◌<◌, ◌≤◌, Bool, false, List, [], length, Option, None, Some, IfSome, Result, Ok}
use Rattle.causes.specs.Counts.{Rose}
use Rattle.causes.specs.Writing.{Wrote, WroteSome}
use Rattle.edge_io.specs.declared.failed.Failed.{Failed}
use Rattle.edge_io.specs.Visits.{Accepts, Faults, Tells, Visits, hung_up}
use Rattle.client_commands.specs.declared.command.Command.{Command}
use Rattle.rpc_client.specs.declared.ask.Ask.{Ask}
use Rattle.rpc_client.specs.Exchange.{Begins, Exchange, fault, more, nothing}
use Rattle.asking.specs.declared.asked.Asked.{Asked}
use Rattle.asking.specs.declared.asked.Asked.TheVariants as comes
use Rattle.asking.specs.Connections.{HasBegun, HasEnded, HasExchanged, Visited}
use Rattle.asking.specs.Given.{printed_in, sent_in}
use Rattle.asking.specs.Inputs.{Parsed, most_input, parsed}

-- What the output and the door tell.
pub record Edges : Type 0 where
  pub output : Option (List ℕ)
  pub door : Option Visits

abbrev pub edges : Option (List ℕ) → Option Visits → Edges
edges output door = record { output = output; door = door }

-- ---- the connection

-- All of the commands were carried out: what was sent and printed is their exchange with the stream that was read.
pub record AreAnswered (commands : List Command) (v w : Edges) : Type 0 where
  pub stream : List ℕ
  pub given : List Ask
  pub exchange : Exchange commands stream given nothing
  pub printed : Wrote v.output w.output (printed_in given)
  pub visited : Visited (HasExchanged stream (sent_in given)) v.door w.door

-- The exchange has a fault at that place; or more is awaited where the peer's stream ends, which is the place.
abbrev pub IsBadAt : ℕ → List Command → List ℕ → List Ask → Option Visits → Option Visits → Type 0
IsBadAt place commands stream given before now =
    (Exchange commands stream given (fault place) × Visited (HasExchanged stream (sent_in given)) before now)
    ⊎ (Exchange commands stream given more × (place ≡ length stream) × Visited (HasEnded stream (sent_in given)) before now)

pub record AreRefused (place : ℕ) (commands : List Command) (v w : Edges) : Type 0 where
  pub stream : List ℕ
  pub given : List Ask
  pub printed : Wrote v.output w.output (printed_in given)
  pub bad : IsBadAt place commands stream given v.door w.door

-- What was sent and printed is a prefix of the commands' exchange with what was read.
pub record AreBegun (commands : List Command) (v w : Edges) : Type 0 where
  pub stream : List ℕ
  pub given : List Ask
  pub begins : Begins commands stream given
  pub printed : WroteSome v.output w.output (printed_in given)
  pub visited : Visited (HasBegun stream (sent_in given)) v.door w.door

-- What comes of the commands that were read.
abbrev pub Comes : Asked → Parsed → Edges → Edges → Type 0
Comes comes.Done read v w = (read.bad ≡ None) × AreAnswered read.commands v w
Comes (comes.BadCommand line column) read v w = (read.bad ≡ Some (line, column)) × AreAnswered read.commands v w
Comes (comes.BadReply place) read v w = AreRefused place read.commands v w
Comes comes.ReadFault read v w = AreBegun read.commands v w
Comes comes.WriteFault read v w = AreBegun read.commands v w
Comes comes.NoMemory read v w = AreBegun read.commands v w
Comes comes.TooLong read v w = ⊥
Comes comes.NoPeer read v w = ⊥

-- ---- the run

-- The input was read to its end, and this is its text.
pub record WasRead (before : Option (List ℕ)) (text : List ℕ) (now : Option (List ℕ)) : Type 0 where
  pub short : length text ≤ most_input
  pub same : IfSome before (λ left. (left ≡ text) × (now ≡ Some []))

-- Nothing was printed, and there was no connection.
abbrev pub IsUnbegun : Edges → Edges → Type 0
IsUnbegun v w = (w.output ≡ v.output) × ((w.door ≡ v.door) ⊎ Tells v.door w.door (λ old now. now ≡ hung_up old))

abbrev pub no_more : Result Bool Failed
no_more = Ok false

-- The door handed out no connection.
abbrev pub HasNoPeer : Edges → Edges → Type 0
HasNoPeer v w = (w.output ≡ v.output) × Tells v.door w.door (Accepts no_more)

abbrev pub RunsOn : Asked → Option (List ℕ) → Option (List ℕ) → Edges → Edges → Type 0
RunsOn asked before now v w = (text : List ℕ) × WasRead before text now × Comes asked (parsed text) v w

-- What comes of a run, by what is left of the input before it and behind it.
abbrev pub Runs : Asked → Option (List ℕ) → Option (List ℕ) → Edges → Edges → Type 0
Runs comes.TooLong before now v w = IfSome before (λ left. most_input < length left) × (w ≡ v)
Runs comes.NoPeer before now v w = (text : List ℕ) × WasRead before text now × HasNoPeer v w
Runs comes.ReadFault before now v w = IsUnbegun v w ⊎ RunsOn comes.ReadFault before now v w
Runs comes.NoMemory before now v w = IsUnbegun v w ⊎ RunsOn comes.NoMemory before now v w
Runs asked before now v w = RunsOn asked before now v w

-- ---- its faults

-- How many calls of each kind failed so far.
pub record Counts : Type 0 where
  pub input : ℕ
  pub output : ℕ
  pub door : Faults

abbrev pub counts : ℕ → ℕ → Faults → Counts
counts input output door = record { input = input; output = output; door = door }

-- A fault comes only where a call failed.
abbrev pub HasCauses : Asked → Counts → Counts → Type 0
HasCauses comes.ReadFault v w = Rose v.input w.input ⊎ (Rose v.door.accept w.door.accept ⊎ Rose v.door.read w.door.read)
HasCauses comes.WriteFault v w = Rose v.output w.output ⊎ Rose v.door.write w.door.write
HasCauses asked v w = Unit {0}
