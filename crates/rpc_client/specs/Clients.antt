-- What a client keeps, and what its calls give.
use Rattle.std.specs.Prelude.{◌≡◌, ℕ, ◌+◌, ◌<◌, ◌≤◌, nat_lt, Bool, true, false, List, [], ◌∷◌, ◌++◌, length, option_to_list, Option, None, Some, IfSome, Result, Ok, Err}
use Rattle.rpc_calls.specs.declared.feed_fault.FeedFault.{FeedFault}
use Rattle.rpc_calls.specs.declared.feed_fault.FeedFault.TheVariants as feeds
use Rattle.rpc_calls.specs.declared.item.Item.{Item}
use Rattle.rpc_calls.specs.declared.side.Side.TheVariants as sides
use Rattle.rpc_calls.specs.Intakes as intakes
use Rattle.client_commands.specs.declared.command.Command.{Command}
use Rattle.client_exchange.specs.Requests.{bind_text}
use Rattle.client_exchange.specs.Stages.{AskingState, fresh, is_resting}
use Rattle.rpc_client.specs.declared.ask.Ask.{Ask}
use Rattle.rpc_client.specs.declared.ask.Ask.TheVariants.{Idle, Line, Wait, Write}
use Rattle.rpc_client.specs.declared.client_fault.ClientFault.{ClientFault}
use Rattle.rpc_client.specs.declared.client_fault.ClientFault.TheVariants.{BadReply, Memory}
use Rattle.rpc_client.specs.Exchange.{Exchange, StandsAt, fault, looked_at, more, most_stream, nothing}
use Rattle.rpc_client.specs.Runs.{behind, runs, says, whole_run}

pub record Kept : Type 0 where
  -- whether the bind was given
  pub opened : Bool
  pub asking : AskingState
  -- the lines that are still to be given, and the bytes behind them
  pub lines : List (List ℕ)
  pub sent : Option (List ℕ)
  pub intake : intakes.Kept
  -- the item that was taken from the intake and isn't answered yet
  pub item : Option Item
  -- whether the stream has bytes that aren't looked at
  pub passed : Bool

abbrev pub bind_first : Bool → List Ask
bind_first true = []
bind_first false = Write bind_text ∷ []

-- What is given before anything else.
abbrev pub still_to_give : Kept → List Ask
still_to_give kept = bind_first kept.opened ++ says kept.lines kept.sent

-- The client was given these commands and fed this stream, and has given that, as the first of all that it says and sends for them:
-- whatever commands and items follow, it goes on from here.
pub record Holds (kept : Kept) (commands : List Command) (stream : List ℕ) (given : List Ask) : Type 0 where
  pub items : List Item
  pub side : kept.intake.side ≡ sides.Client
  pub fed : intakes.Holds kept.intake (looked_at stream) (items ++ option_to_list kept.item)
  pub stands : IfSome kept.item (λ item. StandsAt (looked_at stream) items item kept.intake.last_place)
  pub passed : kept.passed ≡ nat_lt most_stream (length stream)
  pub goes_on : (commands_more : List Command) (items_more : List Item)
      → whole_run (commands ++ commands_more) (items ++ items_more) ≡ behind (given ++ still_to_give kept) (runs kept.asking commands_more items_more)

abbrev pub new_client : Kept
new_client = record { opened = false; asking = fresh; lines = []; sent = None; intake = intakes.fresh sides.Client; item = None; passed = false }

-- Nothing is to be given, and nothing is awaited.
pub record IsIdle (kept : Kept) : Type 0 where
  pub opened : kept.opened ≡ true
  pub no_lines : kept.lines ≡ []
  pub not_sent : kept.sent ≡ None
  pub resting : is_resting kept.asking.stage ≡ true

-- Nothing is to be given, but an item is awaited.
pub record IsAwaiting (kept : Kept) : Type 0 where
  pub opened : kept.opened ≡ true
  pub no_lines : kept.lines ≡ []
  pub not_sent : kept.sent ≡ None
  pub awaits : is_resting kept.asking.stage ≡ false

-- ---- feed

-- So many bytes may be unprocessed, as for an intake.
abbrev pub FeedIs : {X : Type 0} → Result X FeedFault → Kept → Kept → List ℕ → Type 0
FeedIs (Ok taken) old new piece =
    (old.intake.unprocessed + length piece ≤ intakes.most_unprocessed)
    × ((commands : List Command) (stream : List ℕ) (given : List Ask) → Holds old commands stream given → Holds new commands (stream ++ piece) given)
FeedIs (Err feeds.Backlog) old new piece = (intakes.most_unprocessed < old.intake.unprocessed + length piece) × (new ≡ old)
FeedIs (Err feeds.Memory) old new piece = (old.intake.unprocessed + length piece ≤ intakes.most_unprocessed) × (new ≡ old)

-- ---- next

abbrev pub Gives : Result Ask ClientFault → Kept → List Command → List ℕ → List Ask → Type 0
Gives (Ok (Line line)) new commands stream given = Holds new commands stream (given ++ Line line ∷ [])
Gives (Ok (Write bytes)) new commands stream given = Holds new commands stream (given ++ Write bytes ∷ [])
Gives (Ok Wait) new commands stream given = Holds new commands stream given × Exchange commands stream given more
Gives (Ok Idle) new commands stream given = Holds new commands stream given × Exchange commands stream given nothing
Gives (Err (BadReply place)) new commands stream given = Holds new commands stream given × Exchange commands stream given (fault place)
Gives (Err Memory) new commands stream given = Holds new commands stream given

-- Whatever commands the client was given and whatever stream it was fed: that is the next thing to do.
abbrev pub NextIs : Result Ask ClientFault → Kept → Kept → Type 0
NextIs result old new = (commands : List Command) (stream : List ℕ) (given : List Ask) → Holds old commands stream given → Gives result new commands stream given

abbrev pub IsIdleAfter : Result Ask ClientFault → Kept → Type 0
IsIdleAfter (Ok Idle) kept = IsIdle kept
IsIdleAfter result kept = Unit {0}

-- One turn may give nothing.
abbrev pub TurnIs : Result (Option Ask) ClientFault → Kept → Kept → Type 0
TurnIs (Ok None) old new = (commands : List Command) (stream : List ℕ) (given : List Ask) → Holds old commands stream given → Holds new commands stream given
TurnIs (Ok (Some ask)) old new = NextIs (Ok ask) old new
TurnIs (Err found) old new = NextIs (Err found) old new

-- Where no further item is whole.
abbrev pub end_of : Bool → Result (Option Ask) ClientFault
end_of true = Err (BadReply most_stream)
end_of false = Ok (Some Wait)

-- What a client says and sends for a reply.
abbrev pub told_by : Kept → List (List ℕ) → Option (List ℕ) → Kept
told_by kept lines sent =
    record { opened = kept.opened; asking = kept.asking; lines = lines; sent = sent; intake = kept.intake; item = None; passed = kept.passed }
