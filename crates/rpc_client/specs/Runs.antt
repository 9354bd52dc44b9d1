-- What a client says and sends, for its commands and the items of its server's stream.
use Rattle.std.specs.Prelude.{ℕ, if◌then◌else◌, List, [], ◌∷◌, ◌++◌, map, Option, None, Some}
use Rattle.rpc_calls.specs.declared.item.Item.{Item}
use Rattle.client_commands.specs.declared.command.Command.{Command}
use Rattle.client_exchange.specs.declared.stage.Stage.{Stage}
use Rattle.client_exchange.specs.declared.stage.Stage.TheVariants.{Resting}
use Rattle.client_exchange.specs.Exchange.{Answered, answered, begun, text_sent}
use Rattle.client_exchange.specs.Requests.{bind_text, first_request}
use Rattle.client_exchange.specs.Stages.{AskingState, fresh, is_resting}
use Rattle.rpc_client.specs.declared.ask.Ask.{Ask}
use Rattle.rpc_client.specs.declared.ask.Ask.TheVariants.{Line, Write}

-- How the run of a client ends: nothing is awaited, an item is awaited that isn't there, or the first of these items isn't the one
-- that is awaited.
pub data Ending : Type 0 where
  rests : Ending
  waits : Ending
  refuses : List Item → Ending

-- What it says and sends in turn, and how it ends.
abbrev pub Run : Type 0
Run = List Ask × Ending

abbrev pub behind : List Ask → Run → Run
behind given run = (given ++ run.0, run.1)

abbrev pub stops : Ending → Run
stops ending = ([], ending)

abbrev pub writes : Option (List ℕ) → List Ask
writes None = []
writes (Some bytes) = Write bytes ∷ []

-- Lines, and then bytes that are sent.
abbrev pub says : List (List ℕ) → Option (List ℕ) → List Ask
says lines sent = map (λ line. Line line) lines ++ writes sent

-- A client that was given the next command, if nothing was awaited.
pub record Begun : Type 0 where
  pub asking : AskingState
  pub commands : List Command
  pub given : List Ask

abbrev pub begins_at : AskingState → List Command → Stage → Begun
begins_at s [] stage = record { asking = s; commands = []; given = [] }
begins_at s (command ∷ commands) Resting =
    record { asking = begun s command; commands = commands; given = Write (text_sent s (first_request s.root command)) ∷ [] }
begins_at s (command ∷ commands) stage = record { asking = s; commands = command ∷ commands; given = [] }

abbrev pub begins : AskingState → List Command → Begun
begins s commands = begins_at s commands s.stage

-- What the first of these items comes to, and how the run goes on behind it.
abbrev pub takes : Option Answered → List Item → (Answered → Run) → Run
takes None items next = stops (refuses items)
takes (Some reply) items next = behind (says reply.lines reply.sent) (next reply)

-- The items one by one, and behind each the next command where nothing is awaited.
unfoldable pub goes_on : AskingState → List Command → List Item → Run
goes_on s commands [] = stops (if is_resting s.stage then rests else waits)
goes_on s commands (item ∷ items) =
    if is_resting s.stage then stops rests
    else takes (answered s item) (item ∷ items)
    (λ reply. behind (begins reply.next commands).given (goes_on (begins reply.next commands).asking (begins reply.next commands).commands items))

-- A client goes on with commands and items.
abbrev pub runs : AskingState → List Command → List Item → Run
runs s commands items = behind (begins s commands).given (goes_on (begins s commands).asking (begins s commands).commands items)

-- A client from its bind on.
unfoldable pub whole_run : List Command → List Item → Run
whole_run commands items = behind (Write bind_text ∷ []) (runs fresh commands items)
