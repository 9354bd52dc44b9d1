-- How the run of a client goes on.
use Rattle.std.proofs.Common.{◌≡◌, true, false, List, [], ◌∷◌, ◌++◌, None, Some, refl, sym, ap, ◌∙◌, append_assoc}
use Rattle.rpc_calls.specs.declared.item.Item.{Item}
use Rattle.client_commands.specs.declared.command.Command.{Command}
use Rattle.client_exchange.specs.declared.stage.Stage.{Stage}
use Rattle.client_exchange.specs.declared.stage.Stage.TheVariants.{Acting, Binding, Closing, Listing, Resting, Rooting, Starting}
use Rattle.client_exchange.specs.Exchange.{Answered, answered, begun, text_sent}
use Rattle.client_exchange.specs.Requests.{first_request}
use Rattle.client_exchange.specs.Stages.{AskingState, is_resting}
use Rattle.rpc_client.specs.declared.ask.Ask.{Ask}
use Rattle.rpc_client.specs.declared.ask.Ask.TheVariants.{Write}
use Rattle.rpc_client.specs.Runs.{Begun, Run, begins_at, behind, goes_on, refuses, rests, runs, says, stops, waits}

pub behind_twice : (a b : List Ask) (run : Run) → behind a (behind b run) ≡ behind (a ++ b) run
behind_twice a b run = ap (λ (given : List Ask). (given, run.1)) (sym (append_assoc a b run.0))

pub is_at_rest : (stage : Stage) → is_resting stage ≡ true → stage ≡ Resting
is_at_rest Resting e = refl
is_at_rest Binding e = absurd (cc e)
is_at_rest Rooting e = absurd (cc e)
is_at_rest Starting e = absurd (cc e)
is_at_rest (Acting key) e = absurd (cc e)
is_at_rest (Listing key index count) e = absurd (cc e)
is_at_rest Closing e = absurd (cc e)

-- A client that awaits an item begins no command.
abbrev as_it_is : AskingState → List Command → Begun
as_it_is s commands = record { asking = s; commands = commands; given = [] }

not_begun : (s : AskingState) (commands : List Command) (stage : Stage) → is_resting stage ≡ false → begins_at s commands stage ≡ as_it_is s commands
not_begun s [] stage e = refl
not_begun s (command ∷ commands) Resting e = absurd (cc e)
not_begun s (command ∷ commands) Binding e = refl
not_begun s (command ∷ commands) Rooting e = refl
not_begun s (command ∷ commands) Starting e = refl
not_begun s (command ∷ commands) (Acting key) e = refl
not_begun s (command ∷ commands) (Listing key index count) e = refl
not_begun s (command ∷ commands) Closing e = refl

abbrev from : Begun → List Item → Run
from begun items = behind begun.given (goes_on begun.asking begun.commands items)

pub awaiting_run : (s : AskingState) (commands : List Command) (items : List Item) → is_resting s.stage ≡ false → runs s commands items ≡ goes_on s commands items
awaiting_run s commands items e = ap (λ (b : Begun). from b items) (not_begun s commands s.stage e)

pub resting_run : (s : AskingState) (items : List Item) → is_resting s.stage ≡ true → runs s [] items ≡ stops rests
unfolding goes_on
resting_run s [] e = rw e refl
resting_run s (item ∷ items) e = rw e refl

pub waiting_run : (s : AskingState) → is_resting s.stage ≡ false → runs s [] [] ≡ stops waits
unfolding goes_on
waiting_run s e = rw e refl

pub refused_run : (s : AskingState) (commands : List Command) (item : Item) (items : List Item) → is_resting s.stage ≡ false → answered s item ≡ None
    → runs s commands (item ∷ items) ≡ stops (refuses (item ∷ items))
unfolding goes_on
refused_run s commands item items e none = awaiting_run s commands (item ∷ items) e ∙ rw (e, none) refl

pub answered_run : (s : AskingState) (commands : List Command) (item : Item) (items : List Item) (reply : Answered) → is_resting s.stage ≡ false
    → answered s item ≡ Some reply → runs s commands (item ∷ items) ≡ behind (says reply.lines reply.sent) (runs reply.next commands items)
unfolding goes_on
answered_run s commands item items reply e some = awaiting_run s commands (item ∷ items) e ∙ rw (e, some) refl

-- A command that is started is the next one.
pub started_run : (s : AskingState) (command : Command) (commands : List Command) (items : List Item) → is_resting s.stage ≡ true
    → runs s (command ∷ commands) items ≡ behind (Write (text_sent s (first_request s.root command)) ∷ []) (runs (begun s command) commands items)
started_run s command commands items e =
    let here = is_at_rest s.stage e in
    let first : begins_at s (command ∷ commands) s.stage ≡ begins_at s (command ∷ commands) Resting = ap (λ (stage : Stage). begins_at s (command ∷ commands) stage) here in
    ap (λ (b : Begun). from b items) first
    ∙ ap (λ (run : Run). behind (Write (text_sent s (first_request s.root command)) ∷ []) run) (sym (awaiting_run (begun s command) commands items refl))
