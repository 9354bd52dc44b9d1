-- What each item of the server's stream comes to, and what a client says and sends for its commands.
use Rattle.std.specs.Prelude.{◌≡◌, ℕ, ◌==◌, if◌then◌else◌, List, [], ◌∷◌, Option, None, Some, Result, Ok, Err}
use Rattle.ndr_values.specs.declared.handle.WireHandle.{WireHandle}
use Rattle.clusapi_stubs.specs.declared.input.In.{In}
use Rattle.clusapi_stubs.specs.declared.output.Out.{Out}
use Rattle.clusapi_stubs.specs.declared.output.Out.TheVariants.{GetRootKey}
use Rattle.clusapi_stubs.specs.Inputs.{opnum_of}
use Rattle.rpc_calls.specs.declared.item.Item.{Item}
use Rattle.client_commands.specs.declared.command.Command.{Command}
use Rattle.client_exchange.specs.declared.replies.Reply.{Reply}
use Rattle.client_exchange.specs.declared.replies.Reply.TheVariants.{Fault, Results}
use Rattle.client_exchange.specs.declared.stage.Stage.{Stage}
use Rattle.client_exchange.specs.declared.stage.Stage.TheVariants.{Binding, Resting, Rooting, Starting}
use Rattle.client_exchange.specs.declared.steps.Step.{Step}
use Rattle.client_exchange.specs.declared.told.Told.{Told}
use Rattle.client_exchange.specs.Replies.{accepted_size, reply_in}
use Rattle.client_exchange.specs.Requests.{first_request, request_text, root_request}
use Rattle.client_exchange.specs.Stages.{AskingState, next_id}
use Rattle.client_exchange.specs.Steps.{awaits, step_of}

-- ---- what is sent

-- The request is on its way, with the next call id.
abbrev pub awaiting : AskingState → Stage → In → AskingState
awaiting s stage request =
    record { stage = stage; command = s.command; root = s.root; opnum = opnum_of request; call_id = next_id s; max_xmit = s.max_xmit }

abbrev pub text_sent : AskingState → In → List ℕ
text_sent s request = request_text s.max_xmit (next_id s) request

-- The command's first request is on its way.
abbrev pub begun : AskingState → Command → AskingState
begun s command =
    record { stage = Starting; command = Some command; root = s.root; opnum = opnum_of (first_request s.root command); call_id = next_id s; max_xmit = s.max_xmit }

-- ---- what a reply comes to

-- The client behind it, the lines, and the bytes that are sent behind these.
pub record Answered : Type 0 where
  pub next : AskingState
  pub lines : List (List ℕ)
  pub sent : Option (List ℕ)

abbrev pub at_stage : AskingState → Stage → AskingState
at_stage s stage = record { stage = stage; command = s.command; root = s.root; opnum = s.opnum; call_id = s.call_id; max_xmit = s.max_xmit }

abbrev pub with_size : AskingState → ℕ → AskingState
with_size s size = record { stage = s.stage; command = s.command; root = s.root; opnum = s.opnum; call_id = s.call_id; max_xmit = size }

abbrev pub with_root : AskingState → WireHandle → AskingState
with_root s root = record { stage = Resting; command = s.command; root = root; opnum = s.opnum; call_id = s.call_id; max_xmit = s.max_xmit }

abbrev pub makes : AskingState → Stage → List (List ℕ) → Option In → Answered
makes s stage lines None = record { next = at_stage s stage; lines = lines; sent = None }
makes s stage lines (Some request) = record { next = awaiting s stage request; lines = lines; sent = Some (text_sent s request) }

abbrev pub follows : AskingState → Step → Answered
follows s step = makes s step.stage step.lines step.request

-- Behind the bind_ack the root's handle is asked for.
abbrev pub bound : AskingState → Option ℕ → Option Answered
bound s None = None
bound s (Some size) = Some (follows (with_size s size) (awaits Rooting root_request))

-- The root's handle, where the status is 0.
abbrev pub root_of : Out → Option WireHandle
root_of (GetRootKey status rpc_status handle) = if status == 0 then Some handle else None
root_of out = None

abbrev pub root_in : Reply → Option WireHandle
root_in (Results out) = root_of out
root_in (Fault status) = None

abbrev pub rooted_by : AskingState → Option WireHandle → Option Answered
rooted_by s None = None
rooted_by s (Some root) = Some (record { next = with_root s root; lines = []; sent = None })

abbrev pub rooted : AskingState → Option Reply → Option Answered
rooted s None = None
rooted s (Some reply) = rooted_by s (root_in reply)

abbrev pub stepped : AskingState → Option Step → Option Answered
stepped s None = None
stepped s (Some step) = Some (follows s step)

abbrev pub commanded : AskingState → Reply → Option Command → Option Answered
commanded s reply None = None
commanded s reply (Some command) = stepped s (step_of s.stage command reply)

abbrev pub replied : AskingState → Option Reply → Option Answered
replied s None = None
replied s (Some reply) = commanded s reply s.command

abbrev pub answered_at : AskingState → Item → Stage → Option Answered
answered_at s item Binding = bound s (accepted_size item)
answered_at s item Rooting = rooted s (reply_in s.opnum s.call_id item)
answered_at s item stage = replied s (reply_in s.opnum s.call_id item)

-- What the item comes to, where it is the one that is awaited.
unfoldable pub answered : AskingState → Item → Option Answered
answered s item = answered_at s item s.stage

-- What a call gave of it. Where memory ran out nothing was taken.
abbrev pub Answers : {E : Type 0} → Result (Option Told) E → Option Answered → AskingState → AskingState → Type 0
Answers (Ok None) read before now = (read ≡ None) × (now ≡ before)
Answers (Ok (Some told)) read before now = read ≡ Some (record { next = now; lines = told.lines; sent = told.sent })
Answers (Err fault) read before now = now ≡ before
