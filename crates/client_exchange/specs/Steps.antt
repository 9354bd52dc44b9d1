-- What the answer to a request comes to.
use Rattle.std.specs.Prelude.{◌≡◌, ℕ, ◌+◌, nat_lt, ◌==◌, if◌then◌else◌, List, [], ◌∷◌, ◌++◌, take, Option, None, Some, IfSome}
use Rattle.ndr_values.specs.declared.handle.WireHandle.{WireHandle}
use Rattle.clusapi_stubs.specs.declared.input.In.{In}
use Rattle.clusapi_stubs.specs.declared.input.In.TheVariants as requests
use Rattle.clusapi_stubs.specs.declared.output.Out.{Out}
use Rattle.clusapi_stubs.specs.declared.output.Out.TheVariants.{CloseCluster, CloseKey, CreateKey, DeleteKey, DeleteValue, EnumKey, EnumValue, GetClusterName, GetRootKey, OpenCluster, OpenKey, QueryInfoKey, QueryValue, SetValue}
use Rattle.client_commands.specs.declared.command.Command.{Command}
use Rattle.client_commands.specs.declared.command.Command.TheVariants.{Values}
use Rattle.client_exchange.specs.declared.replies.Reply.{Reply}
use Rattle.client_exchange.specs.declared.replies.Reply.TheVariants.{Fault, Results}
use Rattle.client_exchange.specs.declared.stage.Stage.{Stage}
use Rattle.client_exchange.specs.declared.stage.Stage.TheVariants.{Acting, Closing, Listing, Resting}
use Rattle.client_exchange.specs.declared.steps.Step.{Step}
use Rattle.client_exchange.specs.Requests.{RequestFits, entry_request, key_request}
use Rattle.client_exchange.specs.Stages.{StageFits}
use Rattle.client_exchange.specs.Texts.{fault_line, key_line, made_line, name_line, named_value_line, status_line, value_line}

-- The request is made, and its answer awaited.
abbrev pub awaits : Stage → In → Step
awaits stage request = record { stage = stage; lines = []; request = Some request }

-- The command is at its end, and no key is open.
abbrev pub rests : List (List ℕ) → Step
rests lines = record { stage = Resting; lines = lines; request = None }

-- The command is at its end, but for the key that is open.
abbrev pub closes : WireHandle → List (List ℕ) → Step
closes key lines = record { stage = Closing; lines = lines; request = Some (requests.CloseKey key) }

-- Behind these lines the next entry is asked for, where there is one.
abbrev pub lists : WireHandle → ℕ → ℕ → Command → List (List ℕ) → Step
lists key index count command lines =
    if nat_lt index count then record { stage = Listing key index count; lines = lines; request = Some (entry_request key index command) }
    else closes key (lines ++ status_line 0 ∷ [])

-- How many entries are asked for.
abbrev pub entries : ℕ → ℕ → Command → ℕ
entries subkeys values (Values path) = values
entries subkeys values command = subkeys

-- The results of a request on a key.
abbrev pub acted : WireHandle → Command → Out → Option Step
acted key command (SetValue rpc_status status) = Some (closes key (status_line 0 ∷ []))
acted key command (DeleteValue rpc_status status) = Some (closes key (status_line 0 ∷ []))
acted key command (QueryValue kind bytes required rpc_status status) = Some (closes key (value_line kind (take required bytes) ∷ []))
acted key command (QueryInfoKey subkeys longest_subkey values longest_name longest_data security written rpc_status status) =
    Some (lists key 0 (entries subkeys values command) command [])
acted key command out = None

-- The results of a request for an entry.
abbrev pub listed : WireHandle → ℕ → ℕ → Command → Out → Option Step
listed key index count command (EnumKey name written rpc_status status) = Some (lists key (index + 1) count command (key_line name ∷ []))
listed key index count command (EnumValue name kind bytes cb_data total rpc_status status) =
    Some (lists key (index + 1) count command (named_value_line name kind bytes ∷ []))
listed key index count command out = None

-- The results of a command's first request.
abbrev pub started : Command → Out → Option Step
started command (GetClusterName cluster member status) = Some (rests (name_line cluster member ∷ []))
started command (CreateKey disposition status rpc_status handle) = Some (closes handle (made_line disposition ∷ []))
started command (DeleteKey rpc_status status) = Some (rests (status_line 0 ∷ []))
started command (OpenKey status rpc_status handle) = Some (awaits (Acting handle) (key_request handle command))
started command out = None

-- Results with status 0.
abbrev pub succeeded : Stage → Command → Out → Option Step
succeeded (Acting key) command out = acted key command out
succeeded (Listing key index count) command out = listed key index count command out
succeeded stage command out = started command out

-- A command that fails says so, and only CloseKey follows, where a key is open.
abbrev pub fails : Stage → List ℕ → Step
fails (Acting key) line = closes key (line ∷ [])
fails (Listing key index count) line = closes key (line ∷ [])
fails stage line = rests (line ∷ [])

abbrev pub status_of : Out → ℕ
status_of (OpenCluster status handle) = status
status_of (CloseCluster handle status) = status
status_of (GetClusterName cluster member status) = status
status_of (GetRootKey status rpc_status handle) = status
status_of (CreateKey disposition status rpc_status handle) = status
status_of (OpenKey status rpc_status handle) = status
status_of (EnumKey name written rpc_status status) = status
status_of (SetValue rpc_status status) = status
status_of (DeleteValue rpc_status status) = status
status_of (QueryValue kind bytes required rpc_status status) = status
status_of (DeleteKey rpc_status status) = status
status_of (EnumValue name kind bytes cb_data total rpc_status status) = status
status_of (CloseKey handle status) = status
status_of (QueryInfoKey subkeys longest_subkey values longest_name longest_data security written rpc_status status) = status

abbrev pub resulted : Stage → Command → Out → Option Step
resulted stage command out = if status_of out == 0 then succeeded stage command out else Some (fails stage (status_line (status_of out)))

abbrev pub replied : Stage → Command → Reply → Option Step
replied stage command (Results out) = resulted stage command out
replied stage command (Fault status) = Some (fails stage (fault_line status))

-- What the answer to a request of this command comes to. That of CloseKey isn't printed, whatever it says.
unfoldable pub step_of : Stage → Command → Reply → Option Step
step_of Closing command reply = Some (rests [])
step_of stage command reply = replied stage command reply

-- What a step has, however it was made.
abbrev pub StepFits : Step → Type 0
StepFits step = StageFits step.stage × IfSome step.request RequestFits
