-- An item comes to two lines at most.
use Rattle.std.proofs.Common.{◌≡◌, ℕ, ◌≤◌, Bool, true, false, ltb, eqb, List, [], ◌∷◌, length, Option, None, Some, refl, subst, arith}
use Rattle.std.specs.Prelude.{if◌then◌else◌}
use Rattle.ndr_values.specs.declared.handle.WireHandle.{WireHandle}
use Rattle.clusapi_stubs.specs.declared.input.In.{In}
use Rattle.clusapi_stubs.specs.declared.output.Out.{Out}
use Rattle.clusapi_stubs.specs.declared.output.Out.TheVariants.{CloseCluster, CloseKey, CreateKey, DeleteKey, DeleteValue, EnumKey, EnumValue, GetClusterName, GetRootKey, OpenCluster, OpenKey, QueryInfoKey, QueryValue, SetValue}
use Rattle.rpc_calls.specs.declared.item.Item.{Item}
use Rattle.client_commands.specs.declared.command.Command.{Command}
use Rattle.client_exchange.specs.declared.replies.Reply.{Reply}
use Rattle.client_exchange.specs.declared.replies.Reply.TheVariants.{Fault, Results}
use Rattle.client_exchange.specs.declared.stage.Stage.{Stage}
use Rattle.client_exchange.specs.declared.stage.Stage.TheVariants.{Acting, Binding, Closing, Listing, Resting, Rooting, Starting}
use Rattle.client_exchange.specs.declared.steps.Step.{Step}
use Rattle.client_exchange.specs.Exchange.{Answered, answered, answered_at, bound, commanded, makes, replied, root_in, rooted, rooted_by, stepped}
use Rattle.client_exchange.specs.Replies.{accepted_size, reply_in}
use Rattle.client_exchange.specs.Stages.{AskingState}
use Rattle.client_exchange.specs.Steps.{acted, fails, listed, lists, resulted, started, status_of, step_of, succeeded}
use Rattle.client_exchange.specs.Steps as steps
use Rattle.client_exchange.specs.Texts.{status_line}

-- ---- a step

abbrev FewIn : Option Step → Type 0
FewIn None = Unit {0}
FewIn (Some step) = length step.lines ≤ 2

few_if : (b : Bool) (x y : Option Step) → FewIn x → FewIn y → FewIn (if b then x else y)
few_if true x y few other = few
few_if false x y few other = other

few_lists : (key : WireHandle) (index count : ℕ) (command : Command) (lines : List (List ℕ)) (more : Bool) → ltb index count ≡ more → length lines ≤ 1
    → length (lists key index count command lines).lines ≤ 2
few_lists key index count command lines true is few = rw is (omega (arith, few))
few_lists key index count command [] false is few = rw is (omega arith)
few_lists key index count command (line ∷ []) false is few = rw is (omega arith)
few_lists key index count command (line ∷ other ∷ lines) false is few = absurd (omega (arith, few))

few_acted : (key : WireHandle) (command : Command) (out : Out) → FewIn (acted key command out)
few_acted key command (SetValue rpc_status status) = omega arith
few_acted key command (DeleteValue rpc_status status) = omega arith
few_acted key command (QueryValue kind bytes required rpc_status status) = omega arith
few_acted key command (QueryInfoKey subkeys longest_subkey values longest_name longest_data security written rpc_status status) = few_lists key 0 _ command [] _ refl (omega arith)
few_acted key command (OpenCluster status handle) = tt
few_acted key command (CloseCluster handle status) = tt
few_acted key command (GetClusterName cluster member status) = tt
few_acted key command (GetRootKey status rpc_status handle) = tt
few_acted key command (CreateKey disposition status rpc_status handle) = tt
few_acted key command (OpenKey status rpc_status handle) = tt
few_acted key command (EnumKey name written rpc_status status) = tt
few_acted key command (DeleteKey rpc_status status) = tt
few_acted key command (EnumValue name kind bytes cb_data total rpc_status status) = tt
few_acted key command (CloseKey handle status) = tt

few_listed : (key : WireHandle) (index count : ℕ) (command : Command) (out : Out) → FewIn (listed key index count command out)
few_listed key index count command (EnumKey name written rpc_status status) = few_lists key _ count command (_ ∷ []) _ refl (omega arith)
few_listed key index count command (EnumValue name kind bytes cb_data total rpc_status status) = few_lists key _ count command (_ ∷ []) _ refl (omega arith)
few_listed key index count command (SetValue rpc_status status) = tt
few_listed key index count command (DeleteValue rpc_status status) = tt
few_listed key index count command (QueryValue kind bytes required rpc_status status) = tt
few_listed key index count command (QueryInfoKey subkeys longest_subkey values longest_name longest_data security written rpc_status status) = tt
few_listed key index count command (OpenCluster status handle) = tt
few_listed key index count command (CloseCluster handle status) = tt
few_listed key index count command (GetClusterName cluster member status) = tt
few_listed key index count command (GetRootKey status rpc_status handle) = tt
few_listed key index count command (CreateKey disposition status rpc_status handle) = tt
few_listed key index count command (OpenKey status rpc_status handle) = tt
few_listed key index count command (DeleteKey rpc_status status) = tt
few_listed key index count command (CloseKey handle status) = tt

few_started : (command : Command) (out : Out) → FewIn (started command out)
few_started command (GetClusterName cluster member status) = omega arith
few_started command (CreateKey disposition status rpc_status handle) = omega arith
few_started command (DeleteKey rpc_status status) = omega arith
few_started command (OpenKey status rpc_status handle) = omega arith
few_started command (SetValue rpc_status status) = tt
few_started command (DeleteValue rpc_status status) = tt
few_started command (QueryValue kind bytes required rpc_status status) = tt
few_started command (QueryInfoKey subkeys longest_subkey values longest_name longest_data security written rpc_status status) = tt
few_started command (OpenCluster status handle) = tt
few_started command (CloseCluster handle status) = tt
few_started command (GetRootKey status rpc_status handle) = tt
few_started command (EnumKey name written rpc_status status) = tt
few_started command (EnumValue name kind bytes cb_data total rpc_status status) = tt
few_started command (CloseKey handle status) = tt

few_succeeded : (stage : Stage) (command : Command) (out : Out) → FewIn (succeeded stage command out)
few_succeeded (Acting key) command out = few_acted key command out
few_succeeded (Listing key index count) command out = few_listed key index count command out
few_succeeded Binding command out = few_started command out
few_succeeded Rooting command out = few_started command out
few_succeeded Resting command out = few_started command out
few_succeeded Starting command out = few_started command out
few_succeeded Closing command out = few_started command out

few_fails : (stage : Stage) (line : List ℕ) → length (fails stage line).lines ≤ 2
few_fails (Acting key) line = omega arith
few_fails (Listing key index count) line = omega arith
few_fails Binding line = omega arith
few_fails Rooting line = omega arith
few_fails Resting line = omega arith
few_fails Starting line = omega arith
few_fails Closing line = omega arith

few_replied : (stage : Stage) (command : Command) (reply : Reply) → FewIn (steps.replied stage command reply)
few_replied stage command (Results out) =
    few_if (eqb (status_of out) 0) (succeeded stage command out) (Some (fails stage (status_line (status_of out)))) (few_succeeded stage command out) (few_fails stage _)
few_replied stage command (Fault status) = few_fails stage _

few_steps : (stage : Stage) (command : Command) (reply : Reply) → FewIn (step_of stage command reply)
unfolding step_of
few_steps Closing command reply = omega arith
few_steps (Acting key) command reply = few_replied (Acting key) command reply
few_steps (Listing key index count) command reply = few_replied (Listing key index count) command reply
few_steps Binding command reply = few_replied Binding command reply
few_steps Rooting command reply = few_replied Rooting command reply
few_steps Resting command reply = few_replied Resting command reply
few_steps Starting command reply = few_replied Starting command reply

-- ---- an item

abbrev Few : Option Answered → Type 0
Few None = Unit {0}
Few (Some reply) = length reply.lines ≤ 2

few_makes : (s : AskingState) (stage : Stage) (lines : List (List ℕ)) (request : Option In) → length lines ≤ 2 → length (makes s stage lines request).lines ≤ 2
few_makes s stage lines None few = few
few_makes s stage lines (Some request) few = few

few_stepped : (s : AskingState) (step : Option Step) → FewIn step → Few (stepped s step)
few_stepped s None few = tt
few_stepped s (Some step) few = few_makes s step.stage step.lines step.request few

few_commanded : (s : AskingState) (reply : Reply) (command : Option Command) → Few (commanded s reply command)
few_commanded s reply None = tt
few_commanded s reply (Some command) = few_stepped s (step_of s.stage command reply) (few_steps s.stage command reply)

few_answers : (s : AskingState) (reply : Option Reply) → Few (replied s reply)
few_answers s None = tt
few_answers s (Some reply) = few_commanded s reply s.command

few_bound : (s : AskingState) (size : Option ℕ) → Few (bound s size)
few_bound s None = tt
few_bound s (Some size) = omega arith

few_rooted_by : (s : AskingState) (root : Option WireHandle) → Few (rooted_by s root)
few_rooted_by s None = tt
few_rooted_by s (Some root) = omega arith

few_rooted : (s : AskingState) (reply : Option Reply) → Few (rooted s reply)
few_rooted s None = tt
few_rooted s (Some reply) = few_rooted_by s (root_in reply)

few_at : (s : AskingState) (item : Item) (stage : Stage) → Few (answered_at s item stage)
few_at s item Binding = few_bound s (accepted_size item)
few_at s item Rooting = few_rooted s (reply_in s.opnum s.call_id item)
few_at s item Resting = few_answers s (reply_in s.opnum s.call_id item)
few_at s item Starting = few_answers s (reply_in s.opnum s.call_id item)
few_at s item (Acting key) = few_answers s (reply_in s.opnum s.call_id item)
few_at s item (Listing key index count) = few_answers s (reply_in s.opnum s.call_id item)
few_at s item Closing = few_answers s (reply_in s.opnum s.call_id item)

few_answered : (s : AskingState) (item : Item) → Few (answered s item)
unfolding answered
few_answered s item = few_at s item s.stage

pub few_lines : (s : AskingState) (item : Item) (reply : Answered) → answered s item ≡ Some reply → length reply.lines ≤ 2
few_lines s item reply is = subst Few is (few_answered s item)
