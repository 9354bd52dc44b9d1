-- The events of a node are steps of its incarnation.
use Rattle.std.specs.Prelude.{◌≡◌, ℕ, ◌-◌, ◌≤◌, false, List, [], ◌∷◌, length, drop, Option, Some, None, Result, Ok, Err, if◌then◌else◌}
use Rattle.disk_core.specs.Views.{DiskView}
use Rattle.gum_messages.specs.declared.view.View.{View}
use Rattle.gum_messages.specs.Messages.{Sent}
use Rattle.gum_messages.specs.Places.{at_place}
use Rattle.registry_defs.specs.declared.outcome.Outcome.{Outcome}
use Rattle.registry_defs.specs.Keys.{Keys}
use Rattle.update_records.specs.Entry.{Entry}
use Rattle.update_records.specs.declared.update.Update.{Update}
use Rattle.cluster_rules.specs.Machines.{outcome_at, registry_at}
use Rattle.cluster_rules.specs.Nodes.{NodeState, done_of}
use Rattle.cluster_rules.specs.declared.effect.Effect.{Effect}
use Rattle.cluster_rules.specs.Worlds.{acked}
use Rattle.registry_machine.specs.Machine.{registry_machine}
use Rattle.cluster_member.specs.declared.stop.Stop.{Stop}
use Rattle.member_rules.specs.declared.told.Told.{Told}
use Rattle.cluster_member.specs.Events.{Installs, Receives, WritesCheckpoint}
use Rattle.cluster_member.specs.States.{MemberState, fresh_member}
use Rattle.client_connections.specs.Clients.{no_clients}
use Rattle.cluster_node.specs.Acting.{Follows, keys_if_open}
use Rattle.cluster_node.specs.Events.{Batches, Connects, HangsUp, HearsBytes, Ticks, head_request}
use Rattle.cluster_node.specs.Explained.{Brings, Finishes, Incarnation, Input, IsStepBy, Other, Step, Stops, first_state, told_to_clients}
use Rattle.cluster_node.specs.Explained as explained
use Rattle.cluster_node.specs.InStep.{InStep}
use Rattle.cluster_node.specs.States.{RunningNode, runs, with_stamp}

-- The incarnation has come to what the node keeps: the requests that weren't acknowledged are those in the queue.
pub record StandsFor (x : RunningNode) (s : Incarnation) : Type 0 where
  pub clients : s.clients ≡ x.clients
  pub passed : s.passed ≡ x.member.rules.core.passed
  pub counted : s.passed ≤ length s.requests
  pub queue : drop s.passed s.requests ≡ x.member.rules.core.queue

-- An event, with the node behind it.
abbrev pub step_at : Input → RunningNode → List Effect → Step
step_at input y effects = record {
  input = input;
  is_open = y.member.rules.core.is_open;
  done = done_of y.member.rules;
  told = told_to_clients effects;
}

-- Where the node is open, its registry is the one behind as many records of the order as it has applied.
abbrev pub keys_behind : ℕ → List Entry → NodeState registry_machine → Option Keys
keys_behind cap order x = if x.core.is_open then Some (registry_at registry_machine cap order (done_of x)).keys else None

abbrev pub HasFold : ℕ → List Entry → MemberState → Type 0
HasFold cap order m = keys_if_open m.rules ≡ keys_behind cap order m.rules

abbrev pub StepsBy : Input → ℕ → List Entry → ℕ → ℕ → RunningNode → List Effect → Incarnation → Type 0
StepsBy input cap order node inc y effects s = (u : Incarnation) × IsStepBy input cap order node inc (step_at input y effects) s u × StandsFor y u

abbrev pub BytesStep : Type 0
BytesStep = (cap : ℕ) (order : List Entry) (node inc conn : ℕ) (piece : List ℕ) (x y : RunningNode) (effects : List Effect) (s : Incarnation)
    → HearsBytes conn piece (Some x) (Some y) effects → InStep (Some x) → HasFold cap order x.member → StandsFor x s → StepsBy (Brings conn piece) cap order node inc y effects s

abbrev pub ConnectSteps : Type 0
ConnectSteps = (cap : ℕ) (order : List Entry) (node inc conn : ℕ) (x y : RunningNode) (effects : List Effect) (s : Incarnation)
    → Connects conn (Some x) (Some y) effects → StandsFor x s → StepsBy (explained.Connects conn) cap order node inc y effects s

abbrev pub HangUpSteps : Type 0
HangUpSteps = (cap : ℕ) (order : List Entry) (node inc conn : ℕ) (x y : RunningNode) (effects : List Effect) (s : Incarnation)
    → HangsUp conn (Some x) (Some y) effects → StandsFor x s → StepsBy (explained.HangsUp conn) cap order node inc y effects s

abbrev pub BatchSteps : Type 0
BatchSteps = (cap : ℕ) (order : List Entry) (node inc : ℕ) (update : Update) (x y : RunningNode) (effects : List Effect) (s : Incarnation)
    → Batches update (Some x) (Some y) effects → InStep (Some x) → StandsFor x s → StepsBy (explained.Batches update) cap order node inc y effects s

-- It begins where an incarnation begins.
abbrev pub StartStands : Type 0
StartStands = (node inc : ℕ) → StandsFor (runs (fresh_member node inc) (no_clients node)) (first_state node)

abbrev pub TickSteps : Type 0
TickSteps = (cap : ℕ) (order : List Entry) (node inc : ℕ) (x y : RunningNode) (effects : List Effect) (s : Incarnation)
    → Ticks (Some x) (Some y) effects → StandsFor x s → StepsBy Other cap order node inc y effects s

abbrev pub ClockSteps : Type 0
ClockSteps = (cap : ℕ) (order : List Entry) (node inc stamp : ℕ) (x : RunningNode) (s : Incarnation) → StandsFor x s → StepsBy Other cap order node inc (with_stamp stamp x) [] s

-- ---- events of the member

-- The record of the queue's head stands at this place of the order, and what it came to there is what the member told.
pub record IsHead (cap : ℕ) (order : List Entry) (node inc : ℕ) (x : RunningNode) (place : ℕ) (told : Option Outcome) : Type 0 where
  pub entry : Entry
  pub stands : at_place order place ≡ Some entry
  pub id : entry.id ≡ record { node = node; inc = inc; req = head_request x }
  pub others : List Update
  pub update : x.member.rules.core.queue ≡ entry.update ∷ others
  pub outcome : told ≡ Some (outcome_at registry_machine cap order (place - 1) entry)

abbrev pub AreHeads : ℕ → List Entry → ℕ → ℕ → RunningNode → Result Told Stop → Type 0
AreHeads cap order node inc x (Ok told) = (view place : ℕ) → acked told.effects ≡ (view, place) ∷ [] → IsHead cap order node inc x place told.outcome
AreHeads cap order node inc x (Err stop) = Unit {0}

abbrev pub input_for : List (ℕ × ℕ) → Input
input_for [] = Other
input_for (ack ∷ acks) = Finishes ack.0 ack.1

abbrev pub input_of : Result Told Stop → Input
input_of (Ok told) = input_for (acked told.effects)
input_of (Err stop) = Stops

-- The event by which it stopped.
abbrev pub last_step : List Effect → Step
last_step effects = record { input = Stops; is_open = false; done = 0; told = told_to_clients effects }

abbrev pub StepsTo : Result Told Stop → ℕ → List Entry → ℕ → ℕ → Option RunningNode → List Effect → Incarnation → Type 0
StepsTo came cap order node inc None effects s = (u : Incarnation) × IsStepBy Stops cap order node inc (last_step effects) s u
StepsTo came cap order node inc (Some y) effects s = StepsBy (input_of came) cap order node inc y effects s

-- What follows of an event of the member, m behind it, where each head that it acknowledges is the order's, and its registry too.
abbrev pub FollowsAsStep : RunningNode → Result Told Stop → MemberState → Type 0
FollowsAsStep x came m = (cap : ℕ) (order : List Entry) (node inc : ℕ) (y : Option RunningNode) (effects : List Effect) (s : Incarnation)
    → Follows came (head_request x) m x.clients y effects → InStep (Some x) → AreHeads cap order node inc x came → HasFold cap order m → StandsFor x s
    → StepsTo came cap order node inc y effects s

abbrev pub ReceiveSteps : Type 0
ReceiveSteps = (v w : DiskView) (x : RunningNode) (p : Sent) (came : Result Told Stop) (m : MemberState) → Receives v x.member p came m w → InStep (Some x) → FollowsAsStep x came m

abbrev pub InstallSteps : Type 0
InstallSteps = (v w : DiskView) (x : RunningNode) (view : View) (came : Result Told Stop) (m : MemberState) → Installs v x.member view came m w → InStep (Some x) → FollowsAsStep x came m

abbrev pub CheckpointSteps : Type 0
CheckpointSteps = (v w : DiskView) (x : RunningNode) (came : Result Told Stop) (m : MemberState) → WritesCheckpoint v x.member came m w → InStep (Some x) → FollowsAsStep x came m
