-- What a run tells the clients of one incarnation of a node: the events that reach it, in their order, with what each told.
use Rattle.std.specs.Prelude.{ℕ, ◌≤◌, Bool, false, ◌&&◌, List, [], ◌∷◌, ◌++◌, Option, None, Some, nat_eq, unwrap_or, if◌then◌else◌}
use Rattle.std.specs.List.{flat_map}
use Rattle.cluster_rules.specs.declared.effect.Effect.{Effect}
use Rattle.cluster_rules.specs.declared.effect.Effect.TheVariants.{Acked, Batched, Closed, Reply}
use Rattle.cluster_node.specs.Explained.{Brings, Finishes, Input, Other, Step, Stops}
use Rattle.cluster_node.specs.Explained as explained
use Rattle.cluster_node.specs.States.{NodeValue, done, is_open}
use Rattle.cluster_worlds.specs.declared.event.Event.{Event}
use Rattle.cluster_worlds.specs.declared.event.Event.TheVariants.{Start, Declare, Install, Connect, Bytes, HangUp, Deliver, Tick, Checkpoint, Fail, Die, Clock, Batch, DieIn}
use Rattle.cluster_worlds.specs.declared.inner.Inner.TheVariants as inner
use Rattle.cluster_worlds.specs.declared.told.Told.{Told}
use Rattle.cluster_worlds.specs.declared.told.Told.TheVariants as trace
use Rattle.cluster_worlds.specs.Happening.{reached}
use Rattle.cluster_worlds.specs.Worlds.{WorldState, node_at}
use Rattle.world_laws.specs.Typed.{RunsTyped}

-- ---- the incarnation that an event concerns

-- The node that the event reaches, as it stands before it. Where none is reached, and at a start, no client is told anything.
abbrev pub concerned : Event → WorldState → Option NodeValue
concerned (Start node) w = None
concerned (Declare view) w = None
concerned (Install node view) w = node_at node w
concerned (Connect conn node) w = node_at node w
concerned (Bytes conn piece) w = reached (inner.Bytes conn piece) w
concerned (HangUp conn) w = reached (inner.HangUp conn) w
concerned (Deliver number) w = reached (inner.Deliver number) w
concerned (Tick node) w = node_at node w
concerned (Checkpoint node) w = node_at node w
concerned (Fail call) w = None
concerned (Die node) w = node_at node w
concerned (Clock node stamp) w = node_at node w
concerned (Batch node update) w = node_at node w
concerned (DieIn moment bytes inner) w = reached inner w

-- It is this incarnation of this node.
abbrev pub is_of : ℕ → ℕ → NodeValue → Bool
is_of node inc n = nat_eq n.number node && nat_eq n.inc inc

-- ---- what its clients were told

-- Of what the world tells, this is for clients.
unfoldable pub clients_told : List Told → List Effect
clients_told [] = []
clients_told (trace.Acked node view place ∷ tolds) = Acked view place ∷ clients_told tolds
clients_told (trace.Reply conn point bytes ∷ tolds) = Reply conn point bytes ∷ clients_told tolds
clients_told (trace.Closed conn cause ∷ tolds) = Closed conn cause ∷ clients_told tolds
clients_told (trace.Batched node req point status index ∷ tolds) = Batched req point status index ∷ clients_told tolds
clients_told (told ∷ tolds) = clients_told tolds

-- ---- the step that an event is

-- Where an update was acknowledged, that is what came.
unfoldable pub acknowledged_in : List Effect → Input
acknowledged_in [] = Other
acknowledged_in (Acked view place ∷ told) = Finishes view place
acknowledged_in (effect ∷ told) = acknowledged_in told

-- An event of the protocol at a node that is this behind it, or has stopped.
abbrev pub protocol_input : List Effect → Option NodeValue → Input
protocol_input told None = Stops
protocol_input told (Some n) = acknowledged_in told

-- Of a death inside an event the death alone is seen.
abbrev pub input_of : Event → List Effect → Option NodeValue → Input
input_of (Connect conn node) told after = explained.Connects conn
input_of (Bytes conn piece) told after = Brings conn piece
input_of (HangUp conn) told after = explained.HangsUp conn
input_of (Batch node update) told after = explained.Batches update
input_of (Die node) told after = Stops
input_of (DieIn moment bytes inner) told after = Stops
input_of event told after = protocol_input told after

abbrev pub open_in : Option NodeValue → Bool
open_in None = false
open_in (Some n) = is_open n

abbrev pub done_in : Option NodeValue → ℕ
done_in None = 0
done_in (Some n) = unwrap_or (done n) 0

-- The event, with what it told clients and the node behind it.
abbrev pub step_of : Event → List Effect → Option NodeValue → Step
step_of event told after = record { input = input_of event told after; is_open = open_in after; done = done_in after; told = told }

-- ---- the whole incarnation

-- The event is a step of the incarnation that it concerns, and of no other.
abbrev pub steps_at : ℕ → ℕ → Option NodeValue → Step → List Step
steps_at node inc None step = []
steps_at node inc (Some n) step = if is_of node inc n then step ∷ [] else []

abbrev pub steps_in : ℕ → ℕ → WorldState → Event → List Told → WorldState → List Step
steps_in node inc w event told v = steps_at node inc (concerned event w) (step_of event (clients_told told) (node_at node v))

-- The steps of an incarnation in a run.
unfoldable pub history : (node inc : ℕ) (w : WorldState) (events : List Event) (tolds : List (List Told)) (u : WorldState) → RunsTyped w events tolds u → List Step
unfolding RunsTyped
history node inc w (event ∷ events) (told ∷ tolds) u runs = steps_in node inc w event told runs.0 ++ history node inc runs.0 events tolds u runs.4
history node inc w events tolds u runs = []

-- ---- points

-- The points of the order at which clients were answered.
unfoldable pub points_in : List Effect → List ℕ
points_in [] = []
points_in (Reply conn (Some point) bytes ∷ told) = point ∷ points_in told
points_in (Batched req (Some point) status index ∷ told) = point ∷ points_in told
points_in (effect ∷ told) = points_in told

abbrev pub points_told : List Step → List ℕ
points_told steps = flat_map (λ (t : Step). points_in t.told) steps

-- From a floor on they never fall.
unfoldable pub NeverFall : ℕ → List ℕ → Type 0
NeverFall floor [] = Unit {0}
NeverFall floor (point ∷ points) = (floor ≤ point) × NeverFall point points
