-- The clients that wait at a node are in step with the updates that its member has queued.
use Rattle.std.specs.Prelude.{◌≡◌, ℕ, ◌+◌, ◌<◌, ◌≤◌, List, length, Option, Some, None, Result}
use Rattle.std.specs.declared.alloc.AllocError.{AllocError}
use Rattle.disk_core.specs.Views.{DiskView}
use Rattle.update_records.specs.declared.update.Update.{Update}
use Rattle.gum_messages.specs.declared.view.View.{View}
use Rattle.gum_messages.specs.Messages.{Sent}
use Rattle.gum_core.specs.declared.spreading.Spreading.{Spreading}
use Rattle.gum_core.specs.Updating.{CoreState}
use Rattle.cluster_rules.specs.declared.effect.Effect.{Effect}
use Rattle.client_connections.specs.Clients.{Common}
use Rattle.client_connections.specs.Items.{most_taken}
use Rattle.cluster_node.specs.Events.{Batches, Connects, HangsUp, HearsBytes, NodeChecks, NodeInstalls, NodeReceives, Ticks}
use Rattle.cluster_node.specs.States.{NodeValue, RunningNode, clocked, started}

pub record AreInStep (c : CoreState) (s : Common) : Type 0 where
  -- For each update in the queue one waits, in the same order.
  pub waiting : length s.waiting ≡ length c.queue
  -- Each request was an item or a batch that was taken, so that there is always a number for the next one.
  pub requests : c.passed + length c.queue ≤ s.taken
  pub few : s.taken ≤ most_taken
  -- A record spreads only for a head.
  pub headed : (spreading : Spreading) → c.spreading ≡ Some spreading → 0 < length c.queue

abbrev pub InStep : Option RunningNode → Type 0
InStep None = Unit {0}
InStep (Some x) = AreInStep x.member.rules.core x.clients.common

-- ---- so it begins, and so each event leaves it

abbrev pub StartsInStep : Type 0
StartsInStep = (number inc : ℕ) → InStep (started number inc).running

abbrev pub InstallsInStep : Type 0
InstallsInStep = (v w : DiskView) (x y : Option RunningNode) (view : View) (r : Result (List Effect) AllocError) → NodeInstalls v x view r y w → InStep x → InStep y

abbrev pub ReceivesInStep : Type 0
ReceivesInStep = (v w : DiskView) (x y : Option RunningNode) (p : Sent) (r : Result (List Effect) AllocError) → NodeReceives v x p r y w → InStep x → InStep y

abbrev pub ChecksInStep : Type 0
ChecksInStep = (v w : DiskView) (x y : Option RunningNode) (r : Result (List Effect) AllocError) → NodeChecks v x r y w → InStep x → InStep y

abbrev pub TicksInStep : Type 0
TicksInStep = (x y : Option RunningNode) (effects : List Effect) → Ticks x y effects → InStep x → InStep y

abbrev pub ClocksInStep : Type 0
ClocksInStep = (stamp : ℕ) (n : NodeValue) → InStep n.running → InStep (clocked stamp n).running

abbrev pub ConnectsInStep : Type 0
ConnectsInStep = (conn : ℕ) (x y : Option RunningNode) (effects : List Effect) → Connects conn x y effects → InStep x → InStep y

abbrev pub HangsUpInStep : Type 0
HangsUpInStep = (conn : ℕ) (x y : Option RunningNode) (effects : List Effect) → HangsUp conn x y effects → InStep x → InStep y

abbrev pub HearsInStep : Type 0
HearsInStep = (conn : ℕ) (piece : List ℕ) (x y : Option RunningNode) (effects : List Effect) → HearsBytes conn piece x y effects → InStep x → InStep y

abbrev pub BatchesInStep : Type 0
BatchesInStep = (update : Update) (x y : Option RunningNode) (effects : List Effect) → Batches update x y effects → InStep x → InStep y
