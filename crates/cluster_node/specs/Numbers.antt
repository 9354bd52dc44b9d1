-- The numbers of a node's connections. Only a connect gives one: behind any other event those that are open were open before.
use Rattle.std.specs.Prelude.{◌≡◌, ◌≢◌, ℕ, List, Option, None, Result}
use Rattle.std.specs.declared.alloc.AllocError.{AllocError}
use Rattle.disk_core.specs.Views.{DiskView}
use Rattle.update_records.specs.declared.update.Update.{Update}
use Rattle.gum_messages.specs.declared.view.View.{View}
use Rattle.gum_messages.specs.Messages.{Sent}
use Rattle.cluster_rules.specs.declared.effect.Effect.{Effect}
use Rattle.cluster_node.specs.Events.{Batches, Connects, HangsUp, HearsBytes, NodeChecks, NodeInstalls, NodeReceives, Ticks}
use Rattle.cluster_node.specs.States.{NodeValue, client_in, clocked, started}

-- A number that no connection has before an event, none has behind it.
abbrev pub UsesNoMore : NodeValue → NodeValue → Type 0
UsesNoMore n m = (conn : ℕ) → client_in conn n ≡ None → client_in conn m ≡ None

-- ---- without an event

abbrev pub StartUsesNone : Type 0
StartUsesNone = (number inc conn : ℕ) → client_in conn (started number inc) ≡ None

abbrev pub StoppedUsesNone : Type 0
StoppedUsesNone = (n : NodeValue) (conn : ℕ) → n.running ≡ None → client_in conn n ≡ None

-- ---- the events

abbrev pub InstallUsesNoMore : Type 0
InstallUsesNoMore = (n m : NodeValue) (v w : DiskView) (view : View) (r : Result (List Effect) AllocError) → NodeInstalls v n.running view r m.running w
    → UsesNoMore n m

abbrev pub ReceiveUsesNoMore : Type 0
ReceiveUsesNoMore = (n m : NodeValue) (v w : DiskView) (p : Sent) (r : Result (List Effect) AllocError) → NodeReceives v n.running p r m.running w
    → UsesNoMore n m

abbrev pub CheckpointUsesNoMore : Type 0
CheckpointUsesNoMore = (n m : NodeValue) (v w : DiskView) (r : Result (List Effect) AllocError) → NodeChecks v n.running r m.running w → UsesNoMore n m

abbrev pub TickUsesNoMore : Type 0
TickUsesNoMore = (n m : NodeValue) (effects : List Effect) → Ticks n.running m.running effects → UsesNoMore n m

abbrev pub ClockUsesNoMore : Type 0
ClockUsesNoMore = (n : NodeValue) (stamp : ℕ) → UsesNoMore n (clocked stamp n)

abbrev pub HangUpUsesNoMore : Type 0
HangUpUsesNoMore = (n m : NodeValue) (conn : ℕ) (effects : List Effect) → HangsUp conn n.running m.running effects → UsesNoMore n m

abbrev pub BytesUseNoMore : Type 0
BytesUseNoMore = (n m : NodeValue) (conn : ℕ) (piece : List ℕ) (effects : List Effect) → HearsBytes conn piece n.running m.running effects → UsesNoMore n m

abbrev pub BatchUsesNoMore : Type 0
BatchUsesNoMore = (n m : NodeValue) (update : Update) (effects : List Effect) → Batches update n.running m.running effects → UsesNoMore n m

-- A connect gives its own number at most.
abbrev pub ConnectUsesOne : Type 0
ConnectUsesOne = (n m : NodeValue) (conn other : ℕ) (effects : List Effect) → Connects conn n.running m.running effects → other ≢ conn
    → client_in other n ≡ None → client_in other m ≡ None
