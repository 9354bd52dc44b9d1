-- A disk that has room for the log that a node writes has room for it behind each event of the node, and no event changes its size.
use Rattle.std.specs.Prelude.{◌≡◌, ℕ, true, List, Option, Some, None, Result}
use Rattle.std.specs.declared.alloc.AllocError.{AllocError}
use Rattle.disk_core.specs.Calls.{SameDisk}
use Rattle.disk_core.specs.Views.{DiskView}
use Rattle.update_records.specs.declared.update.Update.{Update}
use Rattle.gum_messages.specs.declared.view.View.{View}
use Rattle.gum_messages.specs.Messages.{Sent}
use Rattle.cluster_rules.specs.declared.effect.Effect.{Effect}
use Rattle.cluster_rules.specs.Joins.{takes_view}
use Rattle.cluster_node.specs.Events.{Batches, Connects, HangsUp, HearsBytes, NodeChecks, NodeInstalls, NodeReceives, Ticks}
use Rattle.cluster_node.specs.States.{HasRoom, NodeValue, RunningNode, clocked, started}

-- ---- without an event

-- A node that begins writes no log, and one that has stopped writes none any more, for want of memory or at its death too.
abbrev pub StartHasRoom : Type 0
StartHasRoom = (number inc : ℕ) (v : DiskView) → HasRoom (started number inc) v

abbrev pub StoppedHasRoom : Type 0
StoppedHasRoom = (n : NodeValue) (v : DiskView) → n.running ≡ None → HasRoom n v

-- What another node does to the disk leaves the room as it is.
abbrev pub SameDiskHasRoom : Type 0
SameDiskHasRoom = (n : NodeValue) (v w : DiskView) → SameDisk v w → HasRoom n v → HasRoom n w

-- ---- events that may call the disk

abbrev pub InstallKeepsRoom : Type 0
InstallKeepsRoom = (n m : NodeValue) (v w : DiskView) (view : View) (r : Result (List Effect) AllocError)
    → NodeInstalls v n.running view r m.running w → SameDisk v w → HasRoom n v → HasRoom m w

-- A view that is taken gives up the former log, and a log that is opened fits its disk: so no room is needed before.
abbrev pub InstallGivesRoom : Type 0
InstallGivesRoom = (x : RunningNode) (m : NodeValue) (v w : DiskView) (view : View) (r : Result (List Effect) AllocError)
    → takes_view x.member.rules view ≡ true
    → NodeInstalls v (Some x) view r m.running w → SameDisk v w → HasRoom m w

abbrev pub ReceiveKeepsRoom : Type 0
ReceiveKeepsRoom = (n m : NodeValue) (v w : DiskView) (p : Sent) (r : Result (List Effect) AllocError)
    → NodeReceives v n.running p r m.running w → SameDisk v w → HasRoom n v → HasRoom m w

abbrev pub CheckpointKeepsRoom : Type 0
CheckpointKeepsRoom = (n m : NodeValue) (v w : DiskView) (r : Result (List Effect) AllocError)
    → NodeChecks v n.running r m.running w → SameDisk v w → HasRoom n v → HasRoom m w

-- ---- events that leave the disk alone

abbrev pub TickKeepsRoom : Type 0
TickKeepsRoom = (n m : NodeValue) (v : DiskView) (effects : List Effect) → Ticks n.running m.running effects → HasRoom n v → HasRoom m v

abbrev pub ClockKeepsRoom : Type 0
ClockKeepsRoom = (n : NodeValue) (v : DiskView) (stamp : ℕ) → HasRoom n v → HasRoom (clocked stamp n) v

abbrev pub ConnectKeepsRoom : Type 0
ConnectKeepsRoom = (n m : NodeValue) (v : DiskView) (conn : ℕ) (effects : List Effect) → Connects conn n.running m.running effects → HasRoom n v → HasRoom m v

abbrev pub BytesKeepRoom : Type 0
BytesKeepRoom = (n m : NodeValue) (v : DiskView) (conn : ℕ) (piece : List ℕ) (effects : List Effect)
    → HearsBytes conn piece n.running m.running effects → HasRoom n v → HasRoom m v

abbrev pub HangUpKeepsRoom : Type 0
HangUpKeepsRoom = (n m : NodeValue) (v : DiskView) (conn : ℕ) (effects : List Effect) → HangsUp conn n.running m.running effects → HasRoom n v → HasRoom m v

abbrev pub BatchKeepsRoom : Type 0
BatchKeepsRoom = (n m : NodeValue) (v : DiskView) (update : Update) (effects : List Effect) → Batches update n.running m.running effects → HasRoom n v
    → HasRoom m v
