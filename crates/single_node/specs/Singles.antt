-- A node that is alone and hears what it sends to itself: what its calls come to.
use Rattle.std.specs.Prelude.{◌≡◌, ℕ, List, [], ◌∷◌, ◌++◌, Option, Some, None, Result, Ok, Err, ⊤}
use Rattle.std.specs.declared.alloc.AllocError.{AllocError}
use Rattle.disk_core.specs.Views.{DiskView}
use Rattle.gum_messages.specs.Messages.{Sent}
use Rattle.cluster_rules.specs.declared.effect.Effect.{Effect}
use Rattle.cluster_rules.specs.declared.effect.Effect.TheVariants.{Halted}
use Rattle.cluster_rules.specs.declared.effect.HaltCause.{HaltCause}
use Rattle.cluster_rules.specs.Worlds.{sent}
use Rattle.cluster_node.specs.Events.{NodeInstalls, NodeReceives}
use Rattle.cluster_node.specs.States.{HasRoom, NodeValue, RunningNode}
use Rattle.single_rules.specs.Single.{view_of_one}
use Rattle.single_node.specs.declared.fault.StartFault.{StartFault}
use Rattle.single_node.specs.declared.fault.StartFault.TheVariants as start
use Rattle.single_node.specs.Opening.{NotOpened, OpenedAlone}

-- The node, and what it has sent to itself and not heard yet, the oldest first.
pub record SingleState : Type 0 where
  pub node : NodeValue
  pub left : List Sent

-- What it sends stands behind what it hasn't heard.
abbrev pub Sends : SingleState → List Effect → SingleState → Type 0
Sends s es t = t.left ≡ s.left ++ sent es

-- A disk that has room for the log of the node has so behind the event.
abbrev pub KeepsRoom : SingleState → SingleState → Type 0
KeepsRoom s t = (v : DiskView) → HasRoom s.node v → HasRoom t.node v

-- ---- the log is opened

-- Why the node halted in an event: its first effect says so.
abbrev pub halt_cause : List Effect → Option HaltCause
halt_cause [] = None
halt_cause (Halted cause ∷ es) = Some cause
halt_cause (e ∷ es) = None

-- The view of number 1 was installed, with this node alone, and it goes on exactly where it didn't halt.
abbrev pub Installs : DiskView → NodeValue → Result ⊤ StartFault → NodeValue → DiskView → Type 0
Installs v n (Ok ok) m w = (es : List Effect) × NodeInstalls {E = AllocError} v n.running (view_of_one 1 1 n.inc) (Ok es) m.running w × (halt_cause es ≡ None)
Installs v n (Err (start.Halted cause)) m w =
    (es : List Effect) × NodeInstalls {E = AllocError} v n.running (view_of_one 1 1 n.inc) (Ok es) m.running w × (halt_cause es ≡ Some cause)
Installs v n (Err start.Memory) m w = Unit {0}

-- Node 1 runs in this incarnation, and has nothing to hear.
abbrev pub runs_alone : ℕ → RunningNode → SingleState
runs_alone inc y = record { node = record { number = 1; inc = inc; running = Some y }; left = [] }

-- It has opened the log in the view of number 1, or the log wasn't recovered, for that cause.
abbrev pub Opens : ℕ → ℕ → DiskView → Result SingleState StartFault → DiskView → Type 0
Opens inc stamp v (Ok s) w = (y : RunningNode) × (es : List Effect) × (s ≡ runs_alone inc y) × OpenedAlone 1 inc stamp 1 v y w es
Opens inc stamp v (Err (start.Halted cause)) w = NotOpened 1 v w (Halted cause ∷ [])
Opens inc stamp v (Err start.Memory) w = Unit {0}

-- ---- a message

-- The oldest message was heard.
pub record HearsOldest (s : SingleState) (v : DiskView) (es : List Effect) (t : SingleState) (w : DiskView) : Type 0 where
  pub message : Sent
  pub others : List Sent
  pub oldest : s.left ≡ message ∷ others
  pub receives : NodeReceives {E = AllocError} v s.node.running message (Ok es) t.node.running w
  pub left : t.left ≡ others ++ sent es

-- Memory ran out at the oldest message, whose calls of the disk were made all the same.
pub record BreaksOff (s : SingleState) (v : DiskView) (error : AllocError) (w : DiskView) : Type 0 where
  pub message : Sent
  pub others : List Sent
  pub oldest : s.left ≡ message ∷ others
  pub receives : NodeReceives {E = AllocError} v s.node.running message (Err error) None w

-- None where there was nothing to hear.
abbrev pub Delivers : SingleState → DiskView → Result (Option (List Effect)) AllocError → SingleState → DiskView → Type 0
Delivers s v (Ok None) t w = (s.left ≡ []) × (t ≡ s) × (w ≡ v)
Delivers s v (Ok (Some es)) t w = HearsOldest s v es t w
Delivers s v (Err error) t w = BreaksOff s v error w
