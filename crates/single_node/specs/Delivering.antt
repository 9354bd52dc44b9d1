-- A node hears its own messages, the oldest first, until none is left.
use Rattle.std.specs.Prelude.{◌≡◌, ◌⊎◌, ℕ, ◌<◌, List, [], ◌∷◌, ◌++◌, Some, None, Ok}
use Rattle.std.specs.declared.alloc.AllocError.{AllocError}
use Rattle.disk_core.specs.Views.{DiskView}
use Rattle.gum_messages.specs.Messages.{Sent}
use Rattle.update_records.specs.Entry.{Entry}
use Rattle.cluster_rules.specs.declared.effect.Effect.{Effect}
use Rattle.cluster_rules.specs.Worlds.{sent}
use Rattle.cluster_member.specs.States.{MemberState}
use Rattle.cluster_node.specs.Events.{HearsBytes, NodeReceives}
use Rattle.cluster_node.specs.States.{RunningNode}
use Rattle.single_items.specs.Alone.{AloneRun}
use Rattle.single_items.specs.Events.{told_to}
use Rattle.single_items.specs.Promises.{IsRefused}
use Rattle.single_items.specs.Standing.{StandsAt}
use Rattle.single_node.specs.Laws.{HaltedAt}
use Rattle.single_node.specs.Standing.{AddsOne, IsStill, alone_node, work}

-- The records were added to the log in turn, and no other call of the disk was made.
abbrev pub LogsAll : List Entry → MemberState → DiskView → MemberState → DiskView → Type 0
LogsAll [] x v y w = (w ≡ v) × IsStill x y
LogsAll (e ∷ es) x v y w = (m : MemberState) × (n : MemberState) × (u : DiskView) × IsStill x m × AddsOne e m v n u × LogsAll es n u y w

-- Since Alone stood behind this output and these records, all of this was told, and these messages are left to be heard.
pub record UnderWay (c : ℕ) (first : AloneRun) (stream output : List ℕ) (records : List Entry) (x : MemberState) (v : DiskView) (left : List Sent) (y : RunningNode) (w : DiskView) (told : List Effect) : Type 0 where
  pub added : List Entry
  pub logs : LogsAll added x v y.member w
  pub stands : StandsAt c first stream (alone_node y left) (output ++ told_to c told) (records ++ added)

-- The node halted at a message; `told` is all that was told, to the end.
pub record StoppedAt (c : ℕ) (first : AloneRun) (stream output : List ℕ) (records : List Entry) (x : MemberState) (v w : DiskView) (told : List Effect) : Type 0 where
  pub message : Sent
  pub before : RunningNode
  pub disk : DiskView
  pub said : List Effect
  pub last : List Effect
  pub added : List Entry
  pub logs : LogsAll added x v before.member disk
  pub halted : HaltedAt c first stream message before disk w last (output ++ told_to c said) (records ++ added)
  pub whole : told ≡ said ++ last

-- A piece comes while no message is under way.
abbrev pub PieceBegins : Type 0
PieceBegins =
    (c : ℕ) (first : AloneRun) (stream piece output : List ℕ) (records : List Entry) (x y : RunningNode) (v : DiskView) (es : List Effect)
    → StandsAt c first stream (alone_node x []) output records → HearsBytes c piece (Some x) (Some y) es
    → UnderWay c first (stream ++ piece) output records x.member v (sent es) y v es
    ⊎ (UnderWay c first stream output records x.member v (sent es) y v es × IsRefused c piece x.clients es)

-- The oldest message is heard: less is left.
abbrev pub DeliveryGoesOn : Type 0
DeliveryGoesOn =
    (c : ℕ) (first : AloneRun) (stream output : List ℕ) (records : List Entry) (x : MemberState) (v : DiskView) (p : Sent) (left : List Sent) (y : RunningNode) (w : DiskView) (told : List Effect)
    (z : RunningNode) (u : DiskView) (es : List Effect)
    → UnderWay c first stream output records x v (p ∷ left) y w told → NodeReceives {E = AllocError} w (Some y) p (Ok es) (Some z) u
    → UnderWay c first stream output records x v (left ++ sent es) z u (told ++ es) × (work (alone_node z (left ++ sent es)) < work (alone_node y (p ∷ left)))

-- Or the node halts.
abbrev pub DeliveryStops : Type 0
DeliveryStops =
    (c : ℕ) (first : AloneRun) (stream output : List ℕ) (records : List Entry) (x : MemberState) (v : DiskView) (p : Sent) (left : List Sent) (y : RunningNode) (w : DiskView) (told : List Effect)
    (u : DiskView) (es : List Effect)
    → UnderWay c first stream output records x v (p ∷ left) y w told → NodeReceives {E = AllocError} w (Some y) p (Ok es) None u
    → StoppedAt c first stream output records x v u (told ++ es)
