-- The disk has room for the node's log behind each row.
use Rattle.std.proofs.Common.{◌≡◌, ℕ, List, None, Result, Ok, Err, IfOk, OnErr}
use Rattle.std.specs.declared.alloc.AllocError.{AllocError}
use Rattle.disk_core.specs.Calls.{SameDisk}
use Rattle.disk_core.specs.Crashes.{Marked}
use Rattle.disk_core.specs.Views.{DiskView}
use Rattle.update_records.specs.declared.update.Update.{Update}
use Rattle.gum_messages.specs.declared.view.View.{View}
use Rattle.gum_messages.specs.Messages.{Sent}
use Rattle.cluster_rules.specs.declared.effect.Effect.{Effect}
use Rattle.cluster_node.specs.Events.{Batches, Connects, HangsUp, HearsBytes, NodeChecks, NodeInstalls, NodeReceives, Ticks}
use Rattle.cluster_node.specs.States.{HasRoom, NodeValue, clocked}
use Rattle.cluster_node.proofs.KeepingRoom as keeping

pub stopped : (n : NodeValue) (v : DiskView) → n.running ≡ None → HasRoom n v
stopped n v is = keeping.stopped_has_room n v is

pub on_same_disk : (n : NodeValue) (u v w : DiskView) → Marked u v → SameDisk v w → HasRoom n u → HasRoom n w
on_same_disk n u v w marked same room = keeping.same_disk_has_room n v w same (keeping.same_disk_has_room n u v marked.same room)

pub on_marked : (n : NodeValue) (u v : DiskView) → Marked u v → HasRoom n u → HasRoom n v
on_marked n u v marked room = keeping.same_disk_has_room n u v marked.same room

-- ---- events that may call the disk

pub behind_install : (n m : NodeValue) (u v w : DiskView) (view : View) (r : Result (List Effect) AllocError) → HasRoom n u → Marked u v
    → NodeInstalls v n.running view r m.running w → SameDisk v w → HasRoom m w
behind_install n m u v w view r room marked installs same = keeping.install_keeps_room n m v w view r installs same (on_marked n u v marked room)

pub behind_receive : (n m : NodeValue) (u v w : DiskView) (p : Sent) (r : Result (List Effect) AllocError) → HasRoom n u → Marked u v
    → NodeReceives v n.running p r m.running w → SameDisk v w → HasRoom m w
behind_receive n m u v w p r room marked receives same = keeping.receive_keeps_room n m v w p r receives same (on_marked n u v marked room)

pub behind_checkpoint : (n m : NodeValue) (u v w : DiskView) (r : Result (List Effect) AllocError) → HasRoom n u → Marked u v
    → NodeChecks v n.running r m.running w → SameDisk v w → HasRoom m w
behind_checkpoint n m u v w r room marked checks same = keeping.checkpoint_keeps_room n m v w r checks same (on_marked n u v marked room)

-- ---- the others, where memory sufficed, and where it didn't

pub behind_tick : (n m : NodeValue) (v : DiskView) (r : Result (List Effect) AllocError) → HasRoom n v → IfOk r (λ effects. Ticks n.running m.running effects)
    → OnErr r (m.running ≡ None) → HasRoom m v
behind_tick n m v (Ok effects) room ticks stops = keeping.tick_keeps_room n m v effects ticks room
behind_tick n m v (Err fault) room ticks stops = stopped m v stops

pub behind_clock : (n : NodeValue) (v : DiskView) (stamp : ℕ) → HasRoom n v → HasRoom (clocked stamp n) v
behind_clock n v stamp room = keeping.clock_keeps_room n v stamp room

pub behind_connect : (n m : NodeValue) (v : DiskView) (conn : ℕ) (r : Result (List Effect) AllocError) → HasRoom n v
    → IfOk r (λ effects. Connects conn n.running m.running effects) → OnErr r (m.running ≡ None) → HasRoom m v
behind_connect n m v conn (Ok effects) room connects stops = keeping.connect_keeps_room n m v conn effects connects room
behind_connect n m v conn (Err fault) room connects stops = stopped m v stops

pub behind_bytes : (n m : NodeValue) (v : DiskView) (conn : ℕ) (piece : List ℕ) (r : Result (List Effect) AllocError) → HasRoom n v
    → IfOk r (λ effects. HearsBytes conn piece n.running m.running effects) → OnErr r (m.running ≡ None) → HasRoom m v
behind_bytes n m v conn piece (Ok effects) room hears stops = keeping.bytes_keep_room n m v conn piece effects hears room
behind_bytes n m v conn piece (Err fault) room hears stops = stopped m v stops

pub behind_hang_up : (n m : NodeValue) (v : DiskView) (conn : ℕ) (r : Result (List Effect) AllocError) → HasRoom n v
    → IfOk r (λ effects. HangsUp conn n.running m.running effects) → OnErr r (m.running ≡ None) → HasRoom m v
behind_hang_up n m v conn (Ok effects) room hangs stops = keeping.hang_up_keeps_room n m v conn effects hangs room
behind_hang_up n m v conn (Err fault) room hangs stops = stopped m v stops

pub behind_batch : (n m : NodeValue) (v : DiskView) (update : Update) (r : Result (List Effect) AllocError) → HasRoom n v
    → IfOk r (λ effects. Batches update n.running m.running effects) → OnErr r (m.running ≡ None) → HasRoom m v
behind_batch n m v update (Ok effects) room batch stops = keeping.batch_keeps_room n m v update effects batch room
behind_batch n m v update (Err fault) room batch stops = stopped m v stops
