-- What a node and its disk keep over each event.
use Rattle.std.proofs.Common.{◌≡◌, ℕ, List, None, Result, Ok, Err, IfOk, OnErr, refl}
use Rattle.std.specs.declared.alloc.AllocError.{AllocError}
use Rattle.disk_core.specs.Calls.{SameDisk}
use Rattle.disk_core.specs.Views.{DiskView}
use Rattle.gum_messages.specs.declared.view.View.{View}
use Rattle.gum_messages.specs.Messages.{Sent}
use Rattle.update_records.specs.declared.update.Update.{Update}
use Rattle.cluster_rules.specs.declared.effect.Effect.{Effect}
use Rattle.cluster_node.specs.Events.{Batches, HangsUp, HearsBytes, NodeChecks, NodeInstalls, NodeReceives, Ticks}
use Rattle.cluster_node.specs.States.{IsSameNode, NodeValue, clocked}
use Rattle.cluster_node.proofs.KeepingNumbers.{install_uses_no_more, receive_uses_no_more, checkpoint_uses_no_more, tick_uses_no_more, clock_uses_no_more, hang_up_uses_no_more, bytes_use_no_more, batch_uses_no_more, stopped_uses_none}
use Rattle.cluster_node.proofs.KeepingRoom.{install_keeps_room, receive_keeps_room, checkpoint_keeps_room, tick_keeps_room, clock_keeps_room, hang_up_keeps_room, bytes_keep_room, batch_keeps_room, stopped_has_room}
use Rattle.cluster_replay.specs.Slots.{Keeps}

pub install_keeps : (n m : NodeValue) (v w : DiskView) (view : View) (r : Result (List Effect) AllocError) → NodeInstalls v n.running view r m.running w → IsSameNode n m → SameDisk v w → Keeps v n w m
install_keeps n m v w view r installs same disk = record {
  same = same;
  room = install_keeps_room n m v w view r installs disk;
  unused = install_uses_no_more n m v w view r installs;
}

pub receive_keeps : (n m : NodeValue) (v w : DiskView) (p : Sent) (r : Result (List Effect) AllocError) → NodeReceives v n.running p r m.running w → IsSameNode n m → SameDisk v w → Keeps v n w m
receive_keeps n m v w p r receives same disk = record {
  same = same;
  room = receive_keeps_room n m v w p r receives disk;
  unused = receive_uses_no_more n m v w p r receives;
}

pub checkpoint_keeps : (n m : NodeValue) (v w : DiskView) (r : Result (List Effect) AllocError) → NodeChecks v n.running r m.running w → IsSameNode n m → SameDisk v w → Keeps v n w m
checkpoint_keeps n m v w r checks same disk = record {
  same = same;
  room = checkpoint_keeps_room n m v w r checks disk;
  unused = checkpoint_uses_no_more n m v w r checks;
}

pub stopped_keeps : (n m : NodeValue) (v : DiskView) → m.running ≡ None → IsSameNode n m → Keeps v n v m
stopped_keeps n m v none same = record { same = same; room = λ room. stopped_has_room m v none; unused = λ conn free. stopped_uses_none m conn none }

pub tick_keeps : (n m : NodeValue) (v : DiskView) (r : Result (List Effect) AllocError) → IfOk r (λ effects. Ticks n.running m.running effects) → OnErr r (m.running ≡ None) → IsSameNode n m → Keeps v n v m
tick_keeps n m v (Ok effects) ticks stops same = record { same = same; room = tick_keeps_room n m v effects ticks; unused = tick_uses_no_more n m effects ticks }
tick_keeps n m v (Err fault) ticks stops same = stopped_keeps n m v stops same

pub hang_up_keeps : (n m : NodeValue) (v : DiskView) (conn : ℕ) (r : Result (List Effect) AllocError) → IfOk r (λ effects. HangsUp conn n.running m.running effects) → OnErr r (m.running ≡ None)
    → IsSameNode n m → Keeps v n v m
hang_up_keeps n m v conn (Ok effects) hangs stops same = record { same = same; room = hang_up_keeps_room n m v conn effects hangs; unused = hang_up_uses_no_more n m conn effects hangs }
hang_up_keeps n m v conn (Err fault) hangs stops same = stopped_keeps n m v stops same

pub bytes_keep : (n m : NodeValue) (v : DiskView) (conn : ℕ) (piece : List ℕ) (r : Result (List Effect) AllocError) → IfOk r (λ effects. HearsBytes conn piece n.running m.running effects)
    → OnErr r (m.running ≡ None) → IsSameNode n m → Keeps v n v m
bytes_keep n m v conn piece (Ok effects) hears stops same = record { same = same; room = bytes_keep_room n m v conn piece effects hears; unused = bytes_use_no_more n m conn piece effects hears }
bytes_keep n m v conn piece (Err fault) hears stops same = stopped_keeps n m v stops same

pub batch_keeps : (n m : NodeValue) (v : DiskView) (update : Update) (r : Result (List Effect) AllocError) → IfOk r (λ effects. Batches update n.running m.running effects) → OnErr r (m.running ≡ None)
    → IsSameNode n m → Keeps v n v m
batch_keeps n m v update (Ok effects) batches stops same = record { same = same; room = batch_keeps_room n m v update effects batches; unused = batch_uses_no_more n m update effects batches }
batch_keeps n m v update (Err fault) batches stops same = stopped_keeps n m v stops same

pub clock_keeps : (n : NodeValue) (v : DiskView) (stamp : ℕ) → Keeps v n v (clocked stamp n)
clock_keeps n v stamp = record { same = record { number = refl; inc = refl }; room = clock_keeps_room n v stamp; unused = clock_uses_no_more n stamp }
