-- Which events may be asked for.
use Rattle.std.specs.Prelude.{◌≤◌}
use Rattle.update_records.specs.declared.update.Update.{Update}
use Rattle.update_records.specs.declared.update.Update.TheVariants as update
use Rattle.update_records.specs.Validity.{IsValidBatch}
use Rattle.gum_messages.specs.Messages.{IsNode}
use Rattle.cluster_worlds.specs.declared.event.Event.{Event}
use Rattle.cluster_worlds.specs.declared.event.Event.TheVariants.{Start, Declare, Install, Connect, Bytes, HangUp, Deliver, Tick, Checkpoint, Fail, Die, Clock, Batch, DieIn}
use Rattle.cluster_worlds.specs.declared.inner.Inner.{Inner}
use Rattle.cluster_worlds.specs.declared.inner.Inner.TheVariants as inner

abbrev pub IsBatch : Update → Type 0
IsBatch (update.Batch changes) = IsValidBatch changes
IsBatch other = ⊥

abbrev pub IsInner : Inner → Type 0
IsInner (inner.Install node view) = IsNode node
IsInner (inner.Bytes conn piece) = Unit {0}
IsInner (inner.HangUp conn) = Unit {0}
IsInner (inner.Deliver number) = Unit {0}
IsInner (inner.Tick node) = IsNode node
IsInner (inner.Checkpoint node) = IsNode node

-- Nodes are numbered from 1 to 16 and calls of the disk from 1, and a batch is a valid one.
abbrev pub IsEvent : Event → Type 0
IsEvent (Start node) = IsNode node
IsEvent (Declare view) = Unit {0}
IsEvent (Install node view) = IsNode node
IsEvent (Connect conn node) = IsNode node
IsEvent (Bytes conn piece) = Unit {0}
IsEvent (HangUp conn) = Unit {0}
IsEvent (Deliver number) = Unit {0}
IsEvent (Tick node) = IsNode node
IsEvent (Checkpoint node) = IsNode node
IsEvent (Fail call) = 1 ≤ call
IsEvent (Die node) = IsNode node
IsEvent (Clock node stamp) = IsNode node
IsEvent (Batch node update) = IsNode node × IsBatch update
IsEvent (DieIn moment bytes inner) = IsInner inner
