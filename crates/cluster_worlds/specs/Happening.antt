-- What comes of an event that isn't refused.
use Rattle.std.specs.Prelude.{◌≡◌, ℕ, ◌+◌, ◌-◌, List, [], ◌∷◌, ◌++◌, is_some, Option, None, Some, Ok, slice_set, if◌then◌else◌}
use Rattle.std.specs.declared.alloc.AllocError.{AllocError}
use Rattle.std.specs.BTreeMap.{insert_entry}
use Rattle.std.specs.Ordering.{nat_cmp}
use Rattle.disk_core.specs.Crashes.{Crashed, Marked, awaiting}
use Rattle.disk_core.specs.Views.{DiskView}
use Rattle.gum_messages.specs.declared.view.View.{View}
use Rattle.gum_messages.specs.Messages.{Sent}
use Rattle.gum_messages.specs.Places.{at_place}
use Rattle.view_reconcile.specs.Chains.{view_in}
use Rattle.cluster_rules.specs.declared.effect.Effect.{Effect}
use Rattle.cluster_node.specs.Events.{Batches, Connects, HangsUp, HearsBytes, NodeChecks, NodeInstalls, NodeReceives, Ticks}
use Rattle.cluster_node.specs.States.{IsSameNode, NodeValue, client_in, clocked, started}
use Rattle.cluster_worlds.specs.declared.event.Event.{Event}
use Rattle.cluster_worlds.specs.declared.event.Event.TheVariants.{Start, Declare, Install, Connect, Bytes, HangUp, Deliver, Tick, Checkpoint, Fail, Die, Clock, Batch, DieIn}
use Rattle.cluster_worlds.specs.declared.inner.Inner.{Inner}
use Rattle.cluster_worlds.specs.declared.inner.Inner.TheVariants as inner
use Rattle.cluster_worlds.specs.declared.told.Told.{Told}
use Rattle.cluster_worlds.specs.Worlds.{WorldState, home_of, node_at, starts_of, with_slot}
use Rattle.cluster_worlds.specs.Telling.{absorbed, bereft, told_death, told_of}

-- ---- the node that an event reaches

abbrev pub node_with : ℕ → Option NodeValue → Option NodeValue
node_with conn None = None
node_with conn (Some n) = if is_some (client_in conn n) then Some n else None

-- The node of a connection that is open there.
abbrev pub served_at : ℕ → Option ℕ → WorldState → Option NodeValue
served_at conn None w = None
served_at conn (Some node) w = node_with conn (node_at node w)

abbrev pub addressee : Option Sent → WorldState → Option NodeValue
addressee None w = None
addressee (Some message) w = node_at message.to w

abbrev pub reached : Inner → WorldState → Option NodeValue
reached (inner.Install node view) w = node_at node w
reached (inner.Bytes conn piece) w = served_at conn (home_of conn w) w
reached (inner.HangUp conn) w = served_at conn (home_of conn w) w
reached (inner.Deliver number) w = addressee (at_place w.pool number) w
reached (inner.Tick node) w = node_at node w
reached (inner.Checkpoint node) w = node_at node w

-- ---- what the node does in it: its effects, the node behind it, and the disk

abbrev pub Installs : Option View → DiskView → NodeValue → List Effect → NodeValue → DiskView → Type 0
Installs None v n effects m d = ⊥
Installs (Some view) v n effects m d = NodeInstalls {E = AllocError} v n.running view (Ok effects) m.running d

abbrev pub Receives : Option Sent → DiskView → NodeValue → List Effect → NodeValue → DiskView → Type 0
Receives None v n effects m d = ⊥
Receives (Some message) v n effects m d = NodeReceives {E = AllocError} v n.running message (Ok effects) m.running d

abbrev pub Reacts : Inner → WorldState → NodeValue → List Effect → NodeValue → DiskView → Type 0
Reacts (inner.Install node view) w n effects m d = Installs (view_in w.chain view) w.disk n effects m d
Reacts (inner.Bytes conn piece) w n effects m d = HearsBytes conn piece n.running m.running effects × (d ≡ w.disk)
Reacts (inner.HangUp conn) w n effects m d = HangsUp conn n.running m.running effects × (d ≡ w.disk)
Reacts (inner.Deliver number) w n effects m d = Receives (at_place w.pool number) w.disk n effects m d
Reacts (inner.Tick node) w n effects m d = Ticks n.running m.running effects × (d ≡ w.disk)
Reacts (inner.Checkpoint node) w n effects m d = NodeChecks {E = AllocError} w.disk n.running (Ok effects) m.running d

-- ---- what the world makes of it

abbrev pub IsQuiet : WorldState → List Told → WorldState → Type 0
IsQuiet w told u = (told ≡ []) × (u ≡ w)

-- A node does what P says of its effects, the node behind it and the disk.
pub record Acts (P : NodeValue → List Effect → NodeValue → DiskView → Type 0) (n : NodeValue) (w : WorldState) (told : List Told) (u : WorldState) : Type 0 where
  pub effects : List Effect
  pub after : NodeValue
  pub disk : DiskView
  pub event : P n effects after disk
  pub same : IsSameNode n after
  pub tells : told ≡ told_of effects after w
  pub world : u ≡ absorbed effects after disk w

-- Where no node is reached nothing happens.
abbrev pub ActsAt : (NodeValue → List Effect → NodeValue → DiskView → Type 0) → Option NodeValue → WorldState → List Told → WorldState → Type 0
ActsAt P None w told u = IsQuiet w told u
ActsAt P (Some n) w told u = Acts P n w told u

-- A node dies inside an event: of what it did there only the calls of the disk have come to pass, and of these as many
-- as a crash at that moment leaves.
pub record DiesInside (moment : ℕ) (bytes : List ℕ) (inner : Inner) (n : NodeValue) (w : WorldState) (told : List Told) (u : WorldState) : Type 0 where
  pub effects : List Effect
  pub after : NodeValue
  pub disk : DiskView
  pub event : Reacts inner w n effects after disk
  pub left : DiskView
  pub crashed : Crashed disk moment bytes left
  pub tells : told ≡ told_death n
  pub world : u ≡ bereft n left w

abbrev pub DiesIn : ℕ → List ℕ → Inner → Option NodeValue → WorldState → List Told → WorldState → Type 0
DiesIn moment bytes inner None w told u = IsQuiet w told u
DiesIn moment bytes inner (Some n) w told u = DiesInside moment bytes inner n w told u

abbrev pub Dies : Option NodeValue → WorldState → List Told → WorldState → Type 0
Dies None w told u = IsQuiet w told u
Dies (Some n) w told u = (told ≡ told_death n) × (u ≡ bereft n w.disk w)

-- ---- the events that no node can be in

abbrev pub with_start : ℕ → WorldState → WorldState
with_start node w = record w {
  nodes = slice_set w.nodes (node - 1) (Some (started node (starts_of node w + 1)));
  starts = slice_set w.starts (node - 1) (starts_of node w + 1);
}

abbrev pub with_view : View → WorldState → WorldState
with_view view w = record w { chain = w.chain ++ view ∷ [] }

abbrev pub with_conn : ℕ → ℕ → WorldState → WorldState
with_conn conn node w = record w { conns = insert_entry nat_cmp w.conns conn node }

abbrev pub with_failing : ℕ → WorldState → WorldState
with_failing call w = record w { disk = record (w.disk) { plan = awaiting call w.disk.plan } }

abbrev pub with_clock : ℕ → Option NodeValue → WorldState → WorldState
with_clock stamp None w = w
with_clock stamp (Some n) w = with_slot n.number (Some (clocked stamp n)) w

abbrev pub Does : Event → WorldState → List Told → WorldState → Type 0
Does (Start node) w told u = IsQuiet (with_start node w) told u
Does (Declare view) w told u = IsQuiet (with_view view w) told u
Does (Install node view) w told u = ActsAt (Reacts (inner.Install node view) w) (reached (inner.Install node view) w) w told u
Does (Connect conn node) w told u = ActsAt (λ n effects m d. Connects conn n.running m.running effects × (d ≡ w.disk)) (node_at node w) (with_conn conn node w) told u
Does (Bytes conn piece) w told u = ActsAt (Reacts (inner.Bytes conn piece) w) (reached (inner.Bytes conn piece) w) w told u
Does (HangUp conn) w told u = ActsAt (Reacts (inner.HangUp conn) w) (reached (inner.HangUp conn) w) w told u
Does (Deliver number) w told u = ActsAt (Reacts (inner.Deliver number) w) (reached (inner.Deliver number) w) w told u
Does (Tick node) w told u = ActsAt (Reacts (inner.Tick node) w) (reached (inner.Tick node) w) w told u
Does (Checkpoint node) w told u = ActsAt (Reacts (inner.Checkpoint node) w) (reached (inner.Checkpoint node) w) w told u
Does (Fail call) w told u = IsQuiet (with_failing call w) told u
Does (Die node) w told u = Dies (node_at node w) w told u
Does (Clock node stamp) w told u = IsQuiet (with_clock stamp (node_at node w) w) told u
Does (Batch node update) w told u = ActsAt (λ n effects m d. Batches update n.running m.running effects × (d ≡ w.disk)) (node_at node w) w told u
Does (DieIn moment bytes inner) w told u = DiesIn moment bytes inner (reached inner w) w told u

-- ---- an event happens

-- The event is counted, and the disk is marked before it.
abbrev pub begun : DiskView → WorldState → WorldState
begun disk w = record w { steps = w.steps + 1; disk = disk }

pub record Happens (event : Event) (w : WorldState) (told : List Told) (u : WorldState) : Type 0 where
  pub disk : DiskView
  pub marked : Marked w.disk disk
  pub does : Does event (begun disk w) told u
