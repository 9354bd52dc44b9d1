-- What a node's place keeps over an event. Only private clauses cite it.
use Rattle.std.specs.Prelude.{◌≡◌, ◌≢◌, ℕ, ◌<◌, List, [], Option, None, Some, IsSome, length, slice_get}
use Rattle.disk_core.specs.Views.{DiskView}
use Rattle.gum_messages.specs.declared.view.View.{View}
use Rattle.gum_messages.specs.Messages.{Sent}
use Rattle.gum_messages.specs.Places.{at_place}
use Rattle.view_reconcile.specs.Chains.{view_in}
use Rattle.cluster_rules.specs.declared.effect.Effect.{Effect}
use Rattle.cluster_node.specs.States.{HasRoom, IsSameNode, NodeValue, client_in}
use Rattle.cluster_worlds.specs.declared.inner.Inner.{Inner}
use Rattle.cluster_worlds.specs.declared.inner.Inner.TheVariants.{Install, Deliver}
use Rattle.cluster_worlds.specs.declared.told.Told.{Told}
use Rattle.cluster_worlds.specs.Telling.{told_death}
use Rattle.cluster_worlds.specs.Worlds.{WorldState, first_world, slot_of}
use Rattle.cluster_replay.specs.Journals.{JournalState, taken_in, told_in}

-- What a node sees of the world in an event.
abbrev pub scene : List View → List Sent → DiskView → WorldState
scene chain pool v = record (first_world v) { chain = chain; pool = pool }

-- The view or the message of the event is there.
abbrev pub IsKnown : Inner → List View → List Sent → Type 0
IsKnown (Install node view) chain pool = IsSome (view_in chain view)
IsKnown (Deliver number) chain pool = IsSome (at_place pool number)
IsKnown inner chain pool = Unit {0}

-- It stays the same node, the disk has room for its log, and no number of a connection is new.
pub record Keeps (v : DiskView) (n : NodeValue) (w : DiskView) (m : NodeValue) : Type 0 where
  pub same : IsSameNode n m
  pub room : HasRoom n v → HasRoom m w
  pub unused : (conn : ℕ) → client_in conn n ≡ None → client_in conn m ≡ None

-- The node has done this and is still in its place: what the world takes in and tells of it, and what stands there then.
pub record Settles (effects : List Effect) (n : NodeValue) (j : JournalState) (told : List Told) (slot : Option NodeValue) (k : JournalState) : Type 0 where
  pub tells : told ≡ told_in effects n j
  pub taken : k ≡ taken_in effects n j
  pub left : slot ≡ slot_of n

-- ---- the same of a node's place: a node stands in it before the event, and behind it still

abbrev pub ReactsAt : (NodeValue → List Effect → NodeValue → DiskView → Type 0) → Option NodeValue → List Effect → Option NodeValue → DiskView → Type 0
ReactsAt P (Some n) effects (Some m) d = P n effects m d
ReactsAt P slot effects other d = ⊥

abbrev pub KeepsAt : DiskView → Option NodeValue → DiskView → Option NodeValue → Type 0
KeepsAt v (Some n) w (Some m) = Keeps v n w m
KeepsAt v slot w None = Unit {0}
KeepsAt v None w (Some m) = ⊥

-- A connection has begun: its number alone may be new.
pub record KeepsBut (conn : ℕ) (v : DiskView) (n m : NodeValue) : Type 0 where
  pub same : IsSameNode n m
  pub room : HasRoom n v → HasRoom m v
  pub unused : (other : ℕ) → other ≢ conn → client_in other n ≡ None → client_in other m ≡ None

abbrev pub KeepsWith : ℕ → DiskView → Option NodeValue → Option NodeValue → Type 0
KeepsWith conn v (Some n) (Some m) = KeepsBut conn v n m
KeepsWith conn v slot None = Unit {0}
KeepsWith conn v None (Some m) = ⊥

-- The node does what P says of it, and the journal takes that in.
pub record SlotActs (P : NodeValue → List Effect → NodeValue → DiskView → Type 0) (n : NodeValue) (j : JournalState) (told : List Told) (slot : Option NodeValue) (k : JournalState) (d : DiskView) : Type 0 where
  pub effects : List Effect
  pub after : NodeValue
  pub event : P n effects after d
  pub same : IsSameNode n after
  pub tells : told ≡ told_in effects after j
  pub taken : k ≡ taken_in effects after j
  pub left : slot ≡ slot_of after

abbrev pub ActsIn : (NodeValue → List Effect → NodeValue → DiskView → Type 0) → Option NodeValue → JournalState → List Told → Option NodeValue → JournalState → DiskView → Type 0
ActsIn P None j told slot k d = ⊥
ActsIn P (Some n) j told slot k d = SlotActs P n j told slot k d

-- Where a node stands among the places.
abbrev pub IsIndex : Option ℕ → Option NodeValue → List (Option NodeValue) → Type 0
IsIndex None n nodes = n ≡ None
IsIndex (Some i) n nodes = (slice_get nodes i ≡ Some n) × IsSome n × (i < length nodes)

-- What is told where the node in a place dies.
abbrev pub death_at : Option NodeValue → List Told
death_at None = []
death_at (Some n) = told_death n
