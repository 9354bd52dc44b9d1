-- The world of real nodes: those that run, the messages between them, the chain of views, and one disk.
use Rattle.std.specs.Prelude.{ℕ, ◌-◌, Bool, if◌then◌else◌, List, [], is_some, Option, None, Some, replicate, slice_set, unwrap_or}
use Rattle.std.specs.Option.{option_flatten}
use Rattle.std.specs.BTreeMap.{is_at}
use Rattle.std.specs.Map.{lookup}
use Rattle.std.specs.Ordering.{nat_cmp}
use Rattle.disk_core.specs.Views.{DiskView}
use Rattle.update_records.specs.Entry.{Entry}
use Rattle.gum_messages.specs.declared.view.View.{View}
use Rattle.gum_messages.specs.Messages.{Sent}
use Rattle.gum_messages.specs.Places.{at_place}
use Rattle.cluster_node.specs.States.{NodeValue, is_stopped}

pub record WorldState : Type 0 where
  -- the nodes 1 to 16 in turn; None where it doesn't run
  pub nodes : List (Option NodeValue)
  -- how often each of them was started
  pub starts : List ℕ
  -- the views that were declared
  pub chain : List View
  -- all messages that were ever sent, numbered from 1
  pub pool : List Sent
  -- each connection that ever began, by ascending numbers, with its node
  pub conns : List (ℕ × ℕ)
  -- the update order
  pub order : List Entry
  -- all acknowledgements: view and sequence number
  pub acks : List (ℕ × ℕ)
  -- how many events came so far
  pub steps : ℕ
  pub disk : DiskView

-- The world before the first event.
abbrev pub first_world : DiskView → WorldState
first_world disk = record {
  nodes = replicate 16 None;
  starts = replicate 16 0;
  chain = [];
  pool = [];
  conns = [];
  order = [];
  acks = [];
  steps = 0;
  disk = disk;
}

-- The node with this number, where it runs.
abbrev pub node_at : ℕ → WorldState → Option NodeValue
node_at node w = option_flatten (at_place w.nodes node)

abbrev pub is_running : ℕ → WorldState → Bool
is_running node w = is_some (node_at node w)

-- How often a node was started. Its incarnations count its starts from 1.
abbrev pub starts_of : ℕ → WorldState → ℕ
starts_of node w = unwrap_or (at_place w.starts node) 0

-- The node of a connection that ever began.
abbrev pub home_of : ℕ → WorldState → Option ℕ
home_of conn w = lookup (is_at (nat_cmp conn)) w.conns

-- What stands in a node's place: a node that has stopped doesn't run.
abbrev pub slot_of : NodeValue → Option NodeValue
slot_of n = if is_stopped n then None else Some n

-- The world with this in the place of a node.
abbrev pub with_slot : ℕ → Option NodeValue → WorldState → WorldState
with_slot node slot w = record w { nodes = slice_set w.nodes (node - 1) slot }
