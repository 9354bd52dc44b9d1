-- The connections of one node.
use Rattle.std.specs.Prelude.{◌≡◌, ℕ, ◌+◌, ◌≤◌, Bool, false, not, ◌&&◌, List, [], length, map, Option, Some, None, nat_eq, nat_lt, if◌then◌else◌}
use Rattle.std.specs.BTreeMap.{insert_entry, is_at}
use Rattle.std.specs.List.{list_any}
use Rattle.std.specs.Map.{keys_of, lookup, remove_entry, set_value}
use Rattle.std.specs.Ordering.{nat_cmp}
use Rattle.context_handles.specs.Table.{Table}
use Rattle.context_handles.specs.Table as handles
use Rattle.rpc_calls.specs.declared.side.Side.TheVariants.{Server}
use Rattle.rpc_calls.specs.Intakes.{Kept, stream_length}
use Rattle.rpc_calls.specs.Intakes as intakes
use Rattle.rpc_assoc.specs.State.{State, group_of, unbound}
use Rattle.cluster_rules.specs.declared.effect.CloseCause.TheVariants.{Limit, NodeStopped, Peer}
use Rattle.cluster_rules.specs.declared.effect.Effect.{Effect}
use Rattle.cluster_rules.specs.declared.effect.Effect.TheVariants.{Closed}
use Rattle.registry_server.specs.Servers.{without}
use Rattle.client_connections.specs.declared.origin.Origin.{Origin}
use Rattle.client_connections.specs.declared.origin.Origin.TheVariants.{Call, Batch}
use Rattle.client_connections.specs.Items.{most_taken}

-- A connection between two items.
pub record Client : Type 0 where
  pub intake : Kept
  pub association : State

-- What all connections share.
pub record Common : Type 0 where
  -- the groups and handles of the node
  pub table : Table
  -- for whom each queued update was made, the head first
  pub waiting : List Origin
  -- how many items and batches were taken so far
  pub taken : ℕ

pub record Clients : Type 0 where
  pub common : Common
  -- those that are open, by ascending numbers
  pub conns : List (ℕ × Client)

-- ---- who waits

abbrev pub waits_at : ℕ → Origin → Bool
waits_at c (Call conn call_id context opnum target) = nat_eq conn c
waits_at c Batch = false

-- Whether an update of the connection is queued.
abbrev pub has_waiting : ℕ → Common → Bool
has_waiting c s = list_any (waits_at c) s.waiting

-- Whether the connection may take an item.
abbrev pub may_take : ℕ → Common → Bool
may_take c s = not (has_waiting c s) && nat_lt s.taken most_taken

-- ---- the list of connections

abbrev pub fresh_common : ℕ → Common
fresh_common node = record { table = handles.fresh node; waiting = []; taken = 0 }

-- The node with this number has no connection at first.
abbrev pub no_clients : ℕ → Clients
no_clients node = record { common = fresh_common node; conns = [] }

abbrev pub fresh_client : Client
fresh_client = record { intake = intakes.fresh Server; association = unbound }

abbrev pub client_at : ℕ → Clients → Option Client
client_at c s = lookup (is_at (nat_cmp c)) s.conns

abbrev pub with_new : ℕ → Clients → Clients
with_new c s = record s { conns = insert_entry nat_cmp s.conns c fresh_client }

-- The connection is replaced by this one, and what all share by this.
abbrev pub put_back : ℕ → Common → Client → Clients → Clients
put_back c common k s = record { common = common; conns = set_value (is_at (nat_cmp c)) s.conns k }

-- The connection leaves its group, if it has one, and is gone.
abbrev pub left_by : ℕ → Client → Clients → Clients
left_by c k s = record {
  common = record (s.common) { table = without (group_of k.association) s.common.table };
  conns = remove_entry (is_at (nat_cmp c)) s.conns;
}

abbrev pub left_if_open : ℕ → Option Client → Clients → Clients
left_if_open c None s = s
left_if_open c (Some k) s = left_by c k s

-- ---- limits

-- How many connections may be open, and how long the stream of each may be.
abbrev pub most_clients : ℕ
most_clients = 64

abbrev pub most_stream : ℕ
most_stream = 1073741824

-- ---- connections come and go

-- A connection more, unless as many are open as may be.
abbrev pub connected : ℕ → Clients → Clients × Option Effect
connected c s = if nat_lt (length s.conns) most_clients then (with_new c s, None) else (s, Some (Closed c Limit))

-- The client hangs up, where its connection is open.
abbrev pub hung_up : ℕ → Option Client → Clients → Clients × Option Effect
hung_up c None s = (s, None)
hung_up c (Some k) s = (left_by c k s, Some (Closed c Peer))

-- Where the node stops each is closed.
abbrev pub closings : List (ℕ × Client) → List Effect
closings conns = map (λ conn. Closed conn NodeStopped) (keys_of conns)

abbrev pub without_any : Clients → Clients
without_any s = record s { conns = [] }

-- ---- what is always so

-- Each item gives one handle, or queues one update, which gives one handle later.
pub record IsRoomy (serials waiting taken : ℕ) : Type 0 where
  pub handles : serials + waiting ≤ taken
  pub items : taken ≤ most_taken

pub record IsServed (kept : Kept) : Type 0 where
  pub side : kept.side ≡ Server
  pub short : stream_length kept ≤ most_stream
