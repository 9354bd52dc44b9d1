-- A node: its protocol over the log, and the connections of its clients.
use Rattle.std.specs.Prelude.{◌≡◌, ℕ, ◌≤◌, Bool, false, List, [], Option, Some, None, IfSome, is_none, option_map}
use Rattle.std.specs.Map.{keys_of}
use Rattle.disk_core.specs.Views.{DiskView}
use Rattle.quorum_log.specs.Layout.{image_size}
use Rattle.quorum_log.specs.Logs.{LogValue}
use Rattle.update_records.specs.Entry.{Entry}
use Rattle.cluster_rules.specs.Joins.{known_done}
use Rattle.registry_machine.specs.Machine.{ReplicatedRegistry}
use Rattle.cluster_member.specs.States.{MemberState, fresh_member}
use Rattle.cluster_member.specs.States as member
use Rattle.client_connections.specs.Clients.{Client, Clients, client_at, no_clients}

-- What a node is while it runs.
pub record RunningNode : Type 0 where
  -- the protocol and the log
  pub member : MemberState
  pub clients : Clients

pub record NodeValue : Type 0 where
  pub number : ℕ
  pub inc : ℕ
  -- None once it has stopped.
  pub running : Option RunningNode

abbrev pub runs : MemberState → Clients → RunningNode
runs m s = record { member = m; clients = s }

-- It begins without a view, without a registry and without connections.
abbrev pub started : ℕ → ℕ → NodeValue
started number inc = record { number = number; inc = inc; running = Some (runs (fresh_member number inc) (no_clients number)) }

-- It is the same node in the same incarnation.
pub record IsSameNode (before after : NodeValue) : Type 0 where
  pub number : after.number ≡ before.number
  pub inc : after.inc ≡ before.inc

-- ---- what a caller can see

abbrev pub is_stopped : NodeValue → Bool
is_stopped n = is_none n.running

abbrev pub is_open : NodeValue → Bool
is_open n = elim n.running [ None ↦ false | Some x ↦ x.member.rules.core.is_open ]

-- None before the first view.
abbrev pub view_number : NodeValue → Option ℕ
view_number n = elim n.running [ None ↦ None | Some x ↦ member.view_number x.member ]

-- None without a registry.
abbrev pub registry_in : NodeValue → Option ReplicatedRegistry
registry_in n = elim n.running [ None ↦ None | Some x ↦ member.registry_in x.member ]

-- How many records its registry has applied.
abbrev pub done : NodeValue → Option ℕ
done n = elim n.running [ None ↦ None | Some x ↦ known_done x.member.rules ]

abbrev pub last_record : NodeValue → Option Entry
last_record n = elim n.running [ None ↦ None | Some x ↦ x.member.rules.last ]

-- The log that it writes as the locker of its view.
abbrev pub log_in : NodeValue → Option LogValue
log_in n = elim n.running [ None ↦ None | Some x ↦ x.member.log ]

abbrev pub client_in : ℕ → NodeValue → Option Client
client_in conn n = elim n.running [ None ↦ None | Some x ↦ client_at conn x.clients ]

-- The connections that are open at it, by ascending numbers.
abbrev pub open_at : NodeValue → List ℕ
open_at n = elim n.running [ None ↦ [] | Some x ↦ keys_of x.clients.conns ]

-- The disk has room for the log that the node writes.
abbrev pub HasRoom : NodeValue → DiskView → Type 0
HasRoom n v = IfSome (log_in n) (λ log. image_size log.cap ≤ v.size)

-- The clock of a running node.
abbrev pub with_stamp : ℕ → RunningNode → RunningNode
with_stamp stamp x = runs (record (x.member) { rules = record (x.member.rules) { stamp = stamp } }) x.clients

abbrev pub clocked : ℕ → NodeValue → NodeValue
clocked stamp n = record n { running = option_map (with_stamp stamp) n.running }
