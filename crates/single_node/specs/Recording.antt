-- What the records of a node that is alone have made of it, and which of them comes next.
use Rattle.std.specs.Prelude.{◌≡◌, ℕ, ◌+◌, ◌<◌, ◌≤◌, ◌^◌, List, ◌∷◌, ◌++◌, length, Option, Some, option_to_list}
use Rattle.std.specs.List.{AllByRecursion}
use Rattle.disk_core.specs.Views.{DiskView}
use Rattle.gum_messages.specs.Messages.{Sent}
use Rattle.update_records.specs.Entry.{Entry, IsId}
use Rattle.cluster_rules.specs.Machines.{replay}
use Rattle.cluster_rules.specs.Nodes.{NodeState}
use Rattle.registry_machine.specs.Machine.{registry_machine}
use Rattle.log_order.specs.Orders.{last_behind}
use Rattle.single_rules.specs.Logging.{to_log}
use Rattle.single_rules.specs.Single.{Single}
use Rattle.cluster_member.specs.States.{MemberState}
use Rattle.single_items.specs.Alone.{AloneRun}
use Rattle.single_items.specs.Promises.{TellsFirst}
use Rattle.single_items.specs.Standing.{NodeAlone, StandsAt}
use Rattle.single_node.specs.Delivering.{LogsAll}

-- Its registry and its last record are those behind these records, the first of which were made before Alone began.
pub record HasApplied (first : AloneRun) (records : List Entry) (x : NodeState registry_machine) : Type 0 where
  pub made : List Entry
  pub whole : records ≡ first.records ++ made
  pub replica : x.replica ≡ Some (record { registry = replay registry_machine made first.single.registry; done = first.single.done + length made })
  pub last : x.last ≡ last_behind first.single.last made

-- So it is between any two events.
abbrev pub RecordsApplied : Type 0
RecordsApplied =
    (c : ℕ) (first : AloneRun) (stream : List ℕ) (z : NodeAlone) (output : List ℕ) (records : List Entry)
    → StandsAt c first stream z output records → HasApplied first records z.node

-- ---- the names of the records

-- The node has a number and an incarnation that a record may have.
pub record IsNamed (a : Single registry_machine) : Type 0 where
  pub node : 0 < a.node
  pub last_node : a.node ≤ 16
  pub inc : 0 < a.inc
  pub last_inc : a.inc < 2 ^ 64

abbrev pub HasId : Entry → Type 0
HasId e = IsId e.id

abbrev pub RecordsNamed : Type 0
RecordsNamed =
    (c : ℕ) (first : AloneRun) (stream : List ℕ) (z : NodeAlone) (output : List ℕ) (records : List Entry)
    → StandsAt c first stream z output records → IsNamed first.single → AllByRecursion HasId first.records → AllByRecursion HasId records

-- ---- the next one

-- The record that the oldest message has the node log, if there is one, is Alone's next one.
pub record IsNext (c : ℕ) (first : AloneRun) (stream output : List ℕ) (records : List Entry) (next : Option Entry) : Type 0 where
  pub first_of : TellsFirst c first stream output (records ++ option_to_list next)
  pub named : IsNamed first.single → (e : Entry) → next ≡ Some e → HasId e

abbrev pub NextIsAlones : Type 0
NextIsAlones =
    (c : ℕ) (first : AloneRun) (stream : List ℕ) (z : NodeAlone) (output : List ℕ) (records : List Entry) (p : Sent) (left : List Sent)
    → StandsAt c first stream z output records → z.left ≡ p ∷ left → IsNext c first stream output records (to_log z.node p)

-- ---- in turn

-- Records that were added in turn, and then others.
abbrev pub LogsJoin : Type 0
LogsJoin =
    (added others : List Entry) (x y z : MemberState) (v w u : DiskView) → LogsAll added x v y w → LogsAll others y w z u
    → LogsAll (added ++ others) x v z u
