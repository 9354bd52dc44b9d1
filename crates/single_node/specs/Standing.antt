-- A node that is alone in its view, as its code keeps it: where it stands, and what one of its messages has it log.
use Rattle.std.specs.Prelude.{◌≡◌, ℕ, ◌+◌, ◌*◌, ◌-◌, List, [], ◌∷◌, length, Option, Some, None, Ok}
use Rattle.disk_core.specs.Views.{DiskView}
use Rattle.gum_messages.specs.declared.body.Body.{Body}
use Rattle.gum_messages.specs.declared.body.Body.TheVariants.{Ask, Granted, Release}
use Rattle.gum_messages.specs.Messages.{Sent}
use Rattle.quorum_log.specs.Logs.{LogValue}
use Rattle.update_records.specs.Entry.{Entry, IsId, IsRecord, record_text}
use Rattle.record_log.specs.Adding.{Adds, is_due}
use Rattle.cluster_rules.specs.Nodes.{done_of}
use Rattle.cluster_rules.specs.Updates.{replica_after}
use Rattle.cluster_member.specs.Logging.{last_bytes, state_bytes}
use Rattle.cluster_member.specs.States.{MemberState}
use Rattle.client_connections.specs.Items.{most_taken}
use Rattle.cluster_node.specs.States.{RunningNode}
use Rattle.single_items.specs.Standing.{NodeAlone}

-- With the messages that it has sent to itself and not heard yet, the oldest first.
abbrev pub alone_node : RunningNode → List Sent → NodeAlone
alone_node x left = record { node = x.member.rules; clients = x.clients; left = left }

-- ---- the log

-- The member has the log, the registry and the last record that it had.
pub record IsStill (x y : MemberState) : Type 0 where
  pub log : y.log ≡ x.log
  pub replica : y.rules.replica ≡ x.rules.replica
  pub last : y.rules.last ≡ x.rules.last

-- The record, at the next place, was added to the log that the member has, which answered; the member has applied it.
pub record AddsOne (e : Entry) (x : MemberState) (v : DiskView) (y : MemberState) (w : DiskView) : Type 0 where
  pub old : LogValue
  pub new : LogValue
  pub had : x.log ≡ Some old
  pub has : y.log ≡ Some new
  pub adds : Adds (is_due old (length (record_text e))) old (state_bytes x) (last_bytes x) (record_text e) v (Ok new) w
  pub place_is : e.place ≡ done_of x.rules + 1
  pub sound : IsId e.id → IsRecord e
  pub replica : y.rules.replica ≡ replica_after e x.rules.replica
  pub last : y.rules.last ≡ Some e

-- Without a record no call was made.
abbrev pub LogsOne : Option Entry → MemberState → DiskView → MemberState → DiskView → Type 0
LogsOne None x v y w = (w ≡ v) × IsStill x y
LogsOne (Some e) x v y w = AddsOne e x v y w

-- ---- how much it may still hear of itself

-- A message may lead to so many more, and is one itself.
abbrev pub weight : Body → ℕ
weight body = elim body [ Ask req update ↦ 3 | Granted entry ↦ 2 | Release req ↦ 1 | _ ↦ 0 ]

abbrev pub weights : List Sent → ℕ
weights [] = 0
weights (p ∷ ps) = weight p.body + weights ps

-- Each message that is heard leaves less: each request that isn't finished yet may still be one of a client.
abbrev pub work : NodeAlone → ℕ
work z = 3 * (most_taken - z.node.core.passed) + weights z.left
