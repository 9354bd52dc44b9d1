-- A node that is alone keeps its log so, with each record that it adds, and where it stops at a message.
use Rattle.std.specs.Prelude.{◌≡◌, ◌+◌, List, ◌++◌, length, Option, Some, None, Result}
use Rattle.std.specs.List.{AllByRecursion}
use Rattle.update_records.specs.Entry.{Entry}
use Rattle.disk_core.specs.Images.{EachImage}
use Rattle.disk_core.specs.Views.{DiskView, Passes}
use Rattle.gum_messages.specs.Messages.{Sent}
use Rattle.quorum_log.specs.declared.found.Found.{Found}
use Rattle.quorum_log.specs.Logs.{LogValue}
use Rattle.log_contents.specs.declared.contents.LogContents.{LogContents}
use Rattle.cluster_rules.specs.Machines.{replay}
use Rattle.registry_machine.specs.Machine.{registry_machine}
use Rattle.log_order.specs.Orders.{last_behind}
use Rattle.record_log.specs.declared.fault.AddFault.{AddFault}
use Rattle.single_rules.specs.Logging.{to_log}
use Rattle.cluster_member.specs.Logging.{Logs}
use Rattle.cluster_member.specs.States.{MemberState}
use Rattle.single_node.specs.Delivering.{LogsAll}
use Rattle.single_node.specs.Recording.{HasId}
use Rattle.single_log.specs.Adding.{in_doubt}
use Rattle.single_log.specs.Contents.{count_found, last_found, registry_found}
use Rattle.single_log.specs.Images.{HoldsFront, MayHoldOne}
use Rattle.single_log.specs.Keeping.{KeepsLog}

-- The disk holds the records found and these further ones; the member has its log, and the registry and the last record behind them.
pub record KeepsMember (found : Found) (contents : LogContents) (q : List Entry) (x : MemberState) (v : DiskView) : Type 0 where
  pub log : LogValue
  pub has : x.log ≡ Some log
  pub keeps : KeepsLog found contents q log v
  pub replica : x.rules.replica ≡ Some (record { registry = replay registry_machine q (registry_found contents); done = count_found found + length q })
  pub last : x.rules.last ≡ last_behind (last_found contents) q

-- Further records were added in turn: each moment meanwhile holds the first so many of them, or one more.
pub record KeepsAll (found : Found) (contents : LogContents) (q es : List Entry) (v : DiskView) (y : MemberState) (w : DiskView) : Type 0 where
  pub moments : Passes (HoldsFront found contents (q ++ es)) v w
  pub keeps : KeepsMember found contents (q ++ es) y w
  pub held : w.current.held ≡ v.current.held

abbrev pub RecordsKeep : Type 0
RecordsKeep =
    (found : Found) (contents : LogContents) (q es : List Entry) (x : MemberState) (v : DiskView) (y : MemberState) (w : DiskView)
    → KeepsMember found contents q x v → AllByRecursion HasId es → LogsAll es x v y w → KeepsAll found contents q es v y w

-- The record of a message is in doubt by what the log answered, where it was asked.
abbrev pub in_doubt_at : Option Entry → Option (Result LogValue AddFault) → Option Entry
in_doubt_at None added = None
in_doubt_at (Some e) None = None
in_doubt_at (Some e) (Some r) = in_doubt e r

-- Whatever the log answers at a message, and though memory runs out behind it: each image meanwhile holds the records that
-- it held, or the one in doubt too.
abbrev pub MessageKeeps : Type 0
MessageKeeps =
    (found : Found) (contents : LogContents) (q : List Entry) (x : MemberState) (v : DiskView) (p : Sent) (added : Option (Result LogValue AddFault)) (w : DiskView)
    → KeepsMember found contents q x v → ((e : Entry) → to_log x.rules p ≡ Some e → HasId e) → Logs (to_log x.rules p) x v added w
    → Passes (EachImage (MayHoldOne found contents q (in_doubt_at (to_log x.rules p) added))) v w
