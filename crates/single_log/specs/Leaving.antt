-- What a run of a node alone leaves, from before the opening to its end.
use Rattle.std.specs.Prelude.{◌≡◌, ℕ, List, ◌++◌, Option, Some, Result, option_to_list}
use Rattle.std.specs.List.{AllByRecursion}
use Rattle.update_records.specs.Entry.{Entry}
use Rattle.disk_core.specs.Views.{DiskView}
use Rattle.gum_messages.specs.Messages.{Sent}
use Rattle.quorum_log.specs.declared.found.Found.{Found}
use Rattle.quorum_log.specs.Logs.{LogValue}
use Rattle.log_contents.specs.declared.contents.LogContents.{LogContents}
use Rattle.record_log.specs.declared.fault.AddFault.{AddFault}
use Rattle.single_rules.specs.Logging.{to_log}
use Rattle.cluster_member.specs.Logging.{Logs}
use Rattle.cluster_member.specs.States.{MemberState}
use Rattle.cluster_node.specs.States.{RunningNode}
use Rattle.single_items.specs.Alone.{AloneRun}
use Rattle.single_items.specs.Promises.{TellsFirst}
use Rattle.single_node.specs.Delivering.{LogsAll}
use Rattle.single_node.specs.Recording.{HasId, IsNext}
use Rattle.single_log.specs.Images.{IsCut, IsDone}
use Rattle.single_log.specs.Opening.{KeepsOpened}
use Rattle.single_log.specs.Running.{in_doubt_at}

-- Behind the records that were added in turn, whether the run is over or ends there for a fault of the input or the output.
abbrev pub RunIsDone : Type 0
RunIsDone =
    (found : Found) (contents : LogContents) (es : List Entry) (v : DiskView) (y : RunningNode) (w : DiskView) (z : MemberState) (u : DiskView)
    → KeepsOpened found contents v y w → AllByRecursion HasId es → LogsAll es y.member w z u → IsDone found contents es v u

-- And where it ends at a message, since the node halts or memory runs out.
abbrev pub RunIsCut : Type 0
RunIsCut =
    (found : Found) (contents : LogContents) (es : List Entry) (v : DiskView) (y : RunningNode) (w : DiskView) (z : MemberState) (u : DiskView)
    (p : Sent) (added : Option (Result LogValue AddFault)) (end : DiskView)
    → KeepsOpened found contents v y w → AllByRecursion HasId es → LogsAll es y.member w z u
    → ((e : Entry) → to_log z.rules p ≡ Some e → HasId e) → Logs (to_log z.rules p) z u added end
    → IsCut found contents es (in_doubt_at (to_log z.rules p) added) v end

-- The record in doubt is Alone's next one.
abbrev pub DoubtIsAlones : Type 0
DoubtIsAlones =
    (c : ℕ) (first : AloneRun) (stream output : List ℕ) (records : List Entry) (next : Option Entry) (added : Option (Result LogValue AddFault))
    → IsNext c first stream output records next → TellsFirst c first stream output (records ++ option_to_list (in_doubt_at next added))
