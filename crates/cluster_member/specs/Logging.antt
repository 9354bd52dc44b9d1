-- What an event asks of the node's log, and what the log answers.
use Rattle.std.specs.Prelude.{◌≡◌, ℕ, ◌+◌, IfOk, Bool, true, false, List, [], length, Option, Some, None, Result, Ok, Err}
use Rattle.disk_core.specs.Views.{DiskView}
use Rattle.update_records.specs.Entry.{Entry, record_text}
use Rattle.quorum_log.specs.Logs.{LogValue}
use Rattle.quorum_log.specs.declared.fault.AppendFault.{AppendFault}
use Rattle.quorum_log.specs.declared.fault.AppendFault.TheVariants as append
use Rattle.cluster_rules.specs.declared.effect.HaltCause.{HaltCause}
use Rattle.cluster_rules.specs.declared.effect.HaltCause.TheVariants as halt
use Rattle.cluster_member.specs.declared.stop.Stop.{Stop}
use Rattle.cluster_member.specs.declared.stop.Stop.TheVariants as stop
use Rattle.registry_defs.specs.Spelling.{registry_text}
use Rattle.cluster_rules.specs.Updates.{Answer, Written, InDoubt, Unwritten}
use Rattle.log_order.specs.Orders.{last_text}
use Rattle.record_log.specs.declared.fault.AddFault.{AddFault}
use Rattle.record_log.specs.declared.fault.AddFault.TheVariants.{Append, Checkpoint, Memory}
use Rattle.record_log.specs.declared.fault.RecordFault.{RecordFault}
use Rattle.record_log.specs.declared.fault.RecordFault.TheVariants as records
use Rattle.record_log.specs.Adding.{Adds, CheckpointsTo, IsSound, is_due}
use Rattle.cluster_rules.specs.Nodes.{Replica}
use Rattle.registry_machine.specs.Machine.{registry_machine}
use Rattle.cluster_member.specs.States.{MemberState}

abbrev pub answer_of : Result LogValue AddFault → Answer
answer_of (Ok log) = Written
answer_of (Err (Checkpoint fault)) = Unwritten
answer_of (Err fault) = InDoubt

-- A fault leaves no log.
abbrev pub log_after : Result LogValue AddFault → Option LogValue
log_after (Ok log) = Some log
log_after (Err fault) = None

abbrev pub cause_of : AppendFault → HaltCause
cause_of append.Failed = halt.Disk
cause_of (append.Fenced held) = halt.Fenced held

-- The node halts, unless memory ran out.
abbrev pub stop_of : AddFault → Stop
stop_of (Checkpoint fault) = stop.Halted (cause_of fault)
stop_of (Append fault) = stop.Halted (cause_of fault)
stop_of Memory = stop.Memory

-- The log wasn't recovered: the node halts, unless memory ran out.
abbrev pub stop_for : RecordFault → Stop
stop_for records.Failed = stop.Halted halt.Disk
stop_for (records.Fenced held) = stop.Halted (halt.Fenced held)
stop_for (records.Image place) = stop.Halted (halt.Image place)
stop_for records.Memory = stop.Memory

-- The answer that the rule gets, where the log was asked; else none is needed.
abbrev pub answer_to : Option (Result LogValue AddFault) → Answer
answer_to None = Written
answer_to (Some added) = answer_of added

-- The log that is left.
abbrev pub log_left : Option LogValue → Option (Result LogValue AddFault) → Option LogValue
log_left log None = log
log_left log (Some added) = log_after added

-- What a checkpoint is made of.
abbrev pub replica_bytes : Option (Replica registry_machine) → List ℕ
replica_bytes replica = elim replica [ None ↦ [] | Some r ↦ registry_text r.registry.keys ]

abbrev pub state_bytes : MemberState → List ℕ
state_bytes x = replica_bytes x.rules.replica

abbrev pub last_bytes : MemberState → List ℕ
last_bytes x = last_text x.rules.last

-- A record is added to the log, which answers; where there is none to add, no call is made. What was encoded is a record, unless memory ran out.
abbrev pub Logs : Option Entry → MemberState → DiskView → Option (Result LogValue AddFault) → DiskView → Type 0
Logs None x v None w = w ≡ v
Logs (Some e) x v (Some added) w =
    (old : LogValue) × (x.log ≡ Some old)
    × Adds (is_due old (length (record_text e))) old (state_bytes x) (last_bytes x) (record_text e) v added w
    × IsSound e added
Logs entry x v added w = ⊥

abbrev pub is_written : Result LogValue AddFault → Bool
is_written (Ok log) = true
is_written (Err fault) = false

-- Where no checkpoint was to be written, nothing failed.
abbrev pub is_good : Option (Result LogValue AddFault) → Bool
is_good None = true
is_good (Some written) = is_written written

-- A checkpoint is written into the log, which answers, or no call is made.
abbrev pub LogsState : Bool → MemberState → DiskView → Option (Result LogValue AddFault) → DiskView → Type 0
LogsState false x v None w = w ≡ v
LogsState true x v (Some written) w = (old : LogValue) × (x.log ≡ Some old) × CheckpointsTo old (state_bytes x) (last_bytes x) v written w
LogsState is_to x v written w = ⊥
