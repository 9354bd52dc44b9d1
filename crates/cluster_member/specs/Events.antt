-- The events of a member: what the rules of a node make of them, with what the log answered.
use Rattle.std.specs.Prelude.{◌≡◌, ℕ, ◌&&◌, IsTrue, Bool, [], ◌∷◌, length, MatchBool, OnOk, Option, Some, None, Result, Ok, Err, nat_lt, if◌then◌else◌}
use Rattle.disk_core.specs.Views.{DiskView, Passes}
use Rattle.gum_messages.specs.declared.body.Body.{Body}
use Rattle.gum_messages.specs.declared.body.Body.TheVariants.{Ask, Granted, Apply, Applied, Release, Offer, Need, Piece, Ready, OpenView}
use Rattle.update_records.specs.Entry.{Entry, record_text}
use Rattle.gum_messages.specs.declared.view.View.{View}
use Rattle.update_records.specs.declared.update.Update.{Update}
use Rattle.gum_messages.specs.Members.{is_locker}
use Rattle.gum_messages.specs.Messages.{Sent}
use Rattle.gum_core.specs.Updating as updating
use Rattle.quorum_log.specs.declared.found.Found.{Found}
use Rattle.quorum_log.specs.declared.fault.OpenFault.{OpenFault}
use Rattle.quorum_log.specs.Logs.{LogValue}
use Rattle.quorum_log.specs.Opening.{IsInOpen, OpenCalls}
use Rattle.cluster_rules.specs.declared.effect.Effect.TheVariants.{Halted}
use Rattle.cluster_rules.specs.declared.effect.HaltCause.TheVariants as halt
use Rattle.cluster_rules.specs.Nodes.{NodeState, Out, done_of, halts, nothing, number_of}
use Rattle.cluster_rules.specs.Updates.{on_applied, on_apply, on_ask, on_granted, on_release, writes}
use Rattle.cluster_rules.specs.Joins.{entered, on_need, on_offer, on_open_view, on_piece, on_ready, recovers_from, takes_view}
use Rattle.cluster_rules.specs.Receiving.{checkpoint, hears, receive}
use Rattle.single_rules.specs.Logging.{body_to_log, entry_of, to_log}
use Rattle.registry_machine.specs.Machine.{registry_machine, replicated}
use Rattle.record_log.specs.declared.recovered.Recovered.{Recovered}
use Rattle.record_log.specs.declared.fault.RecordFault.{RecordFault}
use Rattle.record_log.specs.declared.fault.RecordFault.TheVariants as records
use Rattle.record_log.specs.declared.fault.AddFault.{AddFault}
use Rattle.record_log.specs.declared.fault.AddFault.TheVariants as add
use Rattle.record_log.specs.Adding.{Adds, CheckpointsTo, IsSound, is_due}
use Rattle.record_log.specs.Opening.{ComesOf, OpensTo}
use Rattle.cluster_member.specs.declared.stop.Stop.{Stop}
use Rattle.cluster_member.specs.declared.stop.Stop.TheVariants as stop
use Rattle.member_rules.specs.declared.told.Told.{Told}
use Rattle.member_rules.specs.Steps.{GoesOn}
use Rattle.cluster_member.specs.States.{MemberState}
use Rattle.cluster_member.specs.Logging.{Logs, LogsState, answer_of, answer_to, is_good, is_written, last_bytes, log_after, log_left, state_bytes, stop_of}

-- What a rule comes to, unless memory ran out. An event whose log ran out of memory ends in that alone: its field `memory` says so.
abbrev pub Comes : Out registry_machine → Result Told Stop → NodeState registry_machine → Type 0
Comes out (Ok told) y = GoesOn out y told
Comes out (Err (stop.Halted cause)) y = (out.node ≡ None) × (out.effects ≡ Halted cause ∷ [])
Comes out (Err stop.Memory) y = Unit {0}

-- ---- a message

pub record Receives (v : DiskView) (x : MemberState) (p : Sent) (r : Result Told Stop) (y : MemberState) (w : DiskView) : Type 0 where
  pub added : Option (Result LogValue AddFault)
  pub logs : Logs (to_log x.rules p) x v added w
  pub comes : Comes (receive x.rules p v.current.held (answer_to added)).out r y.rules
  pub memory : added ≡ Some (Err add.Memory) → r ≡ Err stop.Memory
  pub kept : OnOk r (y.log ≡ log_left x.log added)

-- One that counts, from that member.
pub record Hears (v : DiskView) (x : MemberState) (from : ℕ) (body : Body) (r : Result Told Stop) (y : MemberState) (w : DiskView) : Type 0 where
  pub added : Option (Result LogValue AddFault)
  pub logs : Logs (body_to_log x.rules from body) x v added w
  pub comes : Comes (hears x.rules from body v.current.held (answer_to added)).out r y.rules
  pub memory : added ≡ Some (Err add.Memory) → r ≡ Err stop.Memory
  pub kept : OnOk r (y.log ≡ log_left x.log added)

-- No call is made, and the node goes on.
pub record Enters (v : DiskView) (out : Out registry_machine) (log : Option LogValue) (r : Result Told Stop) (y : MemberState) (w : DiskView) : Type 0 where
  pub disk : w ≡ v
  pub comes : Comes out r y.rules
  pub kept : OnOk r (y.log ≡ log)

-- An Ask among them.
pub record Asks (v : DiskView) (x : MemberState) (from req : ℕ) (update : Update) (r : Result Told Stop) (y : MemberState) (w : DiskView) : Type 0 where
  pub added : Option (Result LogValue AddFault)
  pub logs : Logs (entry_of x.rules update (updating.asked x.rules.core from req (done_of x.rules))) x v added w
  pub comes : Comes (on_ask x.rules from req update v.current.held (answer_to added)).out r y.rules
  pub memory : added ≡ Some (Err add.Memory) → r ≡ Err stop.Memory
  pub kept : OnOk r (y.log ≡ log_left x.log added)

-- No call is made.
pub record Goes (out : Out registry_machine) (log : Option LogValue) (r : Result Told Stop) (y : MemberState) : Type 0 where
  pub comes : Comes out r y.rules
  pub kept : OnOk r (y.log ≡ log)

-- The record of an Ask is added to the log.
pub record Writes (v : DiskView) (x : MemberState) (e : Entry) (r : Result Told Stop) (y : MemberState) (w : DiskView) : Type 0 where
  pub old : LogValue
  pub added : Result LogValue AddFault
  pub had : x.log ≡ Some old
  pub adds : Adds (is_due old (length (record_text e))) old (state_bytes x) (last_bytes x) (record_text e) v added w
  pub sound : IsSound e added
  pub comes : Comes (writes x.rules e v.current.held (answer_of added)).out r y.rules
  pub memory : added ≡ Err add.Memory → r ≡ Err stop.Memory
  pub kept : OnOk r (y.log ≡ log_after added)

-- ---- a checkpoint

pub record WritesCheckpoint (v : DiskView) (x : MemberState) (r : Result Told Stop) (y : MemberState) (w : DiskView) : Type 0 where
  pub written : Option (Result LogValue AddFault)
  pub logs : LogsState (x.rules.core.is_open && updating.locks x.rules.core) x v written w
  pub comes : Comes (checkpoint x.rules v.current.held (is_good written)) r y.rules
  pub memory : written ≡ Some (Err add.Memory) → r ≡ Err stop.Memory
  pub kept : OnOk r (y.log ≡ log_left x.log written)

-- At an open locker.
abbrev pub checkpointed : NodeState registry_machine → ℕ → Bool → Out registry_machine
checkpointed x held good = if nat_lt (number_of x) held then halts (halt.Fenced held) else (if good then nothing x else halts halt.Disk)

pub record Saves (v : DiskView) (x : MemberState) (r : Result Told Stop) (y : MemberState) (w : DiskView) : Type 0 where
  pub old : LogValue
  pub written : Result LogValue AddFault
  pub had : x.log ≡ Some old
  pub saves : CheckpointsTo old (state_bytes x) (last_bytes x) v written w
  pub comes : Comes (checkpointed x.rules v.current.held (is_written written)) r y.rules
  pub memory : written ≡ Err add.Memory → r ≡ Err stop.Memory
  pub kept : OnOk r (y.log ≡ log_after written)

-- ---- a view

-- The locker hears its own offer of the log that it recovered, or halts.
abbrev pub recovered_as : NodeState registry_machine → Result (LogValue × Recovered) RecordFault → Out registry_machine
recovered_as x (Ok (log, r)) = recovers_from x (record { count = r.count; cap = r.cap; last = r.last }) (replicated r.registry)
recovered_as x (Err records.Failed) = halts halt.Disk
recovered_as x (Err (records.Fenced held)) = halts (halt.Fenced held)
recovered_as x (Err (records.Image place)) = halts (halt.Image place)
recovered_as x (Err records.Memory) = halts halt.Disk

abbrev pub log_opened : Result (LogValue × Recovered) RecordFault → Option LogValue
log_opened (Ok opened) = Some opened.0
log_opened (Err fault) = None

-- The locker of the view opens the log under the view's number: what that came to, its calls, and each moment meanwhile.
pub record Recovers (v : DiskView) (x : MemberState) (view : View) (r : Result Told Stop) (y : MemberState) (w : DiskView) : Type 0 where
  pub opened : Result (LogValue × Recovered) RecordFault
  pub opens : OpensTo view.number v opened w
  pub answer : Result Found OpenFault
  pub calls : OpenCalls view.number v answer w
  pub comes_of : ComesOf answer opened
  pub any_moment : IsTrue v.tells → Passes (IsInOpen v.current view.number) v w
  pub comes : Comes (recovered_as (entered view x.rules) opened) r y.rules
  pub memory : opened ≡ Err records.Memory → r ≡ Err stop.Memory
  pub kept : OnOk r (y.log ≡ log_opened opened)

abbrev pub Installs : DiskView → MemberState → View → Result Told Stop → MemberState → DiskView → Type 0
Installs v x view r y w =
    MatchBool (takes_view x.rules view)
    (MatchBool (is_locker view.members x.rules.join.node) (Recovers v x view r y w) (Enters v (nothing (entered view x.rules)) None r y w))
    (Enters v (nothing x.rules) x.log r y w)
