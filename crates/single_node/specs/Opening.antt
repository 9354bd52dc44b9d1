-- How a node comes to be alone, and how its connections begin and end.
use Rattle.std.specs.Prelude.{◌≡◌, ◌≢◌, ℕ, ◌<◌, IsTrue, false, List, [], ◌∷◌, Some, None, Ok, Err}
use Rattle.std.specs.declared.alloc.AllocError.{AllocError}
use Rattle.disk_core.specs.Views.{DiskView, Passes}
use Rattle.quorum_log.specs.Logs.{LogValue}
use Rattle.quorum_log.specs.Opening.{IsInOpen}
use Rattle.update_records.specs.Entry.{Entry}
use Rattle.record_log.specs.declared.recovered.Recovered.{Recovered}
use Rattle.record_log.specs.declared.fault.RecordFault.{RecordFault}
use Rattle.record_log.specs.declared.fault.RecordFault.TheVariants as records
use Rattle.record_log.specs.Opening.{HasOpened, OpensTo}
use Rattle.cluster_rules.specs.declared.effect.Effect.{Effect}
use Rattle.cluster_rules.specs.declared.effect.Effect.TheVariants.{Halted, Opened}
use Rattle.cluster_rules.specs.declared.effect.HaltCause.{HaltCause}
use Rattle.cluster_rules.specs.declared.effect.HaltCause.TheVariants as halt
use Rattle.cluster_rules.specs.declared.offering.Offering.{Offering}
use Rattle.cluster_rules.specs.Worlds.{sent}
use Rattle.registry_machine.specs.Machine.{registry_machine, replicated}
use Rattle.single_rules.specs.Single.{Single, opened_over, view_of_one}
use Rattle.cluster_member.specs.States.{fresh_member}
use Rattle.context_handles.specs.Table.{Table}
use Rattle.context_handles.specs.Table as handles
use Rattle.client_connections.specs.Clients.{has_waiting, no_clients}
use Rattle.cluster_node.specs.Events.{Connects, HangsUp, NodeInstalls}
use Rattle.cluster_node.specs.States.{RunningNode, runs, with_stamp}
use Rattle.single_items.specs.Alone.{AloneRun, begins_alone}
use Rattle.single_items.specs.Events.{told_to}
use Rattle.single_items.specs.Promises.{IsUnconnected}
use Rattle.single_items.specs.Standing.{StandsAt}
use Rattle.single_node.specs.Standing.{alone_node}

-- ---- the log is opened

-- As it was started, with its clock set.
abbrev pub started_node : ℕ → ℕ → ℕ → RunningNode
started_node node inc stamp = with_stamp stamp (runs (fresh_member node inc) (no_clients node))

abbrev pub offering_in : Recovered → Offering
offering_in r = record { count = r.count; cap = r.cap; last = r.last }

abbrev pub opened_with : ℕ → ℕ → ℕ → ℕ → Recovered → Single registry_machine
opened_with node inc number stamp r = opened_over node inc number stamp (offering_in r) (replicated r.registry)

-- Behind the opening a read gives what it gave before, and meanwhile each image could stand before.
pub record OnlyClaims (number : ℕ) (v w : DiskView) : Type 0 where
  pub seen : IsTrue v.tells → w.current.seen ≡ v.current.seen
  pub moments : IsTrue v.tells → Passes (IsInOpen v.current number) v w

-- Its view is open, and it has no connection.
pub record OpenedAlone (node inc stamp number : ℕ) (v : DiskView) (y : RunningNode) (w : DiskView) (es : List Effect) : Type 0 where
  pub log : LogValue
  pub recovered : Recovered
  pub opened : HasOpened number v log recovered w
  pub claims : OnlyClaims number v w
  pub has : y.member.log ≡ Some log
  pub unconnected : IsUnconnected (alone_node y []) (opened_with node inc number stamp recovered) (handles.fresh node) 0
  pub effects : es ≡ Opened number ∷ []

abbrev pub OpenLeads : Type 0
OpenLeads =
    (node inc stamp number : ℕ) (v : DiskView) (y : RunningNode) (w : DiskView) (es : List Effect) → 0 < inc → 0 < number
    → NodeInstalls {E = AllocError} v (Some (started_node node inc stamp)) (view_of_one number node inc) (Ok es) (Some y) w → OpenedAlone node inc stamp number v y w es

abbrev pub cause_for : RecordFault → HaltCause
cause_for records.Failed = halt.Disk
cause_for (records.Fenced held) = halt.Fenced held
cause_for (records.Image place) = halt.Image place
cause_for records.Memory = halt.Disk

-- The log wasn't recovered, for another reason than that memory ran out: the node halts.
pub record NotOpened (number : ℕ) (v w : DiskView) (es : List Effect) : Type 0 where
  pub fault : RecordFault
  pub had_memory : fault ≢ records.Memory
  pub opens : OpensTo number v (Err fault) w
  pub claims : OnlyClaims number v w
  pub effects : es ≡ Halted (cause_for fault) ∷ []

abbrev pub OpenFails : Type 0
OpenFails =
    (node inc stamp number : ℕ) (v w : DiskView) (es : List Effect) → 0 < inc → 0 < number
    → NodeInstalls {E = AllocError} v (Some (started_node node inc stamp)) (view_of_one number node inc) (Ok es) None w → NotOpened number v w es

-- ---- connections

-- A connection begins at a node that has none, for which no update waits.
abbrev pub ConnectLeads : Type 0
ConnectLeads =
    (c : ℕ) (x y : RunningNode) (es : List Effect) (a : Single registry_machine) (table : Table) (taken : ℕ)
    → IsUnconnected (alone_node x []) a table taken → has_waiting c x.clients.common ≡ false → Connects c (Some x) (Some y) es
    → StandsAt c (begins_alone a table taken) [] (alone_node y []) [] [] × (es ≡ [])

-- The client hangs up while no message is under way.
pub record LeftAlone (c : ℕ) (first : AloneRun) (stream : List ℕ) (y : RunningNode) (es : List Effect) (output : List ℕ) (records : List Entry) : Type 0 where
  pub stands : StandsAt c first stream (alone_node y []) output records
  pub silent : sent es ≡ []
  pub told : told_to c es ≡ []

abbrev pub HangUpLeads : Type 0
HangUpLeads =
    (c : ℕ) (first : AloneRun) (stream : List ℕ) (x y : RunningNode) (es : List Effect) (output : List ℕ) (records : List Entry)
    → StandsAt c first stream (alone_node x []) output records → HangsUp c (Some x) (Some y) es → LeftAlone c first stream y es output records
