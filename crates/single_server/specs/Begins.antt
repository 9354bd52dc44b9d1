-- How a run begins: the log of the disk is looked at, an empty one made where there is none, and the node opened over it.
use Rattle.std.specs.Prelude.{◌≡◌, ◌⊎◌, ℕ, ◌+◌, ◌<◌, ◌≤◌, IsTrue, List, [], length, Some, Result, Ok, Err}
use Rattle.causes.specs.Counts.{Rose}
use Rattle.disk_core.specs.Calls.{SameDisk}
use Rattle.disk_core.specs.Images.{EachImage}
use Rattle.disk_core.specs.Views.{DiskView, Passes}
use Rattle.context_handles.specs.Table as handles
use Rattle.registry_defs.specs.Keys.{root_alone}
use Rattle.registry_defs.specs.Spelling.{registry_text}
use Rattle.quorum_log.specs.declared.fault.OpenFault.TheVariants as open_faults
use Rattle.quorum_log.specs.declared.found.Found.{Found}
use Rattle.quorum_log.specs.Formats.{FormatCalls, IsFormatted, IsInFormat}
use Rattle.quorum_log.specs.Logs.{IsWithinLimits, LogValue, StandsFor}
use Rattle.quorum_log.specs.Checks.{IsBadImage}
use Rattle.quorum_log.specs.Opening.{IsBlank, IsInOpen, OpenCalls, WasRead}
use Rattle.record_log.specs.declared.recovered.Recovered.{Recovered}
use Rattle.record_log.specs.Opening.{HasOpened, IsBadLog}
use Rattle.cluster_member.specs.States.{MemberState}
use Rattle.cluster_node.specs.States.{RunningNode}
use Rattle.single_items.specs.Alone.{AloneRun, begins_alone}
use Rattle.single_items.specs.Promises.{IsUnconnectedFor}
use Rattle.single_node.specs.Opening.{OnlyClaims, opened_with}
use Rattle.single_node.specs.Singles.{SingleState, runs_alone}
use Rattle.single_node.specs.Standing.{alone_node}
use Rattle.single_server.specs.declared.ended.Ended.{Ended}
use Rattle.single_server.specs.declared.ended.Ended.TheVariants.{BadLog, DiskFault, Fenced, NoMemory}

-- ---- the records are counted

-- The disk held this log, which was read under the token 1.
pub record HasFound (v : DiskView) (found : Found) (w : DiskView) : Type 0 where
  pub read : WasRead v found
  pub limits : IsWithinLimits found
  pub held : w.current.held ≡ 1
  pub stands : IsTrue v.tells → (log : LogValue) × StandsFor log w found
  pub calls : OpenCalls 1 v (Ok found) w
  pub any_moment : IsTrue v.tells → Passes (IsInOpen v.current 1) v w

-- The capacity of a log that is made, and its state: the encoding of the empty registry.
abbrev pub new_cap : ℕ
new_cap = 1048576

unfoldable pub new_state : List ℕ
new_state = registry_text root_alone

-- An empty log was made under the token 1, or the disk refused.
pub record WasMade (v : DiskView) (w : DiskView) : Type 0 where
  pub held_before : v.current.held ≤ 1
  pub held : w.current.held ≡ 1
  pub formatted : IsTrue v.tells → IsFormatted new_cap new_state w
  pub calls : FormatCalls 1 new_cap new_state v (Ok tt) w
  pub any_moment : IsTrue v.tells → Passes (EachImage (IsInFormat v.current new_cap new_state)) v w

-- The disk was blank, as far as it tells, and an empty log was made.
pub record WasBlank (v w : DiskView) : Type 0 where
  pub between : DiskView
  pub same_disk : SameDisk v between
  pub blank : IsBlank 1 v between
  pub looked : OpenCalls 1 v (Err open_faults.Blank) between
  pub any_moment : IsTrue v.tells → Passes (IsInOpen v.current 1) v between
  pub made : WasMade between w

-- The log that is on the disk now holds so many records.
abbrev pub Holds : ℕ → DiskView → DiskView → Type 0
Holds count v w = ((found : Found) × HasFound v found w × (count ≡ found.base + length found.records)) ⊎ (WasBlank v w × (count ≡ 0))

-- ---- the node opens

-- Behind so many records Alone begins with `first`; the node keeps `x`, and the disk is as in `w`.
pub record BeginsOn (stamp : ℕ) (v : DiskView) (first : AloneRun) (x : MemberState) (w : DiskView) : Type 0 where
  pub count : ℕ
  pub ready : DiskView
  pub same_before : SameDisk v ready
  pub holds : Holds count v ready
  pub log : LogValue
  pub recovered : Recovered
  pub opened : HasOpened 1 ready log recovered w
  pub claims : OnlyClaims 1 ready w
  pub same_disk : SameDisk v w
  pub has : x.log ≡ Some log
  pub is : first ≡ begins_alone (opened_with 1 (count + 1) 1 stamp recovered) (handles.fresh 1) 0
  -- it is a node without a connection that keeps it
  pub node : RunningNode
  pub kept : x ≡ node.member
  pub unconnected : IsUnconnectedFor first (alone_node node [])

-- The image fails a check there, or the log that is ready doesn't decode from there on. A read then gives what it gave before.
abbrev pub FindsBad : ℕ → DiskView → DiskView → Type 0
FindsBad place v w =
    ((IsTrue v.tells → IsBadImage v.current.seen v.size place) × OpenCalls 1 v (Err (open_faults.BadImage place)) w)
    ⊎ ((count : ℕ) × (ready : DiskView) × Holds count v ready × SameDisk v ready × IsBadLog ready place × OnlyClaims 1 ready w)

-- Why it doesn't open. A log at fault is told by its place: that of the disk as it was, or as it was made ready.
abbrev pub NotBegun : Ended → DiskView → DiskView → Type 0
NotBegun DiskFault v w = (v.current.held ≤ 1) × Rose v.faults w.faults
NotBegun (Fenced held) v w = (1 < v.current.held) × (held ≡ v.current.held)
NotBegun (BadLog place) v w = (v.current.held ≤ 1) × FindsBad place v w
NotBegun NoMemory v w = v.current.held ≤ 1
NotBegun ended v w = ⊥

abbrev pub Counts : DiskView → Result ℕ Ended → DiskView → Type 0
Counts v (Ok count) w = Holds count v w
Counts v (Err ended) w = NotBegun ended v w

-- An empty log was made, which holds no record.
abbrev pub MakesLog : DiskView → Result ℕ Ended → DiskView → Type 0
MakesLog v (Ok count) w = WasMade v w × (count ≡ 0)
MakesLog v (Err DiskFault) w = (v.current.held ≤ 1) × Rose v.faults w.faults
MakesLog v (Err (Fenced held)) w = (1 < v.current.held) × (held ≡ v.current.held)
MakesLog v (Err ended) w = ⊥

-- The node runs without a connection, and the next one begins as Alone does.
pub record IsBegun (stamp : ℕ) (v : DiskView) (s : SingleState) (w : DiskView) : Type 0 where
  pub first : AloneRun
  pub inc : ℕ
  pub node : RunningNode
  pub runs : s ≡ runs_alone inc node
  pub begins : BeginsOn stamp v first node.member w
  pub unconnected : IsUnconnectedFor first (alone_node node [])

abbrev pub Begins : ℕ → DiskView → Result SingleState Ended → DiskView → Type 0
Begins stamp v (Ok s) w = IsBegun stamp v s w
Begins stamp v (Err ended) w = NotBegun ended v w
