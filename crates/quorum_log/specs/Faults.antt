-- Which answer of the disk a fault of a log hands on, and the causes of faults.
use Rattle.std.specs.Prelude.{◌≡◌, ℕ, ◌<◌, ◌≤◌, Result, Ok, Err, ⊤}
use Rattle.causes.specs.Counts.{Rose}
use Rattle.disk_core.specs.declared.fault.DiskFault.{DiskFault}
use Rattle.disk_core.specs.declared.fault.DiskFault.TheVariants as disk_faults
use Rattle.disk_core.specs.Views.{DiskView}
use Rattle.quorum_log.specs.declared.fault.OpenFault.{OpenFault}
use Rattle.quorum_log.specs.declared.fault.OpenFault.TheVariants as open_faults
use Rattle.quorum_log.specs.declared.fault.AppendFault.{AppendFault}
use Rattle.quorum_log.specs.declared.fault.AppendFault.TheVariants as append_faults

abbrev pub open_fault : DiskFault → OpenFault
open_fault disk_faults.Failed = open_faults.Failed
open_fault (disk_faults.Fenced held) = open_faults.Fenced held

abbrev pub append_fault : DiskFault → AppendFault
append_fault disk_faults.Failed = append_faults.Failed
append_fault (disk_faults.Fenced held) = append_faults.Fenced held

-- What the disk answered to the last call that a log made.
abbrev pub disk_fault : AppendFault → DiskFault
disk_fault append_faults.Failed = disk_faults.Failed
disk_fault (append_faults.Fenced held) = disk_faults.Fenced held

abbrev pub disk_answer : {A : Type 0} → Result A AppendFault → Result ⊤ DiskFault
disk_answer (Ok value) = Ok tt
disk_answer (Err fault) = Err (disk_fault fault)

-- Calls under this token were answered so: Fenced exactly where the disk holds a greater one, Failed only
-- where its count of faults rose.
abbrev pub AnsweredBy : ℕ → DiskView → Result ⊤ DiskFault → DiskView → Type 0
AnsweredBy token v (Ok ok) w = v.current.held ≤ token
AnsweredBy token v (Err disk_faults.Failed) w = (v.current.held ≤ token) × Rose v.faults w.faults
AnsweredBy token v (Err (disk_faults.Fenced held)) w = (token < v.current.held) × (held ≡ v.current.held)
