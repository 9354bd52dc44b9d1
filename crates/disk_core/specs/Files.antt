-- The meaning of a disk over a file, which tells neither its content nor which calls will fail.
use Rattle.std.specs.Prelude.{◌≡◌, ℕ, ◌≤◌, false, [], None, Result, Ok, Err, ⊤}
use Rattle.causes.specs.Counts.{Rose}
use Rattle.disk_core.specs.declared.fault.DiskFault.{DiskFault}
use Rattle.disk_core.specs.declared.fault.DiskFault.TheVariants.{Failed, Fenced}
use Rattle.disk_core.specs.Views.{DiskView}

pub record FileState : Type 0 where
  pub held : ℕ
  pub faults : ℕ

abbrev pub file_size : ℕ
file_size = 1_099_511_627_776

abbrev pub file_view : FileState → DiskView
file_view s = record {
  size = file_size;
  faults = s.faults;
  tells = false;
  current = record { seen = []; pending = []; held = s.held };
  past = [];
  plan = None;
}

-- A call that fails is counted; one that doesn't changes nothing that is told.
abbrev pub FailsAs : FileState → Result ⊤ DiskFault → FileState → Type 0
FailsAs s (Ok ok) t = t ≡ s
FailsAs s (Err Failed) t = (t.held ≡ s.held) × (s.faults ≤ t.faults) × Rose s.faults t.faults
FailsAs s (Err (Fenced held)) t = ⊥
