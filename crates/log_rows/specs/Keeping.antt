-- What is kept beside an open log.
use Rattle.std.specs.Prelude.{◌≡◌, ℕ, ◌+◌, length, Option, Some, None}
use Rattle.disk_core.specs.Views.{DiskView}
use Rattle.quorum_log.specs.declared.found.Found.{Found}
use Rattle.quorum_log.specs.Logs.{LogValue, StandsFor}

-- The log stands for what the disk holds, with this cap, and with so many records up to its last one.
pub record IsOpenOn (v : DiskView) (cap number : ℕ) (log : LogValue) : Type 0 where
  pub held : Found
  pub stands : StandsFor log v held
  pub cap_is : cap ≡ held.cap
  pub number_is : number ≡ held.base + length held.records

-- Where a log is open.
abbrev pub IsKept : Option LogValue → DiskView → ℕ → ℕ → Type 0
IsKept None v cap number = Unit {0}
IsKept (Some log) v cap number = IsOpenOn v cap number log
