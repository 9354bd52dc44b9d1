-- What a TcpDoor tells of itself.
use Rattle.std.specs.Prelude.{◌≡◌, ℕ, ◌+◌, ◌<◌, Bool, true, false, Result, Ok, Err, if◌then◌else◌}
use Rattle.edge_io.specs.declared.failed.Failed.{Failed}
use Rattle.edge_io.specs.Visits.{Faults, no_faults}

-- The calls that failed, how many connections it will still hand out, whether it listens at its address, whether a
-- connection is present, and whether it connects, in place of listening.
pub record Tcp : Type 0 where
  pub faults : Faults
  pub to_come : ℕ
  pub listens : Bool
  pub connected : Bool
  pub dials : Bool

abbrev pub fresh_tcp : ℕ → Tcp
fresh_tcp count = record { faults = no_faults; to_come = count; listens = false; connected = false; dials = false }

-- It hands out one connection, that which it makes.
abbrev pub fresh_dial : Tcp
fresh_dial = record { faults = no_faults; to_come = 1; listens = false; connected = false; dials = true }

-- A door that connects does so once, also where that fails.
abbrev pub to_come_after_fault : Tcp → ℕ
to_come_after_fault door = if door.dials then 0 else door.to_come

-- The connection is one of those to come, and it alone is present behind the call. There is none just where none is to
-- come.
abbrev pub IsConnected : Tcp → Result Bool Failed → Tcp → Type 0
IsConnected before (Ok true) now = (before.to_come ≡ now.to_come + 1) × (now.connected ≡ true)
IsConnected before (Ok false) now = (before.to_come ≡ 0) × (now.to_come ≡ 0) × (now.connected ≡ false)
IsConnected before (Err fault) now = (0 < before.to_come) × (now.to_come ≡ to_come_after_fault before) × (now.connected ≡ false)

-- A door that doesn't connect by itself listens where it has a connection.
abbrev pub IsAccepted : Tcp → Result Bool Failed → Tcp → Type 0
IsAccepted before (Ok true) now = IsConnected before (Ok true) now × (before.dials ≡ false → now.listens ≡ true)
IsAccepted before result now = IsConnected before result now

-- Nothing changed but the count of failed accepts, and that it may listen now.
pub record ListensOnly (old now : Tcp) : Type 0 where
  pub read : now.faults.read ≡ old.faults.read
  pub write : now.faults.write ≡ old.faults.write
  pub to_come : now.to_come ≡ old.to_come
  pub connected : now.connected ≡ old.connected
  pub dials : now.dials ≡ old.dials

-- Nothing changed but the counts of failed calls.
pub record FailsOnly (old now : Tcp) : Type 0 where
  pub to_come : now.to_come ≡ old.to_come
  pub listens : now.listens ≡ old.listens
  pub connected : now.connected ≡ old.connected
  pub dials : now.dials ≡ old.dials
