-- What recovering a log comes to.
use Rattle.std.specs.Prelude.{◌≡◌, ◌⊎◌, ◌↔◌, ℕ, ◌+◌, ◌<◌, ◌≤◌, Bool, IsTrue, length, slice_index, None, IfSome, Result, Ok, Err}
use Rattle.causes.specs.Counts.{Rose}
use Rattle.disk_core.specs.Views.{DiskView}
use Rattle.cluster_rules.specs.Machines.{replay}
use Rattle.quorum_log.specs.declared.found.Found.{Found}
use Rattle.quorum_log.specs.declared.fault.OpenFault.{OpenFault}
use Rattle.quorum_log.specs.Checks.{IsBadImage}
use Rattle.quorum_log.specs.Logs.{LogValue, IsWithinLimits, StandsFor, log_of}
use Rattle.quorum_log.specs.Opening.{WasRead}
use Rattle.log_contents.specs.declared.contents.LogContents.{LogContents}
use Rattle.log_contents.specs.Contents.{IsContents}
use Rattle.log_contents.specs.Faults.{IsFaultAt}
use Rattle.registry_machine.specs.Machine.{registry_machine, replicated}
use Rattle.record_log.specs.declared.recovered.Recovered.{Recovered}
use Rattle.record_log.specs.declared.fault.RecordFault.{RecordFault}
use Rattle.record_log.specs.declared.fault.RecordFault.TheVariants.{Failed, Fenced, Image, Memory}
use Rattle.record_log.specs.Faults.{record_fault}
use Rattle.log_order.specs.Orders.{last_behind}

-- What was recovered is what the log that was found holds: its records applied in turn to its state.
pub record IsRecovered (found : Found) (r : Recovered) : Type 0 where
  pub contents : LogContents
  pub holds : IsContents found contents
  pub count : r.count ≡ found.base + length found.records
  pub cap : r.cap ≡ found.cap
  pub last : r.last ≡ last_behind contents.last contents.records
  -- A record that was recovered stands at the end, and none was recovered exactly where there is none.
  pub last_place : IfSome r.last (λ e. e.place ≡ r.count)
  pub no_last : (r.last ≡ None) ↔ (r.count ≡ 0)
  pub registry : replicated r.registry ≡ replay registry_machine contents.records (replicated contents.registry)
  pub registry_cap : r.registry.cap ≡ r.cap

-- The log was recovered under this fencing token.
pub record HasOpened (claim : ℕ) (v : DiskView) (log : LogValue) (r : Recovered) (w : DiskView) : Type 0 where
  pub held_before : v.current.held ≤ claim
  pub held : w.current.held ≡ claim
  pub found : Found
  pub read : WasRead v found
  pub limits : IsWithinLimits found
  pub recovered : IsRecovered found r
  pub other_valid : Bool
  pub value : log ≡ log_of claim found other_valid
  pub stands : IsTrue v.tells → StandsFor log w found

-- The disk is blank, or its image fails a check there, or a part of the log that begins there doesn't decode.
abbrev pub IsBadLog : DiskView → ℕ → Type 0
IsBadLog v place =
    ((place ≡ 0) × (IsTrue v.tells → slice_index v.current.seen 0 ≡ 0))
    ⊎ ((IsTrue v.tells → IsBadImage v.current.seen v.size place)
    ⊎ ((found : Found) × WasRead v found × IsFaultAt found place))

abbrev pub OpensTo : ℕ → DiskView → Result (LogValue × Recovered) RecordFault → DiskView → Type 0
OpensTo claim v (Ok opened) w = HasOpened claim v opened.0 opened.1 w
OpensTo claim v (Err Failed) w = (v.current.held ≤ claim) × Rose v.faults w.faults
OpensTo claim v (Err (Fenced held)) w = (claim < v.current.held) × (held ≡ v.current.held)
OpensTo claim v (Err (Image place)) w = (v.current.held ≤ claim) × IsBadLog v place
OpensTo claim v (Err Memory) w = Unit {0}

-- What the log that was found decodes to, or its first part at fault; or memory ran out.
abbrev pub Decoding : Found → Result Recovered RecordFault → Type 0
Decoding found (Ok r) = IsRecovered found r
Decoding found (Err (Image place)) = IsFaultAt found place
Decoding found (Err Memory) = Unit {0}
Decoding found (Err fault) = ⊥

-- What recovering makes of the answer of the log below: the same fault, or what the log that was found decodes to.
abbrev pub ComesOf : Result Found OpenFault → Result (LogValue × Recovered) RecordFault → Type 0
ComesOf (Err fault) result = result ≡ Err (record_fault fault)
ComesOf (Ok found) (Ok opened) = Decoding found (Ok opened.1)
ComesOf (Ok found) (Err fault) = Decoding found (Err fault)
