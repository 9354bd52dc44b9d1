-- What opening a log comes to for the log of the protocol.
use Rattle.std.specs.Prelude.{◌≡◌, ◌⊎◌, ℕ, ◌<◌, ◌≤◌, Bool, length, Result, Ok, Err}
use Rattle.disk_core.specs.Views.{DiskView, Passes}
use Rattle.quorum_log.specs.declared.fault.OpenFault.{OpenFault}
use Rattle.quorum_log.specs.declared.fault.OpenFault.TheVariants.{Failed, Fenced, Memory}
use Rattle.quorum_log.specs.declared.found.Found.{Found}
use Rattle.quorum_log.specs.Logs.{LogValue, StandsFor}
use Rattle.quorum_log.specs.Opening.{IsInOpen, OpenCalls, OpenFails}
use Rattle.cluster_rules.specs.Worlds.{Log, claimed, found_log, raise}
use Rattle.log_order.specs.Refinement.{MomentOfOne, Owns, Refines}

-- The log was opened under that token: the record in doubt was found in it or not, and the opener owns it from now on.
pub record IsRecoveredLog (token : ℕ) (l : Log) (w : DiskView) (log : LogValue) : Type 0 where
  pub found : Bool
  pub refines : Refines (claimed token (found_log found l)) w
  pub owns : Owns (claimed token (found_log found l)) w log

abbrev pub OpenRefines : Type 0
OpenRefines =
    (l : Log) (v w : DiskView) (token : ℕ) (log : LogValue) (x : Found)
    → Refines l v → OpenCalls token v (Ok x) w → StandsFor log w x → log.claim ≡ token → w.current.held ≡ token
    → IsRecoveredLog token l w log

-- At each moment meanwhile the view has claimed the log or not, and nothing else has become of it.
abbrev pub OpenMoments : Type 0
OpenMoments =
    (l : Log) (v w : DiskView) (token : ℕ) → Refines l v → Passes (IsInOpen v.current token) v w
    → Passes (MomentOfOne (λ raised. raise raised token l)) v w

-- A view that isn't below the token opens the log, unless a call of the disk failed or memory ran out.
abbrev pub OpenRefused : Type 0
OpenRefused =
    (l : Log) (v w : DiskView) (token : ℕ) (fault : OpenFault)
    → length v.current.seen ≡ v.size → Refines l v → l.held ≤ token → OpenFails token v w fault
    → (fault ≡ Failed) ⊎ (fault ≡ Memory)

-- A view below the token is refused, and nothing has changed.
abbrev pub OpenFenced : Type 0
OpenFenced =
    (token : ℕ) (v w : DiskView) (result : Result Found OpenFault) → token < v.current.held → OpenCalls token v result w
    → (result ≡ Err (Fenced v.current.held)) × (w.current ≡ v.current)
