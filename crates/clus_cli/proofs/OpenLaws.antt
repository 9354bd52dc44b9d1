-- What opening the log comes to.
use Rattle.std.proofs.Common.{ℕ, IsTrue, List, Err, Ok, refl, subst, inl, inr}
use Rattle.disk_core.specs.Views.{DiskView}
use Rattle.quorum_log.specs.declared.fault.OpenFault.{OpenFault}
use Rattle.quorum_log.specs.declared.fault.OpenFault.TheVariants as faults
use Rattle.quorum_log.specs.declared.found.Found.{Found}
use Rattle.quorum_log.specs.Image.{Holds}
use Rattle.quorum_log.specs.Logs.{LogValue, StandsFor}
use Rattle.quorum_log.specs.Opening.{OpenCalls, OpenFails}
use Rattle.quorum_log.proofs.Unchanged.{memory_behind_claim, opened_behind_claim, opening_keeps}
use Rattle.log_contents.specs.declared.fault.ContentsFault.{ContentsFault}
use Rattle.log_contents.specs.declared.fault.ContentsFault.TheVariants as contents_faults
use Rattle.log_contents.specs.Faults.{FailsOn}
use Rattle.clus_cli.specs.Showlog.{Refuses, contents_status, open_status}

pub opening_refused : (v w : DiskView) (fault : OpenFault) → OpenFails 1 v w fault → OpenCalls 1 v (Err fault) w → Refuses v (open_status fault) w
opening_refused v w faults.Failed fails calls = fails
opening_refused v w (faults.Fenced held) fails calls = fails
opening_refused v w faults.Blank fails calls = (fails.held_before, λ told. inl (fails.blank told, refl))
opening_refused v w (faults.BadImage place) fails calls = (fails.0, λ told. inr (inl (fails.1 told)))
opening_refused v w faults.Memory fails calls = memory_behind_claim 1 v w calls

-- The image from before holds the log that was found.
pub held_before : (v w : DiskView) (log : LogValue) (x : Found) → OpenCalls 1 v (Ok x) w → (IsTrue v.tells → StandsFor log w x) → IsTrue v.tells → Holds v.current.seen x
held_before v w log x calls stands told = subst (λ (image : List ℕ). Holds image x) (opening_keeps 1 v w (Ok x) calls told) (stands told).holds

pub contents_refused : (v w : DiskView) (log : LogValue) (x : Found) (fault : ContentsFault) → OpenCalls 1 v (Ok x) w → (IsTrue v.tells → StandsFor log w x)
    → FailsOn x fault → Refuses v (contents_status fault) w
contents_refused v w log x (contents_faults.Bad place) calls stands fails =
    (opened_behind_claim 1 v w x calls, λ told. inr (inr (x, held_before v w log x calls stands told, fails)))
contents_refused v w log x contents_faults.Memory calls stands fails = opened_behind_claim 1 v w x calls
