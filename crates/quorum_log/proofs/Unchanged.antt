-- Opening a log changes nothing that a read gives, and what it answers behind its claim.
use Rattle.std.proofs.Common.{◌≡◌, ℕ, ◌≤◌, IsTrue, IsOk, Result, Ok, Err, [], ◌∷◌, ap, ◌∙◌, inl, inr}
use Rattle.std.specs.Prelude.{⊤}
use Rattle.disk_core.specs.declared.fault.DiskFault.{DiskFault}
use Rattle.disk_core.specs.declared.fault.DiskFault.TheVariants as disk_faults
use Rattle.disk_core.specs.Images.{Moment}
use Rattle.disk_core.specs.Views.{DiskView}
use Rattle.disk_core.specs.Calls.{Step, Made, sync, claim}
use Rattle.quorum_log.specs.declared.fault.OpenFault.{OpenFault}
use Rattle.quorum_log.specs.declared.fault.OpenFault.TheVariants as open_faults
use Rattle.quorum_log.specs.declared.found.Found.{Found}
use Rattle.quorum_log.specs.Faults.{open_fault}
use Rattle.quorum_log.specs.Opening.{OpenCalls, ReadsImage}
use Rattle.quorum_log.proofs.Moments.{step_told}
use Rattle.quorum_log.proofs.Opened.{taken_ok}

reads_keep : (u w : DiskView) (result : Result Found OpenFault) → ReadsImage u result w → w.current ≡ u.current
reads_keep u w result reads = elim reads.2 [
  | inl failed ↦ failed.1.current
  | inr read ↦ elim read [
    | inl stopped ↦ stopped.1.current
    | inr rest ↦ rest.second.current ∙ rest.first.current
  ]
]

claim_keeps : (n : ℕ) (v w : DiskView) (e : DiskFault) → IsTrue v.tells → Step (claim n) v (Err e) w → w.current ≡ v.current
claim_keeps n v w disk_faults.Failed told step = step.answer.3 told
claim_keeps n v w (disk_faults.Fenced held) told step = step.answer.2

sync_keeps : (n : ℕ) (v w : DiskView) (e : DiskFault) → IsTrue v.tells → Step (sync n) v (Err e) w → w.current ≡ v.current
sync_keeps n v w disk_faults.Failed told step = step.answer.3 told
sync_keeps n v w (disk_faults.Fenced held) told step = step.answer.2

refused : (e : DiskFault) → IsOk {T = ⊤} (Err e) → ⊥
refused e ok = cc

refused_keeps : (n : ℕ) (v w : DiskView) (e : DiskFault) → IsTrue v.tells → Made (claim n ∷ sync n ∷ []) v (Err e) w → w.current.seen ≡ v.current.seen
unfolding Made
refused_keeps n v w e told made = elim made [
  | inr fenced ↦ ap (λ (m : Moment). m.seen) (claim_keeps n v w fenced.0 told fenced.1)
  | inl first ↦
      let step = first.1.1 in
      elim first.2 [
        | inr unsure ↦
            let still = sync_keeps n first.0 w unsure.0 (step_told (claim n) v first.0 (Ok first.1.0) step told) unsure.1 in
            ap (λ (m : Moment). m.seen) still ∙ ap (λ (m : Moment). m.seen) (step.answer.2 told)
        | inl second ↦ absurd (refused e second.2.1)
      ]
]

pub opening_keeps : (n : ℕ) (v w : DiskView) (result : Result Found OpenFault) → OpenCalls n v result w → IsTrue v.tells → w.current.seen ≡ v.current.seen
opening_keeps n v w result calls told = elim calls [
  | inl went ↦ ap (λ (m : Moment). m.seen) (reads_keep went.0 w result went.2) ∙ (taken_ok n v went.0 tt went.1).seen told
  | inr stopped ↦ refused_keeps n v w stopped.0 told stopped.1
]

pub opened_behind_claim : (n : ℕ) (v w : DiskView) (x : Found) → OpenCalls n v (Ok x) w → v.current.held ≤ n
opened_behind_claim n v w x calls = elim calls [
  | inl went ↦ (taken_ok n v went.0 tt went.1).held_before
  | inr stopped ↦ absurd (cc (stopped.2))
]

no_memory_of : (e : DiskFault) → open_fault e ≡ open_faults.Memory → ⊥
no_memory_of disk_faults.Failed is = cc
no_memory_of (disk_faults.Fenced held) is = cc

pub memory_behind_claim : (n : ℕ) (v w : DiskView) → OpenCalls n v (Err open_faults.Memory) w → v.current.held ≤ n
memory_behind_claim n v w calls = elim calls [
  | inl went ↦ (taken_ok n v went.0 tt went.1).held_before
  | inr stopped ↦ absurd (no_memory_of stopped.0 (cc (stopped.2)))
]
