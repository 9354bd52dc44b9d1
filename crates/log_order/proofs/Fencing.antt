-- Calls under a token that the disk has outgrown.
use Rattle.std.proofs.Common.{◌≡◌, ◌<◌, true, false, [], ◌∷◌, Err, inl, inr, ap, ◌∙◌, arith}
use Rattle.disk_core.specs.declared.fault.DiskFault.{DiskFault}
use Rattle.disk_core.specs.declared.fault.DiskFault.TheVariants.{Failed, Fenced}
use Rattle.disk_core.specs.Views.{DiskView}
use Rattle.disk_core.specs.Calls.{Call, Made, Step, sync, token, write}
use Rattle.log_order.specs.CrashLaws.{CheckpointFenced, FencedKeeps}

refused_keeps : (c : Call) (v w : DiskView) (e : DiskFault) → token c < v.current.held → Step c v (Err e) w → (e ≡ Fenced v.current.held) × (w.current ≡ v.current)
refused_keeps c v w Failed low step = let before = step.answer.0 in absurd (omega (arith, low, before))
refused_keeps c v w (Fenced held) low step = (ap Fenced step.answer.1, step.answer.2)

pub fenced_keeps : FencedKeeps
unfolding Made
fenced_keeps c cs v w result low made = elim made [
  | inl done ↦ (let before = done.1.1.answer.0 in absurd (omega (arith, low, before)))
  | inr refused ↦ (let kept = refused_keeps c v w refused.0 low refused.1 in (refused.2 ∙ ap (λ e. Err e) kept.0, kept.1))
]

pub checkpoint_fenced : CheckpointFenced
checkpoint_fenced true c cs at v w result low made = fenced_keeps (write (token c) at (0 ∷ [])) (sync (token c) ∷ c ∷ cs) v w result low made
checkpoint_fenced false c cs at v w result low made = fenced_keeps c cs v w result low made
