-- Calls of the disk under a token that it has outgrown change nothing at any moment.
use Rattle.std.proofs.Common.{◌≡◌, ℕ, ◌-◌, ◌<◌, inl, inr, Bool, true, false, IsTrue, List, [], ◌∷◌, ◌++◌, Result, Ok, Err, refl, sym, ap, ◌∙◌, subst, arith}
use Rattle.std.specs.Prelude.{⊤}
use Rattle.disk_core.specs.declared.fault.DiskFault.{DiskFault}
use Rattle.disk_core.specs.declared.fault.DiskFault.TheVariants.{Failed, Fenced}
use Rattle.disk_core.specs.Images.{Moment, IsImage}
use Rattle.disk_core.specs.Views.{DiskView, Passes}
use Rattle.disk_core.specs.Calls.{Call, Made, Step, sync, token, write}
use Rattle.disk_core.specs.Crashes.{Crashed, after_crash}
use Rattle.quorum_log.specs.Changes.{closing}
use Rattle.quorum_log.specs.Layout.{half_at}
use Rattle.quorum_log.specs.Logs.{LogValue}
use Rattle.quorum_log.proofs.Moments.{only_image, passes_here, passes_step}
use Rattle.log_order.proofs.Crashes.{died, passes_now}
use Rattle.record_log.specs.declared.fault.AddFault.{AddFault}
use Rattle.record_log.specs.declared.fault.AddFault.TheVariants as add
use Rattle.record_log.specs.Adding.{Adds, AddsBehind, AppendsTo, CheckpointsTo}
use Rattle.world_laws.proofs.Quiet.{SameNow}

-- each moment is the first one
abbrev pub Stands : DiskView → DiskView → Type 0
Stands v w = Passes (λ m. m ≡ v.current) v w

pub stands_here : (v w : DiskView) → w ≡ v → Stands v w
stands_here v w e = subst (λ (u : DiskView). Stands v u) (sym e) (passes_here (λ m. m ≡ v.current) v refl)

pub stands_now : (v w : DiskView) → Stands v w → w.tells ≡ v.tells → SameNow v w
stands_now v w s tells = record { tells = tells; current = passes_now (λ m. m ≡ v.current) v w s }

refused_same : (c : Call) (v w : DiskView) (e : DiskFault) → token c < v.current.held → Step c v (Err e) w → w.current ≡ v.current
refused_same c v w Failed low step = let before = step.answer.0 in absurd (omega (arith, low, before))
refused_same c v w (Fenced held) low step = step.answer.2

pub fenced_stands : (c : Call) (cs : List Call) (v w : DiskView) (result : Result ⊤ DiskFault) → IsTrue v.tells → token c < v.current.held → Made (c ∷ cs) v result w → Stands v w
unfolding Made
fenced_stands c cs v w result tells low made = elim made [
  | inl done ↦ (let before = done.1.1.answer.0 in absurd (omega (arith, low, before)))
  | inr refused ↦ passes_step (λ m. m ≡ v.current) c v w (Err refused.0) tells refused.1 refl (refused_same c v w refused.0 low refused.1)
]

closing_stands : (valid : Bool) (c : Call) (cs : List Call) (at : ℕ) (v w : DiskView) (result : Result ⊤ DiskFault) → IsTrue v.tells → token c < v.current.held
    → Made (closing valid (token c) at ++ c ∷ cs) v result w → Stands v w
closing_stands true c cs at v w result tells low made = fenced_stands (write (token c) at (0 ∷ [])) (sync (token c) ∷ c ∷ cs) v w result tells low made
closing_stands false c cs at v w result tells low made = fenced_stands c cs v w result tells low made

-- ---- the calls of a log

-- what is left of a disk on which nothing changed
pub record Refused (v w : DiskView) : Type 0 where
  pub stands : Stands v w
  pub tells : w.tells ≡ v.tells

appends_refused : (log : LogValue) (bytes : List ℕ) (v w : DiskView) (r : Result LogValue AddFault) → IsTrue v.tells → log.claim < v.current.held → AppendsTo log bytes v r w → Refused v w
appends_refused log bytes v w (Ok new) tells low a = record { stands = fenced_stands _ _ v w _ tells low a.calls; tells = a.same.tells }
appends_refused log bytes v w (Err (add.Append fault)) tells low a = record { stands = fenced_stands _ _ v w _ tells low a.calls; tells = a.same.tells }
appends_refused log bytes v w (Err (add.Checkpoint fault)) tells low a = absurd a
appends_refused log bytes v w (Err add.Memory) tells low a = absurd a

pub checkpoints_refused : (log : LogValue) (state last : List ℕ) (v w : DiskView) (r : Result LogValue AddFault) → IsTrue v.tells → log.claim < v.current.held → CheckpointsTo log state last v r w → Refused v w
checkpoints_refused log state last v w (Ok new) tells low a = record {
  stands = closing_stands log.other_valid (write log.claim _ _) _ (half_at log.cap (1 - log.half)) v w _ tells low a.calls;
  tells = a.same.tells;
}
checkpoints_refused log state last v w (Err (add.Checkpoint fault)) tells low a = record {
  stands = closing_stands log.other_valid (write log.claim _ _) _ (half_at log.cap (1 - log.half)) v w _ tells low a.calls;
  tells = a.same.tells;
}
checkpoints_refused log state last v w (Err (add.Append fault)) tells low a = absurd a
checkpoints_refused log state last v w (Err add.Memory) tells low a = record { stands = stands_here v w a; tells = ap (λ (d : DiskView). d.tells) a }

behind_refused : (log : LogValue) (state last bytes : List ℕ) (v w : DiskView) (r : Result LogValue AddFault) → log.claim < v.current.held → AddsBehind log state last bytes v r w → ⊥
behind_refused log state last bytes v w r low a = let before = a.1.answer in omega (arith, low, before)

pub adds_refused : (due : Bool) (log : LogValue) (state last bytes : List ℕ) (v w : DiskView) (r : Result LogValue AddFault) → IsTrue v.tells → log.claim < v.current.held → Adds due log state last bytes v r w
    → Refused v w
adds_refused due log state last bytes v w (Err add.Memory) tells low a = record { stands = stands_here v w a; tells = ap (λ (d : DiskView). d.tells) a }
adds_refused true log state last bytes v w (Err (add.Checkpoint fault)) tells low a = checkpoints_refused log state last v w (Err (add.Checkpoint fault)) tells low a
adds_refused true log state last bytes v w (Ok new) tells low a = absurd (behind_refused log state last bytes v w (Ok new) low a)
adds_refused true log state last bytes v w (Err (add.Append fault)) tells low a = absurd (behind_refused log state last bytes v w (Err (add.Append fault)) low a)
adds_refused false log state last bytes v w (Ok new) tells low a = appends_refused log bytes v w (Ok new) tells low a
adds_refused false log state last bytes v w (Err (add.Append fault)) tells low a = appends_refused log bytes v w (Err (add.Append fault)) tells low a
adds_refused false log state last bytes v w (Err (add.Checkpoint fault)) tells low a = appends_refused log bytes v w (Err (add.Checkpoint fault)) tells low a

-- ---- a crash

-- where nothing was pending a crash leaves the disk as it was
pub crash_same : (v w x : DiskView) (calls : ℕ) (bytes : List ℕ) → IsTrue v.tells → w.tells ≡ v.tells → v.past ≡ [] → Stands v w → v.current.pending ≡ [] → Crashed w calls bytes x → x.current ≡ v.current
crash_same v w x calls bytes tells same none stands settled crashed =
    let told : IsTrue w.tells = subst (λ (b : Bool). IsTrue b) (sym same) tells in
    let at = died (λ m. m ≡ v.current) v w x calls bytes told none stands crashed in
    let left : x.current ≡ after_crash v.current bytes = at.left ∙ ap (λ (m : Moment). after_crash m bytes) at.had in
    let image : IsImage v.current x.current.seen = subst (λ (m : Moment). IsImage m x.current.seen) at.had at.image in
    let seen : x.current.seen ≡ v.current.seen = only_image v.current x.current.seen settled image in
    let pending : x.current.pending ≡ v.current.pending = ap (λ (m : Moment). m.pending) left ∙ sym settled in
    let held : x.current.held ≡ v.current.held = ap (λ (m : Moment). m.held) left in
    λ i. record { seen = seen i; pending = pending i; held = held i }
