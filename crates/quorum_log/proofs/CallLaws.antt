-- Lists of disk calls: the token that the disk holds meanwhile, and that it stays the same disk.
use Rattle.std.proofs.Common.{◌≡◌, ℕ, ◌+◌, Bool, true, false, IsTrue, List, [], ◌∷◌, ◌++◌, Result, Ok, Err, refl, sym, ap, ◌∙◌, subst, arith, inl, inr}
use Rattle.std.specs.Prelude.{⊤}
use Rattle.disk_core.specs.declared.fault.DiskFault.{DiskFault}
use Rattle.disk_core.specs.declared.fault.DiskFault.TheVariants.{Failed, Fenced}
use Rattle.disk_core.specs.Images.{Moment}
use Rattle.disk_core.specs.Views.{DiskView, Passes}
use Rattle.disk_core.specs.Calls.{Call, write, sync, claim, Step, Made, SameDisk}
use Rattle.quorum_log.specs.Changes.{closing}
use Rattle.quorum_log.proofs.Moments.{Carries, carries_first, passes_here, passes_step, passes_trans, step_told}

step_keeps : (n : ℕ) (c : Call) (v w : DiskView) (result : Result ⊤ DiskFault) → Carries n (c ∷ []) → Step c v result w → w.current.held ≡ v.current.held
step_keeps n (write m at bytes) v w (Ok ok) carried step = step.answer.1
step_keeps n (write m at bytes) v w (Err Failed) carried step = step.answer.2
step_keeps n (write m at bytes) v w (Err (Fenced held)) carried step = ap (λ (x : Moment). x.held) step.answer.2
step_keeps n (sync m) v w (Ok ok) carried step = step.answer.1
step_keeps n (sync m) v w (Err Failed) carried step = step.answer.2
step_keeps n (sync m) v w (Err (Fenced held)) carried step = ap (λ (x : Moment). x.held) step.answer.2
step_keeps n (claim m) v w result carried step = absurd carried

-- Writes and syncs leave the token that the disk holds.
pub made_held : (n : ℕ) (cs : List Call) (v w : DiskView) (result : Result ⊤ DiskFault) → Carries n cs → Made cs v result w → w.current.held ≡ v.current.held
unfolding Made
made_held n [] v w result carries made = ap (λ (d : DiskView). d.current.held) made.0
made_held n (c ∷ cs) v w result carries made =
    let parts = carries_first n c cs carries in
    elim made [
      | inl done ↦ made_held n cs done.0 w result parts.1 done.2 ∙ step_keeps n c v done.0 (Ok done.1.0) parts.0 done.1.1
      | inr refused ↦ step_keeps n c v w (Err refused.0) parts.0 refused.1
    ]

abbrev pub HasToken : ℕ → Moment → Type 0
HasToken held m = m.held ≡ held

pub made_token : (n held : ℕ) (cs : List Call) (v w : DiskView) (result : Result ⊤ DiskFault) → Carries n cs → IsTrue v.tells → v.current.held ≡ held → Made cs v result w → Passes (HasToken held) v w
unfolding Made
made_token n held [] v w result carries told is made = let P : DiskView → Type 0 = λ d. Passes (HasToken held) v d in subst P (sym made.0) (passes_here (HasToken held) v is)
made_token n held (c ∷ cs) v w result carries told is made =
    let parts = carries_first n c cs carries in
    elim made [
      | inl done ↦
          let u = done.0 in
          let step = done.1.1 in
          let still = step_keeps n c v u (Ok done.1.0) parts.0 step ∙ is in
          passes_trans (HasToken held) v u w (passes_step (HasToken held) c v u (Ok done.1.0) told step is still)
          (made_token n held cs u w result parts.1 (step_told c v u (Ok done.1.0) step told) still done.2)
      | inr refused ↦ passes_step (HasToken held) c v w (Err refused.0) told refused.1 is (step_keeps n c v w (Err refused.0) parts.0 refused.1 ∙ is)
    ]

pub same_disk-trans : (v m u : DiskView) → SameDisk v m → SameDisk m u → SameDisk v u
same_disk-trans v m u a b = record { size = b.size ∙ a.size; tells = b.tells ∙ a.tells; faults = omega (arith, a.faults, b.faults) }

pub made_same : (cs : List Call) (v w : DiskView) (result : Result ⊤ DiskFault) → Made cs v result w → SameDisk v w
unfolding Made
made_same [] v w result made =
    let P : DiskView → Type 0 = λ d. SameDisk v d in
    let here : SameDisk v v = record { size = refl; tells = refl; faults = omega arith } in
    subst P (sym made.0) here
made_same (c ∷ cs) v w result made = elim made [
  | inl done ↦ same_disk-trans v done.0 w done.1.1.same (made_same cs done.0 w result done.2)
  | inr refused ↦ refused.1.same
]

-- the calls of `append` carry one token
pub append_carries : (token tail : ℕ) (text : List ℕ) → Carries token (write token (tail + 1) text ∷ sync token ∷ write token tail (1 ∷ []) ∷ sync token ∷ [])
append_carries token tail text = (refl, (refl, (refl, (refl, tt))))

-- the calls of `checkpoint` do too
pub checkpoint_carries : (valid : Bool) (token at : ℕ) (text : List ℕ) → Carries token (closing valid token at ++ write token (at + 1) text ∷ sync token ∷ write token at (1 ∷ []) ∷ sync token ∷ [])
checkpoint_carries true token at text = (refl, (refl, (refl, (refl, (refl, (refl, tt))))))
checkpoint_carries false token at text = (refl, (refl, (refl, (refl, tt))))

pub append_held : (token tail : ℕ) (text : List ℕ) (v w : DiskView) (result : Result ⊤ DiskFault)
    → Made (write token (tail + 1) text ∷ sync token ∷ write token tail (1 ∷ []) ∷ sync token ∷ []) v result w → w.current.held ≡ v.current.held
append_held token tail text v w result made = made_held token _ v w result (append_carries token tail text) made

pub checkpoint_held : (valid : Bool) (token at : ℕ) (text : List ℕ) (v w : DiskView) (result : Result ⊤ DiskFault)
    → Made (closing valid token at ++ write token (at + 1) text ∷ sync token ∷ write token at (1 ∷ []) ∷ sync token ∷ []) v result w → w.current.held ≡ v.current.held
checkpoint_held valid token at text v w result made = made_held token _ v w result (checkpoint_carries valid token at text) made
