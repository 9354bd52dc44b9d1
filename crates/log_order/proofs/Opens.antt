-- A log is opened for a view.
use Rattle.std.proofs.Common.{◌≡◌, ℕ, ◌+◌, inl, inr, Bool, true, false, [], ◌∷◌, ◌++◌, length, Option, Some, None, Result, Ok, Err, refl, sym, ap, ◌∙◌, subst, arith}
use Rattle.std.specs.Prelude.{⊤, if◌then◌else◌}
use Rattle.update_records.specs.Entry.{Entry}
use Rattle.disk_core.specs.declared.fault.DiskFault.{DiskFault}
use Rattle.disk_core.specs.declared.fault.DiskFault.TheVariants as disk_faults
use Rattle.disk_core.specs.Images.{Moment}
use Rattle.disk_core.specs.Views.{DiskView}
use Rattle.disk_core.specs.Calls.{claim, sync}
use Rattle.quorum_log.specs.declared.fault.OpenFault.TheVariants.{Failed, Fenced, Blank, BadImage, Memory}
use Rattle.quorum_log.specs.declared.found.Found.{Found}
use Rattle.quorum_log.specs.Faults.{open_fault}
use Rattle.quorum_log.specs.Image.{Holds}
use Rattle.quorum_log.specs.Logs.{LogValue, StandsFor}
use Rattle.quorum_log.specs.Opening.{IsInOpen}
use Rattle.quorum_log.proofs.Moments.{passes_weaken}
use Rattle.quorum_log.proofs.OneFault.{no_fault}
use Rattle.quorum_log.proofs.Opened.{taken_ok}
use Rattle.quorum_log.proofs.Unchanged.{opening_keeps}
use Rattle.cluster_rules.specs.Worlds.{Log, claimed, found_log, put, raise}
use Rattle.log_order.specs.Orders.{IsOrderOf}
use Rattle.log_order.specs.OpenLaws.{IsRecoveredLog, OpenFenced, OpenMoments, OpenRefines, OpenRefused}
use Rattle.log_order.specs.Refinement.{MomentOfOne, Refines}
use Rattle.log_order.proofs.Fencing.{fenced_keeps}
use Rattle.log_order.proofs.Owners.{now_held, owned, same_order, some_log}

-- ---- the log is recovered

-- The log value is that of the order, and nothing is in doubt.
record IsSure (l : Log) (x : Found) : Type 0 where
  sure : l.doubtful ≡ None
  is : IsOrderOf l.cap l.order x

-- the log that a recovery finds, where that record is in doubt
abbrev found_with : Bool → Log → Option Entry → Log
found_with found l doubtful = elim doubtful [
  | None ↦ l
  | Some e ↦ if found
      then record l { order = l.order ++ e ∷ []; view_at = put l.view_at (length l.order + 1) l.doubtful_view; doubtful = None }
      else record l { doubtful = None }
]

not_found : (l : Log) (x : Found) → IsOrderOf l.cap l.order x → IsSure (found_log false l) x
not_found l x is =
    elim l.doubtful as (λ o. l.doubtful ≡ o → IsSure (found_with false l o) x) [
      | None ↦ λ none. record { sure = none; is = is }
      | Some e ↦ λ some. record { sure = refl; is = is }
    ] refl

was_found : (l : Log) (e : Entry) (x : Found) → l.doubtful ≡ Some e → IsOrderOf l.cap (l.order ++ e ∷ []) x → IsSure (found_log true l) x
was_found l e x some is = subst (λ o. IsSure (found_with true l o) x) (sym some) (record { sure = refl; is = is })

recovered : (token : ℕ) (l : Log) (w : DiskView) (log : LogValue) (x : Found) (found : Bool) → IsSure (found_log found l) x → StandsFor log w x → log.claim ≡ token → w.current.held ≡ token
    → IsRecoveredLog token l w log
recovered token l w log x found is stands claimed_by held =
    let both = owned (claimed token (found_log found l)) w log x is.sure stands is.is claimed_by held in
    record { found = found; refines = both.0; owns = both.1 }

pub open_refines : OpenRefines
open_refines l v w token log x refines calls stands claimed_by held =
    let seen = opening_keeps token v w (Ok x) calls refines.tells in
    let holds : Holds v.current.seen x = subst (λ c. Holds c x) seen stands.holds in
    elim (now_held l v refines) [
      | inl old ↦ recovered token l w log x false (not_found l x (same_order l.cap l.order v.current.seen x holds old)) stands claimed_by held
      | inr new ↦ recovered token l w log x true (was_found l new.0 x new.1 (same_order l.cap (l.order ++ new.0 ∷ []) v.current.seen x holds new.2)) stands claimed_by held
    ]

-- ---- the moments meanwhile

open_moment : (l : Log) (v : DiskView) (token : ℕ) (m : Moment) → Refines l v → IsInOpen v.current token m → MomentOfOne (λ raised. raise raised token l) m
open_moment l v token m refines is = elim is.0 [
  | inl same ↦ (false, (same ∙ refines.now.0, λ c image. refines.now.1 c (is.1 c image)))
  | inr new ↦ (true, (new, λ c image. refines.now.1 c (is.1 c image)))
]

pub open_moments : OpenMoments
open_moments l v w token refines passes = passes_weaken (IsInOpen v.current token) (MomentOfOne (λ raised. raise raised token l)) v w (λ m is. open_moment l v token m refines is) passes

-- ---- the log isn't opened

pub open_refused : OpenRefused
open_refused l v w token Failed size refines least fails = inl refl
open_refused l v w token (Fenced held) size refines least fails =
    let low = fails.0 in
    let is = refines.now.0 in
    absurd (omega (arith, low, is, least))
open_refused l v w token Blank size refines least fails =
    let log = some_log l v.current.seen (now_held l v refines) in
    absurd (log.1.commit (fails.blank refines.tells))
open_refused l v w token (BadImage place) size refines least fails =
    let log = some_log l v.current.seen (now_held l v refines) in
    let whole = log.1.whole in
    absurd (no_fault v.current.seen v.size place log.0 log.1 (omega (arith, whole, size)) (fails.1 refines.tells))
open_refused l v w token Memory size refines least fails = inr refl

abbrev refused : DiskFault → Result ⊤ DiskFault
refused e = Err e

the_fault : (e f : DiskFault) → refused e ≡ refused f → e ≡ f
the_fault e f same = cc

pub open_fenced : OpenFenced
open_fenced token v w result low calls = elim calls [
  | inl went ↦ (let before = (taken_ok token v went.0 tt went.1).held_before in absurd (omega (arith, low, before)))
  | inr stopped ↦
      let kept = fenced_keeps (claim token) (sync token ∷ []) v w (Err stopped.0) low stopped.1 in
      (stopped.2 ∙ ap (λ e. Err (open_fault e)) (the_fault stopped.0 (disk_faults.Fenced v.current.held) kept.0), kept.1)
]
