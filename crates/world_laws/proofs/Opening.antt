-- The log is opened for a view: what a recovery finds, and what is left of the disk where it fails.
use Rattle.std.proofs.Common.{◌≡◌, ◌⊎◌, inl, inr, ℕ, ◌+◌, ◌<◌, Bool, true, false, IsTrue, List, [], ◌∷◌, ◌++◌, length, Option, Some, None, Result, Ok, Err, IsOk, refl, sym, ap, ◌∙◌, subst, arith}
use Rattle.std.specs.Prelude.{⊤, if◌then◌else◌}
use Rattle.std.specs.List.{AllByRecursion}
use Rattle.update_records.specs.Entry.{Entry, IsRecord}
use Rattle.disk_core.specs.declared.fault.DiskFault.{DiskFault}
use Rattle.disk_core.specs.declared.fault.DiskFault.TheVariants as disk_faults
use Rattle.disk_core.specs.Calls.{Made, Step, claim, sync}
use Rattle.disk_core.specs.Crashes.{Crashed}
use Rattle.disk_core.specs.Images.{IsImage, Moment}
use Rattle.disk_core.specs.Views.{DiskView, Passes}
use Rattle.quorum_log.specs.declared.fault.OpenFault.{OpenFault}
use Rattle.quorum_log.specs.declared.found.Found.{Found}
use Rattle.quorum_log.specs.Image.{Holds}
use Rattle.quorum_log.specs.Logs.{LogValue, StandsFor}
use Rattle.quorum_log.specs.Opening.{IsInOpen, OpenCalls, ReadsImage}
use Rattle.quorum_log.proofs.CallLaws.{made_same}
use Rattle.quorum_log.proofs.Moments.{only_image}
use Rattle.quorum_log.proofs.Opened.{taken_ok}
use Rattle.quorum_log.proofs.Unchanged.{opening_keeps}
use Rattle.cluster_rules.specs.Joins.{last_of}
use Rattle.cluster_rules.specs.Machines.{registry_at}
use Rattle.cluster_rules.specs.Worlds.{Log, claimed, found_log, put, raise}
use Rattle.registry_machine.specs.Machine.{registry_machine, replicated}
use Rattle.log_order.specs.Orders.{IsOrderOf}
use Rattle.log_order.specs.Refinement.{MayHold, MomentOf, Owns, Refines}
use Rattle.log_order.proofs.Crashes.{died, died_refines, passes_now}
use Rattle.log_order.proofs.Owners.{now_held, owned, same_order}
use Rattle.log_order.proofs.Steps.{order_recovered}
use Rattle.record_log.specs.Opening.{IsRecovered}
use Rattle.record_log.specs.declared.recovered.Recovered.{Recovered}
use Rattle.world_laws.proofs.Refusing.{Stands, fenced_stands}

-- ---- what is the same behind the calls

reads_same : (u w : DiskView) (result : Result Found OpenFault) → ReadsImage u result w → (w.current ≡ u.current) × (w.tells ≡ u.tells)
reads_same u w result reads = elim reads.2 [
  | inl failed ↦ (failed.1.current, failed.1.same.tells)
  | inr read ↦ elim read [
    | inl stopped ↦ (stopped.1.current, stopped.1.same.tells)
    | inr rest ↦ (rest.second.current ∙ rest.first.current, rest.second.same.tells ∙ rest.first.same.tells)
  ]
]

pub open_tells : (n : ℕ) (v w : DiskView) (result : Result Found OpenFault) → OpenCalls n v result w → w.tells ≡ v.tells
open_tells n v w result calls = elim calls [
  | inl went ↦ (reads_same went.0 w result went.2).1 ∙ (made_same (claim n ∷ sync n ∷ []) v went.0 (Ok tt) went.1).tells
  | inr stopped ↦ (made_same (claim n ∷ sync n ∷ []) v w (Err stopped.0) stopped.1).tells
]

claim_keeps : (n : ℕ) (v w : DiskView) (e : DiskFault) → IsTrue v.tells → Step (claim n) v (Err e) w → w.current ≡ v.current
claim_keeps n v w disk_faults.Failed told step = step.answer.3 told
claim_keeps n v w (disk_faults.Fenced held) told step = step.answer.2

sync_token : (n : ℕ) (v w : DiskView) (e : DiskFault) → Step (sync n) v (Err e) w → w.current.held ≡ v.current.held
sync_token n v w disk_faults.Failed step = step.answer.2
sync_token n v w (disk_faults.Fenced held) step = ap (λ (m : Moment). m.held) step.answer.2

refuted : (e : DiskFault) → IsOk {T = ⊤} (Err e) → ⊥
refuted e ok = cc

made_either : (n : ℕ) (v w : DiskView) (e : DiskFault) → IsTrue v.tells → Made (claim n ∷ sync n ∷ []) v (Err e) w → (w.current ≡ v.current) ⊎ (w.current.held ≡ n)
unfolding Made
made_either n v w e told made = elim made [
  | inr stopped ↦ inl (claim_keeps n v w stopped.0 told stopped.1)
  | inl first ↦ elim first.2 [
    | inr unsure ↦ inr (sync_token n first.0 w unsure.0 unsure.1 ∙ first.1.1.answer.1)
    | inl second ↦ absurd (refuted e second.2.1)
  ]
]

-- the log wasn't claimed, and then nothing has changed, or it was
pub open_either : (n : ℕ) (v w : DiskView) (result : Result Found OpenFault) → IsTrue v.tells → OpenCalls n v result w → (w.current ≡ v.current) ⊎ (w.current.held ≡ n)
open_either n v w result told calls = elim calls [
  | inl went ↦ inr (ap (λ (m : Moment). m.held) (reads_same went.0 w result went.2).0 ∙ (taken_ok n v went.0 tt went.1).held)
  | inr stopped ↦ made_either n v w stopped.0 told stopped.1
]

-- a token that the disk has outgrown claims nothing at any moment
pub open_stands : (n : ℕ) (v w : DiskView) (result : Result Found OpenFault) → IsTrue v.tells → n < v.current.held → OpenCalls n v result w → Stands v w
open_stands n v w result told low calls = elim calls [
  | inl went ↦ (let before = (taken_ok n v went.0 tt went.1).held_before in absurd (omega (arith, low, before)))
  | inr stopped ↦ fenced_stands (claim n) (sync n ∷ []) v w (Err stopped.0) told low stopped.1
]

-- ---- it fails behind the claim

raised_moment : (l : Log) (token : ℕ) (m : Moment) → m.held ≡ token → ((c : List ℕ) → IsImage m c → MayHold l c) → MomentOf (raise true token l) m
raised_moment l token m held images = (held, images)

pub raised_refines : (l : Log) (v w : DiskView) (token : ℕ) → Refines l v → w.tells ≡ v.tells → w.current.held ≡ token → Passes (IsInOpen v.current token) v w → Refines (raise true token l) w
raised_refines l v w token refines tells held passes =
    let now = passes_now (IsInOpen v.current token) v w passes in
    record {
      tells = subst (λ (b : Bool). IsTrue b) (sym tells) refines.tells;
      now = raised_moment l token w.current held (λ c image. refines.now.1 c (now.1 c image));
    }

-- ---- it is recovered

-- The log value is that of the order that was found, and nothing is in doubt.
pub record IsFoundAs (l : Log) (found : Bool) (x : Found) : Type 0 where
  pub sure : (found_log found l).doubtful ≡ None
  pub cap_is : (found_log found l).cap ≡ l.cap
  pub held : (found_log found l).held ≡ l.held
  pub is : IsOrderOf (found_log found l).cap (found_log found l).order x
  pub grows : ((found_log found l).order ≡ l.order) ⊎ ((e : Entry) × ((found_log found l).order ≡ l.order ++ e ∷ []))

abbrev found_with : Bool → Log → Option Entry → Log
found_with found l doubtful = elim doubtful [
  | None ↦ l
  | Some e ↦ if found
      then record l { order = l.order ++ e ∷ []; view_at = put l.view_at (length l.order + 1) l.doubtful_view; doubtful = None }
      else record l { doubtful = None }
]

record FoundWith (l : Log) (f : Log) (x : Found) : Type 0 where
  sure : f.doubtful ≡ None
  cap_is : f.cap ≡ l.cap
  held : f.held ≡ l.held
  is : IsOrderOf f.cap f.order x
  grows : (f.order ≡ l.order) ⊎ ((e : Entry) × (f.order ≡ l.order ++ e ∷ []))

without : (l : Log) (x : Found) (o : Option Entry) → l.doubtful ≡ o → IsOrderOf l.cap l.order x → FoundWith l (found_with false l o) x
without l x None none is = record { sure = none; cap_is = refl; held = refl; is = is; grows = inl refl }
without l x (Some e) some is = record { sure = refl; cap_is = refl; held = refl; is = is; grows = inl refl }

found_as : (l : Log) (found : Bool) (x : Found) → FoundWith l (found_with found l l.doubtful) x → IsFoundAs l found x
found_as l found x f = record { sure = f.sure; cap_is = f.cap_is; held = f.held; is = f.is; grows = f.grows }

with_doubt : (l : Log) (x : Found) (e : Entry) → l.doubtful ≡ Some e → IsOrderOf l.cap (l.order ++ e ∷ []) x → FoundWith l (found_with true l l.doubtful) x
with_doubt l x e some is = subst (λ (o : Option Entry). FoundWith l (found_with true l o) x) (sym some) (record { sure = refl; cap_is = refl; held = refl; is = is; grows = inr (e, refl) })

-- what is found in what a read of the disk gives
pub finds : (l : Log) (v : DiskView) (x : Found) → Refines l v → Holds v.current.seen x → (found : Bool) × IsFoundAs l found x
finds l v x refines holds = elim (now_held l v refines) [
  | inl old ↦ (false, found_as l false x (without l x l.doubtful refl (same_order l.cap l.order v.current.seen x holds old)))
  | inr new ↦ (true, found_as l true x (with_doubt l x new.0 new.1 (same_order l.cap (l.order ++ new.0 ∷ []) v.current.seen x holds new.2)))
]

pub record IsOpened (l : Log) (token : ℕ) (w : DiskView) (log : LogValue) (x : Found) : Type 0 where
  pub found : Bool
  pub as_ : IsFoundAs l found x
  pub refines : Refines (claimed token (found_log found l)) w
  pub owns : Owns (claimed token (found_log found l)) w log

pub opens : (l : Log) (v w : DiskView) (token : ℕ) (log : LogValue) (x y : Found) → Refines l v → OpenCalls token v (Ok y) w → StandsFor log w x → log.claim ≡ token → w.current.held ≡ token → IsOpened l token w log x
opens l v w token log x y refines calls stands claimed_by held =
    let seen = opening_keeps token v w (Ok y) calls refines.tells in
    let holds : Holds v.current.seen x = subst (λ (c : List ℕ). Holds c x) seen stands.holds in
    let f = finds l v x refines holds in
    let both = owned (claimed token (found_log f.0 l)) w log x f.1.sure stands f.1.is claimed_by held in
    record { found = f.0; as_ = f.1; refines = both.0; owns = both.1 }

-- what was decoded is the order's
pub record IsAll (cap : ℕ) (order : List Entry) (r : Recovered) : Type 0 where
  pub count : r.count ≡ length order
  pub cap_is : r.cap ≡ cap
  pub last : r.last ≡ last_of order
  pub registry : replicated r.registry ≡ registry_at registry_machine cap order (length order)

pub recovered_all : (cap : ℕ) (order : List Entry) (x : Found) (r : Recovered) → AllByRecursion IsRecord order → IsOrderOf cap order x → IsRecovered x r → IsAll cap order r
recovered_all cap order x r all is rec =
    let o = order_recovered cap order x rec.contents all is rec.holds in
    record { count = rec.count ∙ is.counted; cap_is = rec.cap ∙ is.cap_is; last = rec.last ∙ o.last; registry = rec.registry ∙ o.registry }

-- ---- a crash inside it

-- Nothing of the log has changed but, perhaps, its token, and where that hasn't and nothing was pending the disk is as before.
pub record DiedOpening (l : Log) (v x : DiskView) (token : ℕ) : Type 0 where
  pub raised : Bool
  pub refines : Refines (raise raised token l) x
  pub same : raised ≡ false → v.current.pending ≡ [] → x.current ≡ v.current

pub dies_opening : (l : Log) (v w x : DiskView) (token calls : ℕ) (bytes : List ℕ) → Refines l v → w.tells ≡ v.tells → v.past ≡ [] → Passes (IsInOpen v.current token) v w → Crashed w calls bytes x
    → DiedOpening l v x token
dies_opening l v w x token calls bytes refines tells none passes crashed =
    let told : IsTrue w.tells = subst (λ (b : Bool). IsTrue b) (sym tells) refines.tells in
    let at = died (IsInOpen v.current token) v w x calls bytes told none passes crashed in
    let told' : IsTrue x.tells = subst (λ (b : Bool). IsTrue b) (sym crashed.same.tells) told in
    let images : (c : List ℕ) → IsImage at.moment c → MayHold l c = λ c image. refines.now.1 c (at.had.1 c image) in
    elim at.had.0 [
      | inl old ↦ record {
        raised = false;
        refines = died_refines l at.moment x bytes told' (old ∙ refines.now.0, images) at.image at.left;
        same = λ e settled.
            let seen : x.current.seen ≡ v.current.seen = only_image v.current x.current.seen settled (at.had.1 x.current.seen at.image) in
            let pending : x.current.pending ≡ v.current.pending = ap (λ (m : Moment). m.pending) at.left ∙ sym settled in
            let held : x.current.held ≡ v.current.held = ap (λ (m : Moment). m.held) at.left ∙ old in
            λ i. record { seen = seen i; pending = pending i; held = held i };
      }
      | inr new ↦ record {
        raised = true;
        refines = died_refines (raise true token l) at.moment x bytes told' (new, images) at.image at.left;
        same = λ e settled. absurd (cc);
      }
    ]
