-- The present moment, and the moment of a crash, are among the moments.
use Rattle.std.proofs.Common.{◌≡◌, ℕ, zero, suc, IsTrue, Bool, not, ◌==◌, List, [], ◌∷◌, ◌++◌, length, get_or, refl, sym, ap, ◌∙◌, subst}
use Rattle.std.specs.Prelude.{min}
use Rattle.std.specs.List.{AllByRecursion}
use Rattle.disk_core.specs.Crashes.{Crashed, moment_at}
use Rattle.disk_core.specs.Images.{Moment}
use Rattle.disk_core.specs.Views.{DiskView, Passes, moments}
use Rattle.quorum_log.specs.Image.{Holds, other_of}
use Rattle.quorum_log.proofs.Moments.{settled_images}
use Rattle.log_order.specs.CrashLaws.{CrashedRefines, CrashedRefinesOne, Died, DiedAt, DiedRefines, PassedRefines, PassesNow, SameMoment}
use Rattle.log_order.specs.Refinement.{MayHold, MomentOf, MomentOfOne}

-- ---- the last of a list

abbrev last_or : {X : Type 0} → X → List X → X
last_or d [] = d
last_or d (x ∷ xs) = last_or x xs

ends : {X : Type 0} (d : X) (xs : List X) (x : X) → last_or d (xs ++ x ∷ []) ≡ x
ends d [] x = refl
ends d (y ∷ ys) x = ends y ys x

goes_on : {X : Type 0} (d : X) (before : List X) (x : X) (further : List X) → last_or d ((before ++ x ∷ []) ++ further) ≡ last_or x further
goes_on d [] x further = refl
goes_on d (y ∷ ys) x further = goes_on y ys x further

last_has : {X : Type 0} (P : X → Type 0) (x : X) (further : List X) → P x → AllByRecursion P further → P (last_or x further)
last_has P x [] first each = first
last_has P x (y ∷ ys) first each = last_has P y ys each.0 each.1

pub passes_now : (P : Moment → Type 0) (v w : DiskView) → Passes P v w → P w.current
passes_now P v w passes =
    let last : last_or v.current passes.further ≡ w.current = sym (goes_on v.current v.past v.current passes.further) ∙ ap (last_or v.current) (sym passes.goes_on) ∙ ends v.current w.past w.current in
    subst P last (last_has P v.current passes.further passes.first passes.each)

pub log_now : PassesNow
log_now logs v w passes = passes_now (MomentOfOne logs) v w passes

pub now_refines : PassedRefines
now_refines l v w tells passes = record { tells = tells; now = passes_now (MomentOf l) v w passes }

pub same_moment : SameMoment
same_moment l v w tells current refines =
    let told : IsTrue w.tells = subst (λ (b : Bool). IsTrue b) (sym tells) refines.tells in (
      record { tells = told; now = subst (MomentOf l) (sym current) refines.now },
      λ log o. record {
        claim = o.claim;
        sure = o.sure;
        found = o.found;
        stands = record {
          told = told;
          settled = subst (λ (m : Moment). m.pending ≡ []) (sym current) o.stands.settled;
          holds = subst (λ (m : Moment). Holds m.seen o.found) (sym current) o.stands.holds;
          cap = o.stands.cap;
          half = o.stands.half;
          version = o.stands.version;
          generation = o.stands.generation;
          base = o.stands.base;
          records = o.stands.records;
          tail = o.stands.tail;
          other = subst (λ (m : Moment). log.other_valid ≡ not (get_or m.seen (other_of o.found) 0 == 0)) (sym current) o.stands.other;
        };
        is = o.is;
      },
    )

-- ---- one of a list

get_has : {X : Type 0} (P : X → Type 0) (xs : List X) (i : ℕ) (d : X) → AllByRecursion P xs → P d → P (get_or xs i d)
get_has P [] i d all has = has
get_has P (x ∷ xs) zero d all has = all.0
get_has P (x ∷ xs) (suc i) d all has = get_has P xs i d all.1 has

-- from the mark on
all_moments : (P : Moment → Type 0) (v w : DiskView) → v.past ≡ [] → Passes P v w → AllByRecursion P (moments w)
all_moments P v w none passes =
    let from : AllByRecursion P ((v.past ++ v.current ∷ []) ++ passes.further) = subst (λ (ms : List Moment). AllByRecursion P ((ms ++ v.current ∷ []) ++ passes.further)) (sym none) (passes.first, passes.each) in
    subst (λ (ms : List Moment). AllByRecursion P ms) (sym passes.goes_on) from

pub died : (P : Moment → Type 0) (v w x : DiskView) (calls : ℕ) (bytes : List ℕ) → IsTrue w.tells → v.past ≡ [] → Passes P v w → Crashed w calls bytes x → DiedAt P bytes x
died P v w x calls bytes tells none passes crashed = record {
  moment = moment_at w calls;
  had = get_has P (moments w) (min calls (length w.past)) w.current (all_moments P v w none passes) (passes_now P v w passes);
  image = crashed.image tells;
  left = crashed.left tells;
}

pub log_died : Died
log_died logs v w x calls bytes tells none passes crashed = died (MomentOfOne logs) v w x calls bytes tells none passes crashed

-- ---- behind a crash nothing is pending

pub died_refines : DiedRefines
died_refines l m x bytes tells is image left =
    let none : x.current.pending ≡ [] = ap (λ (n : Moment). n.pending) left in
    let held : x.current.held ≡ m.held = ap (λ (n : Moment). n.held) left in
    record { tells = tells; now = (held ∙ is.0, settled_images (MayHold l) x.current none (is.1 x.current.seen image)) }

-- a crash leaves what it was that the disk tells
told_behind : (w x : DiskView) (calls : ℕ) (bytes : List ℕ) → IsTrue w.tells → Crashed w calls bytes x → IsTrue x.tells
told_behind w x calls bytes tells crashed = subst (λ (b : Bool). IsTrue b) (sym crashed.same.tells) tells

pub crashed_refines : CrashedRefines
crashed_refines l v w x calls bytes tells none passes crashed =
    let at = died (MomentOf l) v w x calls bytes tells none passes crashed in
    died_refines l at.moment x bytes (told_behind w x calls bytes tells crashed) at.had at.image at.left

pub crashed_refines_one : CrashedRefinesOne
crashed_refines_one logs v w x calls bytes tells none passes crashed =
    let at = died (MomentOfOne logs) v w x calls bytes tells none passes crashed in
    (at.had.0, died_refines (logs at.had.0) at.moment x bytes (told_behind w x calls bytes tells crashed) at.had.1 at.image at.left)
