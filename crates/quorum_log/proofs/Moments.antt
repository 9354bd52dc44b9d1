-- Lists of disk calls: what each image of each moment is while they are made.
use Rattle.std.proofs.Common.{◌≡◌, ℕ, ◌≤◌, ◌⊎◌, inl, inr, Bool, IsTrue, List, [], ◌∷◌, ◌++◌, length, Result, Ok, Err, IsOk, refl, sym, ap, ◌∙◌, subst, arith, append_assoc}
use Rattle.std.specs.Prelude.{⊤}
use Rattle.std.proofs.lemmas.List.{append-nil, append_cancel_left, ext_get_or}
use Rattle.std.specs.List.{AllByRecursion}
use Rattle.causes.specs.Counts.{Rose}
use Rattle.disk_core.specs.declared.fault.DiskFault.{DiskFault}
use Rattle.disk_core.specs.declared.fault.DiskFault.TheVariants.{Failed, Fenced}
use Rattle.disk_core.specs.declared.span.Span.{Span}
use Rattle.disk_core.specs.Images.{Moment, Has, SameOutside, IsFree, IsImage, EachImage}
use Rattle.disk_core.specs.Views.{DiskView, moments, Passes}
use Rattle.disk_core.specs.Calls.{Call, write, sync, claim, Step, Made}
use Rattle.quorum_log.specs.Faults.{AnsweredBy}

-- where nothing is pending, the one image is what a read gives
pub only_image : (m : Moment) (c : List ℕ) → m.pending ≡ [] → IsImage m c → c ≡ m.seen
only_image m c none image =
    let free : (i : ℕ) → IsFree m.pending i = λ i. (let P : List Span → Type 0 = λ rs. IsFree rs i in subst P (sym none) tt) in
    ext_get_or 0 c m.seen image.size (λ i below. image.outside i (free i))

pub settled_images : (P : List ℕ → Type 0) (m : Moment) → m.pending ≡ [] → P m.seen → EachImage P m
settled_images P m none p = λ c image. subst P (sym (only_image m c none image)) p

All-append : {X : Type 0} (P : X → Type 0) (xs ys : List X) → AllByRecursion P xs → AllByRecursion P ys → AllByRecursion P (xs ++ ys)
All-append P [] ys a b = b
All-append P (x ∷ xs) ys a b = (a.0, All-append P xs ys a.1 b)

All-weaken : {X : Type 0} (P Q : X → Type 0) (xs : List X) → ((x : X) → P x → Q x) → AllByRecursion P xs → AllByRecursion Q xs
All-weaken P Q [] f a = tt
All-weaken P Q (x ∷ xs) f a = (f x a.0, All-weaken P Q xs f a.1)

pub passes_here : (P : Moment → Type 0) (v : DiskView) → P v.current → Passes P v v
passes_here P v p = record { further = []; goes_on = sym (append-nil (moments v)); first = p; each = tt }

pub passes_trans : (P : Moment → Type 0) (v u w : DiskView) → Passes P v u → Passes P u w → Passes P v w
passes_trans P v u w a b = record {
  further = a.further ++ b.further;
  goes_on = b.goes_on ∙ ap (λ ms. ms ++ b.further) a.goes_on ∙ append_assoc (moments v) a.further b.further;
  first = a.first;
  each = All-append P a.further b.further a.each b.each;
}

pub passes_weaken : (P Q : Moment → Type 0) (v w : DiskView) → ((m : Moment) → P m → Q m) → Passes P v w → Passes Q v w
passes_weaken P Q v w f a = record { further = a.further; goes_on = a.goes_on; first = f v.current a.first; each = All-weaken P Q a.further f a.each }

pub images_weaken : (P Q : List ℕ → Type 0) (v w : DiskView) → ((c : List ℕ) → P c → Q c) → Passes (EachImage P) v w → Passes (EachImage Q) v w
images_weaken P Q v w f a = passes_weaken (EachImage P) (EachImage Q) v w (λ m p c image. f c (p c image)) a

All-both : {X : Type 0} (P Q : X → Type 0) (xs : List X) → AllByRecursion P xs → AllByRecursion Q xs → AllByRecursion (λ x. P x × Q x) xs
All-both P Q [] a b = tt
All-both P Q (x ∷ xs) a b = ((a.0, b.0), All-both P Q xs a.1 b.1)

-- the same moments have both
pub passes_both : (P Q : Moment → Type 0) (v w : DiskView) → Passes P v w → Passes Q v w → Passes (λ m. P m × Q m) v w
passes_both P Q v w a b =
    let same : b.further ≡ a.further = append_cancel_left (moments v) b.further a.further (sym b.goes_on ∙ a.goes_on) in
    let R : List Moment → Type 0 = λ ms. AllByRecursion Q ms in
    record { further = a.further; goes_on = a.goes_on; first = (a.first, b.first); each = All-both P Q a.further a.each (subst R same b.each) }

same_moments : (v w : DiskView) → w.past ≡ v.past → w.current ≡ v.current → moments w ≡ moments v
same_moments v w past current = cc

-- one call
pub passes_step : (P : Moment → Type 0) (c : Call) (v w : DiskView) (result : Result ⊤ DiskFault) → IsTrue v.tells → Step c v result w → P v.current → P w.current → Passes P v w
passes_step P c v w result told step before after = elim (step.time told) [
  | inl next ↦ record { further = w.current ∷ []; goes_on = ap (λ ms. ms ++ w.current ∷ []) next; first = before; each = (after, tt) }
  | inr same ↦ record { further = []; goes_on = same_moments v w same.0 same.1 ∙ sym (append-nil (moments v)); first = before; each = tt }
]

pub step_told : (c : Call) (v w : DiskView) (result : Result ⊤ DiskFault) → Step c v result w → IsTrue v.tells → IsTrue w.tells
step_told c v w result step told = let P : Bool → Type 0 = λ b. IsTrue b in subst P (sym step.same.tells) told

-- places outside of one range
pub same_outside-trans : (at count : ℕ) (a b c : List ℕ) → SameOutside at count a b → SameOutside at count b c → SameOutside at count a c
same_outside-trans at count a b c p q = record { size = q.size ∙ p.size; each = λ i out. q.each i out ∙ p.each i out }

pub same_outside-here : (at count : ℕ) (a : List ℕ) → SameOutside at count a a
same_outside-here at count a = record { size = refl; each = λ i out. refl }

-- an image while one range alone is pending
torn_image : (at count : ℕ) (old : List ℕ) (m : Moment) → m.pending ≡ record { at = at; len = count } ∷ [] → SameOutside at count old m.seen → (c : List ℕ) → IsImage m c → SameOutside at count old c
torn_image at count old m pending same c image = record {
  size = image.size ∙ same.size;
  each = λ i out.
      let free : IsFree m.pending i = (let P : List Span → Type 0 = λ rs. IsFree rs i in subst P (sym pending) (out, tt)) in
      image.outside i free ∙ same.each i out;
}

one_pending : (m m' : Moment) (r : Span) → m.pending ≡ [] → m'.pending ≡ m.pending ++ r ∷ [] → m'.pending ≡ r ∷ []
one_pending m m' r none more = more ∙ ap (λ rs. rs ++ r ∷ []) none

-- The bytes were written there, and nothing else has changed or is pending.
pub record Put (at : ℕ) (bytes : List ℕ) (v u : DiskView) : Type 0 where
  pub told : IsTrue u.tells
  pub size : u.size ≡ v.size
  pub settled : u.current.pending ≡ []
  pub held : u.current.held ≡ v.current.held
  pub has : Has u.current.seen at bytes
  pub same : SameOutside at (length bytes) v.current.seen u.current.seen

refused_write : (P : List ℕ → Type 0) (n at : ℕ) (bytes : List ℕ) (v w : DiskView) (e : DiskFault) → IsTrue v.tells → v.current.pending ≡ []
    → ((c : List ℕ) → SameOutside at (length bytes) v.current.seen c → P c) → Step (write n at bytes) v (Err e) w → EachImage P w.current
refused_write P n at bytes v w Failed told none torn step = elim (step.answer.3 told) [
  | inl tears ↦ λ c image. torn c (torn_image at (length bytes) v.current.seen w.current (one_pending v.current w.current (record { at = at; len = length bytes }) none tears.pending) tears.outside c image)
  | inr same ↦ (let Q : Moment → Type 0 = EachImage P in subst Q (sym same) (settled_images P v.current none (torn v.current.seen (same_outside-here at (length bytes) v.current.seen))))
]
refused_write P n at bytes v w (Fenced held) told none torn step =
    let Q : Moment → Type 0 = EachImage P in subst Q (sym step.answer.2) (settled_images P v.current none (torn v.current.seen (same_outside-here at (length bytes) v.current.seen)))

refused_sync : (P : List ℕ → Type 0) (n : ℕ) (v w : DiskView) (e : DiskFault) → IsTrue v.tells → Step (sync n) v (Err e) w → EachImage P v.current → EachImage P w.current
refused_sync P n v w Failed told step before = let Q : Moment → Type 0 = EachImage P in subst Q (sym (step.answer.3 told)) before
refused_sync P n v w (Fenced held) told step before = let Q : Moment → Type 0 = EachImage P in subst Q (sym step.answer.2) before

-- a write and its sync
pub pair : (P : List ℕ → Type 0) (n at : ℕ) (bytes : List ℕ) (cs : List Call) (v w : DiskView) (result : Result ⊤ DiskFault)
    → IsTrue v.tells → v.current.pending ≡ [] → ((c : List ℕ) → SameOutside at (length bytes) v.current.seen c → P c)
    → Made (write n at bytes ∷ sync n ∷ cs) v result w
    → (Passes (EachImage P) v w × ((e : DiskFault) × (result ≡ Err e))) ⊎ ((u : DiskView) × Put at bytes v u × Passes (EachImage P) v u × Made cs u result w)
unfolding Made
pair P n at bytes cs v w result told none torn made =
    let before : EachImage P v.current = settled_images P v.current none (torn v.current.seen (same_outside-here at (length bytes) v.current.seen)) in
    elim made [
      | inr refused ↦ inl (passes_step (EachImage P) (write n at bytes) v w (Err refused.0) told refused.1 before (refused_write P n at bytes v w refused.0 told none torn refused.1), (refused.0, refused.2))
      | inl written ↦
          let m = written.0 in
          let step = written.1.1 in
          let puts = step.answer.2 told in
          let told' = step_told (write n at bytes) v m (Ok written.1.0) step told in
          let images : EachImage P m.current = λ c image. torn c (torn_image at (length bytes) v.current.seen m.current (one_pending v.current m.current (record { at = at; len = length bytes }) none puts.pending) puts.outside c image) in
          let first : Passes (EachImage P) v m = passes_step (EachImage P) (write n at bytes) v m (Ok written.1.0) told step before images in
          elim written.2 [
            | inr refused ↦ inl (passes_trans (EachImage P) v m w first (passes_step (EachImage P) (sync n) m w (Err refused.0) told' refused.1 images (refused_sync P n m w refused.0 told' refused.1 images)), (refused.0, refused.2))
            | inl synced ↦
                let u = synced.0 in
                let sure = synced.1.1 in
                let done = sure.answer.2 told' in
                let seen : u.current.seen ≡ m.current.seen = ap (λ (x : Moment). x.seen) done in
                let settled : u.current.pending ≡ [] = ap (λ (x : Moment). x.pending) done in
                let same : SameOutside at (length bytes) v.current.seen u.current.seen = (let Q : List ℕ → Type 0 = λ c. SameOutside at (length bytes) v.current.seen c in subst Q (sym seen) puts.outside) in
                let has : Has u.current.seen at bytes = (let Q : List ℕ → Type 0 = λ c. Has c at bytes in subst Q (sym seen) puts.put) in
                let put : Put at bytes v u = record {
                  told = step_told (sync n) m u (Ok synced.1.0) sure told';
                  size = sure.same.size ∙ step.same.size;
                  settled = settled;
                  held = sure.answer.1 ∙ step.answer.1;
                  has = has;
                  same = same;
                } in
                let last : EachImage P u.current = settled_images P u.current settled (torn u.current.seen same) in
                inr (u, put, passes_trans (EachImage P) v m u first (passes_step (EachImage P) (sync n) m u (Ok synced.1.0) told' sure images last), synced.2)
          ]
    ]

-- each of the calls is a write or a sync under this number
abbrev pub Carries : ℕ → List Call → Type 0
Carries n [] = Unit {0}
Carries n (write m at bytes ∷ cs) = (m ≡ n) × Carries n cs
Carries n (sync m ∷ cs) = (m ≡ n) × Carries n cs
Carries n (claim m ∷ cs) = ⊥

ok_answer : (n : ℕ) (v w : DiskView) (result : Result ⊤ DiskFault) → IsOk result → v.current.held ≤ n → AnsweredBy n v result w
ok_answer n v w (Ok ok) is held = held
ok_answer n v w (Err e) is held = cc

pub step_held : (n : ℕ) (c : Call) (v w : DiskView) (ok : ⊤) → Carries n (c ∷ []) → Step c v (Ok ok) w → (v.current.held ≤ n) × (w.current.held ≡ v.current.held)
step_held n (write m at bytes) v w ok carried step = (rw (← carried.0) step.answer.0, step.answer.1)
step_held n (sync m) v w ok carried step = (rw (← carried.0) step.answer.0, step.answer.1)
step_held n (claim m) v w ok carried step = absurd carried

step_refused : (n : ℕ) (c : Call) (v w : DiskView) (e : DiskFault) → Carries n (c ∷ []) → Step c v (Err e) w → AnsweredBy n v (Err e) w
step_refused n (write m at bytes) v w Failed carried step = (rw (← carried.0) step.answer.0, step.answer.1)
step_refused n (write m at bytes) v w (Fenced held) carried step = (rw (← carried.0) step.answer.0, step.answer.1)
step_refused n (sync m) v w Failed carried step = (rw (← carried.0) step.answer.0, step.answer.1)
step_refused n (sync m) v w (Fenced held) carried step = (rw (← carried.0) step.answer.0, step.answer.1)
step_refused n (claim m) v w e carried step = absurd carried

pub carries_first : (n : ℕ) (c : Call) (cs : List Call) → Carries n (c ∷ cs) → Carries n (c ∷ []) × Carries n cs
carries_first n (write m at bytes) cs carried = ((carried.0, tt), carried.1)
carries_first n (sync m) cs carried = ((carried.0, tt), carried.1)
carries_first n (claim m) cs carried = absurd carried

pub rose_before : (a b c : ℕ) → a ≤ b → Rose b c → Rose a c
rose_before a b c later rose = omega arith

-- an answer to later calls is one to all of them
answered_before : (n : ℕ) (v u w : DiskView) (result : Result ⊤ DiskFault) → v.current.held ≤ n → u.current.held ≡ v.current.held → v.faults ≤ u.faults → AnsweredBy n u result w → AnsweredBy n v result w
answered_before n v u w (Ok ok) held same later a = held
answered_before n v u w (Err Failed) held same later a = (held, rose_before v.faults u.faults w.faults later a.1)
answered_before n v u w (Err (Fenced token)) held same later a = (rw same at a.0, a.1 ∙ same)

-- The first call that is refused tells why; the token that the disk holds stays.
pub made_answer : (n : ℕ) (c : Call) (cs : List Call) (v w : DiskView) (result : Result ⊤ DiskFault) → Carries n (c ∷ cs) → Made (c ∷ cs) v result w → AnsweredBy n v result w
unfolding Made
made_answer n c [] v w result carried made = elim made [
  | inl done ↦
      let held = step_held n c v done.0 done.1.0 carried done.1.1 in
      ok_answer n v w result done.2.1 held.0
  | inr refused ↦ (let P : Result ⊤ DiskFault → Type 0 = λ r. AnsweredBy n v r w in subst P (sym refused.2) (step_refused n c v w refused.0 carried refused.1))
]
made_answer n c (d ∷ cs) v w result carried made =
    let parts = carries_first n c (d ∷ cs) carried in
    elim made [
      | inl done ↦
          let held = step_held n c v done.0 done.1.0 parts.0 done.1.1 in
          answered_before n v done.0 w result held.0 held.1 done.1.1.same.faults (made_answer n d cs done.0 w result parts.1 done.2)
      | inr refused ↦ (let P : Result ⊤ DiskFault → Type 0 = λ r. AnsweredBy n v r w in subst P (sym refused.2) (step_refused n c v w refused.0 parts.0 refused.1))
    ]
