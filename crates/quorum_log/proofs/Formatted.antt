-- The calls of `format`, on a disk with any content.
use Rattle.std.proofs.Common.{◌≡◌, ◌≢◌, ℕ, ◌+◌, ◌<◌, ◌≤◌, ◌⊎◌, inl, inr, Bool, true, false, IsTrue, not, ◌==◌, nat_le, if◌then◌else◌, List, [], ◌∷◌, ◌++◌, length, take, get_or, Result, Ok, Err, IsOk, refl, sym, ap, ◌∙◌, subst, arith, append_assoc}
use Rattle.std.specs.Prelude.{⊤}
use Rattle.std.proofs.lemmas.Bool.{cases_eq}
use Rattle.std.proofs.lemmas.Bool.Decides.{nat_tests}
use Rattle.disk_core.specs.declared.fault.DiskFault.{DiskFault}
use Rattle.disk_core.specs.declared.fault.DiskFault.TheVariants.{Failed, Fenced}
use Rattle.disk_core.specs.declared.span.Span.{Span}
use Rattle.disk_core.specs.Images.{Moment, Has, SameOutside, IsFree, IsImage, EachImage}
use Rattle.disk_core.specs.Views.{DiskView, Passes}
use Rattle.disk_core.specs.Calls.{Call, write, sync, claim, Step, Made, SameDisk}
use Rattle.quorum_log.specs.Layout.{half_at, image_size}
use Rattle.quorum_log.specs.Image.{Holds}
use Rattle.quorum_log.specs.Faults.{AnsweredBy}
use Rattle.quorum_log.specs.Changes.{closing}
use Rattle.quorum_log.specs.Formats.{empty_log, front_text, body_calls, renewing, ReadsByte, FormatCalls, IsInFormat, IsFormatted}
use Rattle.quorum_log.specs.Opening.{OpenFails, IsInOpen}
use Rattle.quorum_log.specs.Faults.{open_fault}
use Rattle.quorum_log.proofs.Moments.{Carries, pair, made_answer, passes_here, passes_step, passes_trans, images_weaken, passes_weaken, settled_images, step_told, rose_before}
use Rattle.quorum_log.proofs.CallLaws.{made_held, made_same, same_disk-trans}
use Rattle.quorum_log.proofs.Places.{has_one, has_kept, within_from}
use Rattle.quorum_log.proofs.Checkpointed.{made_split}
use Rattle.quorum_log.proofs.Opened.{taken_ok, taken_err, passes_read, only_read, seen_image}
use Rattle.quorum_log.proofs.Texts.{HasText, length-front, kept_text, whole_text, text_holds}

refused_result : {A : Type 0} (result : Result ⊤ DiskFault) (e : DiskFault) → result ≡ Err e → IsOk result → A
refused_result result e is ok = absurd (cc)

-- ---- byte 0 stays closed while other bytes are written

abbrev Closed : List ℕ → Type 0
Closed image = get_or image 0 0 ≡ 0

-- It is closed, and no pending range covers it.
pub record StaysClosed (m : Moment) : Type 0 where
  pub free : IsFree m.pending 0
  pub closed : get_or m.seen 0 0 ≡ 0

closed_images : (m : Moment) → StaysClosed m → EachImage Closed m
closed_images m stays image is = is.outside 0 stays.free ∙ stays.closed

free_more : (ranges : List Span) (r : Span) (i : ℕ) → IsFree ranges i → (i < r.at) ⊎ (r.at + r.len ≤ i) → IsFree (ranges ++ r ∷ []) i
free_more [] r i free out = (out, tt)
free_more (s ∷ ranges) r i free out = (free.0, free_more ranges r i free.1 out)

-- each of the calls is a write behind byte 0, or a sync
abbrev Behind : List Call → Type 0
Behind [] = Unit {0}
Behind (write n at bytes ∷ cs) = (0 < at) × Behind cs
Behind (sync n ∷ cs) = Behind cs
Behind (claim n ∷ cs) = ⊥

still_closed : (at count : ℕ) (m m' : Moment) → 0 < at → m'.pending ≡ m.pending ++ record { at = at; len = count } ∷ [] → SameOutside at count m.seen m'.seen → StaysClosed m → StaysClosed m'
still_closed at count m m' behind pending same stays =
    let P : List Span → Type 0 = λ ranges. IsFree ranges 0 in
    record {
      free = subst P (sym pending) (free_more m.pending (record { at = at; len = count }) 0 stays.free (inl behind));
      closed = same.each 0 (inl behind) ∙ stays.closed;
    }

same_closed : (m m' : Moment) → m' ≡ m → StaysClosed m → StaysClosed m'
same_closed m m' same stays = let P : Moment → Type 0 = StaysClosed in subst P (sym same) stays

closed_step : (c : Call) (v w : DiskView) (result : Result ⊤ DiskFault) → Behind (c ∷ []) → IsTrue v.tells → Step c v result w → StaysClosed v.current → StaysClosed w.current
closed_step (write n at bytes) v w (Ok ok) behind told step stays = still_closed at (length bytes) v.current w.current behind.0 (step.answer.2 told).pending (step.answer.2 told).outside stays
closed_step (write n at bytes) v w (Err Failed) behind told step stays = elim (step.answer.3 told) [
  | inl tears ↦ still_closed at (length bytes) v.current w.current behind.0 tears.pending tears.outside stays
  | inr same ↦ same_closed v.current w.current same stays
]
closed_step (write n at bytes) v w (Err (Fenced held)) behind told step stays = same_closed v.current w.current step.answer.2 stays
closed_step (sync n) v w (Ok ok) behind told step stays =
    let done = step.answer.2 told in
    let pending : w.current.pending ≡ [] = ap (λ (m : Moment). m.pending) done in
    let seen : w.current.seen ≡ v.current.seen = ap (λ (m : Moment). m.seen) done in
    let P : List Span → Type 0 = λ ranges. IsFree ranges 0 in
    record { free = subst P (sym pending) tt; closed = ap (λ xs. get_or xs 0 0) seen ∙ stays.closed }
closed_step (sync n) v w (Err Failed) behind told step stays = same_closed v.current w.current (step.answer.3 told) stays
closed_step (sync n) v w (Err (Fenced held)) behind told step stays = same_closed v.current w.current step.answer.2 stays
closed_step (claim n) v w result behind told step stays = absurd behind

behind_first : (c : Call) (cs : List Call) → Behind (c ∷ cs) → Behind (c ∷ []) × Behind cs
behind_first (write n at bytes) cs behind = ((behind.0, tt), behind.1)
behind_first (sync n) cs behind = (tt, behind)
behind_first (claim n) cs behind = absurd behind

closed_made : (cs : List Call) (v w : DiskView) (result : Result ⊤ DiskFault) → Behind cs → IsTrue v.tells → Made cs v result w → StaysClosed v.current → Passes (EachImage Closed) v w × StaysClosed w.current
unfolding Made
closed_made [] v w result behind told made stays =
    let P : DiskView → Type 0 = λ d. Passes (EachImage Closed) v d × StaysClosed d.current in
    subst P (sym made.0) (passes_here (EachImage Closed) v (closed_images v.current stays), stays)
closed_made (c ∷ cs) v w result behind told made stays =
    let parts = behind_first c cs behind in
    elim made [
      | inl done ↦
          let u = done.0 in
          let next = closed_step c v u (Ok done.1.0) parts.0 told done.1.1 stays in
          let first = passes_step (EachImage Closed) c v u (Ok done.1.0) told done.1.1 (closed_images v.current stays) (closed_images u.current next) in
          let rest = closed_made cs u w result parts.1 (step_told c v u (Ok done.1.0) done.1.1 told) done.2 next in
          (passes_trans (EachImage Closed) v u w first rest.0, rest.1)
      | inr refused ↦
          let next = closed_step c v w (Err refused.0) parts.0 told refused.1 stays in
          (passes_step (EachImage Closed) c v w (Err refused.0) told refused.1 (closed_images v.current stays) (closed_images w.current next), next)
    ]

-- ---- what stands there once the calls were made

-- The bytes were written there.
record Stands (at : ℕ) (bytes : List ℕ) (v u : DiskView) : Type 0 where
  told : IsTrue u.tells
  has : Has u.current.seen at bytes
  same : SameOutside at (length bytes) v.current.seen u.current.seen

ok_write : (n at : ℕ) (bytes : List ℕ) (cs : List Call) (v w : DiskView) (ok : ⊤) → IsTrue v.tells → Made (write n at bytes ∷ cs) v (Ok ok) w → (u : DiskView) × Stands at bytes v u × Made cs u (Ok ok) w
unfolding Made
ok_write n at bytes cs v w ok told made = elim made [
  | inr refused ↦ absurd (cc (refused.2))
  | inl done ↦
      let puts = done.1.1.answer.2 told in
      (done.0, record { told = step_told (write n at bytes) v done.0 (Ok done.1.0) done.1.1 told; has = puts.put; same = puts.outside }, done.2)
]

abbrev parted : ℕ → ℕ → List ℕ → List Call
parted token cap first = write token 1 (front_text cap (length first)) ∷ write token 89 first ∷ write token (89 + length first) (0 ∷ []) ∷ []

abbrev joined : ℕ → ℕ → List ℕ → List Call
joined token cap first = write token 1 (front_text cap (length first) ++ (first ++ 0 ∷ [])) ∷ []

-- The disk has the text, and is as large as before.
record Written (cap : ℕ) (first : List ℕ) (v u : DiskView) : Type 0 where
  told : IsTrue u.tells
  text : HasText u.current.seen cap first
  size : length u.current.seen ≡ length v.current.seen

joined_written : (token cap : ℕ) (first : List ℕ) (v w : DiskView) (ok : ⊤) → IsTrue v.tells → Made (joined token cap first) v (Ok ok) w → Written cap first v w
unfolding Made
joined_written token cap first v w ok told made =
    let a = ok_write token 1 (front_text cap (length first) ++ (first ++ 0 ∷ [])) [] v w ok told made in
    let P : DiskView → Type 0 = Written cap first v in
    let one : Written cap first v a.0 = record { told = a.1.told; text = whole_text a.0.current.seen cap first a.1.has; size = a.1.same.size } in
    subst P (sym a.2.0) one

parted_written : (token cap : ℕ) (first : List ℕ) (v w : DiskView) (ok : ⊤) → IsTrue v.tells → Made (parted token cap first) v (Ok ok) w → Written cap first v w
unfolding Made
parted_written token cap first v w ok told made =
    let front = front_text cap (length first) in
    let long = length-front cap (length first) in
    let a = ok_write token 1 front (write token 89 first ∷ write token (89 + length first) (0 ∷ []) ∷ []) v w ok told made in
    let b = ok_write token 89 first (write token (89 + length first) (0 ∷ []) ∷ []) a.0 w ok a.1.told a.2 in
    let c = ok_write token (89 + length first) (0 ∷ []) [] b.0 w ok b.1.told b.2 in
    let front_b : Has b.0.current.seen 1 front = has_kept a.0.current.seen b.0.current.seen 1 89 1 front b.1.same.size (within_from 89 (length first) 1 89 a.0.current.seen b.0.current.seen b.1.same (inl (omega arith))) (omega arith) (omega arith) a.1.has in
    let front_c : Has c.0.current.seen 1 front = has_kept b.0.current.seen c.0.current.seen 1 89 1 front c.1.same.size (within_from (89 + length first) 1 1 89 b.0.current.seen c.0.current.seen c.1.same (inl (omega arith))) (omega arith) (omega arith) front_b in
    let state_c : Has c.0.current.seen 89 first = has_kept b.0.current.seen c.0.current.seen 89 (89 + length first) 89 first c.1.same.size (within_from (89 + length first) 1 89 (89 + length first) b.0.current.seen c.0.current.seen c.1.same (inl (omega arith))) (omega arith) (omega arith) b.1.has in
    let P : DiskView → Type 0 = Written cap first v in
    let one : Written cap first v c.0 = record {
      told = c.1.told;
      text = record { front = front_c; state = state_c; closed = c.1.has };
      size = c.1.same.size ∙ b.1.same.size ∙ a.1.same.size;
    } in
    subst P (sym c.2.0) one

-- a body is written at once, or in three parts
pub at_once : (token cap : ℕ) (first : List ℕ) → length first ≤ 4007 → body_calls token cap first ≡ joined token cap first
at_once token cap first short = let e : nat_le (length first) 4007 ≡ true = grind (arith, nat_tests) in rw e refl

pub in_parts : (token cap : ℕ) (first : List ℕ) → 4007 < length first → body_calls token cap first ≡ parted token cap first
in_parts token cap first long = let e : nat_le (length first) 4007 ≡ false = grind (arith, nat_tests) in rw e refl

made_one : (c : Call) (v w : DiskView) (result : Result ⊤ DiskFault) → Step c v result w → Made (c ∷ []) v result w
unfolding Made
made_one c v w (Ok ok) step = inl (w, (ok, step), (refl, refl))
made_one c v w (Err fault) step = inr (fault, step, refl)

pub made_at_once : (token cap : ℕ) (first text text' text'' : List ℕ) (done done' : ℕ) (v w : DiskView) (result : Result ⊤ DiskFault) → length first ≤ 4007
    → take 88 text ≡ front_text cap (length first) → done ≡ 88 + length first → take (88 + length first) text' ≡ take 88 text ++ first → done' ≡ done + 1 → take (done + 1) text'' ≡ take done text' ++ 0 ∷ []
    → Step (write token 1 (take done' text'')) v result w → Made (body_calls token cap first) v result w
made_at_once token cap first text text' text'' done done' v w result short front count body count' end step =
    let e : take done' text'' ≡ front_text cap (length first) ++ (first ++ 0 ∷ []) =
    rw (count', end, count, body, front) (append_assoc (front_text cap (length first)) first (0 ∷ [])) in
    let P : List ℕ → Type 0 = λ xs. Made (write token 1 xs ∷ []) v result w in
    let Q : List Call → Type 0 = λ cs. Made cs v result w in
    subst Q (sym (at_once token cap first short)) (subst P e (made_one (write token 1 (take done' text'')) v w result step))

pub made_in_parts : (token cap : ℕ) (first front : List ℕ) (v w : DiskView) (result : Result ⊤ DiskFault) → 4007 < length first → front ≡ front_text cap (length first)
    → Made (write token 1 front ∷ write token 89 first ∷ write token (89 + length first) (0 ∷ []) ∷ []) v result w → Made (body_calls token cap first) v result w
made_in_parts token cap first front v w result long is_front made =
    let P : List ℕ → Type 0 = λ xs. Made (write token 1 xs ∷ write token 89 first ∷ write token (89 + length first) (0 ∷ []) ∷ []) v result w in
    let Q : List Call → Type 0 = λ cs. Made cs v result w in
    subst Q (sym (in_parts token cap first long)) (subst P is_front made)

choose_written : (is_short : Bool) (token cap : ℕ) (first : List ℕ) (v w : DiskView) (ok : ⊤) → IsTrue v.tells → Made (if is_short then joined token cap first else parted token cap first) v (Ok ok) w → Written cap first v w
choose_written true token cap first v w ok told made = joined_written token cap first v w ok told made
choose_written false token cap first v w ok told made = parted_written token cap first v w ok told made

choose_behind : (is_short : Bool) (token cap : ℕ) (first : List ℕ) → Behind (if is_short then joined token cap first else parted token cap first)
choose_behind true token cap first = (omega arith, tt)
choose_behind false token cap first = (omega arith, (omega arith, (omega arith, tt)))

-- The text stands, the second half is closed, and nothing is pending.
record Prepared (cap : ℕ) (first : List ℕ) (v u : DiskView) : Type 0 where
  told : IsTrue u.tells
  settled : u.current.pending ≡ []
  text : HasText u.current.seen cap first
  other : get_or u.current.seen (half_at cap 1) 0 ≡ 0
  size : length u.current.seen ≡ length v.current.seen

prepared : (token cap : ℕ) (first : List ℕ) (v w : DiskView) (ok : ⊤) → length first ≤ cap → IsTrue v.tells → HasText v.current.seen cap first
    → Made (write token (half_at cap 1) (0 ∷ []) ∷ sync token ∷ []) v (Ok ok) w → Prepared cap first v w
unfolding Made
prepared token cap first v w ok small told text made =
    let a = ok_write token (half_at cap 1) (0 ∷ []) (sync token ∷ []) v w ok told made in
    let kept = kept_text (half_at cap 1) 1 cap first v.current.seen a.0.current.seen (inr (omega arith)) a.1.same text in
    elim a.2 [
      | inr refused ↦ absurd (cc (refused.2))
      | inl done ↦
          let u = done.0 in
          let sure = done.1.1.answer.2 a.1.told in
          let seen : u.current.seen ≡ a.0.current.seen = ap (λ (m : Moment). m.seen) sure in
          let Q : List ℕ → Type 0 = λ xs. HasText xs cap first in
          let one : Prepared cap first v u = record {
            told = step_told (sync token) a.0 u (Ok done.1.0) done.1.1 a.1.told;
            settled = ap (λ (m : Moment). m.pending) sure;
            text = subst Q (sym seen) kept;
            other = ap (λ xs. get_or xs (half_at cap 1) 0) seen ∙ has_one a.0.current.seen (half_at cap 1) 0 a.1.has;
            size = ap (λ xs. length xs) seen ∙ a.1.same.size;
          } in
          let P : DiskView → Type 0 = Prepared cap first v in subst P (sym done.2.0) one
    ]

-- ---- the images of each moment

-- what could stand before, with byte 0 written
reopened : (before : Moment) (cap : ℕ) (first old c : List ℕ) → IsImage before old → get_or old 0 0 ≢ 0 → SameOutside 0 1 old c → IsInFormat before cap first c
reopened before cap first old c was committed same = elim (cases_eq (get_or c 0 0) 0) [
  | inl closed ↦ inl closed
  | inr still ↦ inr (inr (record { old = old; was = was; committed = committed; same = same; still = still }))
]

pub untouched : (before : Moment) (cap : ℕ) (first c : List ℕ) → IsImage before c → IsInFormat before cap first c
untouched before cap first c was = elim (cases_eq (get_or c 0 0) 0) [
  | inl closed ↦ inl closed
  | inr still ↦ inr (inr (record { old = c; was = was; committed = still; same = record { size = refl; each = λ i out. refl }; still = still }))
]

-- Byte 0 is closed, and nothing is pending.
record Blanked (v u : DiskView) : Type 0 where
  told : IsTrue u.tells
  settled : u.current.pending ≡ []
  closed : get_or u.current.seen 0 0 ≡ 0
  size : length u.current.seen ≡ length v.current.seen

is_open : (b : ℕ) → true ≡ not (b == 0) → b ≢ 0
is_open b e = grind (arith, nat_tests)

is_closed : (b : ℕ) → false ≡ not (b == 0) → b ≡ 0
is_closed b e = grind (arith, nat_tests)

blanked : (before : Moment) (cap : ℕ) (first : List ℕ) (token : ℕ) (open_now : Bool) (v w : DiskView) (result : Result ⊤ DiskFault) → IsTrue v.tells → v.current.pending ≡ [] → IsImage before v.current.seen
    → open_now ≡ not (get_or v.current.seen 0 0 == 0) → Made (closing open_now token 0) v result w
    → Passes (EachImage (IsInFormat before cap first)) v w × (IsOk result → Blanked v w)
unfolding Made
blanked before cap first token true v w result told settled was opens made =
    let P : List ℕ → Type 0 = IsInFormat before cap first in
    elim (pair P token 0 (0 ∷ []) [] v w result told settled (λ c same. reopened before cap first v.current.seen c was (is_open (get_or v.current.seen 0 0) opens) same) made) [
      | inl refused ↦ (refused.0, refused_result result refused.1.0 refused.1.1)
      | inr done ↦
          let u = done.0 in
          let one : Blanked v u = record { told = done.1.told; settled = done.1.settled; closed = has_one u.current.seen 0 0 done.1.has; size = done.1.same.size } in
          let Q : DiskView → Type 0 = λ d. Passes (EachImage P) v d in
          let R : DiskView → Type 0 = Blanked v in
          (subst Q (sym done.3.0) done.2, λ ok. subst R (sym done.3.0) one)
    ]
blanked before cap first token false v w result told settled was opens made =
    let P : List ℕ → Type 0 = IsInFormat before cap first in
    let closed = is_closed (get_or v.current.seen 0 0) opens in
    let one : Blanked v v = record { told = told; settled = settled; closed = closed; size = refl } in
    let Q : DiskView → Type 0 = λ d. Passes (EachImage P) v d in
    let R : DiskView → Type 0 = Blanked v in
    (subst Q (sym made.0) (passes_here (EachImage P) v (settled_images P v.current settled (inl closed))), λ ok. subst R (sym made.0) one)

-- the commit
opened_log : (before : Moment) (token cap : ℕ) (first : List ℕ) (v u w : DiskView) (result : Result ⊤ DiskFault) → 4096 ≤ cap → cap ≤ 16_777_216 → length first ≤ cap → image_size cap ≤ length u.current.seen
    → Prepared cap first v u → Made (write token 0 (1 ∷ []) ∷ sync token ∷ []) u result w
    → Passes (EachImage (IsInFormat before cap first)) u w × (IsOk result → IsFormatted cap first w)
unfolding Made
opened_log before token cap first v u w result least most small whole ready made =
    let P : List ℕ → Type 0 = IsInFormat before cap first in
    let holds : (c : List ℕ) → SameOutside 0 1 u.current.seen c → get_or c 0 0 ≢ 0 → Holds c (empty_log cap first) = λ c same committed.
    text_holds c cap first least most small (omega (arith, same.size)) (kept_text 0 1 cap first u.current.seen c (inl (omega arith)) same ready.text) (same.each (half_at cap 1) (inr (omega arith)) ∙ ready.other) committed in
    elim (pair P token 0 (1 ∷ []) [] u w result ready.told ready.settled (λ c same. elim (cases_eq (get_or c 0 0) 0) [
      | inl closed ↦ inl closed
      | inr committed ↦ inr (inl (holds c same committed))
    ]) made) [
      | inl refused ↦ (refused.0, refused_result result refused.1.0 refused.1.1)
      | inr done ↦
          let t = done.0 in
          let one : get_or t.current.seen 0 0 ≡ 1 = has_one t.current.seen 0 1 done.1.has in
          let made_log : IsFormatted cap first t = record { settled = done.1.settled; holds = holds t.current.seen done.1.same (λ zero. omega arith) } in
          let Q : DiskView → Type 0 = λ d. Passes (EachImage P) u d in
          let R : DiskView → Type 0 = IsFormatted cap first in
          (subst Q (sym done.3.0) done.2, λ ok. subst R (sym done.3.0) made_log)
    ]

closed_in : (before : Moment) (cap : ℕ) (first : List ℕ) (v w : DiskView) → Passes (EachImage Closed) v w → Passes (EachImage (IsInFormat before cap first)) v w
closed_in before cap first v w passes = images_weaken Closed (IsInFormat before cap first) v w (λ c closed. inl closed) passes

-- from a closed byte 0 on
renewed_body : (before : Moment) (token cap : ℕ) (first : List ℕ) (v w : DiskView) (result : Result ⊤ DiskFault) → 4096 ≤ cap → cap ≤ 16_777_216 → length first ≤ cap → image_size cap ≤ length v.current.seen
    → IsTrue v.tells → v.current.pending ≡ [] → get_or v.current.seen 0 0 ≡ 0
    → Made (body_calls token cap first ++ write token (half_at cap 1) (0 ∷ []) ∷ sync token ∷ write token 0 (1 ∷ []) ∷ sync token ∷ []) v result w
    → Passes (EachImage (IsInFormat before cap first)) v w × (IsOk result → IsFormatted cap first w)
renewed_body before token cap first v w result least most small whole told settled closed made =
    let P : List ℕ → Type 0 = IsInFormat before cap first in
    let second = write token (half_at cap 1) (0 ∷ []) ∷ sync token ∷ [] in
    let last = write token 0 (1 ∷ []) ∷ sync token ∷ [] in
    let F : List Span → Type 0 = λ ranges. IsFree ranges 0 in
    let stays : StaysClosed v.current = record { free = subst F (sym settled) tt; closed = closed } in
    let behind = choose_behind (nat_le (length first) 4007) token cap first in
    elim (made_split (body_calls token cap first) (second ++ last) v w result made) [
      | inr refused ↦ (closed_in before cap first v w (closed_made (body_calls token cap first) v w (Err refused.0) behind told refused.1 stays).0, refused_result result refused.0 refused.2)
      | inl body ↦
          let u = body.0 in
          let text = choose_written (nat_le (length first) 4007) token cap first v u body.1.0 told body.1.1 in
          let one = closed_made (body_calls token cap first) v u (Ok body.1.0) behind told body.1.1 stays in
          let behind' : Behind second = (omega arith, tt) in
          elim (made_split second last u w result body.2) [
            | inr refused ↦ (
              passes_trans (EachImage P) v u w (closed_in before cap first v u one.0) (closed_in before cap first u w (closed_made second u w (Err refused.0) behind' text.told refused.1 one.1).0),
              refused_result result refused.0 refused.2,
            )
            | inl sure ↦
                let t = sure.0 in
                let two = closed_made second u t (Ok sure.1.0) behind' text.told sure.1.1 one.1 in
                let ready = prepared token cap first u t sure.1.0 small text.told text.text sure.1.1 in
                let done = opened_log before token cap first u t w result least most small (omega (arith, ready.size, text.size)) ready sure.2 in
                (passes_trans (EachImage P) v u w (closed_in before cap first v u one.0) (passes_trans (EachImage P) u t w (closed_in before cap first u t two.0) done.0), done.1)
          ]
    ]

renewed : (before : Moment) (token cap : ℕ) (first : List ℕ) (open_now : Bool) (v w : DiskView) (result : Result ⊤ DiskFault) → 4096 ≤ cap → cap ≤ 16_777_216 → length first ≤ cap → image_size cap ≤ length v.current.seen
    → IsTrue v.tells → v.current.pending ≡ [] → IsImage before v.current.seen → open_now ≡ not (get_or v.current.seen 0 0 == 0)
    → Made (renewing open_now token cap first) v result w
    → Passes (EachImage (IsInFormat before cap first)) v w × (IsOk result → IsFormatted cap first w)
renewed before token cap first open_now v w result least most small whole told settled was opens made =
    let P : List ℕ → Type 0 = IsInFormat before cap first in
    let rest = body_calls token cap first ++ write token (half_at cap 1) (0 ∷ []) ∷ sync token ∷ write token 0 (1 ∷ []) ∷ sync token ∷ [] in
    elim (made_split (closing open_now token 0) rest v w result made) [
      | inr refused ↦ ((blanked before cap first token open_now v w (Err refused.0) told settled was opens refused.1).0, refused_result result refused.0 refused.2)
      | inl both ↦
          let u = both.0 in
          let first_part = blanked before cap first token open_now v u (Ok both.1.0) told settled was opens both.1.1 in
          let blank = first_part.1 refl in
          let second_part = renewed_body before token cap first u w result least most small (omega (arith, blank.size)) blank.told blank.settled blank.closed both.2 in
          (passes_trans (EachImage P) v u w first_part.0 second_part.0, second_part.1)
    ]

-- ---- all calls

byte_told : (v u : DiskView) (byte : ℕ) → IsTrue v.tells → ReadsByte v (Ok byte) u → not (byte == 0) ≡ not (get_or u.current.seen 0 0 == 0)
byte_told v u byte told reads =
    let there : get_or v.current.seen 0 0 ≡ byte = has_one v.current.seen 0 byte (reads.answer told) in
    let same : get_or u.current.seen 0 0 ≡ get_or v.current.seen 0 0 = ap (λ (m : Moment). get_or m.seen 0 0) reads.current in
    ap (λ b. not (b == 0)) (sym there ∙ sym same)

-- each moment, and what Ok leaves
pub formatted : (token cap : ℕ) (first : List ℕ) (v w : DiskView) (result : Result ⊤ DiskFault) → 4096 ≤ cap → cap ≤ 16_777_216 → length first ≤ cap → image_size cap ≤ length v.current.seen → IsTrue v.tells
    → FormatCalls token cap first v result w → Passes (EachImage (IsInFormat v.current cap first)) v w × (IsOk result → IsFormatted cap first w)
formatted token cap first v w result least most small whole told calls =
    let P : List ℕ → Type 0 = IsInFormat v.current cap first in
    let weaken = λ (d : DiskView) (passes : Passes (IsInOpen v.current token) v d). passes_weaken (IsInOpen v.current token) (EachImage P) v d (λ m was c image. untouched v.current cap first c (was.1 c image)) passes in
    elim calls [
      | inr refused ↦ (weaken w ((taken_err token v w refused.0 refused.1).1 told), refused_result result refused.0 refused.2)
      | inl both ↦
          let u = both.0 in
          let taken = taken_ok token v u tt both.1 in
          let passes : Passes (EachImage P) v u = weaken u (taken.passes told) in
          elim both.2 [
            | inr failed ↦ (passes_read (EachImage P) v u w (only_read u w 0 (failed.1.0 ∷ []) (Err failed.0) failed.1.1) passes, refused_result result failed.0 failed.2)
            | inl read ↦
                let t = read.1 in
                let only = only_read u t 0 (read.0 ∷ []) (Ok tt) read.2 in
                let told_u : IsTrue u.tells = (let Q : Bool → Type 0 = λ b. IsTrue b in subst Q (sym taken.same.tells) told) in
                let told_t : IsTrue t.tells = (let Q : Bool → Type 0 = λ b. IsTrue b in subst Q (sym only.same.tells) told_u) in
                let seen : t.current.seen ≡ v.current.seen = ap (λ (m : Moment). m.seen) only.current ∙ taken.seen told in
                let settled : t.current.pending ≡ [] = ap (λ (m : Moment). m.pending) only.current ∙ taken.settled told in
                let was : IsImage v.current t.current.seen = (let Q : List ℕ → Type 0 = IsImage v.current in subst Q (sym seen) (seen_image v.current)) in
                let there = byte_told u t read.0 told_u read.2 in
                let done = renewed v.current token cap first (not (read.0 == 0)) t w result least most small (omega (arith, ap (λ xs. length xs) seen)) told_t settled was there read.3 in
                (passes_trans (EachImage P) v t w (passes_read (EachImage P) v u t only passes) done.0, done.1)
          ]
    ]

-- ---- the causes

carried_by : (token : ℕ) (c : Call) (cs : List Call) (v w : DiskView) (result : Result ⊤ DiskFault) → Carries token (c ∷ cs) → Made (c ∷ cs) v result w
    → AnsweredBy token v result w × (IsOk result → w.current.held ≡ v.current.held)
carried_by token c cs v w result carries made = (made_answer token c cs v w result carries made, λ ok. made_held token (c ∷ cs) v w result carries made)

carried : (open_now is_short : Bool) (token cap : ℕ) (first : List ℕ) (v w : DiskView) (result : Result ⊤ DiskFault)
    → Made (closing open_now token 0 ++ ((if is_short then joined token cap first else parted token cap first) ++ write token (half_at cap 1) (0 ∷ []) ∷ sync token ∷ write token 0 (1 ∷ []) ∷ sync token ∷ [])) v result w
    → AnsweredBy token v result w × (IsOk result → w.current.held ≡ v.current.held)
carried true true token cap first v w result made =
    carried_by token (write token 0 (0 ∷ [])) (sync token ∷ (joined token cap first ++ write token (half_at cap 1) (0 ∷ []) ∷ sync token ∷ write token 0 (1 ∷ []) ∷ sync token ∷ [])) v w result
    (refl, (refl, (refl, (refl, (refl, (refl, (refl, tt))))))) made
carried true false token cap first v w result made =
    carried_by token (write token 0 (0 ∷ [])) (sync token ∷ (parted token cap first ++ write token (half_at cap 1) (0 ∷ []) ∷ sync token ∷ write token 0 (1 ∷ []) ∷ sync token ∷ [])) v w result
    (refl, (refl, (refl, (refl, (refl, (refl, (refl, (refl, (refl, tt))))))))) made
carried false true token cap first v w result made =
    carried_by token (write token 1 (front_text cap (length first) ++ (first ++ 0 ∷ []))) (write token (half_at cap 1) (0 ∷ []) ∷ sync token ∷ write token 0 (1 ∷ []) ∷ sync token ∷ []) v w result
    (refl, (refl, (refl, (refl, (refl, tt))))) made
carried false false token cap first v w result made =
    carried_by token (write token 1 (front_text cap (length first))) (write token 89 first ∷ write token (89 + length first) (0 ∷ []) ∷ write token (half_at cap 1) (0 ∷ []) ∷ sync token ∷ write token 0 (1 ∷ []) ∷ sync token ∷ []) v w result
    (refl, (refl, (refl, (refl, (refl, (refl, (refl, tt))))))) made

-- an answer behind the claim is one to all calls
behind_claim : (token : ℕ) (v u w : DiskView) (result : Result ⊤ DiskFault) → v.current.held ≤ token → u.current.held ≡ token → v.faults ≤ u.faults → AnsweredBy token u result w → AnsweredBy token v result w
behind_claim token v u w (Ok ok) before held later answer = before
behind_claim token v u w (Err Failed) before held later answer = (before, rose_before v.faults u.faults w.faults later answer.1)
behind_claim token v u w (Err (Fenced other)) before held later answer = absurd (omega (arith, answer.0, held))

refused_answer : (token : ℕ) (v w : DiskView) (fault : DiskFault) → OpenFails token v w (open_fault fault) → AnsweredBy token v (Err fault) w
refused_answer token v w Failed fails = fails
refused_answer token v w (Fenced held) fails = fails

failed_answer : (token : ℕ) (v w : DiskView) (fault : DiskFault) → v.current.held ≤ token → ReadsByte v (Err fault) w → AnsweredBy token v (Err fault) w
failed_answer token v w Failed held reads = (held, reads.1.answer)
failed_answer token v w (Fenced other) held reads = absurd reads.1.answer

pub format_answer : (token cap : ℕ) (first : List ℕ) (v w : DiskView) (result : Result ⊤ DiskFault) → FormatCalls token cap first v result w
    → AnsweredBy token v result w × (IsOk result → w.current.held ≡ token)
format_answer token cap first v w result calls = elim calls [
  | inr refused ↦
      let P : Result ⊤ DiskFault → Type 0 = λ r. AnsweredBy token v r w in
      (subst P (sym refused.2) (refused_answer token v w refused.0 (taken_err token v w refused.0 refused.1).0), refused_result result refused.0 refused.2)
  | inl both ↦
      let u = both.0 in
      let taken = taken_ok token v u tt both.1 in
      elim both.2 [
        | inr failed ↦
            let P : Result ⊤ DiskFault → Type 0 = λ r. AnsweredBy token v r w in
            let here = failed_answer token u w failed.0 (omega (arith, taken.held)) failed.1 in
            (subst P (sym failed.2) (behind_claim token v u w (Err failed.0) taken.held_before taken.held taken.same.faults here), refused_result result failed.0 failed.2)
        | inl read ↦
            let t = read.1 in
            let held : t.current.held ≡ token = ap (λ (m : Moment). m.held) read.2.current ∙ taken.held in
            let answer = carried (not (read.0 == 0)) (nat_le (length first) 4007) token cap first t w result read.3 in
            (behind_claim token v t w result taken.held_before held (omega (arith, taken.same.faults, read.2.same.faults)) answer.0, λ ok. answer.1 ok ∙ held)
      ]
]

byte_same : (v w : DiskView) (result : Result ℕ DiskFault) → ReadsByte v result w → SameDisk v w
byte_same v w (Ok byte) reads = reads.same
byte_same v w (Err fault) reads = reads.1.same

pub format_same : (token cap : ℕ) (first : List ℕ) (v w : DiskView) (result : Result ⊤ DiskFault) → FormatCalls token cap first v result w → SameDisk v w
format_same token cap first v w result calls = elim calls [
  | inr refused ↦ made_same (claim token ∷ sync token ∷ []) v w (Err refused.0) refused.1
  | inl both ↦
      let u = both.0 in
      let taken = made_same (claim token ∷ sync token ∷ []) v u (Ok tt) both.1 in
      elim both.2 [
        | inr failed ↦ same_disk-trans v u w taken (byte_same u w (Err failed.0) failed.1)
        | inl read ↦
            let t = read.1 in
            let before = same_disk-trans v u t taken (byte_same u t (Ok read.0) read.2) in
            same_disk-trans v t w before (made_same (renewing (not (read.0 == 0)) token cap first) t w result read.3)
      ]
]
