-- The calls of `checkpoint`, on a disk that holds a log.
use Rattle.std.proofs.Common.{◌≡◌, ◌≢◌, ℕ, ◌+◌, ◌-◌, ◌^◌, ◌<◌, ◌≤◌, ◌⊎◌, inl, inr, IsTrue, Bool, true, false, not, ◌==◌, List, [], ◌∷◌, ◌++◌, length, get_or, Result, Ok, Err, IsOk, refl, sym, ap, ◌∙◌, subst, arith}
use Rattle.std.specs.Prelude.{⊤}
use Rattle.std.proofs.lemmas.Bool.Decides.{nat_tests}
use Rattle.disk_core.specs.declared.fault.DiskFault.{DiskFault}
use Rattle.disk_core.specs.Images.{EachImage}
use Rattle.disk_core.specs.Views.{DiskView, Passes}
use Rattle.disk_core.specs.Calls.{Call, write, sync, Made}
use Rattle.quorum_log.specs.declared.found.Found.{Found}
use Rattle.quorum_log.specs.Layout.{half_at, most_record, next_generation}
use Rattle.quorum_log.specs.Image.{Holds, start_of, other_of}
use Rattle.quorum_log.specs.Faults.{AnsweredBy}
use Rattle.quorum_log.specs.Logs.{LogValue, StandsFor}
use Rattle.quorum_log.specs.Changes.{half_text, with_checkpoint, closing, HoldsEither, IsInChange}
use Rattle.quorum_log.proofs.Moments.{pair, made_answer, passes_trans, passes_here, passes_both, images_weaken, settled_images}
use Rattle.quorum_log.proofs.CallLaws.{HasToken, checkpoint_carries, made_token}
use Rattle.quorum_log.proofs.Places.{has_one}
use Rattle.quorum_log.proofs.Halves.{other_back}
use Rattle.quorum_log.proofs.Checkpoints.{closing_one, tearing, beginning, begun, valid_still}

refused_result : {A : Type 0} (result : Result ⊤ DiskFault) (e : DiskFault) → result ≡ Err e → IsOk result → A
refused_result result e is ok = absurd (cc)

-- Calls in two lists are calls in one.
pub made_append : (cs ds : List Call) (v u w : DiskView) (ok : ⊤) (result : Result ⊤ DiskFault) → Made cs v (Ok ok) u → Made ds u result w → Made (cs ++ ds) v result w
unfolding Made
made_append [] ds v u w ok result first second = let P : DiskView → Type 0 = λ x. Made ds x result w in subst P first.0 second
made_append (c ∷ cs) ds v u w ok result first second = elim first [
  | inl done ↦ inl (done.0, done.1, made_append cs ds done.0 u w ok result done.2 second)
  | inr refused ↦ absurd (cc (refused.2))
]

pub made_refused : (cs ds : List Call) (v w : DiskView) (e : DiskFault) → Made cs v (Err e) w → Made (cs ++ ds) v (Err e) w
unfolding Made
made_refused [] ds v w e first = refused_result (Err e) e refl first.1
made_refused (c ∷ cs) ds v w e first = elim first [
  | inl done ↦ inl (done.0, done.1, made_refused cs ds done.0 w e done.2)
  | inr refused ↦ inr refused
]

pub made_size : (cs : List Call) (v w : DiskView) (result : Result ⊤ DiskFault) → Made cs v result w → w.size ≡ v.size
unfolding Made
made_size [] v w result made = ap (λ (x : DiskView). x.size) made.0
made_size (c ∷ cs) v w result made = elim made [
  | inl done ↦ made_size cs done.0 w result done.2 ∙ done.1.1.same.size
  | inr refused ↦ refused.1.same.size
]

-- a list of calls that was made is cut in two
pub made_split : (cs ds : List Call) (v w : DiskView) (result : Result ⊤ DiskFault) → Made (cs ++ ds) v result w
    → ((u : DiskView) × ((ok : ⊤) × Made cs v (Ok ok) u) × Made ds u result w) ⊎ ((e : DiskFault) × Made cs v (Err e) w × (result ≡ Err e))
unfolding Made
made_split [] ds v w result made = inl (v, (tt, (refl, refl)), made)
made_split (c ∷ cs) ds v w result made = elim made [
  | inl done ↦ elim (made_split cs ds done.0 w result done.2) [
    | inl both ↦ inl (both.0, (both.1.0, inl (done.0, done.1, both.1.1)), both.2)
    | inr refused ↦ inr (refused.0, inl (done.0, done.1, refused.1), refused.2)
  ]
  | inr refused ↦ inr (refused.0, inr (refused.0, refused.1, refl), refused.2)
]

-- The disk still holds x, with nothing pending, and the half at that place isn't valid.
pub record Closed (x : Found) (u : DiskView) : Type 0 where
  pub told : IsTrue u.tells
  pub settled : u.current.pending ≡ []
  pub holds : Holds u.current.seen x
  pub closed : get_or u.current.seen (other_of x) 0 ≡ 0

not_closed : (b : ℕ) → true ≡ not (b == 0) → b ≢ 0
not_closed b e = grind (arith, nat_tests)

is_closed : (b : ℕ) → false ≡ not (b == 0) → b ≡ 0
is_closed b e = grind (arith, nat_tests)

pub closed_half : (x : Found) (token : ℕ) (valid : Bool) (v w : DiskView) (result : Result ⊤ DiskFault) → IsTrue v.tells → v.current.pending ≡ [] → Holds v.current.seen x
    → valid ≡ not (get_or v.current.seen (other_of x) 0 == 0) → Made (closing valid token (other_of x)) v result w
    → Passes (EachImage (λ c. Holds c x)) v w × (IsOk result → Closed x w)
unfolding Made
closed_half x token true v w result told settled is valid made =
    elim (pair (λ c. Holds c x) token (other_of x) (0 ∷ []) [] v w result told settled (closing_one x v.current.seen is (not_closed (get_or v.current.seen (other_of x) 0) valid)) made) [
      | inl refused ↦ (refused.0, refused_result result refused.1.0 refused.1.1)
      | inr done ↦
          let u = done.0 in
          let zero : get_or u.current.seen (other_of x) 0 ≡ 0 = has_one u.current.seen (other_of x) 0 done.1.has in
          let left : Closed x u = record {
            told = done.1.told;
            settled = done.1.settled;
            holds = closing_one x v.current.seen is (not_closed (get_or v.current.seen (other_of x) 0) valid) u.current.seen done.1.same;
            closed = zero;
          } in
          let P : DiskView → Type 0 = λ d. Passes (EachImage (λ c. Holds c x)) v d in
          let Q : DiskView → Type 0 = λ d. Closed x d in
          (subst P (sym done.3.0) done.2, λ ok. subst Q (sym done.3.0) left)
    ]
closed_half x token false v w result told settled is valid made =
    let P : DiskView → Type 0 = λ d. Passes (EachImage (λ c. Holds c x)) v d in
    let Q : DiskView → Type 0 = λ d. Closed x d in
    let left : Closed x v = record { told = told; settled = settled; holds = is; closed = is_closed (get_or v.current.seen (other_of x) 0) valid } in
    (subst P (sym made.0) (passes_here (EachImage (λ c. Holds c x)) v (settled_images (λ c. Holds c x) v.current settled is)), λ ok. subst Q (sym made.0) left)

-- The disk holds y, with nothing pending.
pub record Begun (y : Found) (place : ℕ) (w : DiskView) : Type 0 where
  pub told : IsTrue w.tells
  pub settled : w.current.pending ≡ []
  pub holds : Holds w.current.seen y
  pub valid : get_or w.current.seen place 0 ≢ 0

pub begun_half : (x : Found) (token : ℕ) (state last : List ℕ) (u w : DiskView) (result : Result ⊤ DiskFault) → Closed x u → x.generation < 256 ^ 8 → length state ≤ x.cap → length last ≤ most_record
    → Made (write token (other_of x + 1) (half_text (next_generation x.generation) (x.base + length x.records) state last) ∷ sync token ∷ write token (other_of x) (1 ∷ []) ∷ sync token ∷ []) u result w
    → Passes (EachImage (HoldsEither x (with_checkpoint x state last))) u w × (IsOk result → Begun (with_checkpoint x state last) (start_of x) w)
unfolding Made
begun_half x token state last u w result closed fits state_most last_most made =
    let old = u.current.seen in
    let text = half_text (next_generation x.generation) (x.base + length x.records) state last in
    let P : List ℕ → Type 0 = HoldsEither x (with_checkpoint x state last) in
    elim (pair P token (other_of x + 1) text (write token (other_of x) (1 ∷ []) ∷ sync token ∷ []) u w result closed.told closed.settled
    (λ c same. inl (tearing x state last old (next_generation x.generation) (x.base + length x.records) closed.holds state_most last_most closed.closed c same)) made) [
      | inl refused ↦ (refused.0, refused_result result refused.1.0 refused.1.1)
      | inr body ↦
          let d = body.0 in
          elim (pair P token (other_of x) (1 ∷ []) [] d w result body.1.told body.1.settled
          (λ c same. beginning x state last old closed.holds fits state_most last_most closed.closed d.current.seen c body.1.same body.1.has same) body.3) [
            | inl refused ↦ (passes_trans (EachImage P) u d w body.2 refused.0, refused_result result refused.1.0 refused.1.1)
            | inr commit ↦
                let t = commit.0 in
                let Q : DiskView → Type 0 = λ e. Passes (EachImage P) d e in
                let R : DiskView → Type 0 = λ e. Begun (with_checkpoint x state last) (start_of x) e in
                let one : get_or t.current.seen (other_of x) 0 ≡ 1 = has_one t.current.seen (other_of x) 1 commit.1.has in
                let holds : Holds t.current.seen (with_checkpoint x state last) =
                begun x state last old closed.holds fits state_most last_most closed.closed d.current.seen t.current.seen body.1.same body.1.has commit.1.same (λ zero. omega arith) in
                let valid : get_or t.current.seen (start_of x) 0 ≢ 0 = valid_still x state last old d.current.seen t.current.seen closed.holds state_most last_most closed.closed body.1.same commit.1.same in
                let left : R t = record { told = commit.1.told; settled = commit.1.settled; holds = holds; valid = valid } in
                (passes_trans (EachImage P) u d w body.2 (subst Q (sym commit.3.0) commit.2), λ ok. subst R (sym commit.3.0) left)
          ]
    ]

valid_test : (b : ℕ) → b ≢ 0 → true ≡ not (b == 0)
valid_test b e = grind (arith, nat_tests)

-- the log value behind `checkpoint`
pub stands_after : (log : LogValue) (w : DiskView) (x : Found) (state last : List ℕ) (half other generation base : ℕ) → (x.half ≡ 0) ⊎ (x.half ≡ 1) → log.cap ≡ x.cap → half ≡ 1 - x.half → other ≡ other_of x
    → generation ≡ next_generation x.generation → base ≡ x.base + length x.records → Begun (with_checkpoint x state last) (start_of x) w
    → StandsFor (record log { half = half; version = 2; generation = generation; base = base; records = 0; tail = other + 25 + length state + length last; other_valid = true }) w (with_checkpoint x state last)
stands_after log w x state last half other generation base which cap is_half is_other is_generation is_base left =
    let back : half_at x.cap (1 - (1 - x.half)) ≡ start_of x = ap (λ h. half_at x.cap h) (other_back x.half which) in
    record {
      told = left.told;
      settled = left.settled;
      holds = left.holds;
      cap = cap;
      half = is_half;
      version = refl;
      generation = is_generation;
      base = is_base;
      records = refl;
      tail = ap (λ n. n + 25 + length state + length last) is_other;
      other = rw back (valid_test (get_or w.current.seen (start_of x) 0) left.valid);
    }

pub checkpointed : (x : Found) (token : ℕ) (valid : Bool) (state last : List ℕ) (v w : DiskView) (result : Result ⊤ DiskFault) → IsTrue v.tells → v.current.pending ≡ [] → Holds v.current.seen x
    → valid ≡ not (get_or v.current.seen (other_of x) 0 == 0) → x.generation < 256 ^ 8 → length state ≤ x.cap → length last ≤ most_record
    → Made (closing valid token (other_of x) ++ write token (other_of x + 1) (half_text (next_generation x.generation) (x.base + length x.records) state last) ∷ sync token ∷ write token (other_of x) (1 ∷ []) ∷ sync token ∷ []) v result w
    → Passes (EachImage (HoldsEither x (with_checkpoint x state last))) v w × (IsOk result → Begun (with_checkpoint x state last) (start_of x) w)
checkpointed x token valid state last v w result told settled is other fits state_most last_most made =
    let P : List ℕ → Type 0 = HoldsEither x (with_checkpoint x state last) in
    let rest = write token (other_of x + 1) (half_text (next_generation x.generation) (x.base + length x.records) state last) ∷ sync token ∷ write token (other_of x) (1 ∷ []) ∷ sync token ∷ [] in
    elim (made_split (closing valid token (other_of x)) rest v w result made) [
      | inr refused ↦ (images_weaken (λ c. Holds c x) P v w (λ c h. inl h) (closed_half x token valid v w (Err refused.0) told settled is other refused.1).0, refused_result result refused.0 refused.2)
      | inl both ↦
          let u = both.0 in
          let first = closed_half x token valid v u (Ok both.1.0) told settled is other both.1.1 in
          let second = begun_half x token state last u w result (first.1 refl) fits state_most last_most both.2 in
          (passes_trans (EachImage P) v u w (images_weaken (λ c. Holds c x) P v u (λ c h. inl h) first.0) second.0, second.1)
    ]

pub checkpoint_valued : (inside log : LogValue) (v w : DiskView) (text state last : List ℕ) (at half generation base : ℕ) (result : Result ⊤ DiskFault) (x : Found)
    → inside ≡ log → at ≡ half_at inside.cap (1 - inside.half) → text ≡ half_text (next_generation inside.generation) (inside.base + inside.records) state last
    → Made (closing inside.other_valid inside.claim at ++ write inside.claim (at + 1) text ∷ sync inside.claim ∷ write inside.claim at (1 ∷ []) ∷ sync inside.claim ∷ []) v result w
    → inside.generation < 256 ^ 8 → length state ≤ log.cap → length last ≤ most_record → StandsFor log v x
    → Passes (IsInChange v.current.held x (with_checkpoint x state last)) v w × (IsOk result → StandsFor (record inside { half = 1 - inside.half; version = 2; generation = next_generation inside.generation; base = inside.base + inside.records; records = 0; tail = at + 25 + length state + length last; other_valid = true }) w (with_checkpoint x state last))
checkpoint_valued inside log v w text state last at half generation base result x same is_at is_text made fits state_most last_most stands =
    let stands' : StandsFor inside v x = (let P : LogValue → Type 0 = λ l. StandsFor l v x in subst P (sym same) stands) in
    let at_other : at ≡ other_of x = is_at ∙ rw (stands'.cap, stands'.half) refl in
    let next : next_generation inside.generation ≡ next_generation x.generation = ap next_generation stands'.generation in
    let raised : inside.base + inside.records ≡ x.base + length x.records = omega (arith, stands'.base, stands'.records) in
    let text' : text ≡ half_text (next_generation x.generation) (x.base + length x.records) state last = is_text ∙ rw (next, raised) refl in
    let P : ℕ → Type 0 = λ n. Made (closing inside.other_valid inside.claim n ++ write inside.claim (n + 1) text ∷ sync inside.claim ∷ write inside.claim n (1 ∷ []) ∷ sync inside.claim ∷ []) v result w in
    let Q : List ℕ → Type 0 = λ xs. Made (closing inside.other_valid inside.claim (other_of x) ++ write inside.claim (other_of x + 1) xs ∷ sync inside.claim ∷ write inside.claim (other_of x) (1 ∷ []) ∷ sync inside.claim ∷ []) v result w in
    let made' = subst Q text' (subst P at_other made) in
    let small : length state ≤ x.cap = rw (← stands.cap) state_most in
    let both = checkpointed x inside.claim inside.other_valid state last v w result stands'.told stands'.settled stands'.holds stands'.other (rw (← stands'.generation) fits) small last_most made' in
    let token = made_token inside.claim v.current.held _ v w result (checkpoint_carries inside.other_valid inside.claim at text) stands'.told refl made in
    (passes_both (HasToken v.current.held) (EachImage (HoldsEither x (with_checkpoint x state last))) v w token both.0, λ ok. stands_after inside w x state last (1 - inside.half) at (next_generation inside.generation) (inside.base + inside.records) stands'.holds.half stands'.cap (ap (λ h. 1 - h) stands'.half) at_other next raised (both.1 ok))

-- why the first refused call was refused
pub made_closing_answer : (valid : Bool) (token at : ℕ) (text : List ℕ) (v w : DiskView) (result : Result ⊤ DiskFault)
    → Made (closing valid token at ++ write token (at + 1) text ∷ sync token ∷ write token at (1 ∷ []) ∷ sync token ∷ []) v result w → AnsweredBy token v result w
made_closing_answer true token at text v w result made =
    made_answer token (write token at (0 ∷ [])) (sync token ∷ write token (at + 1) text ∷ sync token ∷ write token at (1 ∷ []) ∷ sync token ∷ []) v w result (refl, (refl, (refl, (refl, (refl, (refl, tt)))))) made
made_closing_answer false token at text v w result made =
    made_answer token (write token (at + 1) text) (sync token ∷ write token at (1 ∷ []) ∷ sync token ∷ []) v w result (refl, (refl, (refl, (refl, tt)))) made
