-- The four calls of `append`, on a disk that holds a log.
use Rattle.std.proofs.Common.{◌≡◌, ℕ, ◌+◌, ◌<◌, ◌≤◌, inl, inr, IsTrue, List, [], ◌∷◌, length, get_or, Result, Err, IsOk, refl, sym, subst, arith, length-append}
use Rattle.std.specs.Prelude.{⊤}
use Rattle.disk_core.specs.declared.fault.DiskFault.{DiskFault}
use Rattle.disk_core.specs.Images.{EachImage}
use Rattle.disk_core.specs.Views.{DiskView, Passes}
use Rattle.disk_core.specs.Calls.{write, sync, Made}
use Rattle.quorum_log.specs.declared.found.Found.{Found}
use Rattle.quorum_log.specs.declared.found.FoundRecord.{FoundRecord}
use Rattle.quorum_log.specs.Layout.{most_record, most_records}
use Rattle.quorum_log.specs.Image.{Holds, end_of, other_of, list_at, tail_of}
use Rattle.quorum_log.specs.Logs.{LogValue, StandsFor, Fits}
use Rattle.quorum_log.specs.Changes.{framed_record, with_record, HoldsEither, IsInChange}
use Rattle.quorum_log.proofs.Moments.{Put, pair, passes_trans, passes_both}
use Rattle.quorum_log.proofs.CallLaws.{HasToken, append_carries, made_token}
use Rattle.quorum_log.proofs.Places.{has_one}
use Rattle.quorum_log.proofs.Kept.{behind-push}
use Rattle.quorum_log.proofs.Appends.{torn, committing, done, both_beside}

-- The disk holds y, with nothing pending, and the byte at that place is as it was.
pub record Left (y : Found) (place : ℕ) (v w : DiskView) : Type 0 where
  pub told : IsTrue w.tells
  pub settled : w.current.pending ≡ []
  pub holds : Holds w.current.seen y
  pub same : get_or w.current.seen place 0 ≡ get_or v.current.seen place 0

refused_result : {A : Type 0} (result : Result ⊤ DiskFault) (e : DiskFault) → result ≡ Err e → IsOk result → A
refused_result result e is ok = absurd (cc)

committed : (x : Found) (bytes : List ℕ) (v u w t : DiskView) (result : Result ⊤ DiskFault) → IsTrue v.tells → Holds v.current.seen x
    → 1 ≤ length bytes → length bytes ≤ most_record → tail_of x + 5 + length bytes < end_of x → x.base + length x.records < most_records
    → Put (tail_of x + 1) (framed_record bytes) v u → Put (tail_of x) (1 ∷ []) u t → w ≡ t → Left (with_record x bytes) (other_of x) v w
committed x bytes v u w t result told is some most fits few body commit same =
    let one : get_or t.current.seen (tail_of x) 0 ≡ 1 = has_one t.current.seen (tail_of x) 1 commit.has in
    let holds : Holds t.current.seen (with_record x bytes) = done x bytes v.current.seen is some most fits few u.current.seen t.current.seen body.same body.has commit.same (λ closed. omega arith) in
    let beside = both_beside x bytes v.current.seen u.current.seen t.current.seen is fits body.same commit.same in
    let left : Left (with_record x bytes) (other_of x) v t = record {
      told = commit.told;
      settled = commit.settled;
      holds = holds;
      same = beside.other (other_of x) (omega arith) (omega arith);
    } in
    let P : DiskView → Type 0 = λ d. Left (with_record x bytes) (other_of x) v d in subst P (sym same) left

pub appended : (token : ℕ) (x : Found) (bytes : List ℕ) (v w : DiskView) (result : Result ⊤ DiskFault) → IsTrue v.tells → v.current.pending ≡ [] → Holds v.current.seen x
    → 1 ≤ length bytes → length bytes ≤ most_record → tail_of x + 5 + length bytes < end_of x → x.base + length x.records < most_records
    → Made (write token (tail_of x + 1) (framed_record bytes) ∷ sync token ∷ write token (tail_of x) (1 ∷ []) ∷ sync token ∷ []) v result w
    → Passes (EachImage (HoldsEither x (with_record x bytes))) v w × (IsOk result → Left (with_record x bytes) (other_of x) v w)
unfolding Made
appended token x bytes v w result told settled is some most fits few made =
    let old = v.current.seen in
    let P : List ℕ → Type 0 = HoldsEither x (with_record x bytes) in
    elim (pair P token (tail_of x + 1) (framed_record bytes) (write token (tail_of x) (1 ∷ []) ∷ sync token ∷ []) v w result told settled (λ c same. inl (torn x bytes old is fits c same)) made) [
      | inl refused ↦ (refused.0, refused_result result refused.1.0 refused.1.1)
      | inr body ↦
          let u = body.0 in
          elim (pair P token (tail_of x) (1 ∷ []) [] u w result body.1.told body.1.settled (λ c same. committing x bytes old is some most fits few u.current.seen c body.1.same body.1.has same) body.3) [
            | inl refused ↦ (passes_trans (EachImage P) v u w body.2 refused.0, refused_result result refused.1.0 refused.1.1)
            | inr commit ↦
                let t = commit.0 in
                let last : Passes (EachImage P) u w = (let Q : DiskView → Type 0 = λ d. Passes (EachImage P) u d in subst Q (sym commit.3.0) commit.2) in
                (passes_trans (EachImage P) v u w body.2 last, λ ok. committed x bytes v u w t result told is some most fits few body.1 commit.1 commit.3.0)
          ]
    ]

-- the log value behind `append`
pub stands_after : (log : LogValue) (v w : DiskView) (x : Found) (bytes : List ℕ) → StandsFor log v x → Left (with_record x bytes) (other_of x) v w
    → StandsFor (record log { records = log.records + 1; tail = log.tail + (5 + length bytes) }) w (with_record x bytes)
stands_after log v w x bytes stands left =
    let r : FoundRecord = record { at = tail_of x + 5; bytes = bytes } in
    record {
      told = left.told;
      settled = left.settled;
      holds = left.holds;
      cap = stands.cap;
      half = stands.half;
      version = stands.version;
      generation = stands.generation;
      base = stands.base;
      records = omega (arith, stands.records, length-append x.records (r ∷ []));
      tail = omega (arith, stands.tail, behind-push (list_at x) x.records r);
      other = rw left.same stands.other;
    }

pub append_valued : (inside log : LogValue) (v w : DiskView) (text bytes : List ℕ) (result : Result ⊤ DiskFault) (x : Found)
    → inside ≡ log → text ≡ framed_record bytes
    → Made (write inside.claim (inside.tail + 1) text ∷ sync inside.claim ∷ write inside.claim inside.tail (1 ∷ []) ∷ sync inside.claim ∷ []) v result w
    → 1 ≤ length bytes → length bytes ≤ most_record → Fits log (length bytes) → log.base + log.records < most_records → StandsFor log v x
    → Passes (IsInChange v.current.held x (with_record x bytes)) v w × (IsOk result → StandsFor (record inside { records = inside.records + 1; tail = inside.tail + (5 + length bytes) }) w (with_record x bytes))
append_valued inside log v w text bytes result x same is_text made some most fits few stands =
    let P : LogValue → Type 0 = λ l. Made (write l.claim (l.tail + 1) text ∷ sync l.claim ∷ write l.claim l.tail (1 ∷ []) ∷ sync l.claim ∷ []) v result w in
    let by_log : P log = subst P same made in
    let Q : List ℕ → Type 0 = λ xs. Made (write log.claim (log.tail + 1) xs ∷ sync log.claim ∷ write log.claim log.tail (1 ∷ []) ∷ sync log.claim ∷ []) v result w in
    let by_text : Q (framed_record bytes) = subst Q is_text by_log in
    let R : ℕ → Type 0 = λ tail. Made (write log.claim (tail + 1) (framed_record bytes) ∷ sync log.claim ∷ write log.claim tail (1 ∷ []) ∷ sync log.claim ∷ []) v result w in
    let by_tail : R (tail_of x) = subst R stands.tail by_text in
    let ends : tail_of x + 5 + length bytes < end_of x = rw (← stands.tail, ← stands.cap, ← stands.half) fits in
    let both = appended log.claim x bytes v w result stands.told stands.settled stands.holds some most ends (omega (arith, stands.base, stands.records)) by_tail in
    let S : LogValue → Type 0 = λ l. StandsFor (record l { records = l.records + 1; tail = l.tail + (5 + length bytes) }) w (with_record x bytes) in
    let token = made_token log.claim v.current.held _ v w result (append_carries log.claim (tail_of x) (framed_record bytes)) stands.told refl by_tail in
    (passes_both (HasToken v.current.held) (EachImage (HoldsEither x (with_record x bytes))) v w token both.0, λ ok. subst S (sym same) (stands_after log v w x bytes stands (both.1 ok)))
