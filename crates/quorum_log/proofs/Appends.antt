-- What the calls of `append` leave: the log as it was, or with the record.
use Rattle.std.proofs.Common.{◌≡◌, ◌≢◌, ℕ, ◌+◌, ◌-◌, ◌<◌, ◌≤◌, ◌⊎◌, inl, inr, List, [], ◌∷◌, ◌++◌, length, get_or, refl, sym, ap, ◌∙◌, arith, length-append}
use Rattle.std.proofs.lemmas.Bool.{cases_eq}
use Rattle.wire_fields.specs.declared.endian.Endian.TheVariants.{Little}
use Rattle.wire_fields.specs.Numbers.{num}
use Rattle.disk_core.specs.Images.{Has, SameOutside}
use Rattle.quorum_log.specs.declared.found.Found.{Found}
use Rattle.quorum_log.specs.declared.found.FoundRecord.{FoundRecord}
use Rattle.quorum_log.specs.Layout.{half_size, half_at, most_record, most_records, next_generation}
use Rattle.quorum_log.specs.Image.{Holds, IsFramed, IsCurrent, commit_behind, start_of, end_of, other_of, list_at, tail_of}
use Rattle.quorum_log.specs.Changes.{framed_record, with_record, HoldsEither}
use Rattle.quorum_log.proofs.Places.{SameWithin, same_number, has_number, has_window, has_left, has_right, has_one, has_kept, length-num, within_from, within_part, within_trans}
use Rattle.quorum_log.proofs.Kept.{holds_by, kept_list, listed_push, behind-push, behind-le}

-- the halves lie apart
pub apart : (cap half : ℕ) → (half ≡ 0) ⊎ (half ≡ 1) → (half_at cap (1 - half) + half_size cap ≤ half_at cap half) ⊎ (half_at cap half + half_size cap ≤ half_at cap (1 - half))
apart cap half which = elim which [
  | inl zero ↦ inr (rw zero (omega arith))
  | inr one ↦ inl (rw one (omega arith))
]

pub kept_current : (old new : List ℕ) (other generation : ℕ) → SameWithin other (other + 9) old new → IsCurrent old other generation → IsCurrent new other generation
kept_current old new other generation same is = elim is [
  | inl closed ↦ inl (same other (omega arith) (omega arith) ∙ closed)
  | inr next ↦ inr (next ∙ ap next_generation (sym (same_number old new other (other + 9) (other + 1) 8 same (omega arith) (omega arith))))
]

pub length-record_text : (bytes : List ℕ) → length (framed_record bytes) ≡ length bytes + 5
length-record_text bytes = omega (arith, length-append (num Little 4 (length bytes)) (bytes ++ 0 ∷ []), length-append bytes (0 ∷ []), length-num 4 (length bytes))

-- what the calls leave alone
pub record Beside (x : Found) (old new : List ℕ) : Type 0 where
  pub size : length new ≡ length old
  pub front : SameWithin 0 (tail_of x) old new
  pub other : SameWithin (other_of x) (other_of x + 9) old new

list-le : (x : Found) → 64 ≤ start_of x
list-le x = omega arith

before : (x : Found) (old new : List ℕ) → Holds old x → Beside x old new → get_or new (tail_of x) 0 ≡ 0 → Holds new x
before x old new is beside closed =
    let low = behind-le (list_at x) x.records in
    holds_by x x.records old new is (omega (arith, is.whole, beside.size))
    (within_part 0 (tail_of x) 0 64 old new beside.front (omega arith) (omega arith))
    (within_part 0 (tail_of x) (start_of x) (list_at x) old new beside.front (omega arith) (omega arith))
    (kept_current old new (other_of x) x.generation beside.other is.current)
    (kept_list old new (end_of x) (list_at x) (tail_of x) x.records (omega arith) (within_part 0 (tail_of x) (list_at x) (tail_of x) old new beside.front (omega arith) (omega arith)) is.records)
    closed is.count

after : (x : Found) (bytes old new : List ℕ) → Holds old x → Beside x old new → 1 ≤ length bytes → length bytes ≤ most_record → tail_of x + 5 + length bytes < end_of x → x.base + length x.records < most_records
    → get_or new (tail_of x) 0 ≢ 0 → Has new (tail_of x + 1) (framed_record bytes) → Holds new (with_record x bytes)
after x bytes old new is beside some most fits few committed has =
    let low = behind-le (list_at x) x.records in
    let tail = tail_of x in
    let number = has_left new (tail + 1) (num Little 4 (length bytes)) (bytes ++ 0 ∷ []) has in
    let rest = has_right new (tail + 1) (num Little 4 (length bytes)) (bytes ++ 0 ∷ []) has in
    let four : tail + 1 + length (num Little 4 (length bytes)) ≡ tail + 5 = omega (arith, length-num 4 (length bytes)) in
    let body : Has new (tail + 5) (bytes ++ 0 ∷ []) = rw four at rest in
    let r : FoundRecord = record { at = tail + 5; bytes = bytes } in
    let one : IsFramed new (end_of x) tail r = record {
      commit = committed;
      place = refl;
      size = has_number new (tail + 1) 4 (length bytes) (omega arith) number;
      some = some;
      most = most;
      room = fits;
      bytes = has_window new (tail + 5) bytes (has_left new (tail + 5) bytes (0 ∷ []) body).each;
    } in
    let closed : get_or new (commit_behind (list_at x) (x.records ++ r ∷ [])) 0 ≡ 0 =
    rw (behind-push (list_at x) x.records r) (has_one new (tail + 5 + length bytes) 0 (has_right new (tail + 5) bytes (0 ∷ []) body)) in
    holds_by x (x.records ++ r ∷ []) old new is (omega (arith, is.whole, beside.size))
    (within_part 0 tail 0 64 old new beside.front (omega arith) (omega arith))
    (within_part 0 tail (start_of x) (list_at x) old new beside.front (omega arith) (omega arith))
    (kept_current old new (other_of x) x.generation beside.other is.current)
    (listed_push new (end_of x) (list_at x) x.records r
    (kept_list old new (end_of x) (list_at x) tail x.records (omega arith) (within_part 0 tail (list_at x) tail old new beside.front (omega arith) (omega arith)) is.records) one)
    closed (omega (arith, length-append x.records (r ∷ [])))

-- what lies outside of a range behind the tail and in the half
beside_range : (x : Found) (at count : ℕ) (old new : List ℕ) → Holds old x → tail_of x ≤ at → at + count ≤ end_of x → SameOutside at count old new → Beside x old new
beside_range x at count old new is low high same =
    let least = behind-le (list_at x) x.records in
    record {
      size = same.size;
      front = within_from at count 0 (tail_of x) old new same (inl low);
      other = elim (apart x.cap x.half is.half) [
        | inl below ↦ within_from at count (other_of x) (other_of x + 9) old new same (inl (omega arith))
        | inr above ↦ within_from at count (other_of x) (other_of x + 9) old new same (inr (omega arith))
      ];
    }

beside-trans : (x : Found) (a b c : List ℕ) → Beside x a b → Beside x b c → Beside x a c
beside-trans x a b c p q = record {
  size = q.size ∙ p.size;
  front = within_trans 0 (tail_of x) a b c p.front q.front;
  other = within_trans (other_of x) (other_of x + 9) a b c p.other q.other;
}

-- while the record is written
pub torn : (x : Found) (bytes old : List ℕ) → Holds old x → tail_of x + 5 + length bytes < end_of x
    → (c : List ℕ) → SameOutside (tail_of x + 1) (length (framed_record bytes)) old c → Holds c x
torn x bytes old is fits c same =
    let long = length-record_text bytes in
    before x old c is (beside_range x (tail_of x + 1) (length (framed_record bytes)) old c is (omega arith) (omega arith) same)
    (same.each (tail_of x) (inl (omega arith)) ∙ is.closed)

text_kept : (x : Found) (bytes d c : List ℕ) → Has d (tail_of x + 1) (framed_record bytes) → SameOutside (tail_of x) 1 d c → Has c (tail_of x + 1) (framed_record bytes)
text_kept x bytes d c has same =
    has_kept d c (tail_of x + 1) (tail_of x + 1 + length (framed_record bytes)) (tail_of x + 1) (framed_record bytes) same.size
    (within_from (tail_of x) 1 (tail_of x + 1) (tail_of x + 1 + length (framed_record bytes)) d c same (inr (omega arith))) (omega arith) (omega arith) has

pub both_beside : (x : Found) (bytes old d c : List ℕ) → Holds old x → tail_of x + 5 + length bytes < end_of x
    → SameOutside (tail_of x + 1) (length (framed_record bytes)) old d → SameOutside (tail_of x) 1 d c → Beside x old c
both_beside x bytes old d c is fits body commit =
    let long = length-record_text bytes in
    let first = beside_range x (tail_of x + 1) (length (framed_record bytes)) old d is (omega arith) (omega arith) body in
    let held : Holds d x = torn x bytes old is fits d body in
    beside-trans x old d c first (beside_range x (tail_of x) 1 d c held (omega arith) (omega arith) commit)

-- behind the commit
pub done : (x : Found) (bytes old : List ℕ) → Holds old x → 1 ≤ length bytes → length bytes ≤ most_record → tail_of x + 5 + length bytes < end_of x → x.base + length x.records < most_records
    → (d c : List ℕ) → SameOutside (tail_of x + 1) (length (framed_record bytes)) old d → Has d (tail_of x + 1) (framed_record bytes) → SameOutside (tail_of x) 1 d c
    → get_or c (tail_of x) 0 ≢ 0 → Holds c (with_record x bytes)
done x bytes old is some most fits few d c body has commit committed =
    after x bytes old c is (both_beside x bytes old d c is fits body commit) some most fits few committed (text_kept x bytes d c has commit)

-- while it is committed
pub committing : (x : Found) (bytes old : List ℕ) → Holds old x → 1 ≤ length bytes → length bytes ≤ most_record → tail_of x + 5 + length bytes < end_of x → x.base + length x.records < most_records
    → (d c : List ℕ) → SameOutside (tail_of x + 1) (length (framed_record bytes)) old d → Has d (tail_of x + 1) (framed_record bytes) → SameOutside (tail_of x) 1 d c
    → HoldsEither x (with_record x bytes) c
committing x bytes old is some most fits few d c body has commit = elim (cases_eq (get_or c (tail_of x) 0) 0) [
  | inl closed ↦ inl (before x old c is (both_beside x bytes old d c is fits body commit) closed)
  | inr committed ↦ inr (done x bytes old is some most fits few d c body has commit committed)
]
