-- A log stays where its bytes stay.
use Rattle.std.proofs.Common.{◌≡◌, ℕ, ◌+◌, ◌<◌, ◌≤◌, List, [], ◌∷◌, ◌++◌, length, get_or, refl, ◌∙◌, arith}
use Rattle.quorum_log.specs.declared.found.Found.{Found}
use Rattle.quorum_log.specs.declared.found.FoundRecord.{FoundRecord}
use Rattle.quorum_log.specs.Layout.{half_at, image_size, most_records}
use Rattle.quorum_log.specs.Image.{Holds, IsHalf, IsFramed, IsCurrent, Listed, commit_behind, start_of, end_of, other_of, list_at}
use Rattle.quorum_log.proofs.Places.{SameWithin, same_number, same_window, within_part}

pub kept_record : (old new : List ℕ) (end at : ℕ) (r : FoundRecord) → SameWithin at (at + 5 + length r.bytes) old new → IsFramed old end at r → IsFramed new end at r
kept_record old new end at r same is = record {
  commit = rw (same at (omega arith) (omega arith)) is.commit;
  place = is.place;
  size = same_number old new at (at + 5 + length r.bytes) (at + 1) 4 same (omega arith) (omega arith) ∙ is.size;
  some = is.some;
  most = is.most;
  room = is.room;
  bytes = same_window old new at (at + 5 + length r.bytes) (at + 5) (length r.bytes) same (omega arith) (omega arith) ∙ is.bytes;
}

pub behind-le : (at : ℕ) (rs : List FoundRecord) → at ≤ commit_behind at rs
behind-le at [] = omega arith
behind-le at (r ∷ rs) = omega (arith, behind-le (at + 5 + length r.bytes) rs)

pub kept_list : (old new : List ℕ) (end at to : ℕ) (rs : List FoundRecord) → commit_behind at rs ≤ to → SameWithin at to old new → Listed old end at rs → Listed new end at rs
kept_list old new end at to [] low same is = tt
kept_list old new end at to (r ∷ rs) low same is =
    let next = behind-le (at + 5 + length r.bytes) rs in (
      kept_record old new end at r (within_part at to at (at + 5 + length r.bytes) old new same (omega arith) (omega arith)) is.0,
      kept_list old new end (at + 5 + length r.bytes) to rs low (within_part at to (at + 5 + length r.bytes) to old new same (omega arith) (omega arith)) is.1,
    )

pub kept_half : (old new : List ℕ) (at version generation base : ℕ) (state last : List ℕ) → SameWithin at (at + 25 + length state + length last) old new
    → IsHalf old at version generation base state last → IsHalf new at version generation base state last
kept_half old new at version generation base state last same is =
    let to : ℕ = at + 25 + length state + length last in
    let field = same_number old new at to (at + 9) 8 same (omega arith) (omega arith) in
    record {
      validity = rw (same at (omega arith) (omega arith)) is.validity;
      generation_is = same_number old new at to (at + 1) 8 same (omega arith) (omega arith) ∙ is.generation_is;
      version_is = rw field is.version_is;
      base_is = rw field is.base_is;
      state_size = same_number old new at to (at + 17) 4 same (omega arith) (omega arith) ∙ is.state_size;
      last_size = same_number old new at to (at + 21) 4 same (omega arith) (omega arith) ∙ is.last_size;
      state_is = same_window old new at to (at + 25) (length state) same (omega arith) (omega arith) ∙ is.state_is;
      last_is = same_window old new at to (at + 25 + length state) (length last) same (omega arith) (omega arith) ∙ is.last_is;
    }

-- the header stays, and so do the fields of the current half; its records may change
pub holds_by : (x : Found) (rs : List FoundRecord) (old new : List ℕ) → Holds old x → image_size x.cap ≤ length new → SameWithin 0 64 old new → SameWithin (start_of x) (list_at x) old new
    → IsCurrent new (other_of x) x.generation → Listed new (end_of x) (list_at x) rs → get_or new (commit_behind (list_at x) rs) 0 ≡ 0
    → x.base + length rs ≤ most_records → Holds new (record x { records = rs })
holds_by x rs old new is whole header half current listed closed count = record {
  commit = rw (header 0 (omega arith) (omega arith)) is.commit;
  magic_is = same_window old new 0 64 1 7 header (omega arith) (omega arith) ∙ is.magic_is;
  header_version = rw (same_number old new 0 64 8 4 header (omega arith) (omega arith)) is.header_version;
  cap_is = same_number old new 0 64 12 4 header (omega arith) (omega arith) ∙ is.cap_is;
  cap_range = is.cap_range;
  whole = whole;
  half = is.half;
  fields = kept_half old new (start_of x) x.version x.generation x.base x.state x.last half is.fields;
  current = current;
  state_at = is.state_at;
  state_most = is.state_most;
  last_at = is.last_at;
  last_most = is.last_most;
  records = listed;
  closed = closed;
  count = count;
}

-- one record more
pub listed_push : (image : List ℕ) (end at : ℕ) (rs : List FoundRecord) (r : FoundRecord) → Listed image end at rs → IsFramed image end (commit_behind at rs) r → Listed image end at (rs ++ r ∷ [])
listed_push image end at [] r listed one = (one, tt)
listed_push image end at (k ∷ rs) r listed one = (listed.0, listed_push image end (at + 5 + length k.bytes) rs r listed.1 one)

pub behind-push : (at : ℕ) (rs : List FoundRecord) (r : FoundRecord) → commit_behind at (rs ++ r ∷ []) ≡ commit_behind at rs + 5 + length r.bytes
behind-push at [] r = refl
behind-push at (k ∷ rs) r = behind-push (at + 5 + length k.bytes) rs r

-- the list lies within its half
pub tail_within : (image : List ℕ) (end at : ℕ) (rs : List FoundRecord) → at < end → Listed image end at rs → commit_behind at rs < end
tail_within image end at [] low listed = low
tail_within image end at (r ∷ rs) low listed = tail_within image end (at + 5 + length r.bytes) rs listed.0.room listed.1

-- the halves lie behind the header, and apart
pub start-least : (cap half : ℕ) → 64 ≤ half_at cap half
start-least cap half = omega arith
