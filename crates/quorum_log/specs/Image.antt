-- What a log image holds.
--
-- The header is bytes 0 to 63: a commit byte, `MSCSLOG`, the version (u32, 1 or 2), the cap (u32), zeros.
-- Half 0 begins at 64 and half 1 behind it. In a half:
--
--     0   validity byte
--     1   generation u64
--     9   base field u64
--     17  length of the state u32
--     21  length of the last record u32
--     25  the state, then the last record, then the list of records
--
-- The list is a commit byte; 0 ends it, and any other is followed by a length u32, the bytes of a record,
-- and the next commit byte.
use Rattle.std.specs.Prelude.{◌≡◌, ◌≢◌, ℕ, ◌+◌, ◌-◌, ◌<◌, ◌≤◌, ◌⊎◌, List, [], ◌∷◌, length, slice_index}
use Rattle.quorum_log.specs.declared.found.Found.{Found}
use Rattle.quorum_log.specs.declared.found.FoundRecord.{FoundRecord}
use Rattle.registry_defs.specs.Contents.{IsCap}
use Rattle.quorum_log.specs.Layout.{window, number_at, magic, half_size, half_at, image_size, most_record, most_records, version_of, base_of, next_generation}

abbrev pub start_of : Found → ℕ
start_of x = half_at x.cap x.half

abbrev pub end_of : Found → ℕ
end_of x = start_of x + half_size x.cap

abbrev pub other_of : Found → ℕ
other_of x = half_at x.cap (1 - x.half)

abbrev pub list_at : Found → ℕ
list_at x = start_of x + 25 + length x.state + length x.last

-- At this commit byte stands a record that is committed, in a half that ends there.
pub record IsFramed (image : List ℕ) (end at : ℕ) (r : FoundRecord) : Type 0 where
  pub commit : slice_index image at ≢ 0
  pub place : r.at ≡ at + 5
  pub size : number_at image (at + 1) 4 ≡ length r.bytes
  pub some : 1 ≤ length r.bytes
  pub most : length r.bytes ≤ most_record
  pub room : at + 5 + length r.bytes < end
  pub bytes : window image (at + 5) (length r.bytes) ≡ r.bytes

-- These records stand one behind the other, from that commit byte on.
abbrev pub Listed : List ℕ → ℕ → ℕ → List FoundRecord → Type 0
Listed image end at [] = Unit {0}
Listed image end at (r ∷ rs) = IsFramed image end at r × Listed image end (at + 5 + length r.bytes) rs

-- The commit byte behind the records.
abbrev pub commit_behind : ℕ → List FoundRecord → ℕ
commit_behind at [] = at
commit_behind at (r ∷ rs) = commit_behind (at + 5 + length r.bytes) rs

abbrev pub tail_of : Found → ℕ
tail_of x = commit_behind (list_at x) x.records

-- The half that begins there has these fields.
pub record IsHalf (image : List ℕ) (at version generation base : ℕ) (state last : List ℕ) : Type 0 where
  pub validity : slice_index image at ≢ 0
  pub generation_is : number_at image (at + 1) 8 ≡ generation
  pub version_is : version ≡ version_of (number_at image (at + 9) 8)
  pub base_is : base ≡ base_of (number_at image (at + 9) 8)
  pub state_size : number_at image (at + 17) 4 ≡ length state
  pub last_size : number_at image (at + 21) 4 ≡ length last
  pub state_is : window image (at + 25) (length state) ≡ state
  pub last_is : window image (at + 25 + length state) (length last) ≡ last

-- The other half isn't valid, or its generation is the one before.
abbrev pub IsCurrent : List ℕ → ℕ → ℕ → Type 0
IsCurrent image other generation =
    (slice_index image other ≡ 0) ⊎ (generation ≡ next_generation (number_at image (other + 1) 8))

pub record Holds (image : List ℕ) (x : Found) : Type 0 where
  pub commit : slice_index image 0 ≢ 0
  pub magic_is : window image 1 7 ≡ magic
  pub header_version : (number_at image 8 4 ≡ 1) ⊎ (number_at image 8 4 ≡ 2)
  pub cap_is : number_at image 12 4 ≡ x.cap
  pub cap_range : IsCap x.cap
  pub whole : image_size x.cap ≤ length image
  pub half : (x.half ≡ 0) ⊎ (x.half ≡ 1)
  pub fields : IsHalf image (start_of x) x.version x.generation x.base x.state x.last
  pub current : IsCurrent image (other_of x) x.generation
  pub state_at : x.state_at ≡ start_of x + 25
  pub state_most : length x.state ≤ x.cap
  pub last_at : x.last_at ≡ start_of x + 25 + length x.state
  pub last_most : length x.last ≤ most_record
  pub records : Listed image (end_of x) (list_at x) x.records
  pub closed : slice_index image (tail_of x) ≡ 0
  pub count : x.base + length x.records ≤ most_records
