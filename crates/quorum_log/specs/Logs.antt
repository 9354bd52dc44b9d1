-- What a log value keeps, and the log for which it stands.
use Rattle.std.specs.Prelude.{◌≡◌, ℕ, ◌+◌, ◌-◌, ◌<◌, ◌≤◌, ◌⊎◌, Bool, true, IsTrue, not, ◌==◌, [], length, slice_index}
use Rattle.disk_core.specs.Views.{DiskView}
use Rattle.quorum_log.specs.declared.found.Found.{Found}
use Rattle.registry_defs.specs.Contents.{IsCap}
use Rattle.quorum_log.specs.Layout.{half_size, half_at, most_record, most_records, next_generation}
use Rattle.quorum_log.specs.Image.{Holds, tail_of, other_of}

pub record LogValue : Type 0 where
  -- the fencing token of its writes
  pub claim : ℕ
  pub cap : ℕ
  pub half : ℕ
  pub version : ℕ
  pub generation : ℕ
  pub base : ℕ
  -- how many records the current half has
  pub records : ℕ
  -- where the commit byte behind them stands
  pub tail : ℕ
  -- whether the other half is valid too
  pub other_valid : Bool

-- The parts of a log value fit together.
pub record IsSoundLog (log : LogValue) (buffer : ℕ) : Type 0 where
  pub cap_range : IsCap log.cap
  pub half : (log.half ≡ 0) ⊎ (log.half ≡ 1)
  pub tail_least : half_at log.cap log.half ≤ log.tail
  pub tail_most : log.tail < half_at log.cap log.half + half_size log.cap
  pub count : log.base + log.records ≤ most_records
  pub room : buffer ≡ log.cap + 57_369

-- A record of that length and the commit byte behind it lie within the half.
abbrev pub Fits : LogValue → ℕ → Type 0
Fits log count = log.tail + 5 + count < half_at log.cap log.half + half_size log.cap

-- The log value behind a record of that length.
abbrev pub appended : LogValue → ℕ → LogValue
appended log count = record log { records = log.records + 1; tail = log.tail + 5 + count }

-- The log value behind a checkpoint whose state and last record have these lengths.
abbrev pub begun : LogValue → ℕ → ℕ → LogValue
begun log state last = record log {
  half = 1 - log.half;
  version = 2;
  generation = next_generation log.generation;
  base = log.base + log.records;
  records = 0;
  tail = half_at log.cap (1 - log.half) + 25 + state + last;
  other_valid = true;
}

-- Nothing is pending, the disk tells its content and holds x, and the log value is that of x.
pub record StandsFor (log : LogValue) (v : DiskView) (x : Found) : Type 0 where
  pub told : IsTrue v.tells
  pub settled : v.current.pending ≡ []
  pub holds : Holds v.current.seen x
  pub cap : log.cap ≡ x.cap
  pub half : log.half ≡ x.half
  pub version : log.version ≡ x.version
  pub generation : log.generation ≡ x.generation
  pub base : log.base ≡ x.base
  pub records : log.records ≡ length x.records
  pub tail : log.tail ≡ tail_of x
  pub other : log.other_valid ≡ not (slice_index v.current.seen (other_of x) == 0)

-- The numbers of a log that was found are within their limits, whatever a disk tells.
pub record IsWithinLimits (x : Found) : Type 0 where
  pub cap_range : IsCap x.cap
  pub state_most : length x.state ≤ x.cap
  pub last_most : length x.last ≤ most_record
  pub count : x.base + length x.records ≤ most_records

-- The value of the log that holds x.
abbrev pub log_of : ℕ → Found → Bool → LogValue
log_of claim x other_valid = record {
  claim = claim;
  cap = x.cap;
  half = x.half;
  version = x.version;
  generation = x.generation;
  base = x.base;
  records = length x.records;
  tail = tail_of x;
  other_valid = other_valid;
}
