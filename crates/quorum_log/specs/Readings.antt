-- What the functions that read the parts of an image answer.
use Rattle.std.specs.Prelude.{◌≡◌, ℕ, ◌+◌, ◌<◌, ◌≤◌, ◌⊎◌, List, length, slice_index, Option, Some, None}
use Rattle.quorum_log.specs.declared.fault.OpenFault.{OpenFault}
use Rattle.quorum_log.specs.declared.fault.OpenFault.TheVariants.{BadImage, Memory}
use Rattle.quorum_log.specs.declared.found.Found.{Found}
use Rattle.quorum_log.specs.declared.found.FoundRecord.{FoundRecord}
use Rattle.quorum_log.specs.Layout.{number_at, half_size, half_at, most_record, most_records}
use Rattle.quorum_log.specs.Image.{Listed, IsHalf, commit_behind}
use Rattle.quorum_log.specs.Checks.{first_bad, halves_checks, length_checks, current_half, HasBadLength, IsBadBehind, IsBadHalf}

abbrev pub BadAt : Option ℕ → OpenFault → Type 0
BadAt bad (BadImage place) = bad ≡ Some place
BadAt bad _ = ⊥

-- The lengths in the half that begins there are these, and good.
pub record AreLengths (image : List ℕ) (cap start state last : ℕ) : Type 0 where
  pub good : first_bad (length_checks image cap start) ≡ None
  pub state_is : number_at image (start + 17) 4 ≡ state
  pub state_most : state ≤ cap
  pub last_is : number_at image (start + 21) 4 ≡ last
  pub last_most : last ≤ most_record

abbrev pub RecordsFault : List ℕ → ℕ → ℕ → OpenFault → Type 0
RecordsFault image end at (BadImage place) = IsBadBehind image end at place
RecordsFault image end at Memory = Unit {0}
RecordsFault image end at _ = ⊥

-- The length of the record at this commit byte is good, or at fault.
pub record IsGoodSize (image : List ℕ) (end at size : ℕ) : Type 0 where
  pub size_is : number_at image (at + 1) 4 ≡ size
  pub some : 1 ≤ size
  pub most : size ≤ most_record
  pub room : at + 5 + size < end

abbrev pub SizeFault : List ℕ → ℕ → ℕ → OpenFault → Type 0
SizeFault image end at (BadImage place) = HasBadLength image end at × (place ≡ at + 1)
SizeFault image end at _ = ⊥

-- The records of a half, up to the commit byte that ends them.
pub record AreRecords (image : List ℕ) (end at : ℕ) (records : List FoundRecord) : Type 0 where
  pub listed : Listed image end at records
  pub closed : slice_index image (commit_behind at records) ≡ 0

-- The half holds these fields and records, and they pass its checks.
pub record IsFoundHalf (image : List ℕ) (cap half : ℕ) (x : Found) : Type 0 where
  pub cap_is : x.cap ≡ cap
  pub half_is : x.half ≡ half
  pub fields : IsHalf image (half_at cap half) x.version x.generation x.base x.state x.last
  pub state_at : x.state_at ≡ half_at cap half + 25
  pub state_most : length x.state ≤ cap
  pub last_at : x.last_at ≡ half_at cap half + 25 + length x.state
  pub last_most : length x.last ≤ most_record
  pub records : AreRecords image (half_at cap half + half_size cap) (half_at cap half + 25 + length x.state + length x.last) x.records
  pub count : x.base + length x.records ≤ most_records

abbrev pub HalfFault : List ℕ → ℕ → ℕ → OpenFault → Type 0
HalfFault image cap start (BadImage place) = (first_bad (length_checks image cap start) ≡ Some place) ⊎ IsBadHalf image cap start place
HalfFault image cap start Memory = Unit {0}
HalfFault image cap start _ = ⊥

-- The halves pass their checks, and the current one holds x.
pub record IsFoundCurrent (image : List ℕ) (cap : ℕ) (x : Found) : Type 0 where
  pub halves : first_bad (halves_checks image cap) ≡ None
  pub found : IsFoundHalf image cap (current_half image cap) x
