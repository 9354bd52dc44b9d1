-- The checks of an image, in order. Each fault names the place of what is at fault.
use Rattle.std.specs.Prelude.{◌≡◌, ◌≢◌, ℕ, ◌+◌, ◌-◌, ◌<◌, ◌≤◌, ◌⊎◌, Bool, not, ◌==◌, ◌&&◌, ◌||◌, nat_le, if◌then◌else◌, List, [], ◌∷◌, length, slice_index, Option, Some, None}
use Rattle.std.specs.Str.{bytes_eq}
use Rattle.quorum_log.specs.declared.fault.OpenFault.{OpenFault}
use Rattle.quorum_log.specs.declared.fault.OpenFault.TheVariants.{Blank, BadImage, Memory}
use Rattle.quorum_log.specs.declared.found.FoundRecord.{FoundRecord}
use Rattle.quorum_log.specs.Layout.{window, number_at, magic, half_size, half_at, image_size, most_record, most_records, base_of, next_generation}
use Rattle.quorum_log.specs.Image.{Listed, commit_behind}

-- Of checks that pass or not, each with its place, the place of the first one that doesn't.
abbrev pub first_bad : List (Bool × ℕ) → Option ℕ
first_bad [] = None
first_bad (check ∷ rest) = if check.0 then first_bad rest else Some check.1

-- The header, on a disk of that size.
abbrev pub header_checks : List ℕ → ℕ → List (Bool × ℕ)
header_checks image size =
    (bytes_eq (window image 1 7) magic, 1)
    ∷ (number_at image 8 4 == 1 || number_at image 8 4 == 2, 8)
    ∷ (nat_le 4096 (number_at image 12 4) && nat_le (number_at image 12 4) 16_777_216 && nat_le (image_size (number_at image 12 4)) size, 12)
    ∷ []

abbrev pub is_valid : List ℕ → ℕ → ℕ → Bool
is_valid image cap half = not (slice_index image (half_at cap half) == 0)

abbrev pub generation_in : List ℕ → ℕ → ℕ → ℕ
generation_in image cap half = number_at image (half_at cap half + 1) 8

-- That half comes right behind the other one.
abbrev pub is_next : List ℕ → ℕ → ℕ → Bool
is_next image cap half = generation_in image cap half == next_generation (generation_in image cap (1 - half))

-- The half that is current where the halves pass their checks.
abbrev pub current_half : List ℕ → ℕ → ℕ
current_half image cap =
    if not (is_valid image cap 1) then 0 else if not (is_valid image cap 0) then 1 else if is_next image cap 0 then 0 else 1

abbrev pub halves_checks : List ℕ → ℕ → List (Bool × ℕ)
halves_checks image cap =
    (is_valid image cap 0 || is_valid image cap 1, 64)
    ∷ (not (is_valid image cap 0 && is_valid image cap 1) || is_next image cap 0 || is_next image cap 1, half_at cap 1 + 1)
    ∷ []

-- The lengths in the half that begins there.
abbrev pub length_checks : List ℕ → ℕ → ℕ → List (Bool × ℕ)
length_checks image cap start =
    (nat_le (number_at image (start + 17) 4) cap, start + 17)
    ∷ (nat_le (number_at image (start + 21) 4) most_record, start + 21)
    ∷ []

abbrev pub list_in : List ℕ → ℕ → ℕ
list_in image start = start + 25 + number_at image (start + 17) 4 + number_at image (start + 21) 4

-- The length of the record at this commit byte is 0 or too great, or leaves no room in the half for the next commit byte.
abbrev pub HasBadLength : List ℕ → ℕ → ℕ → Type 0
HasBadLength image end at =
    (number_at image (at + 1) 4 ≡ 0) ⊎ (most_record < number_at image (at + 1) 4) ⊎ (end ≤ at + 5 + number_at image (at + 1) 4)

-- Behind good records stands the first one with a bad length.
pub record IsBadBehind (image : List ℕ) (end at place : ℕ) : Type 0 where
  pub good : List FoundRecord
  pub listed : Listed image end at good
  pub commit : slice_index image (commit_behind at good) ≢ 0
  pub bad : HasBadLength image end (commit_behind at good)
  pub place_is : place ≡ commit_behind at good + 1

-- All records are good, and with those before them they are too many.
pub record IsTooMany (image : List ℕ) (end start place : ℕ) : Type 0 where
  pub good : List FoundRecord
  pub listed : Listed image end (list_in image start) good
  pub closed : slice_index image (commit_behind (list_in image start) good) ≡ 0
  pub many : most_records < base_of (number_at image (start + 9) 8) + length good
  pub place_is : place ≡ start + 9

pub record IsBadHalf (image : List ℕ) (cap start place : ℕ) : Type 0 where
  pub lengths : first_bad (length_checks image cap start) ≡ None
  pub records : IsBadBehind image (start + half_size cap) (list_in image start) place ⊎ IsTooMany image (start + half_size cap) start place

-- What the checks of the header answer.
abbrev pub HeaderFault : List ℕ → ℕ → OpenFault → Type 0
HeaderFault image size Blank = slice_index image 0 ≡ 0
HeaderFault image size (BadImage place) = (slice_index image 0 ≢ 0) × (first_bad (header_checks image size) ≡ Some place)
HeaderFault image size _ = ⊥

-- What the checks of the halves answer, behind a header that is good.
abbrev pub HalvesFault : List ℕ → ℕ → OpenFault → Type 0
HalvesFault image cap (BadImage place) =
    (first_bad (halves_checks image cap) ≡ Some place)
    ⊎ ((first_bad (halves_checks image cap) ≡ None) × (
    (first_bad (length_checks image cap (half_at cap (current_half image cap))) ≡ Some place)
    ⊎ IsBadHalf image cap (half_at cap (current_half image cap)) place))
HalvesFault image cap Memory = Unit {0}
HalvesFault image cap _ = ⊥

-- The place is that of the first check that fails.
abbrev pub IsBadImage : List ℕ → ℕ → ℕ → Type 0
IsBadImage image size place =
    (slice_index image 0 ≢ 0) × (
    (first_bad (header_checks image size) ≡ Some place)
    ⊎ ((first_bad (header_checks image size) ≡ None) × HalvesFault image (number_at image 12 4) (BadImage place)))
