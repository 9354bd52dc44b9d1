-- Where the parts of a log image lie, and numbers and bytes by their place in it.
use Rattle.std.specs.Prelude.{ℕ, zero, suc, ◌+◌, ◌*◌, ◌-◌, ◌%◌, ◌^◌, nat_lt, if◌then◌else◌, List, [], ◌∷◌, drop, slice_index}
use Rattle.wire_fields.specs.declared.endian.Endian.TheVariants.{Little}
use Rattle.wire_fields.specs.Numbers.{number}

-- The bytes from that place on, so many of them.
unfoldable pub window : List ℕ → ℕ → ℕ → List ℕ
window image at zero = []
window image at (suc count) = slice_index image at ∷ window image (at + 1) count

-- The little-endian number in so many bytes from that place on.
unfoldable pub number_at : List ℕ → ℕ → ℕ → ℕ
number_at image at width = number Little width (drop at image)

-- Bytes 1 to 7 of the header, `MSCSLOG`.
abbrev pub magic : List ℕ
magic = 77 ∷ 83 ∷ 67 ∷ 83 ∷ 76 ∷ 79 ∷ 71 ∷ []

-- How long a half is.
abbrev pub half_size : ℕ → ℕ
half_size cap = cap + 327_680

-- Where the half begins. Behind half 1 the image ends.
abbrev pub half_at : ℕ → ℕ → ℕ
half_at cap half = 64 + half * half_size cap

abbrev pub image_size : ℕ → ℕ
image_size cap = 2 * cap + 655_424

-- The longest record, in bytes.
abbrev pub most_record : ℕ
most_record = 57_344

-- The greatest number of records.
abbrev pub most_records : ℕ
most_records = 9_223_372_036_854_775_807

-- What the base field of a half of version 2 has more than the base.
abbrev pub second_version : ℕ
second_version = 9_223_372_036_854_775_808

-- The base field of a half tells its version and its base, the number of records before its own.
abbrev pub version_of : ℕ → ℕ
version_of field = if nat_lt field second_version then 1 else 2

abbrev pub base_of : ℕ → ℕ
base_of field = if nat_lt field second_version then field else field - second_version

abbrev pub next_generation : ℕ → ℕ
next_generation generation = (generation + 1) % 2 ^ 64
