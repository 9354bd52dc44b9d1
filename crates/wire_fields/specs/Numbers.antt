-- Numbers and identifiers as bytes in a chosen order (C706, 14.2 and appendix A).
use Rattle.std.specs.Prelude.{◌≡◌, ℕ, ◌<◌, ◌^◌, List, length, slice_index}
use Rattle.byteorder.specs.Endian.{little_bytes, big_bytes, little_number, big_number}
use Rattle.uuid.specs.Parts.{swap_fields}
use Rattle.wire_fields.specs.declared.endian.Endian.{Endian}
use Rattle.wire_fields.specs.declared.endian.Endian.TheVariants.{Little, Big}

-- Each item is a byte.
abbrev pub IsBytes : List ℕ → Type 0
IsBytes bytes = (i : ℕ) → slice_index bytes i < 256

-- The number as so many bytes.
unfoldable pub num : Endian → ℕ → ℕ → List ℕ
num Little width value = little_bytes width value
num Big width value = big_bytes width value

-- The number that the first so many bytes are.
unfoldable pub number : Endian → ℕ → List ℕ → ℕ
number Little width bytes = little_number width bytes
number Big width bytes = big_number width bytes

-- An identifier's 16 bytes as they are sent, and the identifier of 16 bytes that were sent:
-- in little-endian order its first three fields, of 4, 2 and 2 bytes, are turned round.
unfoldable pub uuid_text : Endian → List ℕ → List ℕ
uuid_text Little id = swap_fields id
uuid_text Big id = id

-- Every list of bytes is the spelling of exactly one number of its width.
abbrev pub SpellsOneNumber : Endian → List ℕ → Type 0
SpellsOneNumber endian bytes =
    (value : ℕ) × (value < 256 ^ length bytes) × (num endian (length bytes) value ≡ bytes)
    × ((other : ℕ) → other < 256 ^ length bytes → num endian (length bytes) other ≡ bytes → other ≡ value)
