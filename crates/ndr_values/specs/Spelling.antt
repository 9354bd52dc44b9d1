-- What bytes spell a value of a stub, in the transfer syntax NDR (C706, chapter 14).
-- A value starts at a multiple of 4, counted from the stub's first byte; the padding before it is any bytes.
use Rattle.std.specs.Prelude.{◌≡◌, ℕ, ◌+◌, ◌*◌, ◌%◌, ◌/◌, ◌<◌, ◌≤◌, ◌^◌, ◌==◌, Bool, not, List, ◌++◌, length, replicate, IsTrue}
use Rattle.std.specs.List.{flat_map}
use Rattle.wire_fields.specs.declared.endian.Endian.{Endian}
use Rattle.wire_fields.specs.Lists.{IsList}
use Rattle.wire_fields.specs.Numbers.{num, uuid_text}
use Rattle.wire_fields.specs.Reading.{Reading, gap}
use Rattle.ndr_values.specs.declared.handle.WireHandle.{WireHandle}
use Rattle.ndr_values.specs.Text.{ends_in_zero, text_of}

pub data Value : Type 0 where
  -- the units of a string before its end
  Text : (text : List ℕ) → Value
  Bytes : (bytes : List ℕ) → Value
  -- whether the pointer isn't null
  Pointer : (present : Bool) → Value
  Handle : (handle : WireHandle) → Value
  -- a number of 4 bytes
  Number : (number : ℕ) → Value
  Time : (time : ℕ) → Value

-- A unit of a string.
abbrev pub IsUnit : Endian → ℕ → List ℕ → Type 0
IsUnit e unit text = (unit < 256 ^ 2) × (text ≡ num e 2 unit)

-- A conformant varying string: maximum, offset 0, actual count, units. The last unit is 0, and the text ends before the first 0.
pub record SpellsText (e : Endian) (place : ℕ) (text bytes : List ℕ) : Type 0 where
  pub padding : List ℕ
  pub max : ℕ
  pub sent : List ℕ
  pub sent_bytes : List ℕ
  pub aligned : length padding ≡ gap 4 place
  pub fits : max < 256 ^ 4
  pub within : length sent ≤ max
  pub ended : IsTrue (ends_in_zero sent)
  pub before_end : text ≡ text_of sent
  pub units : IsList (IsUnit e) sent sent_bytes
  pub parts : bytes ≡ padding ++ (num e 4 max ++ (num e 4 0 ++ (num e 4 (length sent) ++ sent_bytes)))

-- A conformant array of bytes: count, bytes.
pub record SpellsBytes (e : Endian) (place : ℕ) (array bytes : List ℕ) : Type 0 where
  pub padding : List ℕ
  pub aligned : length padding ≡ gap 4 place
  pub fits : length array < 256 ^ 4
  pub parts : bytes ≡ padding ++ (num e 4 (length array) ++ array)

pub record SpellsNumber (e : Endian) (place number : ℕ) (bytes : List ℕ) : Type 0 where
  pub padding : List ℕ
  pub aligned : length padding ≡ gap 4 place
  pub fits : number < 256 ^ 4
  pub parts : bytes ≡ padding ++ num e 4 number

-- A pointer's referent, which is 0 where it is null.
pub record SpellsPointer (e : Endian) (place : ℕ) (present : Bool) (bytes : List ℕ) : Type 0 where
  pub referent : ℕ
  pub null_is_0 : present ≡ not (referent == 0)
  pub number : SpellsNumber e place referent bytes

-- A context handle: attributes, identifier.
pub record SpellsHandle (e : Endian) (place : ℕ) (handle : WireHandle) (bytes : List ℕ) : Type 0 where
  pub padding : List ℕ
  pub aligned : length padding ≡ gap 4 place
  pub attributes : handle.attributes < 256 ^ 4
  pub id : length handle.id ≡ 16
  pub parts : bytes ≡ padding ++ (num e 4 handle.attributes ++ uuid_text e handle.id)

-- A time of 8 bytes: its low 4 bytes as one number, then its high 4 bytes as another, in either byte order.
pub record SpellsTime (e : Endian) (place time : ℕ) (bytes : List ℕ) : Type 0 where
  pub padding : List ℕ
  pub low : ℕ
  pub high : ℕ
  pub aligned : length padding ≡ gap 4 place
  pub low_fits : low < 256 ^ 4
  pub high_fits : high < 256 ^ 4
  pub time_is : time ≡ low + 256 ^ 4 * high
  pub parts : bytes ≡ padding ++ (num e 4 low ++ num e 4 high)

-- The bytes, which start at the place, spell the value in the byte order.
abbrev pub Spells : Endian → ℕ → Value → List ℕ → Type 0
Spells e place (Text text) bytes = SpellsText e place text bytes
Spells e place (Bytes array) bytes = SpellsBytes e place array bytes
Spells e place (Pointer present) bytes = SpellsPointer e place present bytes
Spells e place (Handle handle) bytes = SpellsHandle e place handle bytes
Spells e place (Number number) bytes = SpellsNumber e place number bytes
Spells e place (Time time) bytes = SpellsTime e place time bytes

-- A prefix of the bytes left spells the value, and the reader now stands behind this prefix.
pub record Reads (value : Value) (before now : Reading) : Type 0 where
  pub bytes : List ℕ
  pub spelled : Spells before.endian before.place value bytes
  pub parts : before.left ≡ bytes ++ now.left
  pub order : now.endian ≡ before.endian
  pub further : now.place ≡ before.place + length bytes

-- ---- the canonical encoding, with padding of zeros

abbrev pub zeros : ℕ → List ℕ
zeros place = replicate (gap 4 place) 0

-- maximum, offset and actual count of a string
abbrev pub canonical_counts : Endian → ℕ → ℕ → List ℕ
canonical_counts e place count = zeros place ++ num e 4 count ++ num e 4 0 ++ num e 4 count

-- the units and a last unit 0
abbrev pub canonical_text : Endian → ℕ → List ℕ → List ℕ
canonical_text e place text = canonical_counts e place (length text + 1) ++ flat_map (num e 2) text ++ num e 2 0

abbrev pub canonical_bytes : Endian → ℕ → List ℕ → List ℕ
canonical_bytes e place array = zeros place ++ num e 4 (length array) ++ array

abbrev pub canonical_number : Endian → ℕ → ℕ → List ℕ
canonical_number e place number = zeros place ++ num e 4 number

abbrev pub canonical_handle : Endian → ℕ → WireHandle → List ℕ
canonical_handle e place handle = zeros place ++ num e 4 handle.attributes ++ uuid_text e handle.id

abbrev pub canonical_time : Endian → ℕ → ℕ → List ℕ
canonical_time e place time = zeros place ++ num e 4 (time % 256 ^ 4) ++ num e 4 (time / 256 ^ 4)
