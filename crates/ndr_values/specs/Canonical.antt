-- The canonical encoding of each value is one of its spellings.
use Rattle.std.specs.Prelude.{◌≡◌, ◌≢◌, ℕ, ◌+◌, ◌<◌, ◌^◌, ◌==◌, not, List, length, All}
use Rattle.wire_fields.specs.declared.endian.Endian.{Endian}
use Rattle.ndr_values.specs.declared.handle.WireHandle.{WireHandle}
use Rattle.ndr_values.specs.Spelling.{Text, Bytes, Pointer, Handle, Number, Time, Spells, canonical_text, canonical_bytes, canonical_number, canonical_handle, canonical_time}

pub record IsSpelledAt (e : Endian) (place : ℕ) : Type 0 where
  pub text : (text : List ℕ) → All (λ unit. unit < 2 ^ 16) text → All (λ unit. unit ≢ 0) text → length text + 1 < 2 ^ 32
      → Spells e place (Text text) (canonical_text e place text)
  pub bytes : (array : List ℕ) → length array < 2 ^ 32 → Spells e place (Bytes array) (canonical_bytes e place array)
  pub pointer : (referent : ℕ) → referent < 2 ^ 32 → Spells e place (Pointer (not (referent == 0))) (canonical_number e place referent)
  pub number : (number : ℕ) → number < 2 ^ 32 → Spells e place (Number number) (canonical_number e place number)
  pub time : (time : ℕ) → time < 2 ^ 64 → Spells e place (Time time) (canonical_time e place time)
  pub handle : (handle : WireHandle) → handle.attributes < 2 ^ 32 → length handle.id ≡ 16 → Spells e place (Handle handle) (canonical_handle e place handle)

abbrev pub IsSpelled : Type 0
IsSpelled = (e : Endian) (place : ℕ) → IsSpelledAt e place
