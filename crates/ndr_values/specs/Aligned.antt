-- One field at the next multiple of 4; none where too few bytes are left.
use Rattle.std.specs.Prelude.{◌≡◌, ℕ, ◌+◌, Option, None, Some, Result, Ok, Err}
use Rattle.wire_fields.specs.Reading.{Reading, ◌>>=◌, align_at, gap, number_at, uuid_at}
use Rattle.ndr_values.specs.declared.handle.WireHandle.{WireHandle}

-- The place of that field, also where it lies past the end.
abbrev pub aligned : ℕ → ℕ
aligned place = place + gap 4 place

-- A number of 4 bytes.
unfoldable pub word_at : Reading → Option (ℕ × Reading)
word_at s = align_at 4 s >>= λ padded. number_at 4 padded.1

-- A context handle, which is one field of 20 bytes.
unfoldable pub handle_at : Reading → Option (WireHandle × Reading)
handle_at s = do
  padded ← align_at 4 s
  attributes ← number_at 4 padded.1
  id ← uuid_at attributes.1
  Some (record { attributes = attributes.0; id = id.0 }, id.1)

-- What a call gave: the field and the place behind it, or nothing.
abbrev pub GivesField : {Y E : Type 0} → Result Y E → Option (Y × Reading) → Reading → Type 0
GivesField (Ok x) read now = read ≡ Some (x, now)
GivesField (Err fault) read now = read ≡ None
