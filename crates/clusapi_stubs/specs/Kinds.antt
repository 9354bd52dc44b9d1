-- Values of given kinds, one after the other.
use Rattle.std.specs.Prelude.{◌≡◌, List, [], ◌∷◌, Result, Ok}
use Rattle.wire_fields.specs.Reading.{Reading}
use Rattle.ndr_values.specs.declared.fault.NdrFault.{NdrFault}
use Rattle.ndr_values.specs.Reading.{◌>>=◌, byte_array, handle, number, pointer, string, time}
use Rattle.ndr_values.specs.Spelling.{Bytes, Handle, Number, Pointer, Reads, Text, Time, Value}

-- As the values of ndr_values.
pub data Kind : Type 0 where
  AText : Kind
  AnArray : Kind
  APointer : Kind
  AHandle : Kind
  ANumber : Kind
  ATime : Kind

-- A value of the kind, or the first fault with its place.
abbrev pub value_at : Kind → Reading → Result (Value × Reading) NdrFault
value_at AText s = string s >>= λ x. Ok (Text x.0, x.1)
value_at AnArray s = byte_array s >>= λ x. Ok (Bytes x.0, x.1)
value_at APointer s = pointer s >>= λ x. Ok (Pointer x.0, x.1)
value_at AHandle s = handle s >>= λ x. Ok (Handle x.0, x.1)
value_at ANumber s = number s >>= λ x. Ok (Number x.0, x.1)
value_at ATime s = time s >>= λ x. Ok (Time x.0, x.1)

-- Values of these kinds in turn, or the first fault.
abbrev pub values_at : List Kind → Reading → Result (List Value × Reading) NdrFault
values_at [] s = Ok ([], s)
values_at (kind ∷ kinds) s = do
  first ← value_at kind s
  others ← values_at kinds first.1
  Ok (first.0 ∷ others.0, others.1)

-- A prefix of the bytes left spells the values in turn, and the reader now stands behind this prefix.
abbrev pub ReadsAll : List Value → Reading → Reading → Type 0
ReadsAll [] before now = now ≡ before
ReadsAll (value ∷ values) before now = (next : Reading) × Reads value before next × ReadsAll values next now
