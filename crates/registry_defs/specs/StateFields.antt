-- Reading a state field by field. A field is at fault, at its first byte, where it ends past `end` or breaks its rule, and
-- it is cut off where too few bytes are there.
use Rattle.std.specs.Prelude.{ℕ, List, length, Bool, true, ◌&&◌, Option, Some, None, Result, Ok, Err, nat_lt, nat_le, ◌==◌, if◌then◌else◌}
use Rattle.wire_fields.specs.Reading.{Reading, bytes_at, number_at, times}

-- Why a state is read no further, and where the field begins at which it ends.
pub data Stop : Type 0 where
  Cut : ℕ → Stop
  Bad : ℕ → Stop

infixl 10 ◌>>=◌
abbrev pub ◌>>=◌ : {A B : Type 0} → Result A Stop → (A → Result B Stop) → Result B Stop
(Ok x) >>= next = next x
(Err stop) >>= next = Err stop

abbrev pub judged : {A : Type 0} → (A → Bool) → ℕ → ℕ → Option (A × Reading) → Result (A × Reading) Stop
judged obeys end place None = Err (Cut place)
judged obeys end place (Some x) =
    if nat_lt end x.1.place then Err (Bad place)
    else if obeys x.0 then Ok x
    else Err (Bad place)

-- One field, a rule that its value obeys, and the place past which it doesn't end.
abbrev pub field_at : {A : Type 0} → (Reading → Option (A × Reading)) → (A → Bool) → ℕ → Reading → Result (A × Reading) Stop
field_at one obeys end s = judged obeys end s.place (one s)

-- A count of units between two bounds, and as many units, all one field.
unfoldable pub units_at : ℕ → ℕ → (List ℕ → Bool) → ℕ → Reading → Result (List ℕ × Reading) Stop
units_at low high obeys end s = do
  count ← field_at (number_at 2) (λ count. nat_le low count && nat_le count high) end s
  field_at (times count.0 (number_at 2)) obeys end count.1

-- A length and as many bytes.
unfoldable pub data_at : ℕ → Reading → Result (List ℕ × Reading) Stop
data_at end s = do
  count ← field_at (number_at 4) (λ count. nat_le count 49152) end s
  field_at (bytes_at count.0) (λ bytes. true) end count.1

-- Nothing stands behind the value.
abbrev pub alone : {A : Type 0} → A × Reading → Result A Stop
alone x = if length x.1.left == 0 then Ok x.0 else Err (Bad x.1.place)
