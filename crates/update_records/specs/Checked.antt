-- Reading field by field, with the place of the first field at fault. A field is at fault, at its first byte,
-- where it is cut off, where it ends past `end`, or where it breaks its rule.
use Rattle.std.specs.Prelude.{ℕ, zero, suc, ◌-◌, ◌^◌, List, [], ◌∷◌, length, Bool, true, ◌&&◌, Option, Some, None, Result, Ok, Err, nat_lt, nat_le, ◌==◌, if◌then◌else◌}
use Rattle.wire_fields.specs.Reading.{Reading}

infixl 10 ◌>>=◌
abbrev pub ◌>>=◌ : {A B : Type 0} → Result A ℕ → (A → Result B ℕ) → Result B ℕ
(Ok x) >>= next = next x
(Err place) >>= next = Err place

abbrev pub judged : {A : Type 0} → (A → Bool) → ℕ → ℕ → Option (A × Reading) → Result (A × Reading) ℕ
judged obeys end place None = Err place
judged obeys end place (Some x) =
    if nat_lt end x.1.place then Err place
    else if obeys x.0 then Ok x
    else Err place

-- One field, a rule that its value obeys, and the place past which it doesn't end.
abbrev pub field_at : {A : Type 0} → (Reading → Option (A × Reading)) → (A → Bool) → ℕ → Reading → Result (A × Reading) ℕ
field_at one obeys end s = judged obeys end s.place (one s)

-- Something that is at fault as a whole where it is cut off.
abbrev pub whole : {A : Type 0} → ℕ → Option (A × Reading) → Result (A × Reading) ℕ
whole place None = Err place
whole place (Some x) = Ok x

-- Where a format sets no end: no list of bytes is longer.
abbrev pub no_end : ℕ
no_end = 2 ^ 64 - 1

abbrev pub anything : {A : Type 0} → A → Bool
anything value = true

abbrev pub between : ℕ → ℕ → ℕ → Bool
between low high value = nat_le low value && nat_le value high

-- So many values, one after the other.
unfoldable pub each_at : {A : Type 0} → ℕ → (Reading → Result (A × Reading) ℕ) → Reading → Result (List A × Reading) ℕ
each_at zero one s = Ok ([], s)
each_at (suc count) one s = one s >>= λ first. each_at count one first.1 >>= λ others. Ok (first.0 ∷ others.0, others.1)

-- Nothing stands behind the value.
abbrev pub alone : {A : Type 0} → A × Reading → Result A ℕ
alone x = if length x.1.left == 0 then Ok x.0 else Err x.1.place
