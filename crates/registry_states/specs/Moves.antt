-- A reader that goes on, and more bytes behind those that it has.
use Rattle.std.specs.Prelude.{◌≡◌, ◌⊎◌, ℕ, ◌+◌, List, ◌++◌, length, Result, Err}
use Rattle.wire_fields.specs.Reading.{Reading}
use Rattle.registry_defs.specs.StateFields.{Stop, Cut, Bad}

-- The reader went over the front of its bytes.
pub record Advanced (s t : Reading) : Type 0 where
  pub front : List ℕ
  pub parts : s.left ≡ front ++ t.left
  pub place : t.place ≡ s.place + length front
  pub order : t.endian ≡ s.endian

abbrev pub further : List ℕ → Reading → Reading
further more s = record { endian = s.endian; place = s.place; left = s.left ++ more }

-- The place up to which there are bytes.
abbrev pub end_of : Reading → ℕ
end_of s = s.place + length s.left

-- A field that breaks a rule, or is cut off.
abbrev pub StopsAt : {A : Type 0} → ℕ → Result A Stop → Type 0
StopsAt place read = (read ≡ Err (Bad place)) ⊎ (read ≡ Err (Cut place))
