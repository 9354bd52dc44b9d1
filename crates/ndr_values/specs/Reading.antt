-- Reading the values of a stub in the order of the checks: the value, or the first fault with its place.
use Rattle.std.specs.Prelude.{◌≡◌, ℕ, ◌+◌, ◌*◌, ◌^◌, ◌-◌, ◌==◌, Bool, true, false, not, List, length, Option, Some, None, Result, Ok, Err, nat_le, if◌then◌else◌}
use Rattle.wire_fields.specs.Reading.{Reading, bytes_at, number_at, times}
use Rattle.ndr_values.specs.declared.fault.NdrFault.{NdrFault}
use Rattle.ndr_values.specs.declared.fault.NdrFault.TheVariants.{Short, BadOffset, BadCount, NoEnd}
use Rattle.ndr_values.specs.declared.fault.ReadFault.{ReadFault}
use Rattle.ndr_values.specs.declared.fault.ReadFault.TheVariants.{Ndr, Memory}
use Rattle.ndr_values.specs.declared.handle.WireHandle.{WireHandle}
use Rattle.ndr_values.specs.Text.{ends_in_zero, text_of}
use Rattle.ndr_values.specs.Aligned.{aligned, word_at, handle_at}

infixl 10 ◌>>=◌
abbrev pub ◌>>=◌ : {A B : Type 0} → Result A NdrFault → (A → Result B NdrFault) → Result B NdrFault
(Ok x) >>= next = next x
(Err fault) >>= next = Err fault

-- A field that starts at the place.
abbrev pub field : {A : Type 0} → ℕ → Option A → Result A NdrFault
field place (Some x) = Ok x
field place None = Err (Short place)

-- A check that passes, or is at fault.
abbrev pub check : Bool → NdrFault → Result (Unit {0}) NdrFault
check true fault = Ok tt
check false fault = Err fault

abbrev pub number : Reading → Result (ℕ × Reading) NdrFault
number s = field (aligned s.place) (word_at s)

-- A pointer is there where its referent isn't 0.
unfoldable pub pointer : Reading → Result (Bool × Reading) NdrFault
pointer s = do
  referent ← number s
  Ok (not (referent.0 == 0), referent.1)

abbrev pub handle : Reading → Result (WireHandle × Reading) NdrFault
handle s = field (aligned s.place) (handle_at s)

unfoldable pub time : Reading → Result (ℕ × Reading) NdrFault
time s = do
  low ← number s
  high ← field low.1.place (number_at 4 low.1)
  Ok (low.0 + 256 ^ 4 * high.0, high.1)

unfoldable pub byte_array : Reading → Result (List ℕ × Reading) NdrFault
byte_array s = do
  count ← number s
  field count.1.place (bytes_at count.0 count.1)

-- How many units a string has: its actual count, behind its maximum and its offset.
unfoldable pub actual_count : Reading → Result (ℕ × Reading) NdrFault
actual_count s = do
  max ← number s
  offset ← field max.1.place (number_at 4 max.1)
  actual ← field offset.1.place (number_at 4 offset.1)
  from_start ← check (offset.0 == 0) (BadOffset max.1.place)
  within ← check (nat_le actual.0 max.0) (BadCount offset.1.place)
  Ok actual

abbrev pub units : ℕ → Reading → Result (List ℕ × Reading) NdrFault
units count s = field s.place (times count (number_at 2) s)

-- The place of the last unit before the place, or of the count where there is no unit.
abbrev pub end_place : ℕ → List ℕ → ℕ
end_place place sent = if length sent == 0 then place - 4 else place - 2

unfoldable pub string : Reading → Result (List ℕ × Reading) NdrFault
string s = do
  actual ← actual_count s
  sent ← units actual.0 actual.1
  ended ← check (ends_in_zero sent.0) (NoEnd (end_place sent.1.place sent.0))
  Ok (text_of sent.0, sent.1)

-- What a call gave: the value and the place behind it, or the fault.
abbrev pub Takes : {X Y : Type 0} → (X → Y) → Result X NdrFault → Result (Y × Reading) NdrFault → Reading → Type 0
Takes view (Ok x) read now = read ≡ Ok (view x, now)
Takes view (Err fault) read now = read ≡ Err fault

-- The same, unless memory ran out.
abbrev pub TakesIn : {X Y : Type 0} → (X → Y) → Result X ReadFault → Result (Y × Reading) NdrFault → Reading → Type 0
TakesIn view (Ok x) read now = read ≡ Ok (view x, now)
TakesIn view (Err Memory) read now = Unit {0}
TakesIn view (Err (Ndr fault)) read now = read ≡ Err fault

abbrev pub IsFault : {Y : Type 0} → ReadFault → Result Y NdrFault → Type 0
IsFault Memory read = Unit {0}
IsFault (Ndr fault) read = read ≡ Err fault
