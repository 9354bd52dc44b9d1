-- Undoing a reading step by step, and what a call gave.
use Rattle.std.proofs.Common.{◌≡◌, ℕ, ◌+◌, Bool, true, false, List, ◌++◌, length, Option, Some, None, Result, Ok, Err, IfOk, refl, subst}
use Rattle.wire_fields.specs.Reading.{Reading}
use Rattle.wire_fields.proofs.FieldLaws.{Took, at}
use Rattle.ndr_values.specs.declared.fault.NdrFault.{NdrFault}
use Rattle.ndr_values.specs.declared.fault.ReadFault.{ReadFault}
use Rattle.ndr_values.specs.declared.fault.ReadFault.TheVariants.{Ndr, Memory}
use Rattle.ndr_values.specs.Reading.{◌>>=◌, field, check, Takes, TakesIn}
use Rattle.ndr_values.specs.Spelling.{Value, Spells, Reads}

-- The value of a step that did not fail.
pub bind_ok : {A B : Type 0} (read : Result A NdrFault) (next : A → Result B NdrFault) (y : B) → (read >>= next) ≡ Ok y → (x : A) × (read ≡ Ok x) × (next x ≡ Ok y)
bind_ok (Ok x) next y e = (x, refl, e)
bind_ok (Err fault) next y e = absurd cc

pub field_ok : {A : Type 0} (place : ℕ) (read : Option A) (x : A) → field place read ≡ Ok x → read ≡ Some x
field_ok place (Some y) x e = cc
field_ok place None x e = absurd cc

pub bind_field : {A B : Type 0} (place : ℕ) (read : Option A) (next : A → Result B NdrFault) (y : B) → (field place read >>= next) ≡ Ok y → (x : A) × (read ≡ Some x) × (next x ≡ Ok y)
bind_field place (Some x) next y e = (x, refl, e)
bind_field place None next y e = absurd cc

pub bind_check : {B : Type 0} (test : Bool) (fault : NdrFault) (next : Unit {0} → Result B NdrFault) (y : B) → (check test fault >>= next) ≡ Ok y → (test ≡ true) × (next tt ≡ Ok y)
bind_check true fault next y e = (refl, e)
bind_check false fault next y e = absurd cc

abbrev done : {A : Type 0} → A → Result A NdrFault
done x = Ok x

pub ok_is : {A : Type 0} (x y : A) → done x ≡ done y → x ≡ y
ok_is x y e = cc

-- What a call found.
pub found : {X Y : Type 0} (view : X → Y) (P : Y → Type 0) (result : Result X NdrFault) (read : Result (Y × Reading) NdrFault) (now : Reading)
    → ((y : Y) → read ≡ Ok (y, now) → P y) → Takes view result read now → IfOk result (λ x. P (view x))
found view P (Ok x) read now law taken = law (view x) taken
found view P (Err fault) read now law taken = tt

pub found_in : {X Y : Type 0} (view : X → Y) (P : Y → Type 0) (result : Result X ReadFault) (read : Result (Y × Reading) NdrFault) (now : Reading)
    → ((y : Y) → read ≡ Ok (y, now) → P y) → TakesIn view result read now → IfOk result (λ x. P (view x))
found_in view P (Ok x) read now law taken = law (view x) taken
found_in view P (Err Memory) read now law taken = tt
found_in view P (Err (Ndr fault)) read now law taken = tt

-- What was taken spells the value.
pub reads : (value : Value) (s t : Reading) (bytes : List ℕ) → Took s bytes t → Spells s.endian s.place value bytes → Reads value s t
reads value s t bytes took spelled = record { bytes = bytes; spelled = spelled; parts = took.parts; order = took.order; further = took.further }

-- A value that is spelled is read.
pub only_of : {A : Type 0} (one : Reading → Result (A × Reading) NdrFault) (value : Value) (a : A) (s t : Reading) (r : Reads value s t)
    → one (at s.endian s.place (r.bytes ++ t.left)) ≡ Ok (a, at s.endian (s.place + length r.bytes) t.left) → one s ≡ Ok (a, t)
only_of {A} one value a s t r e =
    let behind : at s.endian (s.place + length r.bytes) t.left ≡ t = rw (← r.order, ← r.further) refl in
    let here : Reading → Type 0 = λ now. one (at s.endian s.place s.left) ≡ Ok (a, now) in
    subst here behind (rw r.parts e)
