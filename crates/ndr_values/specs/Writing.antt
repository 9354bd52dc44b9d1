-- Appending part of a value.
use Rattle.std.specs.Prelude.{◌≡◌, List, ℕ, ◌++◌, Result, Ok, Err}
use Rattle.wire_fields.specs.Written.{Written}

-- The bytes were appended. Where memory ran out, others may have been.
abbrev pub Appends : {T E : Type 0} → Result T E → Written → Written → List ℕ → Type 0
Appends (Ok x) before now bytes = now ≡ record { endian = before.endian; bytes = before.bytes ++ bytes }
Appends (Err fault) before now bytes = (front : List ℕ) × (now ≡ record { endian = before.endian; bytes = before.bytes ++ front })
