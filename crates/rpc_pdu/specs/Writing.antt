-- What a call of a writer of several fields did.
use Rattle.std.specs.Prelude.{◌≡◌, List, ℕ, ◌++◌, Result, Ok, Err}
use Rattle.wire_fields.specs.Written.{Written}

-- The text was appended; where memory ran out, a part of it may have been.
abbrev pub Appends : {T E : Type 0} → Result T E → Written → Written → List ℕ → Type 0
Appends (Ok done) before now text = now ≡ record { endian = before.endian; bytes = before.bytes ++ text }
Appends (Err fault) before now text = Unit {0}
