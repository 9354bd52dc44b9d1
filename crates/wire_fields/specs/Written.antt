-- Appending field by field.
use Rattle.std.specs.Prelude.{◌≡◌, ℕ, List, ◌++◌, Result, Ok, Err}
use Rattle.wire_fields.specs.declared.endian.Endian.{Endian}

-- What a writer holds.
pub record Written : Type 0 where
  pub endian : Endian
  pub bytes : List ℕ

-- The text was appended, or nothing changed.
abbrev pub Adds : {T E : Type 0} → Result T E → Written → Written → List ℕ → Type 0
Adds (Ok x) before now text = now ≡ record { endian = before.endian; bytes = before.bytes ++ text }
Adds (Err fault) before now text = now ≡ before
