-- What a sink holds before and after a call. A sink that doesn't tell holds None.
-- It may cease to tell, and it never begins again: what is told at the end was told throughout.
use Rattle.std.specs.Prelude.{◌≡◌, ℕ, ◌<◌, List, ◌++◌, [], length, take, Option, Some, None, Result, Ok, Err, IfOk}

-- The bytes were added to what was there.
abbrev pub Wrote : Option (List ℕ) → Option (List ℕ) → List ℕ → Type 0
Wrote before None bytes = Unit {0}
Wrote None (Some now) bytes = ⊥
Wrote (Some before) (Some now) bytes = now ≡ before ++ bytes

-- As many bytes from the front were added as the call answers; none where it failed.
abbrev pub WroteFront : {E : Type 0} → Option (List ℕ) → Option (List ℕ) → Result ℕ E → List ℕ → Type 0
WroteFront before now (Ok count) bytes = Wrote before now (take count bytes)
WroteFront before now (Err fault) bytes = Wrote before now []

-- Some prefix of the bytes was added.
abbrev pub WroteSome : Option (List ℕ) → Option (List ℕ) → List ℕ → Type 0
WroteSome before now bytes = (count : ℕ) × Wrote before now (take count bytes)

-- Of a piece that isn't empty at least one byte was taken.
abbrev pub TakesSome : {E : Type 0} → Result ℕ E → List ℕ → Type 0
TakesSome result bytes = IfOk result (λ count. 0 < length bytes → 0 < count)
