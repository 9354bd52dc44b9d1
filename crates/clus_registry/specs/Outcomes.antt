-- What a change came to.
use Rattle.std.specs.Prelude.{◌≡◌, Result, Ok, Err}
use Rattle.registry_defs.specs.declared.outcome.Outcome.{Outcome}
use Rattle.registry_defs.specs.Contents.{Contents, keys_in}
use Rattle.registry_defs.specs.Applying.{Applied}

-- The outcome and the keys are those given, and the cap stays.
abbrev pub IsApplied : Outcome → Contents → Contents → Applied → Type 0
IsApplied outcome before now applied = (outcome ≡ applied.outcome) × (keys_in now ≡ applied.keys) × (now.cap ≡ before.cap)

-- Where memory ran out, nothing changed.
abbrev pub Applies : {E : Type 0} → Result Outcome E → Contents → Contents → Applied → Type 0
Applies (Ok outcome) before now applied = IsApplied outcome before now applied
Applies (Err fault) before now applied = now ≡ before
