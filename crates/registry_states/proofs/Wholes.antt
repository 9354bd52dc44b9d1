-- Something that is cut off as a whole.
use Rattle.std.proofs.Common.{◌≡◌, ℕ, Option, Some, None, Ok, Err, refl, ap}
use Rattle.wire_fields.specs.Reading.{Reading}
use Rattle.registry_defs.specs.StateFields as stops
use Rattle.registry_states.specs.Readers.{whole}

pub whole_cut : {A : Type 0} (place at : ℕ) (read : Option (A × Reading)) → read ≡ None → place ≡ at → whole place read ≡ Err (stops.Cut at)
whole_cut place at read none same = rw none (ap (λ p. Err (stops.Cut p)) same)

pub whole_read : {A : Type 0} (place : ℕ) (read : Option (A × Reading)) (x : A × Reading) → read ≡ Some x → whole place read ≡ Ok x
whole_read place read x some = rw some refl
