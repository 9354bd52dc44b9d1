-- The front of a list, by its own length.
use Rattle.std.proofs.Common.{◌≡◌, ℕ, zero, suc, List, [], ◌∷◌, length, take, refl, ap}

pub front_by_length : (count : ℕ) (bytes : List ℕ) → take (length (take count bytes)) bytes ≡ take count bytes
front_by_length zero bytes = refl
front_by_length (suc count) [] = refl
front_by_length (suc count) (byte ∷ bytes) = ap (λ (t : List ℕ). byte ∷ t) (front_by_length count bytes)
