-- Counted lists of parts, each with a text of its own.
use Rattle.std.specs.Prelude.{◌≡◌, ℕ, List, [], ◌∷◌, ◌++◌}

-- The text is the texts of the items, one after the other.
abbrev pub IsList : {A : Type 0} → (A → List ℕ → Type 0) → List A → List ℕ → Type 0
IsList is [] text = text ≡ []
IsList is (x ∷ xs) text = (front : List ℕ) × (rest : List ℕ) × (text ≡ front ++ rest) × is x front × IsList is xs rest
