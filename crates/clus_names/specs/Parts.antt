-- The text of a path, and the parts of a text.
use Rattle.std.specs.Prelude.{ℕ, List, [], ◌∷◌, ◌++◌, length, Bool, ◌==◌, if◌then◌else◌}
use Rattle.std.specs.List.{slice_split, join_with_byte}

-- `\`
abbrev pub separator : ℕ
separator = 0x5C

abbrev pub is_separator : ℕ → Bool
is_separator unit = unit == separator

-- The parts in a row, with a separator between each two; the root has the empty text.
abbrev pub text_of : List (List ℕ) → List ℕ
text_of parts = join_with_byte separator parts

-- What stands before, between and behind the separators.
abbrev pub pieces_of : List ℕ → List (List ℕ)
pieces_of text = slice_split is_separator text

-- Nothing stands behind a last separator, nor in the empty text.
abbrev pub unless_empty : List ℕ → List (List ℕ)
unless_empty [] = []
unless_empty (unit ∷ units) = (unit ∷ units) ∷ []

abbrev pub without_empty_end : List (List ℕ) → List (List ℕ)
without_empty_end [] = []
without_empty_end (last ∷ []) = unless_empty last
without_empty_end (piece ∷ next ∷ pieces) = piece ∷ without_empty_end (next ∷ pieces)

abbrev pub parts_of : List ℕ → List (List ℕ)
parts_of text = without_empty_end (pieces_of text)

-- The text of a path and one below it.
abbrev pub joined_text : List ℕ → List ℕ → List ℕ
joined_text above below =
    if length above == 0 then below
    else if length below == 0 then above
    else above ++ separator ∷ below
