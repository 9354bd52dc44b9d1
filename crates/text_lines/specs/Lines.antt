-- The lines of a text.
use Rattle.std.specs.Prelude.{ℕ, ◌==◌, Bool, List, [], Option, None, Some}
use Rattle.std.specs.Borrow.{Bor}
use Rattle.std.specs.List.{slice_split}

abbrev pub is_line_feed : ℕ → Bool
is_line_feed byte = byte == 10

-- What stands before each line feed, and what stands behind the last one.
unfoldable pub lines_of : List ℕ → List (List ℕ)
lines_of text = slice_split is_line_feed text

-- What is left of a text has these lines.
abbrev pub lines_in : Option (Bor (List ℕ)) → List (List ℕ)
lines_in None = []
lines_in (Some text) = lines_of text.now
