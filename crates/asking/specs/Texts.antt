-- The lines of a text that are to come.
use Rattle.std.specs.Prelude.{ℕ, List, [], Option, None, Some}
use Rattle.std.specs.Borrow.{Bor}
use Rattle.asking.specs.Inputs.{lines_of}

-- What is left of a text has these lines.
abbrev pub lines_in : Option (Bor (List ℕ)) → List (List ℕ)
lines_in None = []
lines_in (Some text) = lines_of text.now
