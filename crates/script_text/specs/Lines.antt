-- The lines that a run prints: words with one space between them, and a line feed.
use Rattle.std.specs.Prelude.{ℕ, List, [], ◌∷◌, ◌++◌, length, codes, Option, None, Some, ◌==◌, if◌then◌else◌}
use Rattle.std.specs.Fmt.{decimal}
use Rattle.hex.specs.Hex.{encode_lower}

-- Each further word behind a space, and the line feed.
abbrev pub rest_of_line : List (List ℕ) → List ℕ
rest_of_line [] = codes "\n"
rest_of_line (word ∷ words) = codes " " ++ (word ++ rest_of_line words)

-- The first word and those behind it.
abbrev pub line : List ℕ → List (List ℕ) → List ℕ
line first words = first ++ rest_of_line words

-- Hexadecimal digits in lower case, and `-` where there is no byte.
abbrev pub hex_word : List ℕ → List ℕ
hex_word bytes = if length bytes == 0 then codes "-" else encode_lower bytes

abbrev pub number_or_dash : Option ℕ → List ℕ
number_or_dash None = codes "-"
number_or_dash (Some n) = decimal n
