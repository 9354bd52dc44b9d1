-- The commands of a text.
use Rattle.std.specs.Prelude.{ℕ, ◌+◌, ◌==◌, Bool, List, [], ◌∷◌, ◌++◌, Option, None, Some, Result, Ok, Err}
use Rattle.std.specs.List.{slice_split}
use Rattle.client_commands.specs.declared.command.Command.{Command}
use Rattle.client_commands.specs.Commands.{command_of}

-- The most bytes that an input may have.
abbrev pub most_input : ℕ
most_input = 16_777_216

abbrev pub is_line_feed : ℕ → Bool
is_line_feed byte = byte == 10

-- What stands before each line feed, and what stands behind the last one.
unfoldable pub lines_of : List ℕ → List (List ℕ)
lines_of text = slice_split is_line_feed text

-- The commands of the lines before the first that is outside the grammar, and where that one is at fault: its number, from 1, and
-- its column.
pub record Parsed : Type 0 where
  pub commands : List Command
  pub bad : Option (ℕ × ℕ)

-- So many commands before others.
abbrev pub behind : List Command → Parsed → Parsed
behind commands parsed = record { commands = commands ++ parsed.commands; bad = parsed.bad }

-- A line and what stands behind it. A remark and an empty line are no command.
abbrev pub line_first : ℕ → Result (Option Command) ℕ → Parsed → Parsed
line_first number (Err column) others = record { commands = []; bad = Some (number, column) }
line_first number (Ok None) others = others
line_first number (Ok (Some command)) others = behind (command ∷ []) others

-- Lines of which so many others stand in front.
unfoldable pub parsed_from : ℕ → List (List ℕ) → Parsed
parsed_from before [] = record { commands = []; bad = None }
parsed_from before (line ∷ lines) = line_first (before + 1) (command_of line) (parsed_from (before + 1) lines)

abbrev pub parsed : List ℕ → Parsed
parsed text = parsed_from 0 (lines_of text)
