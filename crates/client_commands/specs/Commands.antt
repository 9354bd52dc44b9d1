-- The commands, and the lines that say them.
use Rattle.std.specs.Prelude.{ℕ, ◌+◌, ◌≤◌, ◌==◌, Bool, ◌||◌, nat_lt, if◌then◌else◌, List, length, codes, Option, Some, None, Result, Ok, Err, slice_index}
use Rattle.std.specs.Str.{bytes_eq}
use Rattle.client_commands.specs.declared.command.Command.{Command}
use Rattle.client_commands.specs.declared.command.Command.TheVariants.{Name, Make, Drop, Set, Unset, Get, Keys, Values}
use Rattle.client_commands.specs.Lines.{Line, first_word, most, read_at, ◌>>=◌}
use Rattle.client_commands.specs.Words.{IsNameText, data_of, name_of, number_of}

-- The words behind the first, command by command.
unfoldable pub make_at : Line → Result (Command × Line) ℕ
make_at line = do
  path ← read_at name_of line
  Ok (Make path.0, path.1)

unfoldable pub drop_at : Line → Result (Command × Line) ℕ
drop_at line = do
  path ← read_at name_of line
  Ok (Drop path.0, path.1)

unfoldable pub set_at : Line → Result (Command × Line) ℕ
set_at line = do
  path ← read_at name_of line
  name ← read_at name_of path.1
  kind ← read_at number_of name.1
  bytes ← read_at data_of kind.1
  Ok (Set path.0 name.0 kind.0 bytes.0, bytes.1)

unfoldable pub unset_at : Line → Result (Command × Line) ℕ
unset_at line = do
  path ← read_at name_of line
  name ← read_at name_of path.1
  Ok (Unset path.0 name.0, name.1)

unfoldable pub get_at : Line → Result (Command × Line) ℕ
get_at line = do
  path ← read_at name_of line
  name ← read_at name_of path.1
  Ok (Get path.0 name.0, name.1)

unfoldable pub keys_at : Line → Result (Command × Line) ℕ
keys_at line = do
  path ← read_at name_of line
  Ok (Keys path.0, path.1)

unfoldable pub values_at : Line → Result (Command × Line) ℕ
values_at line = do
  path ← read_at name_of line
  Ok (Values path.0, path.1)

-- The command that begins with this word.
unfoldable pub command_by : List ℕ → Line → Result (Command × Line) ℕ
command_by verb line =
    if bytes_eq verb (codes "name") then Ok (Name, line)
    else if bytes_eq verb (codes "make") then make_at line
    else if bytes_eq verb (codes "drop") then drop_at line
    else if bytes_eq verb (codes "set") then set_at line
    else if bytes_eq verb (codes "unset") then unset_at line
    else if bytes_eq verb (codes "get") then get_at line
    else if bytes_eq verb (codes "keys") then keys_at line
    else if bytes_eq verb (codes "values") then values_at line
    else Err 1

-- A command, with nothing behind it.
abbrev pub alone : Command × Line → Result Command ℕ
alone (command, behind) = if length behind.left == 0 then Ok command else Err (behind.column + 1)

unfoldable pub command_at : Line → Result Command ℕ
command_at line = command_by (first_word line).0 (first_word line).1 >>= alone

-- The line says nothing: it is empty, or begins with `#`.
abbrev pub is_remark : List ℕ → Bool
is_remark text = (length text == 0) || (slice_index text 0 == 35)

-- The command that a line says, none, or the column at fault.
unfoldable pub command_of : List ℕ → Result (Option Command) ℕ
command_of text =
    if nat_lt most (length text) then Err (most + 1)
    else if is_remark text then Ok None
    else command_at (record { column = 1; left = text }) >>= λ command. Ok (Some command)

-- The most bytes that a line can give a value.
abbrev pub most_data : ℕ
most_data = 65_536

-- What a command has, however it was read.
abbrev pub CommandFits : Command → Type 0
CommandFits Name = Unit {0}
CommandFits (Make path) = IsNameText path
CommandFits (Drop path) = IsNameText path
CommandFits (Set path name kind bytes) = IsNameText path × IsNameText name × (length bytes ≤ most_data)
CommandFits (Unset path name) = IsNameText path × IsNameText name
CommandFits (Get path name) = IsNameText path × IsNameText name
CommandFits (Keys path) = IsNameText path
CommandFits (Values path) = IsNameText path
