-- A line, word by word.
use Rattle.std.specs.Prelude.{◌≡◌, ℕ, ◌+◌, ◌≤◌, ◌==◌, Bool, if◌then◌else◌, List, length, take, drop, Option, Some, None, Result, Ok, Err}
use Rattle.std.specs.List.{position_or_len}
use Rattle.client_commands.specs.declared.command_fault.CommandFault.{CommandFault}
use Rattle.client_commands.specs.declared.command_fault.CommandFault.TheVariants.{Column, Memory}

-- The greatest length of a line, its line feed not counted.
abbrev pub most : ℕ
most = 131_072

-- What is left of a line, and the column at which it stands, from 1. Each word to come stands behind a space.
pub record Line : Type 0 where
  pub column : ℕ
  pub left : List ℕ

abbrev pub IsWithinLine : ℕ → List ℕ → Type 0
IsWithinLine column left = column + length left ≤ most + 1

-- The line so many bytes further on.
abbrev pub after : ℕ → Line → Line
after count line = record { column = line.column + count; left = drop count line.left }

abbrev pub is_space : ℕ → Bool
is_space byte = byte == 32

-- How many bytes stand before the first space.
abbrev pub word_length : List ℕ → ℕ
word_length text = position_or_len is_space text

-- The word at the front, and the line behind it.
unfoldable pub first_word : Line → List ℕ × Line
first_word line = (take (word_length line.left) line.left, after (word_length line.left) line)

-- Reads a word and then more of the line; the first column at fault decides.
infixl 10 ◌>>=◌
abbrev pub ◌>>=◌ : {A B : Type 0} → Result A ℕ → (A → Result B ℕ) → Result B ℕ
(Ok x) >>= next = next x
(Err column) >>= next = Err column

-- The next word. Where none is left, the fault stands one past the line's end.
unfoldable pub word_at : Line → Result (List ℕ × Line) ℕ
word_at line = if length line.left == 0 then Err line.column else Ok (first_word (after 1 line))

-- What a word says, where it says anything; else it is at fault at its column.
abbrev pub at_column : {A : Type 0} → ℕ → Option A → Result A ℕ
at_column column (Some x) = Ok x
at_column column None = Err column

-- The next word, read in this way.
abbrev pub read_at : {A : Type 0} → (List ℕ → Option A) → Line → Result (A × Line) ℕ
read_at read line = word_at line >>= λ word. at_column (line.column + 1) (read word.0) >>= λ x. Ok (x, word.1)

-- Nothing is left, or a word too many.
abbrev pub end_at : Line → Result (Unit {0}) CommandFault
end_at line = if length line.left == 0 then Ok tt else Err (Column (line.column + 1))

-- What a call gave of a word or a line: what it says, or its column, unless memory ran out.
abbrev pub Gives : {X Y : Type 0} → (X → Y) → Result X CommandFault → Result Y ℕ → Type 0
Gives view (Ok x) read = read ≡ Ok (view x)
Gives view (Err (Column column)) read = read ≡ Err column
Gives view (Err Memory) read = Unit {0}

-- What a call that reads on gave, and the line behind it.
abbrev pub Takes : {X Y : Type 0} → (X → Y) → Result X CommandFault → Result (Y × Line) ℕ → Line → Type 0
Takes view (Ok x) read now = read ≡ Ok (view x, now)
Takes view (Err (Column column)) read now = read ≡ Err column
Takes view (Err Memory) read now = Unit {0}
