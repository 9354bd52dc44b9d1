-- A line, word by word.
use Rattle.std.specs.Prelude.{◌≡◌, ℕ, ◌+◌, ◌-◌, ◌≤◌, ◌==◌, Bool, List, [], ◌∷◌, length, Option, Some, None, Result, Ok, Err}
use Rattle.std.specs.Borrow.{Bor}
use Rattle.std.specs.List.{slice_split}
use Rattle.cluster_script.specs.declared.line_fault.LineFault.{LineFault}
use Rattle.cluster_script.specs.declared.line_fault.LineFault.TheVariants.{Column, Memory}

-- The greatest length of a line, its line feed not counted.
abbrev pub most : ℕ
most = 262_144

abbrev pub is_byte : ℕ → ℕ → Bool
is_byte wanted byte = byte == wanted

-- The words of a line, with one space between them. Of two spaces in a row, and of a space at the end, the second ends an empty word.
abbrev pub words_of : List ℕ → List (List ℕ)
words_of text = slice_split (is_byte 32) text

-- What is left of a line: its words to come, the column at which the next one stands, and the one at which the last one stood.
-- Columns count from 1.
pub record Words : Type 0 where
  pub last : ℕ
  pub next : ℕ
  pub left : List (List ℕ)

abbrev pub words_in : Option (Bor (List ℕ)) → List (List ℕ)
words_in None = []
words_in (Some rest) = words_of rest.now

-- How many bytes are left, with the space before them.
abbrev pub size_of : Option (Bor (List ℕ)) → ℕ
size_of None = 0
size_of (Some rest) = 1 + length rest.now

pub record IsWithinLine (next : ℕ) (rest : Option (Bor (List ℕ))) : Type 0 where
  pub first : 1 ≤ next
  pub bounded : next + size_of rest ≤ most + 2

-- Reads a word and then more of the line; the first column at fault decides.
infixl 10 ◌>>=◌
abbrev pub ◌>>=◌ : {A B : Type 0} → Result A ℕ → (A → Result B ℕ) → Result B ℕ
(Ok x) >>= next = next x
(Err column) >>= next = Err column

-- The next word. Where none is left, the fault stands one past the line's end.
abbrev pub taken : ℕ → List (List ℕ) → Result (List ℕ × Words) ℕ
taken column [] = Err (column - 1)
taken column (word ∷ words) = Ok (word, record { last = column; next = column + length word + 1; left = words })

unfoldable pub word_at : Words → Result (List ℕ × Words) ℕ
word_at words = taken words.next words.left

-- What a word says, where it says anything; else it is at fault.
abbrev pub told : {A : Type 0} → Option A → Words → Result (A × Words) ℕ
told (Some x) words = Ok (x, words)
told None words = Err words.last

-- The next word, read in this way.
abbrev pub read_at : {A : Type 0} → (List ℕ → Option A) → Words → Result (A × Words) ℕ
read_at read words = word_at words >>= λ word. told (read word.0) word.1

-- Nothing is left, or a word too many.
abbrev pub end_at : ℕ → List (List ℕ) → Result (Unit {0}) LineFault
end_at column [] = Ok tt
end_at column (word ∷ words) = Err (Column column)

-- What a call gave of a word or a line: what it says, or its column, unless memory ran out.
abbrev pub Gives : {X Y : Type 0} → (X → Y) → Result X LineFault → Result Y ℕ → Type 0
Gives view (Ok x) read = read ≡ Ok (view x)
Gives view (Err (Column column)) read = read ≡ Err column
Gives view (Err Memory) read = Unit {0}

-- What a call that reads on gave, and the words behind it.
abbrev pub Takes : {X Y : Type 0} → (X → Y) → Result X LineFault → Result (Y × Words) ℕ → Words → Type 0
Takes view (Ok x) read now = read ≡ Ok (view x, now)
Takes view (Err (Column column)) read now = read ≡ Err column
Takes view (Err Memory) read now = Unit {0}
