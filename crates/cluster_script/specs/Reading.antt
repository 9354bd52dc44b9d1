-- Reading a line from left to right.
use Rattle.std.specs.Prelude.{ℕ, ◌+◌, ◌==◌, ◌||◌, Bool, nat_lt, if◌then◌else◌, List, [], ◌∷◌, ◌++◌, length, Result, Ok, Err, slice_index}
use Rattle.gum_messages.specs.declared.member.Member.{Member}
use Rattle.cluster_script.specs.declared.line.Line.{Line}
use Rattle.cluster_script.specs.declared.line.Line.TheVariants.{Empty}
use Rattle.cluster_script.specs.Words.{Words, most, read_at, told, word_at, words_of, ◌>>=◌}
use Rattle.cluster_script.specs.Values.{batch_of, member_of, number_of, octets_of}
use Rattle.cluster_script.specs.Grammar.{Rest, done, number, octets, batch, members, verb, misfit, line_behind}

-- Members to the line's end.
unfoldable pub members_in : ℕ → ℕ → ℕ → List (List ℕ) → Result (List Member × Words) ℕ
members_in floor last next [] = Ok ([], record { last = last; next = next; left = [] })
members_in floor last next (word ∷ words) =
    told (member_of floor word) (record { last = next; next = next + length word + 1; left = words })
    >>= λ m. members_in m.0.node next (next + length word + 1) words
    >>= λ ms. Ok (m.0 ∷ ms.0, ms.1)

abbrev pub members_at : ℕ → Words → Result (List Member × Words) ℕ
members_at floor words = members_in floor words.last words.next words.left

-- What the words say, and the words behind.
unfoldable pub reads : Rest → Words → Result (Line × Words) ℕ
reads (done line) words = Ok (line, words)
reads (number low high next) words = read_at (number_of low high) words >>= λ n. reads (next n.0) n.1
reads (octets limit next) words = read_at (octets_of limit) words >>= λ bytes. reads (next bytes.0) bytes.1
reads (batch next) words = read_at batch_of words >>= λ update. reads (next update.0) update.1
reads (members floor front next) words = members_at floor words >>= λ ms. Ok (next (front ++ ms.0), ms.1)
reads (verb next) words = word_at words >>= λ word. reads (next word.0) word.1
reads misfit words = Err words.last

-- Nothing stands behind the line.
abbrev pub alone : ℕ → List (List ℕ) → Line → Result Line ℕ
alone next [] line = Ok line
alone next (word ∷ words) line = Err next

abbrev pub whole : Line × Words → Result Line ℕ
whole (line, words) = alone words.next words.left line

unfoldable pub line_at : Words → Result Line ℕ
line_at words = reads (verb line_behind) words >>= whole

-- The line says nothing: it is empty, or begins with `#`.
abbrev pub is_remark : List ℕ → Bool
is_remark text = (length text == 0) || (slice_index text 0 == 35)

abbrev pub start : List ℕ → Words
start text = record { last = 1; next = 1; left = words_of text }

-- The line that the text is, or the column at fault.
unfoldable pub line_of : List ℕ → Result Line ℕ
line_of text =
    if nat_lt most (length text) then Err (most + 1)
    else if is_remark text then Ok Empty
    else line_at (start text)
