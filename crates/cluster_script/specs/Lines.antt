-- Which texts are lines, what they say, and where a text that is none is at fault.
use Rattle.std.specs.Prelude.{◌≡◌, ℕ, ◌+◌, ◌<◌, ◌≤◌, ◌⊎◌, Bool, true, false, List, [], ◌∷◌, ◌++◌, length, Ok}
use Rattle.std.specs.Fmt.{decimal}
use Rattle.hex.specs.Hex.{decode_of}
use Rattle.gum_messages.specs.declared.member.Member.{Member}
use Rattle.update_records.specs.declared.update.Update.TheVariants.{Batch}
use Rattle.update_records.specs.declared.change.Change.{Change}
use Rattle.update_records.specs.Limits.{IsUpdate}
use Rattle.update_records.specs.Spelling.{update_text}
use Rattle.cluster_script.specs.declared.line.Line.{Line}
use Rattle.cluster_script.specs.declared.line.Line.TheVariants.{Empty}
use Rattle.cluster_script.specs.declared.line_fault.LineFault.{LineFault}
use Rattle.cluster_script.specs.declared.line_fault.LineFault.TheVariants.{Column, Memory}
use Rattle.cluster_script.specs.Words.{most, words_of}
use Rattle.cluster_script.specs.Grammar.{Rest, done, number, octets, batch, members, verb, misfit, line_behind}
use Rattle.cluster_script.specs.Reading.{is_remark}

-- ---- words

-- The number in decimal, within its bounds. So it has no leading zero.
pub record IsNumber (low high n : ℕ) (word : List ℕ) : Type 0 where
  pub word_is : word ≡ decimal n
  pub least : low ≤ n
  pub greatest : n ≤ high

-- Two hexadecimal digits a byte, in either case; `-` is no bytes.
abbrev pub Tells : List ℕ → List ℕ → Type 0
Tells word bytes = ((word ≡ 45 ∷ []) × (bytes ≡ [])) ⊎ ((0 < length word) × (decode_of word ≡ Ok bytes))

-- The bytes of the batch's encoding.
abbrev pub TellsBatch : List ℕ → List Change → Type 0
TellsBatch word changes = IsUpdate (Batch changes) × Tells word (update_text (Batch changes))

-- A node above this one, a dot, and its incarnation.
pub record IsMember (floor : ℕ) (m : Member) (word : List ℕ) : Type 0 where
  pub node : List ℕ
  pub inc : List ℕ
  pub word_is : word ≡ node ++ 46 ∷ inc
  pub is_node : IsNumber (floor + 1) 16 m.node node
  pub is_inc : IsNumber 1 4_294_967_295 m.inc inc

-- ---- from word to word

-- The word fits here, and this may stand behind it.
abbrev pub Fits : Rest → List ℕ → Rest → Type 0
Fits (done line) word now = ⊥
Fits (number low high next) word now = (n : ℕ) × IsNumber low high n word × (now ≡ next n)
Fits (octets limit next) word now = (bytes : List ℕ) × Tells word bytes × (length bytes ≤ limit) × (now ≡ next bytes)
Fits (batch next) word now = (changes : List Change) × TellsBatch word changes × (now ≡ next (Batch changes))
Fits (members floor front next) word now = (m : Member) × IsMember floor m word × (now ≡ members m.node (front ++ m ∷ []) next)
Fits (verb next) word now = (now ≡ next word) × ¬ (now ≡ misfit)
Fits misfit word now = ⊥

-- All these words fit, one after the other, and this may stand behind them.
unfoldable pub Leads : Rest → List (List ℕ) → Rest → Type 0
Leads rest [] now = now ≡ rest
Leads rest (word ∷ words) now = (next : Rest) × Fits rest word next × Leads next words now

-- The line may end here, and says this then.
abbrev pub Ends : Rest → Line → Type 0
Ends (done said) line = line ≡ said
Ends (members floor front next) line = line ≡ next front
Ends rest line = ⊥

-- The line can't end here, or its next word doesn't fit.
abbrev pub Stops : Rest → List (List ℕ) → Type 0
Stops rest [] = (line : Line) → ¬ Ends rest line
Stops rest (word ∷ words) = (next : Rest) → ¬ Fits rest word next

-- ---- lines

-- What stands at the start of a line.
abbrev pub line_start : Rest
line_start = verb line_behind

-- The words are a line that says this.
abbrev pub Says : List (List ℕ) → Line → Type 0
Says words line = (rest : Rest) × Leads line_start words rest × Ends rest line

-- A remark says nothing, and any other text what its words say.
abbrev pub Means : Bool → List ℕ → Line → Type 0
Means true text line = line ≡ Empty
Means false text line = Says (words_of text) line

abbrev pub IsLine : List ℕ → Line → Type 0
IsLine text line = (length text ≤ most) × Means (is_remark text) text line

-- ---- faults

-- The column behind these words, each with the space behind it.
unfoldable pub column_behind : List (List ℕ) → ℕ
column_behind [] = 1
column_behind (word ∷ words) = length word + 1 + column_behind words

-- Where the next word stands; where there is none, one past the line's end.
abbrev pub column_of : List ℕ → List (List ℕ) → List (List ℕ) → ℕ
column_of text front [] = length text + 1
column_of text front (word ∷ behind) = column_behind front

-- These words are all that fit, and the line is none.
pub record IsMisfit (text : List ℕ) (column : ℕ) : Type 0 where
  pub front : List (List ℕ)
  pub behind : List (List ℕ)
  pub now : Rest
  pub words_are : words_of text ≡ front ++ behind
  pub fit : Leads line_start front now
  pub stops : Stops now behind
  pub column_is : column ≡ column_of text front behind

-- A line that is too long is at fault behind the last byte that it may have, whatever its words are.
abbrev pub IsFaultAt : List ℕ → ℕ → Type 0
IsFaultAt text column = ((most < length text) × (column ≡ most + 1)) ⊎ ((length text ≤ most) × (is_remark text ≡ false) × IsMisfit text column)

abbrev pub IsFault : List ℕ → LineFault → Type 0
IsFault text (Column column) = IsFaultAt text column
IsFault text Memory = Unit {0}
