-- What comes of a script that is replayed.
use Rattle.std.specs.Prelude.{◌≡◌, ◌⊎◌, ℕ, ◌+◌, ◌<◌, ◌≤◌, List, [], ◌∷◌, ◌++◌, length, Option, None, Some, IfSome}
use Rattle.causes.specs.Counts.{Rose}
use Rattle.causes.specs.Writing.{Wrote, WroteSome}
use Rattle.text_lines.specs.Lines.{lines_of}
use Rattle.script_generator.specs.Rounds.{generated}
use Rattle.script_text.specs.declared.counts.Counts.{Counts}
use Rattle.script_text.specs.Counting.{nothing}
use Rattle.script_text.specs.Ends.{drill_line}
use Rattle.script_player.specs.declared.replayed.Replayed.{Replayed}
use Rattle.script_player.specs.declared.replayed.Replayed.TheVariants as comes
use Rattle.script_player.specs.declared.script_fault.ScriptFault.{ScriptFault}
use Rattle.script_player.specs.Playing.{Play}
use Rattle.script_player.specs.Runs.{Played}
use Rattle.script_player.specs.Scripts.{IsBad, end_of, most_script}
use Rattle.script_player.specs.Yields.{Yield}

-- ---- the lines

-- All of them were played: their text is printed, and how the run ended.
pub record IsDone (lines : List (List ℕ)) (before now : Option (List ℕ)) : Type 0 where
  pub came : Yield
  pub end : Option Play
  pub played : Played lines came end
  pub printed : Wrote before now (came.text ++ end_of end)

-- The first bad line. The text of those before it is printed.
pub record IsBadAt (number : ℕ) (fault : ScriptFault) (lines : List (List ℕ)) (before now : Option (List ℕ)) : Type 0 where
  pub front : List (List ℕ)
  pub bad : List ℕ
  pub rest : List (List ℕ)
  pub lines_are : lines ≡ front ++ bad ∷ rest
  pub number_is : number ≡ length front + 1
  pub came : Yield
  pub stage : Option Play
  pub played : Played front came stage
  pub is_bad : IsBad stage bad fault
  pub printed : Wrote before now came.text

-- The end is printed behind the last line alone.
abbrev pub end_behind : List (List ℕ) → Option Play → List ℕ
end_behind [] end = end_of end
end_behind (line ∷ lines) end = []

-- Some of them were played, and a front of the text was printed.
pub record IsCut (lines : List (List ℕ)) (before now : Option (List ℕ)) : Type 0 where
  pub front : List (List ℕ)
  pub rest : List (List ℕ)
  pub lines_are : lines ≡ front ++ rest
  pub came : Yield
  pub stage : Option Play
  pub played : Played front came stage
  pub printed : WroteSome before now (came.text ++ end_behind rest stage)

abbrev pub ComesOf : Replayed → List (List ℕ) → Option (List ℕ) → Option (List ℕ) → Type 0
ComesOf comes.Done lines before now = IsDone lines before now
ComesOf (comes.BadScript line fault) lines before now = IsBadAt line fault lines before now
ComesOf comes.WriteFault lines before now = IsCut lines before now
ComesOf comes.NoMemory lines before now = IsCut lines before now
ComesOf comes.ReadFault lines before now = ⊥
ComesOf comes.TooLong lines before now = ⊥

-- ---- the input

-- It was read to its end, and this is its text.
pub record WasRead (before : Option (List ℕ)) (text : List ℕ) (now : Option (List ℕ)) : Type 0 where
  pub short : length text ≤ most_script
  pub same : IfSome before (λ left. (left ≡ text) × (now ≡ Some []))

-- What the input has left, and what the output holds.
pub record Edges : Type 0 where
  pub input : Option (List ℕ)
  pub output : Option (List ℕ)

abbrev pub edges : Option (List ℕ) → Option (List ℕ) → Edges
edges input output = record { input = input; output = output }

abbrev pub RunsOn : Replayed → Edges → Edges → Type 0
RunsOn replayed v w = (text : List ℕ) × WasRead v.input text w.input × ComesOf replayed (lines_of text) v.output w.output

abbrev pub Replays : Replayed → Edges → Edges → Type 0
Replays comes.TooLong v w = IfSome v.input (λ left. most_script < length left) × (w.output ≡ v.output)
Replays comes.ReadFault v w = w.output ≡ v.output
Replays comes.NoMemory v w = (w.output ≡ v.output) ⊎ RunsOn comes.NoMemory v w
Replays replayed v w = RunsOn replayed v w

-- A fault comes only where a call failed.
abbrev pub HasCauses : Replayed → ℕ → ℕ → ℕ → ℕ → Type 0
HasCauses comes.ReadFault reads read_then prints printed_then = Rose reads read_then
HasCauses comes.WriteFault reads read_then prints printed_then = Rose prints printed_then
HasCauses replayed reads read_then prints printed_then = Unit {0}

-- ---- a generated script

abbrev pub counts_of : Option Play → Counts
counts_of None = nothing
counts_of (Some p) = p.counts

-- Its lines were played, and how often values of each kind were told is the text of one line.
abbrev pub IsDrilled : ℕ → ℕ → (List ℕ → Type 0) → Type 0
IsDrilled number count Printed =
    (came : Yield) × (end : Option Play) × Played (lines_of (generated number count)) came end × Printed (drill_line number count (counts_of end))

-- Nothing else is printed.
abbrev pub Drills : Replayed → ℕ → ℕ → Option (List ℕ) → Option (List ℕ) → Type 0
Drills comes.Done number count before now = IsDrilled number count (λ text. Wrote before now text)
Drills (comes.BadScript line fault) number count before now = IsBadAt line fault (lines_of (generated number count)) None None × (now ≡ before)
Drills comes.WriteFault number count before now = IsDrilled number count (λ text. WroteSome before now text)
Drills comes.NoMemory number count before now = now ≡ before
Drills comes.ReadFault number count before now = ⊥
Drills comes.TooLong number count before now = ⊥
