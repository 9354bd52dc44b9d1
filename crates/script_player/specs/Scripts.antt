-- A script, line by line.
use Rattle.std.specs.Prelude.{◌≡◌, ℕ, ◌⊎◌, List, [], ◌∷◌, length, Option, None, Some}
use Rattle.cluster_script.specs.declared.line.Line.{Line}
use Rattle.cluster_script.specs.declared.line.Line.TheVariants.{Cap, Empty}
use Rattle.cluster_script.specs.Lines.{IsFaultAt, IsLine}
use Rattle.cluster_worlds.specs.Runs.{IsOpening}
use Rattle.cluster_worlds.specs.Worlds.{WorldState}
use Rattle.script_text.specs.Ends.{end_line}
use Rattle.script_player.specs.declared.script_fault.ScriptFault.{ScriptFault}
use Rattle.script_player.specs.declared.script_fault.ScriptFault.TheVariants.{Column, Event}
use Rattle.script_player.specs.Lines.{Plays, Refuses}
use Rattle.script_player.specs.Playing.{Play, first_play}
use Rattle.script_player.specs.Yields.{Yield, joined, nothing}

-- The most bytes that a script may have.
abbrev pub most_script : ℕ
most_script = 16_777_216

-- ---- one line; nothing is played before the `cap` line

abbrev pub PlaysAt : Option Play → Line → Yield → Option Play → Type 0
PlaysAt None Empty y next = (y ≡ nothing) × (next ≡ None)
PlaysAt None (Cap cap) y next = (y ≡ nothing) × (w : WorldState) × IsOpening cap w × (next ≡ Some (first_play w))
PlaysAt None line y next = ⊥
PlaysAt (Some p) line y next = (q : Play) × Plays line p y q × (next ≡ Some q)

-- The `cap` line stands before all others but remarks and empty ones, and there is one.
abbrev pub IsMisplaced : Option Play → Line → Type 0
IsMisplaced None Empty = ⊥
IsMisplaced None (Cap cap) = ⊥
IsMisplaced None line = Unit {0}
IsMisplaced (Some p) (Cap cap) = Unit {0}
IsMisplaced (Some p) line = ⊥

abbrev pub IsRefused : Option Play → Line → ScriptFault → Type 0
IsRefused None line fault = ⊥
IsRefused (Some p) line (Column column) = ⊥
IsRefused (Some p) line (Event cause) = Refuses line p cause

-- Why a line is bad: its words come first, then its place, then its event.
abbrev pub IsBad : Option Play → List ℕ → ScriptFault → Type 0
IsBad stage text fault =
    ((column : ℕ) × IsFaultAt text column × (fault ≡ Column column))
    ⊎ ((line : Line) × IsLine text line × ((IsMisplaced stage line × (fault ≡ Column 1)) ⊎ IsRefused stage line fault))

-- ---- lines

unfoldable pub PlaysAll : List (List ℕ) → Option Play → Yield → Option Play → Type 0
PlaysAll [] stage y end = (y ≡ nothing) × (end ≡ stage)
PlaysAll (text ∷ texts) stage y end =
    (line : Line) × (x : Yield) × (next : Option Play) × (z : Yield)
    × IsLine text line × PlaysAt stage line x next × PlaysAll texts next z end × (y ≡ joined x z)

-- The last line of the output: how many records the order has, and how many updates were acknowledged.
abbrev pub end_of : Option Play → List ℕ
end_of None = end_line 0 0
end_of (Some p) = end_line (length p.world.order) (length p.world.acks)
