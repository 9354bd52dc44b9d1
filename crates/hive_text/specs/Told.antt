-- How far the lines of a text were told. Only private clauses cite these definitions.
use Rattle.std.specs.Prelude.{◌≡◌, ℕ, ◌+◌, ◌-◌, ◌≤◌, List, [], ◌∷◌, ◌++◌, length, map, drop, codes, Option, Some, None}
use Rattle.registry_defs.specs.Keys.{Keys}
use Rattle.registry_defs.specs.Limits.{IsRegistry}
use Rattle.registry_defs.specs.Sizes.{size}
use Rattle.hive_text.specs.LineWords.{IsLine}
use Rattle.hive_text.specs.Standings.{Entry, Standing, all_behind, named, nothing_named}
use Rattle.hive_text.specs.TextLines.{key_begins, line_text, lines_text, ups, value_stands}
use Rattle.hive_text.specs.declared.line.Line.{Line}

-- All lines but those of the keys that are open at the end.
abbrev pub open_lines : ℕ → Keys → List Line
open_lines count [] = []
open_lines count (e ∷ es) = ups (count - length e.0) ++ (key_begins e.1 ∷ (map value_stands e.1.values ++ open_lines (length e.0 + 1) es))

abbrev pub still_open : ℕ → Keys → ℕ
still_open count [] = count
still_open count (e ∷ es) = still_open (length e.0 + 1) es

-- The keys named so far are a registry within the cap.
abbrev pub IsNamedWithin : ℕ → Option Entry → Keys → Type 0
IsNamedWithin cap None before = before ≡ []
IsNamedWithin cap (Some e) before = IsRegistry (before ++ e ∷ []) × (size (before ++ e ∷ []) ≤ cap)

pub record Stands (cap : ℕ) (s : Standing) (told : List Line) : Type 0 where
  pub few : s.open_keys ≤ still_open 0 (named s)
  pub told_is : told ≡ open_lines 0 (named s) ++ ups (still_open 0 (named s) - s.open_keys)
  pub within : IsNamedWithin cap s.last s.before

abbrev pub HasHead : List ℕ → Type 0
HasHead text = text ≡ codes "hive 1\n" ++ drop 7 text

-- These lines were told up to the place.
pub record HasRead (cap : ℕ) (text : List ℕ) (place : ℕ) (told : List Line) (s : Standing) : Type 0 where
  pub text_is : text ≡ codes "hive 1\n" ++ (lines_text told ++ drop place text)
  pub place_is : place ≡ 7 + length (lines_text told)
  pub standing_is : s ≡ all_behind told nothing_named
  pub stands : Stands cap s told

-- The line with which a text begins, and its length; or it begins with none.
abbrev pub NextIs : List ℕ → Option (Line × ℕ) → Type 0
NextIs rest None = (line : Line) (more : List ℕ) → IsLine line → rest ≡ line_text line ++ more → ⊥
NextIs rest (Some found) = IsLine found.0 × (rest ≡ line_text found.0 ++ drop found.1 rest) × (found.1 ≡ length (line_text found.0))

abbrev pub sized : ℕ → Option Line → Option (Line × ℕ)
sized size None = None
sized size (Some line) = Some (line, size)

abbrev pub next_found : Line → ℕ → Option (Line × ℕ)
next_found line size = Some (line, size)
