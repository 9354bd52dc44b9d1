-- Which texts are those of registries within a cap, and where another text stops being one.
use Rattle.std.specs.Prelude.{◌≡◌, ◌⊎◌, ℕ, ◌+◌, ◌≤◌, List, [], ◌∷◌, ◌++◌, length, codes, Result, Ok, Err}
use Rattle.registry_defs.specs.Contents.{Contents, keys_in}
use Rattle.registry_defs.specs.Keys.{Keys}
use Rattle.registry_defs.specs.Limits.{IsRegistry}
use Rattle.registry_defs.specs.Sizes.{size}
use Rattle.hive_text.specs.HiveText.{hive_text}
use Rattle.hive_text.specs.TextLines.{line_text, lines_text, lines_of}
use Rattle.hive_text.specs.declared.line.Line.{Line}
use Rattle.hive_text.specs.declared.text_fault.TextFault.{TextFault}
use Rattle.hive_text.specs.declared.text_fault.TextFault.TheVariants.{Bad, Memory}

-- The text is that of the registry, which obeys all limits and the cap.
pub record IsTextOf (cap : ℕ) (text : List ℕ) (registry : Contents) : Type 0 where
  pub same_cap : registry.cap ≡ cap
  pub limits : IsRegistry (keys_in registry)
  pub text_is : text ≡ hive_text (keys_in registry)
  pub fits : size (keys_in registry) ≤ cap

-- The registry with these keys, unless memory ran out.
abbrev pub GivesText : Result Contents TextFault → Keys → Type 0
GivesText (Ok registry) keys = keys_in registry ≡ keys
GivesText (Err Memory) keys = Unit {0}
GivesText (Err (Bad place)) keys = ⊥

-- ---- the first line at fault

-- The lines are all those of a registry within the cap.
pub record AreAll (cap : ℕ) (lines : List Line) : Type 0 where
  pub keys : Keys
  pub registry : IsRegistry keys
  pub fits : size keys ≤ cap
  pub are : lines ≡ lines_of 0 keys

-- The lines of some registry within the cap begin with these.
pub record MayStand (cap : ℕ) (lines : List Line) : Type 0 where
  pub behind : List Line
  pub all : AreAll cap (lines ++ behind)

-- No further line may stand behind these lines, of those with which the rest of the text begins.
abbrev pub IsStuck : ℕ → List Line → List ℕ → Type 0
IsStuck cap lines rest = (line : Line) (behind : List ℕ) → rest ≡ line_text line ++ behind → MayStand cap (lines ++ line ∷ []) → ⊥

-- Behind lines that may stand there, the line at the place may not, or lines are missing.
pub record IsBadLine (cap : ℕ) (text : List ℕ) (place : ℕ) : Type 0 where
  pub lines : List Line
  pub rest : List ℕ
  pub text_is : text ≡ codes "hive 1\n" ++ (lines_text lines ++ rest)
  pub place_is : place ≡ 7 + length (lines_text lines)
  pub good : MayStand cap lines
  pub stuck : IsStuck cap lines rest
  pub unfinished : rest ≡ [] → AreAll cap lines → ⊥

-- The text begins with another line.
pub record IsBadHead (text : List ℕ) (place : ℕ) : Type 0 where
  pub place_is : place ≡ 0
  pub other : (rest : List ℕ) → text ≡ codes "hive 1\n" ++ rest → ⊥

abbrev pub FailsAt : ℕ → List ℕ → ℕ → Type 0
FailsAt cap text place = IsBadHead text place ⊎ IsBadLine cap text place

abbrev pub FailsOn : ℕ → List ℕ → TextFault → Type 0
FailsOn cap text (Bad place) = FailsAt cap text place
FailsOn cap text Memory = Unit {0}
