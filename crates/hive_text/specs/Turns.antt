-- How far a text was read. Only private clauses cite these definitions.
use Rattle.std.specs.Prelude.{◌≡◌, ◌⊎◌, ℕ, List, Option, Some, None, Result, Ok, Err}
use Rattle.std.specs.declared.alloc.AllocError.{AllocError}
use Rattle.hive_text.specs.Standings.{Follows, Standing, behind}
use Rattle.hive_text.specs.Told.{HasRead, NextIs}
use Rattle.hive_text.specs.Walks.{IsWalk}
use Rattle.hive_text.specs.declared.line.Line.{Line}
use Rattle.hive_text.specs.declared.walk.Walk.{Walk}

pub record IsReading (cap : ℕ) (text : List ℕ) (place : ℕ) (walk : Walk) : Type 0 where
  pub told : List Line
  pub standing : Standing
  pub read : HasRead cap text place told standing
  pub walk_is : IsWalk walk standing
  pub same_cap : walk.cap ≡ cap

-- A line was taken, or none can stand there.
pub record TookLine (old : Walk) (rest : List ℕ) (size : ℕ) (new : Walk) : Type 0 where
  pub line : Line
  pub next : NextIs rest (Some (line, size))
  pub took : (s : Standing) → IsWalk old s → Follows old.cap s line × IsWalk new (behind line s) × (new.cap ≡ old.cap)

pub record RefusedLine (old : Walk) (rest : List ℕ) : Type 0 where
  pub line : Line
  pub size : ℕ
  pub next : NextIs rest (Some (line, size))
  pub refused : (s : Standing) → IsWalk old s → Follows old.cap s line → ⊥

abbrev pub Turns : Result (Option ℕ) AllocError → Walk → List ℕ → Walk → Type 0
Turns (Ok (Some size)) old rest new = TookLine old rest size new
Turns (Ok None) old rest new = NextIs rest None ⊎ RefusedLine old rest
Turns (Err fault) old rest new = Unit {0}
