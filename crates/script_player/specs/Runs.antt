-- The run of a script, and what is promised of each of its worlds.
use Rattle.std.specs.Prelude.{◌≡◌, ℕ, List, ◌++◌, Option, None, Some}
use Rattle.cluster_node.specs.Explained.{IsExplained}
use Rattle.cluster_worlds.specs.declared.event.Event.{Event}
use Rattle.cluster_worlds.specs.declared.told.Told.{Told}
use Rattle.cluster_worlds.specs.Runs.{IsOpening}
use Rattle.cluster_worlds.specs.Worlds.{WorldState}
use Rattle.world_laws.specs.Growing.{Grew}
use Rattle.world_laws.specs.Kept.{Kept}
use Rattle.world_laws.specs.Safe.{Safe}
use Rattle.world_laws.specs.Typed.{RunsTyped}
use Rattle.world_answers.specs.Histories.{NeverFall, history, points_told}
use Rattle.script_player.specs.Playing.{Play}
use Rattle.script_player.specs.Scripts.{PlaysAll}
use Rattle.script_player.specs.Yields.{Yield, nothing}

-- The world stands between the first events of a run and those that come behind it.
pub record IsWorldOf (first : WorldState) (events : List Event) (tolds : List (List Told)) (last w : WorldState) : Type 0 where
  pub before : List Event
  pub told_before : List (List Told)
  pub behind : List Event
  pub told_behind : List (List Told)
  pub events_are : events ≡ before ++ behind
  pub tolds_are : tolds ≡ told_before ++ told_behind
  pub runs_before : RunsTyped first before told_before w
  pub runs_behind : RunsTyped w behind told_behind last

-- A run from a world with an empty log of that capacity. Each of its worlds is safe, and keeps what was acknowledged; the
-- order grew by the records of which that was told; and what each incarnation of a node told its clients is explained by that
-- order, at points that never fall.
pub record IsRun (cap : ℕ) (first : WorldState) (events : List Event) (tolds : List (List Told)) (last : WorldState) : Type 0 where
  pub opening : IsOpening cap first
  pub runs : RunsTyped first events tolds last
  pub safe : (w : WorldState) → IsWorldOf first events tolds last w → Safe cap w
  pub kept : (w : WorldState) → IsWorldOf first events tolds last w → Kept w
  pub grew : Grew first tolds last
  pub explained : (node inc : ℕ) → IsExplained cap last.order node inc (history node inc first events tolds last runs)
  pub points : (node inc : ℕ) → NeverFall 0 (points_told (history node inc first events tolds last runs))

-- Nothing has come before the `cap` line.
abbrev pub HasRun : Yield → Option Play → Type 0
HasRun y None = y ≡ nothing
HasRun y (Some p) = (cap : ℕ) × (first : WorldState) × IsRun cap first y.events y.tolds p.world

-- The lines are played from the first one on, and come to that.
pub record Played (lines : List (List ℕ)) (y : Yield) (end : Option Play) : Type 0 where
  pub plays : PlaysAll lines None y end
  pub run : HasRun y end
