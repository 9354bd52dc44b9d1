-- The steps of a world, the world with which it begins, and a run.
use Rattle.std.specs.Prelude.{◌≡◌, ℕ, ◌≤◌, IsTrue, List, [], ◌∷◌, None, Some, Result, Ok, Err}
use Rattle.disk_core.specs.Views.{DiskView}
use Rattle.registry_defs.specs.Contents.{IsCap}
use Rattle.registry_defs.specs.Keys.{root_alone}
use Rattle.registry_defs.specs.Spelling.{registry_text}
use Rattle.quorum_log.specs.Formats.{IsFormatted}
use Rattle.quorum_log.specs.Layout.{image_size}
use Rattle.cluster_worlds.specs.declared.event.Event.{Event}
use Rattle.cluster_worlds.specs.declared.step_fault.StepFault.{StepFault}
use Rattle.cluster_worlds.specs.declared.step_fault.StepFault.TheVariants.{BadEvent, Memory}
use Rattle.cluster_worlds.specs.declared.told.Told.{Told}
use Rattle.cluster_worlds.specs.Happening.{Happens}
use Rattle.cluster_worlds.specs.Refusing.{refusal}
use Rattle.cluster_worlds.specs.Worlds.{WorldState, first_world}

-- An event that is refused changes nothing. Where memory ran out only the size of the disk is sure.
abbrev pub Steps : Event → WorldState → Result (List Told) StepFault → WorldState → Type 0
Steps event w (Ok told) u = (refusal event w ≡ None) × Happens event w told u
Steps event w (Err (BadEvent cause)) u = (refusal event w ≡ Some cause) × (u ≡ w)
Steps event w (Err Memory) u = u.disk.size ≡ w.disk.size

-- The disk holds an empty log with a registry of this capacity, and nobody has claimed it.
pub record HasNewLog (cap : ℕ) (v : DiskView) : Type 0 where
  pub capacity : IsCap cap
  pub tells : IsTrue v.tells
  pub log : IsFormatted cap (registry_text root_alone) v
  pub room : image_size cap ≤ v.size
  pub unclaimed : v.current.held ≡ 0

pub record IsOpening (cap : ℕ) (w : WorldState) : Type 0 where
  pub world : w ≡ first_world w.disk
  pub disk : HasNewLog cap w.disk

-- These events came in turn, none of them refused, and this was told of each.
unfoldable pub Runs : WorldState → List Event → List (List Told) → WorldState → Type 0
Runs w [] [] u = u ≡ w
Runs w (event ∷ events) (told ∷ tolds) u = (v : WorldState) × Steps event w (Ok told) v × Runs v events tolds u
Runs w events tolds u = ⊥
