-- What the opening of a log leaves, by a node alone; where the disk was blank, the log is made before.
use Rattle.std.specs.Prelude.{◌≡◌, ◌⊎◌, ℕ, IsTrue, List, [], slice_index, None, Err}
use Rattle.disk_core.specs.Images.{EachImage}
use Rattle.disk_core.specs.Views.{DiskView, Passes}
use Rattle.registry_defs.specs.Contents.{IsCap}
use Rattle.registry_defs.specs.Keys.{root_alone}
use Rattle.registry_defs.specs.Spelling.{registry_text}
use Rattle.quorum_log.specs.declared.fault.OpenFault.TheVariants.{Blank}
use Rattle.quorum_log.specs.declared.found.Found.{Found}
use Rattle.quorum_log.specs.Formats.{IsFormatted, IsInFormat}
use Rattle.quorum_log.specs.Logs.{LogValue}
use Rattle.quorum_log.specs.Opening.{IsBlank, IsInOpen, OpenCalls}
use Rattle.log_contents.specs.declared.contents.LogContents.{LogContents}
use Rattle.cluster_rules.specs.declared.effect.Effect.{Effect}
use Rattle.registry_machine.specs.Machine.{empty_registry, replicated}
use Rattle.record_log.specs.declared.recovered.Recovered.{Recovered}
use Rattle.record_log.specs.Opening.{HasOpened}
use Rattle.cluster_node.specs.States.{RunningNode}
use Rattle.single_node.specs.Opening.{OpenedAlone}
use Rattle.single_log.specs.Contents.{first_contents, first_log}
use Rattle.single_log.specs.Images.{HoldsFurther, IsKept}
use Rattle.single_log.specs.Keeping.{KeepsLog}
use Rattle.single_log.specs.Running.{KeepsMember}

-- The log value stands for what was found, with no further record.
abbrev pub OpenedKeeps : Type 0
OpenedKeeps =
    (token : ℕ) (v : DiskView) (log : LogValue) (r : Recovered) (w : DiskView) → (h : HasOpened token v log r w) → IsTrue v.tells
    → KeepsLog h.found h.recovered.contents [] log w

-- What the node found.
abbrev pub found_by : {node inc stamp number : ℕ} {v w : DiskView} {y : RunningNode} {es : List Effect} → OpenedAlone node inc stamp number v y w es → Found
found_by h = h.opened.found

abbrev pub contents_by : {node inc stamp number : ℕ} {v w : DiskView} {y : RunningNode} {es : List Effect} → OpenedAlone node inc stamp number v y w es → LogContents
contents_by h = h.opened.recovered.contents

-- The node keeps what was found, with no further record, and until then nothing has changed.
pub record KeepsOpened (found : Found) (contents : LogContents) (v : DiskView) (y : RunningNode) (w : DiskView) : Type 0 where
  pub keeps : KeepsMember found contents [] y.member w
  pub kept : IsKept found contents [] v w

abbrev pub AloneOpens : Type 0
AloneOpens =
    (node inc stamp number : ℕ) (v : DiskView) (y : RunningNode) (w : DiskView) (es : List Effect) → (h : OpenedAlone node inc stamp number v y w es) → IsTrue v.tells
    → KeepsOpened (found_by h) (contents_by h) v y w

-- ---- a blank disk

-- `open` found the disk blank.
pub record WasBlank (token : ℕ) (v w : DiskView) : Type 0 where
  pub blank : IsBlank token v w
  pub calls : OpenCalls token v (Err Blank) w
  pub moments : Passes (IsInOpen v.current token) v w

-- An image is blank, or holds the log that is made.
abbrev pub IsBlankOrFirst : ℕ → List ℕ → Type 0
IsBlankOrFirst cap image = (slice_index image 0 ≡ 0) ⊎ HoldsFurther (first_log cap) (first_contents cap) [] image

-- So is each one inside `format`, whatever that answers.
abbrev pub FormatLeaves : Type 0
FormatLeaves =
    (token cap : ℕ) (v u w : DiskView) → IsCap cap → IsTrue v.tells → WasBlank token v u
    → Passes (EachImage (IsInFormat u.current cap (registry_text root_alone))) u w
    → Passes (EachImage (IsBlankOrFirst cap)) u w

-- What the node then finds in it.
pub record FindsFirst (cap : ℕ) (found : Found) (r : Recovered) : Type 0 where
  pub found_is : found ≡ first_log cap
  pub count : r.count ≡ 0
  pub cap_is : r.cap ≡ cap
  pub last : r.last ≡ None
  pub registry : replicated r.registry ≡ empty_registry cap

abbrev pub FirstIsFound : Type 0
FirstIsFound =
    (cap node inc stamp number : ℕ) (v : DiskView) (y : RunningNode) (w : DiskView) (es : List Effect)
    → IsFormatted cap (registry_text root_alone) v → IsTrue v.tells → (h : OpenedAlone node inc stamp number v y w es) → IsCap cap
    → FindsFirst cap (found_by h) h.recovered

-- From the blank disk on.
abbrev pub BlankOpens : Type 0
BlankOpens =
    (token cap node inc stamp number : ℕ) (v u m : DiskView) (y : RunningNode) (w : DiskView) (es : List Effect)
    → IsCap cap → IsTrue v.tells → IsTrue u.tells → IsTrue m.tells → WasBlank token v u
    → Passes (EachImage (IsInFormat u.current cap (registry_text root_alone))) u m → IsFormatted cap (registry_text root_alone) m
    → (h : OpenedAlone node inc stamp number m y w es)
    → KeepsOpened (found_by h) (contents_by h) v y w
