-- What the words ask for, and what `format` comes to.
use Rattle.std.specs.Prelude.{◌≡◌, ◌⊎◌, ℕ, ◌<◌, ◌≤◌, IsTrue, List, Option, Some, None}
use Rattle.causes.specs.Counts.{Rose}
use Rattle.registry_defs.specs.Keys.{root_alone}
use Rattle.registry_defs.specs.Spelling.{registry_text}
use Rattle.disk_core.specs.Images.{EachImage}
use Rattle.disk_core.specs.Views.{DiskView, Passes}
use Rattle.quorum_log.specs.Image.{Holds}
use Rattle.quorum_log.specs.Formats.{empty_log, IsInFormat}
use Rattle.command_words.specs.Commands.{Asked, Asks}
use Rattle.command_words.specs.Commands as commands
use Rattle.clus_cli.specs.declared.status.Status.{Status}
use Rattle.clus_cli.specs.declared.status.Status.TheVariants as statuses

-- The stamp of a run; it is 0 where none is given.
abbrev pub stamp_of : Option ℕ → ℕ
stamp_of None = 0
stamp_of (Some stamp) = stamp

abbrev pub AsksSession : List (List ℕ) → Option ℕ → Type 0
AsksSession words stamp = Asks words (commands.session stamp)

abbrev pub AsksSomeSession : List (List ℕ) → Type 0
AsksSomeSession words = (stamp : Option ℕ) × AsksSession words stamp

abbrev pub AsksServe : List (List ℕ) → List ℕ → ℕ → Option ℕ → Type 0
AsksServe words address count stamp = Asks words (commands.serve address count stamp)

abbrev pub AsksSomeServe : List (List ℕ) → Type 0
AsksSomeServe words = (count : ℕ) × (address : List ℕ) × (stamp : Option ℕ) × AsksServe words address count stamp

-- The words ask for a node over the log.
abbrev pub AsksNode : List (List ℕ) → Type 0
AsksNode words = AsksSomeSession words ⊎ AsksSomeServe words

abbrev pub AsksReplay : List (List ℕ) → Type 0
AsksReplay words = Asks words commands.replay

abbrev pub AsksDrill : List (List ℕ) → ℕ → ℕ → Type 0
AsksDrill words number events = Asks words (commands.drill number events)

abbrev pub AsksSomeDrill : List (List ℕ) → Type 0
AsksSomeDrill words = (number : ℕ) × (events : ℕ) × AsksDrill words number events

abbrev pub AsksFormat : List (List ℕ) → ℕ → Type 0
AsksFormat words cap = Asks words (commands.format cap)

abbrev pub AsksSomeFormat : List (List ℕ) → Type 0
AsksSomeFormat words = (cap : ℕ) × AsksFormat words cap

abbrev pub AsksShowlog : List (List ℕ) → Type 0
AsksShowlog words = Asks words commands.showlog

abbrev pub AsksExport : List (List ℕ) → Type 0
AsksExport words = Asks words commands.export

abbrev pub AsksPeer : List (List ℕ) → List ℕ → Type 0
AsksPeer words address = Asks words (commands.ask address)

abbrev pub AsksSomePeer : List (List ℕ) → Type 0
AsksSomePeer words = (address : List ℕ) × AsksPeer words address

-- The words ask for a command on the disk.
abbrev pub AsksOfDisk : List (List ℕ) → Type 0
AsksOfDisk words = AsksNode words ⊎ (AsksSomeFormat words ⊎ (AsksShowlog words ⊎ AsksExport words))

-- The words ask for a command that reads the input.
abbrev pub AsksOfInput : List (List ℕ) → Type 0
AsksOfInput words = AsksSomeSession words ⊎ (AsksReplay words ⊎ AsksSomePeer words)

-- They ask for one that prints.
abbrev pub AsksOfOutput : List (List ℕ) → Type 0
AsksOfOutput words = AsksOfInput words ⊎ (AsksSomeDrill words ⊎ (AsksShowlog words ⊎ AsksExport words))

-- They ask for one over connections.
abbrev pub AsksOfDoor : List (List ℕ) → Type 0
AsksOfDoor words = AsksSomeServe words ⊎ AsksSomePeer words

-- The words are no command.
abbrev pub AsksNothing : List (List ℕ) → Type 0
AsksNothing words = (asked : Asked) → ¬ Asks words asked

-- Memory ran out before the command was known, and this is as it was.
abbrev pub IsUnbegun : {A : Type 0} → Status → A → A → Type 0
IsUnbegun status before now = (status ≡ statuses.NoMemory) × (now ≡ before)

-- The state of a new log: the encoding of the empty registry.
unfoldable pub empty_registry : List ℕ
empty_registry = registry_text root_alone

-- How `format` ends, on a disk whose fencing token it makes 1.
abbrev pub FormatEnds : DiskView → Status → DiskView → Type 0
FormatEnds v statuses.Done w = (v.current.held ≤ 1) × (w.current.held ≡ 1)
FormatEnds v statuses.DiskFault w = (v.current.held ≤ 1) × Rose v.faults w.faults
FormatEnds v (statuses.Fenced held) w = (1 < v.current.held) × (held ≡ v.current.held)
FormatEnds v _ w = ⊥

pub record FormatRuns (cap : ℕ) (v : DiskView) (status : Status) (w : DiskView) : Type 0 where
  pub ends : FormatEnds v status w
  -- after Done each image that a crash may leave holds the empty log
  pub formatted : IsTrue v.tells → status ≡ statuses.Done → EachImage (λ image. Holds image (empty_log cap empty_registry)) w.current
  pub any_moment : IsTrue v.tells → Passes (EachImage (IsInFormat v.current cap empty_registry)) v w
