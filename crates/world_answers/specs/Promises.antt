-- What is promised of what every run tells clients.
use Rattle.std.specs.Prelude.{◌≡◌, ℕ, List, [], None, Ok}
use Rattle.cluster_node.specs.Explained.{IsExplained}
use Rattle.cluster_worlds.specs.declared.event.Event.{Event}
use Rattle.cluster_worlds.specs.declared.told.Told.{Told}
use Rattle.cluster_worlds.specs.Runs.{IsOpening, Steps}
use Rattle.cluster_worlds.specs.Worlds.{WorldState}
use Rattle.world_laws.specs.Typed.{RunsTyped}
use Rattle.world_answers.specs.Histories.{NeverFall, concerned, history, points_told}

-- Every list of events, from every opening world on, gives each incarnation of each node a history that the update order of the last
-- world explains. `cap` is the capacity of the log.
abbrev pub RunsAreExplained : Type 0
RunsAreExplained =
    (cap : ℕ) (first last : WorldState) (events : List Event) (tolds : List (List Told)) (node inc : ℕ) → IsOpening cap first
    → (runs : RunsTyped first events tolds last) → IsExplained cap last.order node inc (history node inc first events tolds last runs)

-- The points at which the clients of one incarnation are answered never fall.
abbrev pub PointsNeverFall : Type 0
PointsNeverFall =
    (cap : ℕ) (first last : WorldState) (events : List Event) (tolds : List (List Told)) (node inc : ℕ) → IsOpening cap first
    → (runs : RunsTyped first events tolds last) → NeverFall 0 (points_told (history node inc first events tolds last runs))

-- No history leaves anything out: an event that concerns no incarnation tells nothing at all.
abbrev pub OthersTellNothing : Type 0
OthersTellNothing = (event : Event) (w u : WorldState) (told : List Told) → Steps event w (Ok told) u → concerned event w ≡ None → told ≡ []
