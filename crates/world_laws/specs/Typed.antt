-- What the types of the code hold of an event, and a run of such events.
use Rattle.std.specs.Prelude.{◌≡◌, ℕ, ◌<◌, ◌^◌, List, [], ◌∷◌, Ok}
use Rattle.wire_fields.specs.Numbers.{IsBytes}
use Rattle.gum_messages.specs.Members.{inc_of}
use Rattle.gum_messages.specs.Views.{IsView}
use Rattle.update_records.specs.Limits.{IsUpdate}
use Rattle.cluster_worlds.specs.declared.event.Event.{Event}
use Rattle.cluster_worlds.specs.declared.event.Event.TheVariants.{Declare, Bytes, Clock, Batch}
use Rattle.cluster_worlds.specs.declared.told.Told.{Told}
use Rattle.cluster_worlds.specs.Conditions.{IsEvent}
use Rattle.cluster_worlds.specs.Runs.{Steps}
use Rattle.cluster_worlds.specs.Worlds.{WorldState}

-- Views are views, with incarnations of 64 bits, stamps have 64 bits, bytes are bytes and updates are updates.
abbrev pub IsTypedEvent : Event → Type 0
IsTypedEvent (Declare view) = IsView view × ((n : ℕ) → inc_of view.members n < 2 ^ 64)
IsTypedEvent (Bytes conn piece) = IsBytes piece
IsTypedEvent (Clock node stamp) = stamp < 2 ^ 64
IsTypedEvent (Batch node update) = IsUpdate update
IsTypedEvent event = Unit {0}

-- These events came in turn, each of which may be asked for and none was refused, and this was told of each.
unfoldable pub RunsTyped : WorldState → List Event → List (List Told) → WorldState → Type 0
RunsTyped w [] [] u = u ≡ w
RunsTyped w (event ∷ events) (told ∷ tolds) u =
    (v : WorldState) × IsEvent event × IsTypedEvent event × Steps event w (Ok told) v × RunsTyped v events tolds u
RunsTyped w events tolds u = ⊥
