-- What a part of a script comes to.
use Rattle.std.specs.Prelude.{ℕ, List, [], ◌∷◌, ◌++◌}
use Rattle.cluster_worlds.specs.declared.event.Event.{Event}
use Rattle.cluster_worlds.specs.declared.told.Told.{Told}
use Rattle.script_player.specs.Playing.{text_of}

-- Its events in turn, what was told of each, and the text that is printed.
pub record Yield : Type 0 where
  pub events : List Event
  pub tolds : List (List Told)
  pub text : List ℕ

abbrev pub nothing : Yield
nothing = record { events = []; tolds = []; text = [] }

abbrev pub shown : List ℕ → Yield
shown text = record { events = []; tolds = []; text = text }

abbrev pub told_of : Event → List Told → Yield
told_of event told = record { events = event ∷ []; tolds = told ∷ []; text = text_of told }

-- One part and the next one.
abbrev pub joined : Yield → Yield → Yield
joined y z = record { events = y.events ++ z.events; tolds = y.tolds ++ z.tolds; text = y.text ++ z.text }
