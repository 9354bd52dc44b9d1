-- A run that is followed by an event more is a run.
use Rattle.std.proofs.Common.{List, [], ◌∷◌, ◌++◌, Ok, refl, subst}
use Rattle.cluster_worlds.specs.declared.event.Event.{Event}
use Rattle.cluster_worlds.specs.declared.told.Told.{Told}
use Rattle.cluster_worlds.specs.Conditions.{IsEvent}
use Rattle.cluster_worlds.specs.Runs.{Steps}
use Rattle.cluster_worlds.specs.Worlds.{WorldState}
use Rattle.world_laws.specs.Typed.{IsTypedEvent, RunsTyped}

pub run_begins : (w : WorldState) → RunsTyped w [] [] w
unfolding RunsTyped
run_begins w = refl

pub run_goes_on : (events : List Event) (first w last : WorldState) (tolds : List (List Told)) (e : Event) (t : List Told) → RunsTyped first events tolds w → IsEvent e → IsTypedEvent e → Steps e w (Ok t) last
    → RunsTyped first (events ++ e ∷ []) (tolds ++ t ∷ []) last
unfolding RunsTyped
run_goes_on [] first w last [] e t h is typed s = (last, is, typed, subst (λ (v : WorldState). Steps e v (Ok t) last) h s, refl)
run_goes_on (event ∷ events) first w last (told ∷ tolds) e t h is typed s = (h.0, h.1, h.2, h.3, run_goes_on events h.0 w last tolds e t h.4 is typed s)
run_goes_on [] first w last (told ∷ tolds) e t h is typed s = absurd h
run_goes_on (event ∷ events) first w last [] e t h is typed s = absurd h
