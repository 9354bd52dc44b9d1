use Rattle.registry_states.specs.Turns.{weight}
use Rattle.registry_states.proofs.Reaching.{Kept}
use Rattle.registry_states.proofs.turning.read_items.Given as goal

abbrev pub invariant-items : goal.invariant-items
invariant-items l = Kept l.end l.initial.items.items l.initial.ahead l.initial.fields l.items.items l.ahead l.fields

abbrev pub decreases-items : goal.decreases-items
decreases-items l = weight l.ahead l.fields
