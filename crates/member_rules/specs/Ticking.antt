-- What a node sends again at a tick.
use Rattle.std.specs.Prelude.{ℕ, List, [], ◌∷◌, None, Some}
use Rattle.gum_messages.specs.declared.body.Body.TheVariants.{Apply, Granted, Offer}
use Rattle.cluster_rules.specs.declared.effect.Effect.{Effect}
use Rattle.cluster_rules.specs.declared.effect.Effect.TheVariants.{Send}
use Rattle.cluster_rules.specs.Joins.{offer_each, offered_cap}
use Rattle.cluster_rules.specs.Nodes.{NodeState, done_of, members_of, packet}
use Rattle.registry_machine.specs.Machine.{registry_machine}

-- The head's record, while it spreads.
abbrev pub spreads_again : NodeState registry_machine → ℕ → List Effect
spreads_again x to = elim x.spreads [ None ↦ [] | Some e ↦ Send (packet x to (Apply e)) ∷ [] ]

-- That the lock's holder has the lock.
abbrev pub grants_again : NodeState registry_machine → ℕ → List Effect
grants_again x to = elim x.last [ None ↦ [] | Some e ↦ Send (packet x to (Granted e)) ∷ [] ]

-- The log, to each member that the locker waits for.
abbrev pub offers_again : NodeState registry_machine → List Effect
offers_again x = offer_each x (Offer (done_of x) (offered_cap x) x.last) (members_of x)
