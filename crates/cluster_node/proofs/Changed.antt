-- The connections changed, and told one effect at most.
use Rattle.std.proofs.Common.{◌≡◌, ℕ, List, Option, Some, refl, sym, ap, ◌∙◌, subst}
use Rattle.std.specs.Prelude.{option_to_list}
use Rattle.cluster_rules.specs.declared.effect.Effect.{Effect}
use Rattle.client_connections.specs.Clients.{Clients, client_at, hung_up}
use Rattle.cluster_rules.specs.Receiving.{tick}
use Rattle.member_rules.specs.declared.told.Told.{Told}
use Rattle.member_rules.specs.Steps.{GoesOn}
use Rattle.cluster_node.specs.Events.{HangsUp, Ticks}
use Rattle.cluster_node.specs.States.{RunningNode, runs}

pub hangs_up : (conn : ℕ) (old : Option RunningNode) (x : RunningNode) (t : Clients) (effect : Option Effect) (effects : List Effect) → old ≡ Some x
    → (t, effect) ≡ hung_up conn (client_at conn x.clients) x.clients → effects ≡ option_to_list effect → HangsUp conn old (Some (runs x.member t)) effects
hangs_up conn old x t effect effects is changed told =
    subst (λ (o : Option RunningNode). HangsUp conn o (Some (runs x.member t)) effects) (sym is)
    (ap (λ (p : Clients × Option Effect). runs x.member p.0) changed, told ∙ ap (λ (p : Clients × Option Effect). option_to_list p.1) changed)

-- What the node repeats changes nothing.
pub ticks : (old : Option RunningNode) (x : RunningNode) (told : Told) → old ≡ Some x → GoesOn (tick x.member.rules) x.member.rules told → Ticks old old told.effects
ticks old x told is goes = subst (λ (o : Option RunningNode). Ticks o o told.effects) (sym is) (refl, sym goes.effects)
