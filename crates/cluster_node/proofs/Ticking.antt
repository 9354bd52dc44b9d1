-- What a node repeats is nothing for clients.
use Rattle.std.proofs.Common.{◌≡◌, ℕ, Bool, true, false, List, [], ◌∷◌, ◌++◌, Option, Some, None, if◌then◌else◌, refl, sym, ap, ◌∙◌, subst, arith}
use Rattle.gum_messages.specs.declared.body.Body.{Body}
use Rattle.gum_messages.specs.declared.body.Body.TheVariants.{Apply, Granted}
use Rattle.gum_messages.specs.declared.member.Member.{Member}
use Rattle.gum_core.specs.declared.decision.Decision.{Decision}
use Rattle.gum_core.specs.declared.decision.Decision.TheVariants as decision
use Rattle.gum_core.specs.declared.lock.Lock.{Lock}
use Rattle.gum_core.specs.Updating as updating
use Rattle.update_records.specs.Entry.{Entry}
use Rattle.view_reconcile.specs.declared.step.Step.{Step}
use Rattle.view_reconcile.specs.declared.step.Step.TheVariants as step
use Rattle.view_reconcile.specs.Joining as joining
use Rattle.cluster_rules.specs.Machines.{Machine}
use Rattle.cluster_rules.specs.declared.effect.Effect.{Effect}
use Rattle.cluster_rules.specs.declared.effect.Effect.TheVariants.{Send}
use Rattle.cluster_rules.specs.Joins.{offer_each, tick_join}
use Rattle.cluster_rules.specs.Nodes.{NodeState, packet}
use Rattle.cluster_rules.specs.Receiving.{tick}
use Rattle.cluster_rules.specs.Updates.{tick_head, tick_lock}
use Rattle.cluster_node.specs.Explained.{told_to_clients}
use Rattle.cluster_node.specs.States.{RunningNode}
use Rattle.cluster_node.specs.Steps.{ClockSteps, StandsFor, StartStands, TickSteps}
use Rattle.cluster_node.proofs.ForClients.{asks_none, joins}

abbrev AreNone : List Effect → Type 0
AreNone es = told_to_clients es ≡ []

none_of_both : (es fs : List Effect) → AreNone es → AreNone fs → AreNone (es ++ fs)
none_of_both es fs e f = joins es fs ∙ ap (λ (t : List Effect). t ++ told_to_clients fs) e ∙ f

module _ {M : Machine} where
  spread_none : (x : NodeState M) (to : ℕ) (spreads : Option Entry) → AreNone (elim spreads [ None ↦ [] | Some e ↦ Send (packet x to (Apply e)) ∷ [] ])
  spread_none x to None = refl
  spread_none x to (Some e) = refl

  head_none : (x : NodeState M) (d : Decision) → AreNone (tick_head x d)
  head_none x (decision.Ask req) = asks_none x (Some req)
  head_none x (decision.Spread to place) = spread_none x to x.spreads
  head_none x (decision.Write from req) = refl
  head_none x (decision.Grant to req place) = refl
  head_none x (decision.Finish req place next) = refl
  head_none x (decision.ReleaseAgain req) = refl
  head_none x decision.Nothing = refl
  head_none x decision.Free = refl
  head_none x decision.Take = refl
  head_none x decision.Again = refl

  grant_none : (x : NodeState M) (to : ℕ) (last : Option Entry) → AreNone (elim last [ None ↦ [] | Some e ↦ Send (packet x to (Granted e)) ∷ [] ])
  grant_none x to None = refl
  grant_none x to (Some e) = refl

  lock_none : (x : NodeState M) (lock : Option Lock) → AreNone (elim lock [ None ↦ [] | Some l ↦ elim x.last [ None ↦ [] | Some e ↦ Send (packet x l.node (Granted e)) ∷ [] ] ])
  lock_none x None = refl
  lock_none x (Some l) = grant_none x l.node x.last

  abbrev offered_if : NodeState M → Body → Member → List Member → Bool → List Effect
  offered_if x body m ms waits = if waits then Send (packet x m.node body) ∷ offer_each x body ms else offer_each x body ms

  offered_none : (x : NodeState M) (body : Body) (m : Member) (ms : List Member) (waits : Bool) → AreNone (offer_each x body ms) → AreNone (offered_if x body m ms waits)
  offered_none x body m ms true others = others
  offered_none x body m ms false others = others

  offers_none : (x : NodeState M) (body : Body) (ms : List Member) → AreNone (offer_each x body ms)
  offers_none x body [] = refl
  offers_none x body (m ∷ ms) = offered_none x body m ms (joining.waits_for x.join m.node) (offers_none x body ms)

  join_none : (x : NodeState M) (s : Step) → AreNone (tick_join x s)
  join_none x (step.OfferTo count) = offers_none x _ _
  join_none x (step.Pull offset) = refl
  join_none x step.Ready = refl
  join_none x step.Nothing = refl
  join_none x step.ApplyLast = refl
  join_none x step.Whole = refl
  join_none x step.Open = refl
  join_none x (step.OpenAgain to) = refl

  tick_none : (x : NodeState M) → AreNone (tick x).effects
  tick_none x =
      let head = tick_head x (updating.ticked x.core) in
      let join = tick_join x (joining.ticked x.join) in
      none_of_both head (tick_lock x ++ join) (head_none x (updating.ticked x.core)) (none_of_both (tick_lock x) join (lock_none x x.core.lock) (join_none x (joining.ticked x.join)))

pub tick_steps : TickSteps
tick_steps cap order node inc x y effects s (same, told) stands =
    (s, (ap told_to_clients told ∙ tick_none x.member.rules, refl), subst (λ (z : RunningNode). StandsFor z s) (sym same) stands)

pub clock_steps : ClockSteps
clock_steps cap order node inc stamp x s stands =
    (s, (refl, refl), record { clients = stands.clients; passed = stands.passed; counted = stands.counted; queue = stands.queue })

pub start_stands : StartStands
start_stands node inc = record { clients = refl; passed = refl; counted = omega arith; queue = refl }
