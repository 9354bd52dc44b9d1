-- What an event of a node comes to.
use Rattle.std.specs.Prelude.{◌≡◌, ℕ, true, List, [], ◌∷◌, Option, Some, if◌then◌else◌}
use Rattle.gum_messages.specs.declared.body.Body.{Body}
use Rattle.gum_messages.specs.declared.body.Body.TheVariants.{Apply, OpenView, Release}
use Rattle.gum_messages.specs.Members.{spread_of}
use Rattle.update_records.specs.Entry.{Entry}
use Rattle.gum_core.specs.declared.decision.Decision.{Decision}
use Rattle.gum_core.specs.declared.decision.Decision.TheVariants as decision
use Rattle.view_reconcile.specs.declared.step.Step.{Step}
use Rattle.view_reconcile.specs.declared.step.Step.TheVariants as step
use Rattle.view_reconcile.specs.Joining.{ReconcileState, waits_for}
use Rattle.view_reconcile.specs.Joining as joining
use Rattle.cluster_rules.specs.declared.effect.Effect.{Effect}
use Rattle.cluster_rules.specs.declared.effect.Effect.TheVariants.{Acked, Opened, Send}
use Rattle.cluster_rules.specs.Nodes.{NodeState, Out, acknowledges, after, asks, becomes, locker_at, members_of, nothing, number_of, packet, tells, to_each}
use Rattle.cluster_rules.specs.Updates.{without_head}
use Rattle.cluster_rules.specs.Joins.{opens_view}
use Rattle.registry_machine.specs.Machine.{registry_machine}
use Rattle.member_rules.specs.declared.told.Told.{Told}

-- The node goes on as the rule says, and tells what the rule tells.
pub record GoesOn (out : Out registry_machine) (now : NodeState registry_machine) (told : Told) : Type 0 where
  pub node : out.node ≡ Some now
  pub effects : out.effects ≡ told.effects
  pub outcome : out.outcome ≡ told.outcome

-- Where a record is to be logged the node is the locker, in its open view.
abbrev pub LogsAt : ReconcileState → Decision → Type 0
LogsAt s (decision.Write from req) = (joining.is_open s ≡ true) × (joining.locks s ≡ true)
LogsAt s other = Unit {0}

-- ---- the parts of a rule

-- The head, which has left the queue, is acknowledged, and its lock released.
abbrev pub finishes : NodeState registry_machine → ℕ → ℕ → Option ℕ → Out registry_machine
finishes x req place next =
    acknowledges (without_head x x.core) x.outcome (Acked (number_of x) place ∷ Send (packet x (locker_at x) (Release req)) ∷ asks (without_head x x.core) next)

-- The head was settled: it is acknowledged as the view opens.
abbrev pub settles : NodeState registry_machine → ℕ → Option ℕ → Out registry_machine
settles x place next = acknowledges (without_head x x.core) x.outcome (Acked (number_of x) place ∷ asks (without_head x x.core) next)

-- What a node does for a decision on its head's record.
abbrev pub proceeds_by : NodeState registry_machine → Entry → Decision → Out registry_machine
proceeds_by y e d = elim d [
  | decision.Spread to place ↦ tells (record y { spreads = Some e }) to (Apply e)
  | decision.Finish req place next ↦ finishes y req place next
  | decision.ReleaseAgain req ↦ tells y (locker_at y) (Release req)
  | _ ↦ nothing y
]

-- What a node does for a decision on its head as the view opens.
abbrev pub begins_by : NodeState registry_machine → Decision → Out registry_machine
begins_by y d = elim d [
  | decision.Ask req ↦ becomes y (asks y (Some req))
  | decision.Finish req place next ↦ settles y place next
  | _ ↦ nothing y
]

abbrev pub opens_by : NodeState registry_machine → Decision → Out registry_machine
opens_by y d = after (Opened (number_of y) ∷ []) (begins_by y d)

-- At the locker, which tells the others.
abbrev pub opens_all_by : NodeState registry_machine → Decision → Out registry_machine
opens_all_by y d = after (Opened (number_of y) ∷ to_each y OpenView (spread_of (members_of y))) (begins_by y d)

-- What a node does for a step as a member is ready.
abbrev pub marks_by : NodeState registry_machine → Step → Out registry_machine
marks_by y s = elim s [
  | step.OpenAgain to ↦ tells y to OpenView
  | step.Open ↦ opens_view y
  | _ ↦ nothing y
]

-- ---- messages to several members

-- To a member, where the node waits for it.
abbrev pub one_of : NodeState registry_machine → Body → ℕ → List Effect
one_of x body to = if waits_for x.join to then Send (packet x to body) ∷ [] else []
