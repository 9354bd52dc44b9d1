-- What a node keeps, without its connections and without its disk, and what it does.
use Rattle.std.specs.Prelude.{ℕ, ◌+◌, Bool, true, false, ◌&&◌, List, [], ◌∷◌, ◌++◌, length, Option, Some, None, nat_eq, nat_lt}
use Rattle.gum_messages.specs.declared.member.Member.{Member}
use Rattle.gum_messages.specs.Members.{locker_of}
use Rattle.update_records.specs.Entry.{Entry}
use Rattle.gum_core.specs.Updating.{CoreState}
use Rattle.gum_core.specs.Updating as updating
use Rattle.view_reconcile.specs.Joining.{ReconcileState}
use Rattle.view_reconcile.specs.Joining as joining
use Rattle.cluster_rules.specs.Machines.{Machine}
use Rattle.gum_messages.specs.declared.body.Body.{Body}
use Rattle.gum_messages.specs.declared.body.Body.TheVariants.{Ask}
use Rattle.gum_messages.specs.Messages.{Sent}
use Rattle.cluster_rules.specs.declared.effect.Effect.{Effect}
use Rattle.cluster_rules.specs.declared.effect.Effect.TheVariants.{Halted, Send}
use Rattle.cluster_rules.specs.declared.effect.HaltCause.{HaltCause}
use Rattle.cluster_rules.specs.declared.offering.Offering.{Offering}

-- A registry, and how many records of the order it has applied.
pub record Replica (M : Machine) : Type 0 where
  pub registry : M.Registry
  pub done : ℕ

pub record NodeState (M : Machine) : Type 0 where
  -- The stamp of the records that it logs.
  pub stamp : ℕ
  pub core : CoreState
  pub join : ReconcileState
  pub replica : Option (Replica M)
  -- The last record that it applied, or that was offered with its state.
  pub last : Option Entry
  -- While it pulls: what was offered, and the bytes of the state so far.
  pub offer : Option Offering
  pub bytes : List ℕ
  -- The head's record, while it spreads.
  pub spreads : Option Entry
  -- The place of the head's record, where an offer showed it.
  pub settled : Option ℕ
  -- What came of the head's record, once it was applied here.
  pub outcome : Option M.Outcome

abbrev pub fresh : (M : Machine) → ℕ → ℕ → NodeState M
fresh M node inc = record {
  stamp = 0;
  core = updating.fresh node;
  join = joining.fresh node inc;
  replica = None;
  last = None;
  offer = None;
  bytes = [];
  spreads = None;
  settled = None;
  outcome = None;
}

abbrev pub number_of : {M : Machine} → NodeState M → ℕ
number_of x = x.join.view.number

abbrev pub members_of : {M : Machine} → NodeState M → List Member
members_of x = x.join.view.members

abbrev pub locker_at : {M : Machine} → NodeState M → ℕ
locker_at x = locker_of x.join.view.members

-- How many records it has applied; 0 where it has no state.
abbrev pub done_of : {M : Machine} → NodeState M → ℕ
done_of x = elim x.replica [ None ↦ 0 | Some r ↦ r.done ]

abbrev pub has_state : {M : Machine} → NodeState M → Bool
has_state x = elim x.replica [ None ↦ false | Some r ↦ true ]

abbrev pub place_of : Option Entry → Option ℕ
place_of last = elim last [ None ↦ None | Some e ↦ Some e.place ]

-- The record has the id of the queue's head.
abbrev pub is_head : {M : Machine} → Entry → NodeState M → Bool
is_head e x = nat_lt 0 (length x.core.queue) && (nat_eq e.id.node x.join.node && (nat_eq e.id.inc x.join.inc && nat_eq e.id.req (x.core.passed + 1)))

-- The node after an event, or none where it stopped, what it did, and what came of the head that it acknowledged.
pub record Out (M : Machine) : Type 0 where
  pub node : Option (NodeState M)
  pub effects : List Effect
  pub outcome : Option M.Outcome

abbrev pub becomes : {M : Machine} → NodeState M → List Effect → Out M
becomes x effects = record { node = Some x; effects = effects; outcome = None }

abbrev pub nothing : {M : Machine} → NodeState M → Out M
nothing x = becomes x []

abbrev pub halts : {M : Machine} → HaltCause → Out M
halts cause = record { node = None; effects = Halted cause ∷ []; outcome = None }

-- The head was acknowledged, and came to this.
abbrev pub acknowledges : {M : Machine} → NodeState M → Option M.Outcome → List Effect → Out M
acknowledges x outcome effects = record { node = Some x; effects = effects; outcome = outcome }

abbrev pub packet : {M : Machine} → NodeState M → ℕ → Body → Sent
packet x to body = record { view = x.join.view.number; from = x.join.node; to = to; body = body }

abbrev pub tells : {M : Machine} → NodeState M → ℕ → Body → Out M
tells x to body = becomes x (Send (packet x to body) ∷ [])

abbrev pub to_each : {M : Machine} → NodeState M → Body → List Member → List Effect
to_each x body [] = []
to_each x body (m ∷ ms) = Send (packet x m.node body) ∷ to_each x body ms

abbrev pub after : {M : Machine} → List Effect → Out M → Out M
after effects o = record { node = o.node; effects = effects ++ o.effects; outcome = o.outcome }

-- The locker is asked for the head, under this request.
abbrev pub asks : {M : Machine} → NodeState M → Option ℕ → List Effect
asks x next = elim next [
  | None ↦ []
  | Some req ↦ elim x.core.queue [ [] ↦ [] | u ∷ us ↦ Send (packet x (locker_at x) (Ask req u)) ∷ [] ]
]
