-- Global Update at a node: each rule is the decision of the core, and what the node does for it.
use Rattle.std.specs.Prelude.{ℕ, ◌+◌, Bool, not, ◌&&◌, List, [], ◌∷◌, length, Option, Some, None, nat_lt, if◌then◌else◌}
use Rattle.gum_messages.specs.Members.{inc_of}
use Rattle.update_records.specs.Entry.{Entry}
use Rattle.update_records.specs.declared.update.Update.{Update}
use Rattle.gum_core.specs.declared.decision.Decision.{Decision}
use Rattle.gum_core.specs.declared.decision.Decision.TheVariants as decision
use Rattle.gum_core.specs.Updating.{CoreState}
use Rattle.gum_core.specs.Updating as updating
use Rattle.view_reconcile.specs.Joining as joining
use Rattle.cluster_rules.specs.Machines.{Machine}
use Rattle.cluster_rules.specs.declared.effect.HaltCause.TheVariants as halt
use Rattle.gum_messages.specs.declared.body.Body.TheVariants.{Apply, Applied, Granted, Release}
use Rattle.cluster_rules.specs.declared.effect.Effect.{Effect}
use Rattle.cluster_rules.specs.declared.effect.Effect.TheVariants.{Acked, Opened, Send}
use Rattle.cluster_rules.specs.Nodes.{NodeState, Out, Replica, acknowledges, after, asks, becomes, done_of, halts, is_head, locker_at, nothing, number_of, packet, tells}

-- A record is applied; what came of the head's is kept.
abbrev pub replica_after : {M : Machine} → Entry → Option (Replica M) → Option (Replica M)
replica_after {M} e replica = elim replica [ None ↦ None | Some r ↦ Some (record { registry = (M.apply e r.registry).0; done = r.done + 1 }) ]

abbrev pub outcome_after : {M : Machine} → Entry → Option (Replica M) → Option M.Outcome
outcome_after {M} e replica = elim replica [ None ↦ None | Some r ↦ Some (M.apply e r.registry).1 ]

abbrev pub applied : {M : Machine} → Entry → NodeState M → NodeState M
applied e x = record x {
  replica = replica_after e x.replica;
  last = Some e;
  outcome = if is_head e x then outcome_after e x.replica else x.outcome;
}

-- The head has left the queue.
abbrev pub without_head : {M : Machine} → NodeState M → CoreState → NodeState M
without_head x core = record x { core = core; spreads = None; settled = None; outcome = None }

-- Submit: the update is queued, and asked for where it is the head.
abbrev pub may_submit : {M : Machine} → NodeState M → Bool
may_submit x = x.core.is_open && nat_lt (x.core.passed + length x.core.queue) updating.last_request

abbrev pub asked_for : Decision → Option ℕ
asked_for d = elim d [ decision.Ask req ↦ Some req | _ ↦ None ]

abbrev pub submits : {M : Machine} → NodeState M → CoreState × (ℕ × Decision) → Out M
submits x r = becomes (record x { core = r.0 }) (asks (record x { core = r.0 }) (asked_for r.1.1))

abbrev pub submit : {M : Machine} → NodeState M → Update → Out M
submit x update = if may_submit x then submits x (updating.submitted x.core update) else nothing x

-- The view opens: a settled head is acknowledged, another is asked for.
abbrev pub begins : {M : Machine} → NodeState M → CoreState × Decision → Out M
begins x r = elim (r.1) [
  | decision.Ask req ↦ becomes (record x { core = r.0 }) (asks (record x { core = r.0 }) (Some req))
  | decision.Finish req place next ↦ acknowledges (without_head x r.0) x.outcome (Acked (number_of x) place ∷ asks (without_head x r.0) next)
  | _ ↦ nothing (record x { core = r.0 })
]

abbrev pub opens : {M : Machine} → NodeState M → Out M
opens x = after (Opened (number_of x) ∷ []) (begins x (updating.opened x.core x.settled))

-- An Ask at the locker: what comes of the log's calls for an Ask, at a log that no later view has claimed.
pub data Answer : Type 0 where
  Written : Answer
  -- The append failed: the record may be in the log or not.
  InDoubt : Answer
  -- A checkpoint before it failed, so that no append was made.
  Unwritten : Answer

-- What an event leaves that may call the log: also the record that it appended, or that a failed append may have left.
pub record Logged (M : Machine) : Type 0 where
  pub out : Out M
  pub appended : Option Entry
  pub doubtful : Option Entry

abbrev pub unlogged : {M : Machine} → Out M → Logged M
unlogged out = record { out = out; appended = None; doubtful = None }

-- The record that an Ask becomes.
abbrev pub entry_for : {M : Machine} → NodeState M → ℕ → ℕ → Update → Entry
entry_for x from req update = record {
  place = done_of x + 1;
  stamp = x.stamp;
  id = record { node = from; inc = inc_of x.join.view.members from; req = req };
  update = update;
}

-- The locker has logged a record: it applies it, and the record's sender has the lock.
abbrev pub has_logged : {M : Machine} → NodeState M → Entry → NodeState M
has_logged x e = record (applied e x) { core = (updating.logged x.core e.id.node e.id.req e.place).0 }

-- `held` is the fencing token that the disk holds.
abbrev pub writes : {M : Machine} → NodeState M → Entry → ℕ → Answer → Logged M
writes x e held answer =
    if nat_lt (number_of x) held then unlogged (halts (halt.Fenced held))
    else elim answer [
      | Written ↦ record { out = tells (has_logged x e) e.id.node (Granted e); appended = Some e; doubtful = None }
      | InDoubt ↦ record { out = halts halt.Disk; appended = None; doubtful = Some e }
      | Unwritten ↦ unlogged (halts halt.Disk)
    ]

abbrev pub grants : {M : Machine} → NodeState M → ℕ → Out M
grants x to = elim x.last [ None ↦ nothing x | Some e ↦ tells x to (Granted e) ]

abbrev pub answers : {M : Machine} → NodeState M → Update → ℕ → Answer → Decision → Logged M
answers x update held answer d = elim d [
  | decision.Write from req ↦ writes x (entry_for x from req update) held answer
  | decision.Grant to req place ↦ unlogged (grants x to)
  | _ ↦ unlogged (nothing x)
]

abbrev pub on_ask : {M : Machine} → NodeState M → ℕ → ℕ → Update → ℕ → Answer → Logged M
on_ask x from req update held answer = answers x update held answer (updating.asked x.core from req (done_of x))

-- A Granted, and each Applied: the head's record spreads, and behind the last member the head is finished.
abbrev pub proceeds : {M : Machine} → NodeState M → Entry → CoreState × Decision → Out M
proceeds x e r = elim (r.1) [
  | decision.Spread to place ↦ tells (record x { core = r.0; spreads = Some e }) to (Apply e)
  | decision.Finish req place next ↦ acknowledges (without_head x r.0) x.outcome
      (Acked (number_of x) place ∷ Send (packet x (locker_at x) (Release req)) ∷ asks (without_head x r.0) next)
  | decision.ReleaseAgain req ↦ tells x (locker_at x) (Release req)
  | _ ↦ nothing x
]

abbrev pub on_granted : {M : Machine} → NodeState M → Entry → Out M
on_granted x e = proceeds x e (updating.granted x.core e.id.req e.place)

abbrev pub on_applied : {M : Machine} → NodeState M → ℕ → ℕ → Out M
on_applied x from place = elim x.spreads [
  | None ↦ nothing x
  | Some e ↦ proceeds x e (updating.applied x.core from place)
]

-- An Apply: a member that is ready applies the record behind its last one.
abbrev pub applies : {M : Machine} → NodeState M → ℕ → Entry → Decision → Out M
applies x from e d = elim d [
  | decision.Take ↦ tells (applied e x) from (Applied e.place)
  | decision.Again ↦ tells x from (Applied e.place)
  | _ ↦ nothing x
]

abbrev pub on_apply : {M : Machine} → NodeState M → ℕ → Entry → Out M
on_apply x from e = if joining.is_ready x.join && not (joining.locks x.join) then applies x from e (updating.applying (done_of x) e.place) else nothing x

-- A Release by the lock's holder: the lock is free.
abbrev pub on_release : {M : Machine} → NodeState M → ℕ → ℕ → Out M
on_release x from req = nothing (record x { core = (updating.released x.core from req).0 })

-- A tick: the head's message is sent again, and the grant of the lock.
abbrev pub tick_head : {M : Machine} → NodeState M → Decision → List Effect
tick_head x d = elim d [
  | decision.Ask req ↦ asks x (Some req)
  | decision.Spread to place ↦ elim x.spreads [ None ↦ [] | Some e ↦ Send (packet x to (Apply e)) ∷ [] ]
  | _ ↦ []
]

abbrev pub tick_lock : {M : Machine} → NodeState M → List Effect
tick_lock x = elim x.core.lock [ None ↦ [] | Some l ↦ elim x.last [ None ↦ [] | Some e ↦ Send (packet x l.node (Granted e)) ∷ [] ] ]
