-- Joining at a node: each rule is the step of its way into the view, and what the node does for it.
use Rattle.std.specs.Prelude.{ℕ, Bool, true, false, not, ◌&&◌, List, [], ◌∷◌, ◌++◌, length, take, drop, Option, Some, None, nat_eq, nat_lt, if◌then◌else◌}
use Rattle.gum_messages.specs.declared.member.Member.{Member}
use Rattle.gum_messages.specs.declared.view.View.{View}
use Rattle.gum_messages.specs.Members.{is_member, spread_of}
use Rattle.gum_messages.specs.Places.{at_place}
use Rattle.update_records.specs.Entry.{Entry}
use Rattle.gum_core.specs.Updating as updating
use Rattle.view_reconcile.specs.declared.step.Step.{Step}
use Rattle.view_reconcile.specs.declared.step.Step.TheVariants as step
use Rattle.view_reconcile.specs.Joining.{ReconcileState}
use Rattle.view_reconcile.specs.Joining as joining
use Rattle.cluster_rules.specs.Machines.{Machine, registry_at}
use Rattle.gum_messages.specs.declared.body.Body.{Body}
use Rattle.gum_messages.specs.declared.body.Body.TheVariants.{Need, Offer, OpenView, Piece, Ready}
use Rattle.cluster_rules.specs.declared.effect.Effect.{Effect}
use Rattle.cluster_rules.specs.declared.effect.Effect.TheVariants.{Opened, Send}
use Rattle.cluster_rules.specs.declared.offering.Offering.{Offering}
use Rattle.cluster_rules.specs.Nodes.{NodeState, Out, after, becomes, done_of, is_head, locker_at, members_of, nothing, number_of, packet, place_of, tells, to_each}
use Rattle.cluster_rules.specs.Updates.{applied, begins, opens}

-- A view of a greater number, of which this incarnation is a member, is taken.
abbrev pub takes_view : {M : Machine} → NodeState M → View → Bool
takes_view x v = nat_lt (number_of x) v.number && is_member v.members x.join.node x.join.inc

abbrev pub entered : {M : Machine} → View → NodeState M → NodeState M
entered v x = record x { core = updating.entered x.core v; join = (joining.installed x.join v).0; offer = None; bytes = []; spreads = None }

-- The record that an offer shows is the head's.
abbrev pub shows : {M : Machine} → Option Entry → NodeState M → Bool
shows last x = elim last [ None ↦ false | Some e ↦ is_head e x ]

-- The node has what was offered: it becomes ready, and a head whose record was shown is settled.
abbrev pub joined : {M : Machine} → NodeState M → ℕ → Option Entry → ReconcileState → NodeState M
joined x count last join = record x {
  join = join;
  last = last;
  offer = None;
  bytes = [];
  settled = if shows last x then Some count else x.settled;
}

abbrev pub with_replica : {M : Machine} → NodeState M → M.Registry → ℕ → NodeState M
with_replica x registry done = record x { replica = Some (record { registry = registry; done = done }) }

abbrev pub known_done : {M : Machine} → NodeState M → Option ℕ
known_done x = elim x.replica [ None ↦ None | Some r ↦ Some r.done ]

-- An Offer of the locker, at another member.
abbrev pub says_ready : {M : Machine} → NodeState M → Out M
says_ready x = tells x (locker_at x) Ready

-- It begins to pull what was offered; where it has bytes of it already it forgets nothing.
abbrev pub pulls : {M : Machine} → NodeState M → Offering → ℕ → ReconcileState → NodeState M
pulls x o got join = if nat_eq got 0 then record x { join = join; offer = Some o; bytes = [] } else record x { join = join }

abbrev pub follows : {M : Machine} → NodeState M → Offering → ReconcileState × Step → Out M
follows x o r = elim (r.1) [
  | step.Ready ↦ says_ready (joined x o.count o.last r.0)
  | step.ApplyLast ↦ elim o.last [ None ↦ nothing x | Some e ↦ says_ready (joined (applied e x) o.count o.last (joining.taken r.0 true).0) ]
  | step.Pull offset ↦ tells (pulls x o offset r.0) (locker_at x) (Need offset)
  | _ ↦ nothing x
]

abbrev pub on_offer : {M : Machine} → NodeState M → ℕ → Offering → Out M
on_offer x from o =
    if nat_eq from (locker_at x) && not (joining.locks x.join)
    then (if joining.is_ready x.join then says_ready x else follows x o (joining.offered x.join o.count (place_of o.last) (known_done x)))
    else nothing x

-- The locker sends its state in pieces.
abbrev pub piece : List ℕ → ℕ → ℕ → Body
piece bytes offset count = Piece (length bytes) offset (take count (drop offset bytes))

abbrev pub sends_piece : {M : Machine} → NodeState M → ℕ → List ℕ → ℕ → Out M
sends_piece x to bytes offset = elim (joining.piece_length (length bytes) offset) [
  | None ↦ nothing x
  | Some count ↦ tells x to (piece bytes offset count)
]

abbrev pub on_need : {M : Machine} → NodeState M → ℕ → ℕ → Out M
on_need {M} x from offset = elim x.replica [
  | None ↦ nothing x
  | Some r ↦ if joining.locks x.join && not (joining.is_open x.join) then sends_piece x from (M.encode r.registry) offset else nothing x
]

-- The state is whole: where it decodes it is taken, else it is pulled again.
abbrev pub takes_state : {M : Machine} → NodeState M → List ℕ → ReconcileState → Out M
takes_state {M} x bytes join = elim x.offer [
  | None ↦ nothing x
  | Some o ↦ elim (M.decode o.cap bytes) [
    | Some registry ↦ says_ready (joined (with_replica x registry o.count) o.count o.last (joining.taken join true).0)
    | None ↦ tells (record x { join = (joining.taken join false).0; bytes = [] }) (locker_at x) (Need 0)
  ]
]

abbrev pub gathers : {M : Machine} → NodeState M → List ℕ → ReconcileState × Step → Out M
gathers x bytes r = elim (r.1) [
  | step.Pull offset ↦ tells (record x { join = r.0; bytes = x.bytes ++ bytes }) (locker_at x) (Need offset)
  | step.Whole ↦ takes_state x (x.bytes ++ bytes) r.0
  | _ ↦ nothing x
]

abbrev pub on_piece : {M : Machine} → NodeState M → ℕ → ℕ → List ℕ → Out M
on_piece x total offset bytes = gathers x bytes (joining.pulled x.join total offset (length bytes))

-- A Ready at the locker.
abbrev pub opens_view : {M : Machine} → NodeState M → Out M
opens_view x = after (Opened (number_of x) ∷ to_each x OpenView (spread_of (members_of x))) (begins x (updating.opened x.core x.settled))

abbrev pub marks_ready : {M : Machine} → NodeState M → ReconcileState × Step → Out M
marks_ready x r = elim (r.1) [
  | step.OpenAgain to ↦ tells x to OpenView
  | step.Open ↦ opens_view (record x { join = r.0 })
  | _ ↦ nothing (record x { join = r.0 })
]

abbrev pub on_ready : {M : Machine} → NodeState M → ℕ → Out M
on_ready x from = marks_ready x (joining.readied x.join from)

-- An OpenView of the locker.
abbrev pub on_open_view : {M : Machine} → NodeState M → ℕ → Out M
on_open_view x from =
    if nat_eq from (locker_at x) && (joining.opened x.join).1
    then opens (record x { join = (joining.opened x.join).0 })
    else nothing x

-- The locker hears its own offer, of the log that it recovered. A registry of another capacity counts as no state.
abbrev pub done_within : {M : Machine} → NodeState M → ℕ → Option ℕ
done_within {M} x cap = elim x.replica [ None ↦ None | Some r ↦ if nat_eq (M.cap r.registry) cap then Some r.done else None ]

abbrev pub last_of : List Entry → Option Entry
last_of order = at_place order (length order)

abbrev pub goes_on : {M : Machine} → NodeState M → Offering → Step → Out M
goes_on x o s = elim s [
  | step.Open ↦ opens x
  | step.Ready ↦ becomes x (to_each x (Offer o.count o.cap o.last) (spread_of (members_of x)))
  | _ ↦ nothing x
]

abbrev pub hears_itself : {M : Machine} → NodeState M → Offering → M.Registry → ReconcileState × Step → Out M
hears_itself x o registry r = elim (r.1) [
  | step.ApplyLast ↦ elim o.last [
    | None ↦ nothing x
    | Some e ↦ goes_on (joined (applied e x) o.count o.last (joining.taken r.0 true).0) o (joining.taken r.0 true).1
  ]
  | step.Pull offset ↦ goes_on (joined (with_replica x registry o.count) o.count o.last (joining.taken r.0 true).0) o (joining.taken r.0 true).1
  | s ↦ goes_on (joined x o.count o.last r.0) o s
]

abbrev pub recovers_from : {M : Machine} → NodeState M → Offering → M.Registry → Out M
recovers_from {M} x o registry = hears_itself x o registry (joining.offered x.join o.count (place_of o.last) (done_within x o.cap))

abbrev pub recovers : {M : Machine} → NodeState M → ℕ → List Entry → Out M
recovers {M} x cap order = recovers_from x (record { count = length order; cap = cap; last = last_of order }) (registry_at M cap order (length order))

-- A tick: who isn't ready is offered the log again, a pulling member asks again, a ready one says so again.
abbrev pub offer_each : {M : Machine} → NodeState M → Body → List Member → List Effect
offer_each x body [] = []
offer_each x body (m ∷ ms) = if joining.waits_for x.join m.node then Send (packet x m.node body) ∷ offer_each x body ms else offer_each x body ms

abbrev pub offered_cap : {M : Machine} → NodeState M → ℕ
offered_cap {M} x = elim x.replica [ None ↦ 0 | Some r ↦ M.cap r.registry ]

abbrev pub tick_join : {M : Machine} → NodeState M → Step → List Effect
tick_join x s = elim s [
  | step.OfferTo count ↦ offer_each x (Offer (done_of x) (offered_cap x) x.last) (members_of x)
  | step.Pull offset ↦ Send (packet x (locker_at x) (Need offset)) ∷ []
  | step.Ready ↦ Send (packet x (locker_at x) Ready) ∷ []
  | _ ↦ []
]
