-- How the locker of a view has what its log has.
use Rattle.std.specs.Prelude.{◌≡◌, ℕ, Option, None, Some, if◌then◌else◌}
use Rattle.gum_messages.specs.declared.body.Body.TheVariants.{Offer}
use Rattle.gum_messages.specs.Members.{spread_of}
use Rattle.update_records.specs.Entry.{Entry}
use Rattle.view_reconcile.specs.declared.stage.Stage.TheVariants as stage
use Rattle.view_reconcile.specs.declared.step.Step.{Step}
use Rattle.view_reconcile.specs.declared.step.Step.TheVariants as step
use Rattle.view_reconcile.specs.Joining.{ReconcileState, becomes_ready, has_all, lacks_last}
use Rattle.cluster_rules.specs.Nodes.{NodeState, Out, Replica, becomes, members_of, place_of, to_each}
use Rattle.cluster_rules.specs.Joins.{done_within, goes_on, joined, with_replica}
use Rattle.cluster_rules.specs.Updates.{applied}
use Rattle.registry_machine.specs.Machine.{ReplicatedRegistry, registry_machine}
use Rattle.member_rules.specs.declared.lack.Lack.{Lack}
use Rattle.member_rules.specs.declared.lack.Lack.TheVariants as lack

-- A node that has applied so many records of a log of `count` records; the last record has that place.
abbrev pub lack_of : Option ℕ → ℕ → Option ℕ → Lack
lack_of known count last = if has_all known count then lack.Nothing else (if lacks_last known count last then lack.Last else lack.State)

abbrev pub with_last : NodeState registry_machine → Option Entry → NodeState registry_machine
with_last x last = elim last [ None ↦ x | Some e ↦ applied e x ]

abbrev pub with_lacked : NodeState registry_machine → ℕ → Option Entry → ReplicatedRegistry → Lack → NodeState registry_machine
with_lacked x count last registry lack.Nothing = x
with_lacked x count last registry lack.Last = with_last x last
with_lacked x count last registry lack.State = with_replica x registry count

-- The locker of the view catches up with the log that it recovered: it takes what it lacks.
abbrev pub caught_up : NodeState registry_machine → ℕ → ℕ → Option Entry → ReplicatedRegistry → NodeState registry_machine
caught_up x count cap last registry = with_lacked x count last registry (lack_of (done_within x cap) count (place_of last))

-- Meanwhile it is on its way.
abbrev pub on_its_way : NodeState registry_machine → NodeState registry_machine
on_its_way x = record x { join = record (x.join) { stage = stage.Taking } }

-- It is ready then, and offers the log, or opens where it is alone.
abbrev pub stands_up : NodeState registry_machine → ℕ → ℕ → Option Entry → Out registry_machine
stands_up x count cap last =
    goes_on (joined x count last (becomes_ready x.join).0) (record { count = count; cap = cap; last = last }) (becomes_ready x.join).1

-- The log is offered to the others.
abbrev pub offers_all : NodeState registry_machine → ℕ → ℕ → Out registry_machine
offers_all x count cap = becomes x (to_each x (Offer count cap x.last) (spread_of (members_of x)))

-- The registry is that of so many records, of this capacity.
abbrev pub HasCaughtUp : Option (Replica registry_machine) → ℕ → ℕ → Type 0
HasCaughtUp None count cap = ⊥
HasCaughtUp (Some r) count cap = (r.done ≡ count) × (r.registry.cap ≡ cap)

-- A node that had the locker's state is ready, and opens where it is alone.
abbrev pub HasStoodUp : ReconcileState → ReconcileState → Step → Type 0
HasStoodUp s t step.Ready = t ≡ record s { stage = stage.Ready }
HasStoodUp s t step.Open = t ≡ record s { stage = stage.Open }
HasStoodUp s t other = ⊥
