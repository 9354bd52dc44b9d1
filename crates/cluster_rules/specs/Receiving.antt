-- The events of one node.
use Rattle.std.specs.Prelude.{ℕ, Bool, ◌&&◌, ◌++◌, nat_eq, nat_lt, if◌then◌else◌}
use Rattle.gum_messages.specs.Members.{inc_of}
use Rattle.gum_core.specs.Updating as updating
use Rattle.view_reconcile.specs.Joining as joining
use Rattle.cluster_rules.specs.Machines.{Machine}
use Rattle.cluster_rules.specs.declared.effect.HaltCause.TheVariants as halt
use Rattle.gum_messages.specs.declared.body.Body.{Body}
use Rattle.gum_messages.specs.declared.body.Body.TheVariants.{Ask, Granted, Apply, Applied, Release, Offer, Need, Piece, Ready, OpenView}
use Rattle.gum_messages.specs.Messages.{Sent}
use Rattle.cluster_rules.specs.Nodes.{NodeState, Out, becomes, halts, members_of, nothing, number_of}
use Rattle.cluster_rules.specs.Updates.{Answer, Logged, on_applied, on_apply, on_ask, on_granted, on_release, tick_head, tick_lock, unlogged}
use Rattle.cluster_rules.specs.Joins.{on_need, on_offer, on_open_view, on_piece, on_ready, tick_join}

-- A message counts only in the node's view, and from a member of it.
abbrev pub counts : {M : Machine} → NodeState M → Sent → Bool
counts x p = nat_eq p.view (number_of x) && nat_lt 0 (inc_of (members_of x) p.from)

abbrev pub hears : {M : Machine} → NodeState M → ℕ → Body → ℕ → Answer → Logged M
hears x from body held answer = elim body [
  | Ask req update ↦ on_ask x from req update held answer
  | Granted e ↦ unlogged (on_granted x e)
  | Apply e ↦ unlogged (on_apply x from e)
  | Applied place ↦ unlogged (on_applied x from place)
  | Release req ↦ unlogged (on_release x from req)
  | Offer count cap last ↦ unlogged (on_offer x from (record { count = count; cap = cap; last = last }))
  | Need offset ↦ unlogged (on_need x from offset)
  | Piece total offset bytes ↦ unlogged (on_piece x total offset bytes)
  | Ready ↦ unlogged (on_ready x from)
  | OpenView ↦ unlogged (on_open_view x from)
]

abbrev pub receive : {M : Machine} → NodeState M → Sent → ℕ → Answer → Logged M
receive x p held answer = if counts x p then hears x p.from p.body held answer else unlogged (nothing x)

-- What a node repeats.
abbrev pub tick : {M : Machine} → NodeState M → Out M
tick x = becomes x (tick_head x (updating.ticked x.core) ++ (tick_lock x ++ tick_join x (joining.ticked x.join)))

abbrev pub clock : {M : Machine} → NodeState M → ℕ → Out M
clock x stamp = nothing (record x { stamp = stamp })

-- An open locker writes its registry into the log; `good` is whether that succeeds.
abbrev pub checkpoint : {M : Machine} → NodeState M → ℕ → Bool → Out M
checkpoint x held good =
    if x.core.is_open && updating.locks x.core
    then (if nat_lt (number_of x) held then halts (halt.Fenced held) else (if good then nothing x else halts halt.Disk))
    else nothing x
