-- Which events a world refuses, and why.
use Rattle.std.specs.Prelude.{ℕ, Bool, not, nat_le, List, find, is_some, Option, None, Some, option_map, if◌then◌else◌}
use Rattle.std.specs.Option.{option_or}
use Rattle.gum_messages.specs.declared.member.Member.{Member}
use Rattle.gum_messages.specs.declared.view.View.{View}
use Rattle.gum_messages.specs.Places.{at_place}
use Rattle.view_reconcile.specs.Chains.{fault_of, view_in}
use Rattle.cluster_worlds.specs.declared.bad_event.BadEvent.{BadEvent}
use Rattle.cluster_worlds.specs.declared.bad_event.BadEvent.TheVariants.{NotRunning, Running, NotStarted, UnknownView, UnknownMessage, UnknownConnection, UsedConnection, Chain}
use Rattle.cluster_worlds.specs.declared.event.Event.{Event}
use Rattle.cluster_worlds.specs.declared.event.Event.TheVariants.{Start, Declare, Install, Connect, Bytes, HangUp, Deliver, Tick, Checkpoint, Fail, Die, Clock, Batch, DieIn}
use Rattle.cluster_worlds.specs.declared.inner.Inner.{Inner}
use Rattle.cluster_worlds.specs.declared.inner.Inner.TheVariants as inner
use Rattle.cluster_worlds.specs.Worlds.{WorldState, home_of, is_running, starts_of}

-- ---- the causes

abbrev pub running : ℕ → WorldState → Option BadEvent
running node w = if is_running node w then Some (Running node) else None

abbrev pub not_running : ℕ → WorldState → Option BadEvent
not_running node w = if is_running node w then None else Some (NotRunning node)

abbrev pub was_started : WorldState → Member → Bool
was_started w m = nat_le m.inc (starts_of m.node w)

-- The first member whose incarnation was never started.
abbrev pub not_started : List Member → WorldState → Option BadEvent
not_started members w = option_map (λ m. NotStarted m.node m.inc) (find (λ m. not (was_started w m)) members)

abbrev pub broken_chain : View → WorldState → Option BadEvent
broken_chain view w = option_map Chain (fault_of w.chain view)

abbrev pub unknown_view : ℕ → WorldState → Option BadEvent
unknown_view view w = if is_some (view_in w.chain view) then None else Some (UnknownView view)

abbrev pub unknown_message : ℕ → WorldState → Option BadEvent
unknown_message number w = if is_some (at_place w.pool number) then None else Some (UnknownMessage number)

abbrev pub unknown_connection : ℕ → WorldState → Option BadEvent
unknown_connection conn w = if is_some (home_of conn w) then None else Some (UnknownConnection conn)

abbrev pub used_connection : ℕ → WorldState → Option BadEvent
used_connection conn w = if is_some (home_of conn w) then Some (UsedConnection conn) else None

-- ---- the events: of two causes the first one is told

abbrev pub refusal_in : Inner → WorldState → Option BadEvent
refusal_in (inner.Install node view) w = option_or (not_running node w) (unknown_view view w)
refusal_in (inner.Bytes conn piece) w = unknown_connection conn w
refusal_in (inner.HangUp conn) w = unknown_connection conn w
refusal_in (inner.Deliver number) w = unknown_message number w
refusal_in (inner.Tick node) w = not_running node w
refusal_in (inner.Checkpoint node) w = not_running node w

abbrev pub refusal : Event → WorldState → Option BadEvent
refusal (Start node) w = running node w
refusal (Declare view) w = option_or (not_started view.members w) (broken_chain view w)
refusal (Install node view) w = option_or (not_running node w) (unknown_view view w)
refusal (Connect conn node) w = option_or (used_connection conn w) (not_running node w)
refusal (Bytes conn piece) w = unknown_connection conn w
refusal (HangUp conn) w = unknown_connection conn w
refusal (Deliver number) w = unknown_message number w
refusal (Tick node) w = not_running node w
refusal (Checkpoint node) w = not_running node w
refusal (Fail call) w = None
refusal (Die node) w = not_running node w
refusal (Clock node stamp) w = not_running node w
refusal (Batch node update) w = not_running node w
refusal (DieIn moment bytes inner) w = refusal_in inner w
