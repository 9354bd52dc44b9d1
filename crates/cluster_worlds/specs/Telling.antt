-- What a world takes in of what a node has done, and what it tells of it.
use Rattle.std.specs.Prelude.{ℕ, ◌+◌, ◌-◌, List, [], ◌∷◌, ◌++◌, length, map, nat_eq, None, Some, option_to_list, slice_set, unwrap_or, if◌then◌else◌}
use Rattle.disk_core.specs.Views.{DiskView}
use Rattle.update_records.specs.Entry.{Entry, record_text}
use Rattle.cluster_rules.specs.declared.effect.CloseCause.TheVariants.{NodeStopped}
use Rattle.cluster_rules.specs.declared.effect.Effect.{Effect}
use Rattle.cluster_rules.specs.declared.effect.Effect.TheVariants.{Send, Reply, Closed, Acked, Opened, Batched, Halted}
use Rattle.cluster_rules.specs.Worlds.{acked, sent}
use Rattle.cluster_node.specs.States.{NodeValue, done, last_record, open_at}
use Rattle.cluster_worlds.specs.declared.told.Told.{Told}
use Rattle.cluster_worlds.specs.declared.told.Told.TheVariants as trace
use Rattle.cluster_worlds.specs.Worlds.{WorldState, slot_of}

-- ---- the update order

-- The record by which the order grows: the last one of a node that has now applied one record more than the order has.
abbrev pub joined : List Entry → NodeValue → List Entry
joined order n = if nat_eq (unwrap_or (done n) 0) (length order + 1) then option_to_list (last_record n) else []

abbrev pub told_order : List Entry → List Told
told_order records = map (λ e. trace.Order e.place (record_text e)) records

-- ---- effects

-- An effect of a node, where so many messages were sent before it.
abbrev pub told_effect : ℕ → ℕ → Effect → Told
told_effect node count (Send message) = trace.Sent (count + 1) message
told_effect node count (Reply conn point bytes) = trace.Reply conn point bytes
told_effect node count (Closed conn cause) = trace.Closed conn cause
told_effect node count (Acked view place) = trace.Acked node view place
told_effect node count (Opened view) = trace.Opened node view
told_effect node count (Batched req point status index) = trace.Batched node req point status index
told_effect node count (Halted cause) = trace.Halted node cause

unfoldable pub told_effects : ℕ → ℕ → List Effect → List Told
told_effects node count [] = []
told_effects node count (e ∷ es) = told_effect node count e ∷ told_effects node (count + length (sent (e ∷ []))) es

-- ---- what a node has done

-- The order first, then the effects in their order.
abbrev pub told_of : List Effect → NodeValue → WorldState → List Told
told_of effects n w = told_order (joined w.order n) ++ told_effects n.number (length w.pool) effects

-- The node is now this one, or has stopped.
abbrev pub absorbed : List Effect → NodeValue → DiskView → WorldState → WorldState
absorbed effects n disk w = record w {
  nodes = slice_set w.nodes (n.number - 1) (slot_of n);
  pool = w.pool ++ sent effects;
  order = w.order ++ joined w.order n;
  acks = w.acks ++ acked effects;
  disk = disk;
}

-- ---- a node that died

-- Each connection that was open is closed, by ascending numbers.
abbrev pub told_death : NodeValue → List Told
told_death n = map (λ conn. trace.Closed conn NodeStopped) (open_at n)

abbrev pub bereft : NodeValue → DiskView → WorldState → WorldState
bereft n disk w = record w { nodes = slice_set w.nodes (n.number - 1) None; disk = disk }
