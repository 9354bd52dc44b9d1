-- Each acknowledged update is kept.
use Rattle.std.specs.Prelude.{◌≡◌, ℕ, ◌≤◌, true, length, Some}
use Rattle.gum_messages.specs.Places.{at_place}
use Rattle.cluster_node.specs.States.{NodeValue, done, is_open, view_number}
use Rattle.cluster_worlds.specs.Worlds.{WorldState, node_at}

-- It stands in the order, and each node that is open in the view of the acknowledgement, or in a later one, has applied it.
pub record Kept (w : WorldState) : Type 0 where
  pub stands : (a view place : ℕ) → at_place w.acks a ≡ Some (view, place) → place ≤ length w.order
  pub applied : (a view place n u : ℕ) (m : NodeValue) → at_place w.acks a ≡ Some (view, place)
      → node_at n w ≡ Some m → is_open m ≡ true → view_number m ≡ Some u → view ≤ u
      → (k : ℕ) × (done m ≡ Some k) × (place ≤ k)
