-- Every world of a run is safe: one update order, of which each registry and each image of the disk is made.
use Rattle.std.specs.Prelude.{◌≡◌, ◌⊎◌, ℕ, ◌+◌, ◌≤◌, List, [], ◌∷◌, ◌++◌, length, Option, Some}
use Rattle.update_records.specs.Entry.{Entry}
use Rattle.gum_messages.specs.Places.{at_place}
use Rattle.registry_defs.specs.Applying.{registry_after}
use Rattle.registry_machine.specs.Laws.{IsWithin}
use Rattle.registry_machine.specs.Machine.{ReplicatedRegistry}
use Rattle.disk_core.specs.Images.{EachImage}
use Rattle.log_order.specs.Refinement.{ImageHolds}
use Rattle.cluster_node.specs.States.{NodeValue, done, registry_in}
use Rattle.cluster_worlds.specs.Worlds.{WorldState, node_at}

-- The image holds a log of the order, or of the order and behind it the record in doubt.
abbrev pub HoldsOrder : ℕ → List Entry → Option Entry → List ℕ → Type 0
HoldsOrder cap order doubt image = ImageHolds cap order image ⊎ ((e : Entry) × (doubt ≡ Some e) × ImageHolds cap (order ++ e ∷ []) image)

-- The record in doubt is the next one, and was not logged before.
pub record IsDoubt (order : List Entry) (e : Entry) : Type 0 where
  pub place_is : e.place ≡ length order + 1
  pub apart : (k : ℕ) (d : Entry) → at_place order k ≡ Some d → e.id ≡ d.id → ⊥

-- `cap` is the capacity of the log.
pub record Safe (cap : ℕ) (w : WorldState) : Type 0 where
  -- A node has applied no more records than there are. Its registry is what these make of the empty one, in their order, and
  -- obeys all limits and the cap.
  pub within : (n : ℕ) (m : NodeValue) (k : ℕ) → node_at n w ≡ Some m → done m ≡ Some k → k ≤ length w.order
  pub registry : (n : ℕ) (m : NodeValue) (r : ReplicatedRegistry) (k : ℕ) → node_at n w ≡ Some m → registry_in m ≡ Some r → done m ≡ Some k
      → r ≡ record { cap = cap; keys = registry_after cap w.order k }
  pub limits : (n : ℕ) (m : NodeValue) (r : ReplicatedRegistry) → node_at n w ≡ Some m → registry_in m ≡ Some r → IsWithin cap r.keys
  -- The k-th record of the order has place k, and no two have the same id.
  pub places : (k : ℕ) (e : Entry) → at_place w.order k ≡ Some e → e.place ≡ k
  pub ids : (j k : ℕ) (d e : Entry) → at_place w.order j ≡ Some d → at_place w.order k ≡ Some e → d.id ≡ e.id → j ≡ k
  -- Each image that a crash now may leave holds the order, or the order and the one record that is in doubt.
  pub doubt : Option Entry
  pub next : (e : Entry) → doubt ≡ Some e → IsDoubt w.order e
  pub images : EachImage (HoldsOrder cap w.order doubt) w.disk.current
