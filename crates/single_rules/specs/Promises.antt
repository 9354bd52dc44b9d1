-- What is promised of a node that is alone over an order, and behind several updates.
use Rattle.std.specs.Prelude.{◌≡◌, ℕ, ◌+◌, List, length, Some, slice_get}
use Rattle.update_records.specs.Entry.{Entry}
use Rattle.update_records.specs.declared.update.Update.{Update}
use Rattle.gum_messages.specs.Places.{at_place}
use Rattle.cluster_rules.specs.Machines.{Machine, registry_at}
use Rattle.single_rules.specs.Single.{Single}

-- Each record of an order stands at its place.
abbrev pub InPlaces : List Entry → Type 0
InPlaces order = (k : ℕ) (e : Entry) → at_place order k ≡ Some e → e.place ≡ k

-- The record of the update behind k others: at the next place, of the next request.
pub record IsMade {M : Machine} (a : Single M) (us : List Update) (k : ℕ) (e : Entry) : Type 0 where
  pub place : e.place ≡ a.done + (k + 1)
  pub stamp : e.stamp ≡ a.stamp
  pub id : e.id ≡ record { node = a.node; inc = a.inc; req = a.passed + (k + 1) }
  pub update : slice_get us k ≡ Some e.update

-- Its registry is that of the whole order.
pub record OnOrder {M : Machine} (cap : ℕ) (order : List Entry) (a : Single M) : Type 0 where
  pub length : length order ≡ a.done
  pub registry : a.registry ≡ registry_at M cap order a.done
