-- The update order only grows, by the records that are told.
use Rattle.std.specs.Prelude.{◌≡◌, ℕ, List, [], ◌∷◌, ◌++◌, map}
use Rattle.std.specs.List.{flat_map}
use Rattle.update_records.specs.Entry.{Entry, record_text}
use Rattle.cluster_worlds.specs.declared.told.Told.{Told}
use Rattle.cluster_worlds.specs.declared.told.Told.TheVariants as trace
use Rattle.cluster_worlds.specs.Worlds.{WorldState}

-- The sequence number and the encoding of each record that was told to have joined the order.
unfoldable pub orders_told : List Told → List (ℕ × List ℕ)
orders_told [] = []
orders_told (trace.Order place spelling ∷ tolds) = (place, spelling) ∷ orders_told tolds
orders_told (told ∷ tolds) = orders_told tolds

abbrev pub as_told : List Entry → List (ℕ × List ℕ)
as_told records = map (λ e. (e.place, record_text e)) records

-- From the first world to the last one, of whose events this was told.
pub record Grew (w : WorldState) (tolds : List (List Told)) (u : WorldState) : Type 0 where
  pub rest : List Entry
  pub order : u.order ≡ w.order ++ rest
  pub told : flat_map orders_told tolds ≡ as_told rest
