-- A node that enters a view of which it is the only member, and recovers the log, is open at once.
use Rattle.std.proofs.Common.{◌≡◌, ℕ, ◌<◌, suc, true, false, List, [], ◌∷◌, length, Option, Some, None, nat_eq, slice_get, refl, arith}
use Rattle.update_records.specs.Entry.{Entry}
use Rattle.cluster_rules.specs.Machines.{Machine, registry_at}
use Rattle.cluster_rules.specs.declared.effect.Effect.TheVariants.{Opened}
use Rattle.cluster_rules.specs.declared.offering.Offering.{Offering}
use Rattle.cluster_rules.specs.Nodes.{NodeState, becomes}
use Rattle.cluster_rules.specs.Joins.{entered, last_of, recovers, recovers_from, shows, takes_view}
use Rattle.single_rules.specs.Single.{IsLastOf, IsSound, at_rest, offering_of, opened_over, over_order, started, view_of_one}
use Rattle.single_rules.specs.Promises.{InPlaces, OnOrder}
use Rattle.single_rules.proofs.Comparisons.{less, same}

pub takes_view_of_one : (M : Machine) (node inc stamp number : ℕ) → 0 < inc → 0 < number → takes_view (started M node inc stamp) (view_of_one number node inc) ≡ true
takes_view_of_one M node inc stamp number i n = simp (same, less 0 number n, less 0 inc i)

-- The last record of an order stands at its place.
some_last : (e : Entry) (es : List Entry) → (l : Entry) × (slice_get (e ∷ es) (length es) ≡ Some l)
some_last e [] = (e, refl)
some_last e (f ∷ es) = some_last f es

last_is : (o : Option Entry) (n : ℕ) → ((e : Entry) → o ≡ Some e → e.place ≡ n) → (l : Entry) × (o ≡ Some l) → IsLastOf o n
last_is None n at l = absurd (cc)
last_is (Some e) n at l = at e refl

last_placed : (order : List Entry) → InPlaces order → IsLastOf (last_of order) (length order)
last_placed [] placed = refl
last_placed (e ∷ es) placed = last_is (last_of (e ∷ es)) (suc (length es)) (placed (suc (length es))) (some_last e es)

module _ {M : Machine} where
  shows_none : (last : Option Entry) (x : NodeState M) → x.core.queue ≡ [] → shows last x ≡ false
  shows_none None x e = refl
  shows_none (Some l) x e = simp e

  pub opens_alone : (node inc stamp number : ℕ) (o : Offering) (registry : M.Registry) → 0 < inc → 0 < number
      → recovers_from (entered (view_of_one number node inc) (started M node inc stamp)) o registry ≡ becomes (at_rest (opened_over node inc number stamp o registry)) (Opened number ∷ [])
  opens_alone node inc stamp number o registry i n =
      let later : nat_eq number 0 ≡ false = grind arith in
      let hidden : (x : NodeState M) → x.core.queue ≡ [] → shows o.last x ≡ false = shows_none o.last in
      simp (same, less 0 number n, less 0 inc i, later, hidden)

  pub opens_sound : (node inc stamp number : ℕ) (o : Offering) (registry : M.Registry) → 0 < inc → IsLastOf o.last o.count
      → IsSound (opened_over {M = M} node inc number stamp o registry)
  opens_sound node inc stamp number o registry i last = record { inc = i; greatest = omega arith; last = last }

  pub recovers_alone : (node inc stamp number cap : ℕ) (order : List Entry) → 0 < inc → 0 < number
      → recovers (entered (view_of_one number node inc) (started M node inc stamp)) cap order ≡ becomes (at_rest (over_order M node inc number stamp cap order)) (Opened number ∷ [])
  recovers_alone node inc stamp number cap order i n =
      opens_alone node inc stamp number (offering_of cap order) (registry_at M cap order (length order)) i n

  pub recovers_sound : (node inc stamp number cap : ℕ) (order : List Entry) → 0 < inc → InPlaces order → IsSound (over_order M node inc number stamp cap order)
  recovers_sound node inc stamp number cap order i placed =
      opens_sound node inc stamp number (offering_of cap order) (registry_at M cap order (length order)) i (last_placed order placed)

  pub recovers_order : (node inc stamp number cap : ℕ) (order : List Entry) → OnOrder cap order (over_order M node inc number stamp cap order)
  recovers_order node inc stamp number cap order = record { length = refl; registry = refl }
