-- Several updates alone, against the order of records.
use Rattle.std.proofs.Common.{◌≡◌, ℕ, zero, suc, ◌+◌, List, [], ◌∷◌, ◌++◌, length, take, Some, slice_get, refl, sym, ap, ◌∙◌, subst, arith}
use Rattle.std.proofs.lemmas.List.{length-append, take_all}
use Rattle.update_records.specs.Entry.{Entry}
use Rattle.update_records.specs.declared.update.Update.{Update}
use Rattle.cluster_rules.specs.Machines.{Machine, replay}
use Rattle.single_rules.specs.Single.{Single, made, updated}
use Rattle.single_rules.specs.Rounds.{after_all, all_made, all_outcomes}
use Rattle.single_rules.specs.Promises.{IsMade, OnOrder}

replay-append : (M : Machine) (l m : List Entry) (g : M.Registry) → replay M (l ++ m) g ≡ replay M m (replay M l g)
replay-append M [] m g = refl
replay-append M (e ∷ l) m g = replay-append M l m (M.apply e g).0

module _ {M : Machine} where
  pub replays : (a : Single M) (us : List Update) → (after_all a us).registry ≡ replay M (all_made a us) a.registry
  replays a [] = refl
  replays a (u ∷ us) = replays (updated a u) us

  pub counts_made : (a : Single M) (us : List Update) → length (all_made a us) ≡ length us
  counts_made a [] = refl
  counts_made a (u ∷ us) = omega (arith, counts_made (updated a u) us)

  pub counts_done : (a : Single M) (us : List Update) → (after_all a us).done ≡ a.done + length us
  counts_done a [] = omega arith
  counts_done a (u ∷ us) = omega (arith, counts_done (updated a u) us)

  pub counts_passed : (a : Single M) (us : List Update) → (after_all a us).passed ≡ a.passed + length us
  counts_passed a [] = omega arith
  counts_passed a (u ∷ us) = omega (arith, counts_passed (updated a u) us)

  pub all_placed : (a : Single M) (us : List Update) (k : ℕ) (e : Entry) → slice_get (all_made a us) k ≡ Some e → IsMade a us k e
  all_placed a [] k e s = absurd (cc)
  all_placed a (u ∷ us) zero e s =
      let first : made a u ≡ e = cc in
      subst (λ (t : Entry). IsMade a (u ∷ us) zero t) first (record { place = refl; stamp = refl; id = refl; update = refl })
  all_placed a (u ∷ us) (suc k) e s =
      let r = all_placed (updated a u) us k e s in
      let behind : a.passed + 1 + (k + 1) ≡ a.passed + (suc k + 1) = omega arith in
      record {
        place = let p = r.place in omega arith;
        stamp = r.stamp;
        id = r.id ∙ ap (λ (q : ℕ). record { node = a.node; inc = a.inc; req = q }) behind;
        update = r.update;
      }

  pub all_outcomes_of : (a : Single M) (us : List Update) (k : ℕ) (e : Entry) → slice_get (all_made a us) k ≡ Some e
      → slice_get (all_outcomes a us) k ≡ Some (M.apply e (replay M (take k (all_made a us)) a.registry)).1
  all_outcomes_of a [] k e s = absurd (cc)
  all_outcomes_of a (u ∷ us) zero e s = let first : made a u ≡ e = cc in ap (λ (t : Entry). Some (M.apply t a.registry).1) first
  all_outcomes_of a (u ∷ us) (suc k) e s = all_outcomes_of (updated a u) us k e s

  pub keeps_order : (cap : ℕ) (order : List Entry) (a : Single M) (us : List Update) → OnOrder cap order a → OnOrder cap (order ++ all_made a us) (after_all a us)
  keeps_order cap order a us on =
      let m = counts_made a us in
      let d = counts_done a us in
      let n : length (order ++ all_made a us) ≡ (after_all a us).done = length-append order (all_made a us) ∙ omega (arith, on.length, m, d) in
      record {
        length = n;
        registry = replays a us
            ∙ ap (replay M (all_made a us)) (on.registry ∙ ap (λ (l : List Entry). replay M l (M.empty cap)) (take_all a.done order (omega (arith, on.length))))
            ∙ sym (replay-append M order (all_made a us) (M.empty cap))
            ∙ sym (ap (λ (l : List Entry). replay M l (M.empty cap)) (take_all (after_all a us).done (order ++ all_made a us) (omega (arith, n))));
      }
