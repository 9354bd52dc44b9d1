-- An update alone: it is submitted, and the node hears its Ask, its Granted and its Release; and several in turn.
use Rattle.std.proofs.Common.{◌≡◌, ℕ, ◌<◌, ◌≤◌, List, [], ◌∷◌, length, refl, ap, ◌∙◌, arith}
use Rattle.update_records.specs.declared.update.Update.{Update}
use Rattle.gum_core.specs.Updating.{last_place, last_request}
use Rattle.cluster_rules.specs.Machines.{Machine}
use Rattle.cluster_rules.specs.Updates.{Written}
use Rattle.single_rules.specs.Single.{IsSound, Single, at_rest, updated}
use Rattle.single_rules.specs.Rounds.{HasRoom, Round, after_all, all_done, and_then, round, rounds}
use Rattle.single_rules.proofs.Events.{finishes_one, frees_one, grants_one, submits_one, updated_sound}

module _ {M : Machine} where
  pub one_update : (a : Single M) (u : Update) (held : ℕ) → IsSound a → HasRoom a 1 → held ≤ a.view
      → round held Written (at_rest a) u ≡ all_done a (u ∷ [])
  one_update a u held s room own =
      let r : a.passed < last_request = let k = room.requests in omega arith in
      let p : a.done < last_place = let k = room.places in omega arith in
      rw (submits_one a u r) (rw (grants_one a u held s p own) (rw (finishes_one a u held Written s) (rw (frees_one a u held Written s) refl)))

  pub several_updates : (a : Single M) (us : List Update) (held : ℕ) → IsSound a → HasRoom a (length us) → held ≤ a.view
      → rounds held Written (at_rest a) us ≡ all_done a us
  several_updates a [] held s room own = refl
  several_updates a (u ∷ us) held s room own =
      let first : HasRoom a 1 = record { requests = let k = room.requests in omega arith; places = let k = room.places in omega arith } in
      let rest : HasRoom (updated a u) (length us) = record { requests = let k = room.requests in omega arith; places = let k = room.places in omega arith } in
      ap (λ (r : Round M). and_then r (λ y. rounds held Written y us)) (one_update a u held s first own)
      ∙ ap (λ (r : Round M). and_then (all_done a (u ∷ [])) (λ y. r)) (several_updates (updated a u) us held (updated_sound a u s) rest own)

  pub stays_sound : (a : Single M) (us : List Update) → IsSound a → IsSound (after_all a us)
  stays_sound a [] s = s
  stays_sound a (u ∷ us) s = stays_sound (updated a u) us (updated_sound a u s)
