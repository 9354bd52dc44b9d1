-- The events of one update at a node that is alone, each computed.
use Rattle.std.proofs.Common.{◌≡◌, ℕ, ◌+◌, ◌<◌, ◌≤◌, true, false, [], ◌∷◌, Some, None, nat_eq, refl, arith}
use Rattle.update_records.specs.declared.update.Update.{Update}
use Rattle.gum_core.specs.Updating.{last_place, last_request}
use Rattle.cluster_rules.specs.Machines.{Machine}
use Rattle.cluster_rules.specs.declared.effect.Effect.TheVariants.{Acked, Send}
use Rattle.cluster_rules.specs.Nodes.{acknowledges, becomes, nothing}
use Rattle.cluster_rules.specs.Updates.{Answer, Written, submit, unlogged}
use Rattle.cluster_rules.specs.Receiving.{checkpoint, clock, receive, tick}
use Rattle.single_rules.specs.Single.{IsSound, Single, ask, asking, at_rest, following, grant, granting, made, outcome_of, release, releasing, updated}
use Rattle.single_rules.proofs.Comparisons.{is_member, is_new, less, not_less, same}

module _ {M : Machine} where
  pub submits_one : (a : Single M) (u : Update) → a.passed < last_request → submit (at_rest a) u ≡ becomes (asking a u) (Send (ask a u) ∷ [])
  submits_one a u room = let l = less (a.passed + 0) last_request (omega arith) in simp l

  pub grants_one : (a : Single M) (u : Update) (held : ℕ) → IsSound a → a.done < last_place → held ≤ a.view
      → receive (asking a u) (ask a u) held Written ≡ record { out = becomes (granting a u) (Send (grant a u) ∷ []); appended = Some (made a u); doubtful = None }
  grants_one a u held s room own = simp (same, is_member a s, is_new a s, less a.done last_place room, not_less a.view held own)

  pub finishes_one : (a : Single M) (u : Update) (held : ℕ) (answer : Answer) → IsSound a
      → receive (granting a u) (grant a u) held answer ≡ unlogged (acknowledges (releasing a u) (Some (outcome_of a u)) (Acked a.view (a.done + 1) ∷ Send (release a) ∷ []))
  finishes_one a u held answer s = simp (same, is_member a s)

  pub frees_one : (a : Single M) (u : Update) (held : ℕ) (answer : Answer) → IsSound a
      → receive (releasing a u) (release a) held answer ≡ unlogged (nothing (at_rest (updated a u)))
  frees_one a u held answer s = simp (same, is_member a s)

  pub submits_next : (a : Single M) (u next : Update) → a.passed + 1 < last_request
      → submit (releasing a u) next ≡ becomes (following a u next) (Send (ask (updated a u) next) ∷ [])
  submits_next a u next room = let l = less (a.passed + 1 + 0) last_request (omega arith) in simp l

  pub frees_next : (a : Single M) (u next : Update) (held : ℕ) (answer : Answer) → IsSound a
      → receive (following a u next) (release a) held answer ≡ unlogged (nothing (asking (updated a u) next))
  frees_next a u next held answer s = simp (same, is_member a s)

  pub asks_early : (a : Single M) (u next : Update) (held : ℕ) (answer : Answer) → IsSound a
      → receive (following a u next) (ask (updated a u) next) held answer ≡ unlogged (nothing (following a u next))
  asks_early a u next held answer s =
      let other : nat_eq (a.passed + 1) (a.passed + 1 + 1) ≡ false = grind arith in
      simp (same, is_member a s, other)

  -- between updates
  pub tick_at_rest : (a : Single M) → tick (at_rest a) ≡ nothing (at_rest a)
  tick_at_rest a = simp same

  pub clock_at_rest : (a : Single M) (stamp : ℕ) → clock (at_rest a) stamp ≡ nothing (at_rest (record a { stamp = stamp }))
  clock_at_rest a stamp = refl

  pub checkpoints_at_rest : (a : Single M) (held : ℕ) → held ≤ a.view → checkpoint (at_rest a) held true ≡ nothing (at_rest a)
  checkpoints_at_rest a held own = simp (same, not_less a.view held own)

  pub updated_sound : (a : Single M) (u : Update) → IsSound a → IsSound (updated a u)
  updated_sound a u s = record { inc = s.inc; greatest = omega arith; last = refl }
