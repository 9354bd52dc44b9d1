-- The record that a message has a node log.
use Rattle.std.proofs.Common.{◌≡◌, ℕ, ◌<◌, ◌≤◌, Bool, true, false, Some, nat_lt, refl, if◌then◌else◌}
use Rattle.update_records.specs.declared.update.Update.{Update}
use Rattle.gum_core.specs.Updating.{last_place}
use Rattle.gum_core.specs.Updating as updating
use Rattle.gum_core.specs.declared.decision.Decision.{Decision}
use Rattle.gum_core.specs.declared.decision.Decision.TheVariants as decision
use Rattle.gum_messages.specs.declared.body.Body.{Body}
use Rattle.gum_messages.specs.declared.body.Body.TheVariants.{Ask, Granted, Apply, Applied, Release, Offer, Need, Piece, Ready, OpenView}
use Rattle.gum_messages.specs.Messages.{Sent}
use Rattle.cluster_rules.specs.Machines.{Machine}
use Rattle.cluster_rules.specs.Nodes.{NodeState, done_of, nothing, number_of}
use Rattle.cluster_rules.specs.Updates.{InDoubt, Written, answers, unlogged}
use Rattle.cluster_rules.specs.Receiving.{counts, hears, receive}
use Rattle.single_rules.specs.Logging.{body_to_log, entry_of, no_entry, to_log}
use Rattle.single_rules.specs.Single.{IsSound, Single, ask, asking, grant, granting, made, release, releasing}
use Rattle.single_rules.proofs.Comparisons.{is_member, is_new, less, not_less, same}

module _ {M : Machine} where
  answers_written : (x : NodeState M) (u : Update) (held : ℕ) (d : Decision) → nat_lt (number_of x) held ≡ false → (answers x u held Written d).appended ≡ entry_of x u d
  answers_written x u held decision.Nothing f = refl
  answers_written x u held (decision.Ask req) f = refl
  answers_written x u held (decision.Write from req) f = simp f
  answers_written x u held (decision.Grant to req place) f = refl
  answers_written x u held (decision.Spread to place) f = refl
  answers_written x u held (decision.Finish req place next) f = refl
  answers_written x u held decision.Free f = refl
  answers_written x u held (decision.ReleaseAgain req) f = refl
  answers_written x u held decision.Take f = refl
  answers_written x u held decision.Again f = refl

  answers_in_doubt : (x : NodeState M) (u : Update) (held : ℕ) (d : Decision) → nat_lt (number_of x) held ≡ false → (answers x u held InDoubt d).doubtful ≡ entry_of x u d
  answers_in_doubt x u held decision.Nothing f = refl
  answers_in_doubt x u held (decision.Ask req) f = refl
  answers_in_doubt x u held (decision.Write from req) f = simp f
  answers_in_doubt x u held (decision.Grant to req place) f = refl
  answers_in_doubt x u held (decision.Spread to place) f = refl
  answers_in_doubt x u held (decision.Finish req place next) f = refl
  answers_in_doubt x u held decision.Free f = refl
  answers_in_doubt x u held (decision.ReleaseAgain req) f = refl
  answers_in_doubt x u held decision.Take f = refl
  answers_in_doubt x u held decision.Again f = refl

  hears_written : (x : NodeState M) (from : ℕ) (b : Body) (held : ℕ) → nat_lt (number_of x) held ≡ false → (hears x from b held Written).appended ≡ body_to_log x from b
  hears_written x from (Ask req u) held f = answers_written x u held (updating.asked x.core from req (done_of x)) f
  hears_written x from (Granted e) held f = refl
  hears_written x from (Apply e) held f = refl
  hears_written x from (Applied place) held f = refl
  hears_written x from (Release req) held f = refl
  hears_written x from (Offer count cap last) held f = refl
  hears_written x from (Need offset) held f = refl
  hears_written x from (Piece total offset bytes) held f = refl
  hears_written x from Ready held f = refl
  hears_written x from OpenView held f = refl

  hears_in_doubt : (x : NodeState M) (from : ℕ) (b : Body) (held : ℕ) → nat_lt (number_of x) held ≡ false → (hears x from b held InDoubt).doubtful ≡ body_to_log x from b
  hears_in_doubt x from (Ask req u) held f = answers_in_doubt x u held (updating.asked x.core from req (done_of x)) f
  hears_in_doubt x from (Granted e) held f = refl
  hears_in_doubt x from (Apply e) held f = refl
  hears_in_doubt x from (Applied place) held f = refl
  hears_in_doubt x from (Release req) held f = refl
  hears_in_doubt x from (Offer count cap last) held f = refl
  hears_in_doubt x from (Need offset) held f = refl
  hears_in_doubt x from (Piece total offset bytes) held f = refl
  hears_in_doubt x from Ready held f = refl
  hears_in_doubt x from OpenView held f = refl

  counted_written : (b : Bool) (x : NodeState M) (p : Sent) (held : ℕ) → nat_lt (number_of x) held ≡ false
      → (if b then hears x p.from p.body held Written else unlogged (nothing x)).appended ≡ if b then body_to_log x p.from p.body else no_entry
  counted_written true x p held f = hears_written x p.from p.body held f
  counted_written false x p held f = refl

  counted_in_doubt : (b : Bool) (x : NodeState M) (p : Sent) (held : ℕ) → nat_lt (number_of x) held ≡ false
      → (if b then hears x p.from p.body held InDoubt else unlogged (nothing x)).doubtful ≡ if b then body_to_log x p.from p.body else no_entry
  counted_in_doubt true x p held f = hears_in_doubt x p.from p.body held f
  counted_in_doubt false x p held f = refl

  pub logs_written : (x : NodeState M) (p : Sent) (held : ℕ) → held ≤ number_of x → (receive x p held Written).appended ≡ to_log x p
  logs_written x p held own = counted_written (counts x p) x p held (not_less (number_of x) held own)

  pub logs_in_doubt : (x : NodeState M) (p : Sent) (held : ℕ) → held ≤ number_of x → (receive x p held InDoubt).doubtful ≡ to_log x p
  logs_in_doubt x p held own = counted_in_doubt (counts x p) x p held (not_less (number_of x) held own)

  pub logs_ask : (a : Single M) (u : Update) → IsSound a → a.done < last_place → to_log (asking a u) (ask a u) ≡ Some (made a u)
  logs_ask a u s room = simp (same, is_member a s, is_new a s, less a.done last_place room)

  pub logs_no_granted : (a : Single M) (u : Update) → IsSound a → to_log (granting a u) (grant a u) ≡ no_entry
  logs_no_granted a u s = simp (same, is_member a s)

  pub logs_no_release : (a : Single M) (u : Update) → IsSound a → to_log (releasing a u) (release a) ≡ no_entry
  logs_no_release a u s = simp (same, is_member a s)
