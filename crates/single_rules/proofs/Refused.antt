-- Where the log doesn't take the record, or no number is left for one.
use Rattle.std.proofs.Common.{◌≡◌, ℕ, ◌+◌, ◌<◌, ◌≤◌, Bool, false, [], ◌∷◌, Some, None, arith}
use Rattle.update_records.specs.declared.update.Update.{Update}
use Rattle.gum_core.specs.Updating.{last_place, last_request}
use Rattle.cluster_rules.specs.Machines.{Machine}
use Rattle.cluster_rules.specs.declared.effect.Effect.TheVariants.{Send}
use Rattle.cluster_rules.specs.declared.effect.HaltCause.TheVariants.{Disk, Fenced}
use Rattle.cluster_rules.specs.Nodes.{becomes, halts, nothing}
use Rattle.cluster_rules.specs.Updates.{Answer, InDoubt, Unwritten, submit, unlogged}
use Rattle.cluster_rules.specs.Receiving.{checkpoint, receive, tick}
use Rattle.single_rules.specs.Single.{IsSound, Single, ask, asking, at_rest, made}
use Rattle.single_rules.proofs.Comparisons.{is_member, is_new, less, not_less, same}

module _ {M : Machine} where
  pub halts_fenced : (a : Single M) (u : Update) (held : ℕ) (answer : Answer) → IsSound a → a.done < last_place → a.view < held
      → receive (asking a u) (ask a u) held answer ≡ unlogged (halts (Fenced held))
  halts_fenced a u held answer s room later = simp (same, is_member a s, is_new a s, less a.done last_place room, less a.view held later)

  pub halts_in_doubt : (a : Single M) (u : Update) (held : ℕ) → IsSound a → a.done < last_place → held ≤ a.view
      → receive (asking a u) (ask a u) held InDoubt ≡ record { out = halts Disk; appended = None; doubtful = Some (made a u) }
  halts_in_doubt a u held s room own = simp (same, is_member a s, is_new a s, less a.done last_place room, not_less a.view held own)

  pub halts_unwritten : (a : Single M) (u : Update) (held : ℕ) → IsSound a → a.done < last_place → held ≤ a.view
      → receive (asking a u) (ask a u) held Unwritten ≡ unlogged (halts Disk)
  halts_unwritten a u held s room own = simp (same, is_member a s, is_new a s, less a.done last_place room, not_less a.view held own)

  pub grants_none : (a : Single M) (u : Update) (held : ℕ) (answer : Answer) → IsSound a → last_place ≤ a.done
      → receive (asking a u) (ask a u) held answer ≡ unlogged (nothing (asking a u))
  grants_none a u held answer s full = simp (same, is_member a s, is_new a s, not_less a.done last_place full)

  pub asks_again : (a : Single M) (u : Update) → tick (asking a u) ≡ becomes (asking a u) (Send (ask a u) ∷ [])
  asks_again a u = simp same

  pub queues_none : (a : Single M) (u : Update) → last_request ≤ a.passed → submit (at_rest a) u ≡ nothing (at_rest a)
  queues_none a u full = let l = not_less (a.passed + 0) last_request (omega arith) in simp l

  pub checkpoint_fenced : (a : Single M) (held : ℕ) (good : Bool) → a.view < held → checkpoint (at_rest a) held good ≡ halts (Fenced held)
  checkpoint_fenced a held good later = simp (same, less a.view held later)

  pub checkpoint_fails : (a : Single M) (held : ℕ) → held ≤ a.view → checkpoint (at_rest a) held false ≡ halts Disk
  checkpoint_fails a held own = simp (same, not_less a.view held own)
