-- Which members count as ready after an event.
use Rattle.std.proofs.Common.{◌≡◌, ◌≢◌, ◌⊎◌, inl, inr, ℕ, ◌<◌, Bool, true, false, replicate, nat_eq, sym, ◌∙◌, refl, arith}
use Rattle.gum_messages.specs.declared.view.View.{View}
use Rattle.gum_messages.specs.Members.{inc_of}
use Rattle.gum_messages.proofs.Beside.{entry_first, entry_kept}
use Rattle.gum_messages.proofs.Lookup.{all_members}
use Rattle.view_reconcile.specs.declared.stage.Stage.{Stage}
use Rattle.view_reconcile.specs.Joining.{ReconcileState, all_counted, counts_ready, is_marked, marked}

-- a member counts where its Ready came now or before
pub marked_says : (s : ReconcileState) (from m : ℕ) → 0 < inc_of s.view.members m → is_marked (marked s from) m ≡ true → (m ≡ from) ⊎ (is_marked s m ≡ true)
marked_says s from m member e =
    elim (nat_eq m from) as (λ (b : Bool). nat_eq m from ≡ b → (m ≡ from) ⊎ (is_marked s m ≡ true)) [
      | true ↦ λ same. inl (grind arith)
      | false ↦ λ other.
          let apart : m ≢ from = grind arith in
          inr (sym (entry_kept s.view.members s.ready from m true false member apart) ∙ e)
    ] refl

-- in a view that was just taken none does
pub none_marked : (s : ReconcileState) (v : View) (t : Stage) (n m : ℕ) → is_marked (record s { view = v; stage = t; ready = replicate n false }) m ≡ false
none_marked s v t n m = entry_first n _ false

-- where all count, each member does
pub each_counts : (s : ReconcileState) (m : ℕ) → all_counted s ≡ true → 0 < inc_of s.view.members m → counts_ready s m ≡ true
each_counts s m e member = all_members (counts_ready s) s.view.members m e member
