-- The premises of progress are met: a world of two members with three updates queued, from which the law serves them.
use Rattle.std.proofs.Common.{◌≡◌, ℕ, ◌<◌, Bool, true, false, List, [], ◌∷◌, length, Option, Some, None, nat_eq, if◌then◌else◌, refl, subst, arith}
use Rattle.gum_messages.specs.declared.view.View.{View}
use Rattle.gum_messages.specs.Members.{inc_of}
use Rattle.update_records.specs.declared.update.Update.{Update}
use Rattle.update_records.specs.Limits.{IsUpdate}
use Rattle.view_reconcile.specs.Joining as joining
use Rattle.cluster_rules.specs.Nodes.{NodeState}
use Rattle.cluster_rules.specs.Updates.{Written}
use Rattle.cluster_rules.specs.Worlds.{Declare, Deliver, Event, Install, Recovered, Start, Submit, World, opening, run}
use Rattle.cluster_rules.specs.Progress.{Leads, Served, Standing, goes_on_after}
use Rattle.cluster_rules.proofs.Scripts.{tally, tally_is_machine}
use Rattle.cluster_laws.proofs.Applying.{eq_true}
use Rattle.cluster_laws.proofs.Standing.{all_unstuck}

abbrev two : View
two = record { number = 1; members = record { node = 1; inc = 1 } ∷ record { node = 2; inc = 1 } ∷ [] }

get : {A : Type 0} (o : Option A) (P : A → Type 0) → (elim o as (λ _. Type 0) [ None ↦ ⊥ | Some a ↦ P a ]) → (a : A) × (o ≡ Some a) × P a
get None P h = absurd h
get (Some a) P h = (a, refl, h)

only : (Q : ℕ → Type 0) (n : ℕ) → 0 < inc_of two.members n → Q 1 → Q 2 → Q n
only Q n lt one both = elim (nat_eq 1 n) as (λ (b : Bool). nat_eq 1 n ≡ b → 0 < (if b then 1 else (if nat_eq 2 n then 1 else 0)) → Q n) [
  | true ↦ λ e g. subst Q (eq_true 1 n e) one
  | false ↦ λ e g. elim (nat_eq 2 n) as (λ (b : Bool). nat_eq 2 n ≡ b → 0 < (if b then 1 else 0) → Q n) [
    | true ↦ λ f h. subst Q (eq_true 2 n f) both
    | false ↦ λ f h. absurd (omega (arith, h))
  ] refl g
] refl lt

module _ (u : Update) (valid : IsUpdate u) where
  abbrev events : List Event
  events =
      Start 1 ∷ Start 2 ∷ Declare two ∷ Install 2 1 (Recovered false) ∷ Install 1 1 (Recovered false)
      ∷ Deliver 1 Written ∷ Deliver 2 Written ∷ Deliver 3 Written ∷ Deliver 4 Written ∷ Deliver 5 Written
      ∷ Submit 2 u valid ∷ Submit 2 u valid ∷ Submit 1 u valid ∷ Deliver 6 Written ∷ []

  abbrev here : World tally
  here = run events (opening tally 4096)

  abbrev Is : ℕ → NodeState tally → Type 0
  Is n x = (x.join.inc ≡ inc_of two.members n) × (x.join.view ≡ two) × (joining.is_open x.join ≡ true)

  at : (n : ℕ) → 0 < inc_of two.members n → (x : NodeState tally) × (here.nodes n ≡ Some x) × Is n x
  at n lt = only (λ n. (x : NodeState tally) × (here.nodes n ≡ Some x) × Is n x) n lt (get (here.nodes 1) (Is 1) (refl, refl, refl)) (get (here.nodes 2) (Is 2) (refl, refl, refl))

  standing : Standing here two
  standing = record { declared = refl; held = refl; member = λ n lt. let a = at n lt in (a.0, record { node = a.1; inc = a.2.0; view = a.2.1 }) }

  -- three updates are queued, one is logged and its grant is lost: all are served
  pub three_served : Leads (goes_on_after (length here.pool)) here (λ t. Served t two)
  three_served = all_unstuck tally tally_is_machine 4096 events tt two standing (omega arith)

-- A view that has a node twice would wait for nobody and never open; it isn't declared.
abbrev twice : View
twice = record { number = 1; members = record { node = 1; inc = 1 } ∷ record { node = 1; inc = 1 } ∷ [] }

pub twice_refused : (run (Start 1 ∷ Declare twice ∷ []) (opening tally 4096)).chain ≡ []
twice_refused = refl
