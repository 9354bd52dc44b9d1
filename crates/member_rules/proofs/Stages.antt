-- What a member keeps as it goes from one stage of its way into the view to another.
use Rattle.std.proofs.Common.{◌≡◌, ℕ, Bool, true, false, IsTrue, Option, None, refl, sym, ap, ◌∙◌, subst}
use Rattle.std.specs.Prelude.{IsSome}
use Rattle.gum_core.specs.Updating.{CoreState}
use Rattle.view_reconcile.specs.declared.stage.Stage.{Stage}
use Rattle.view_reconcile.specs.declared.stage.Stage.TheVariants as stage
use Rattle.view_reconcile.specs.Joining.{ReconcileState, is_open, is_ready, locks, pulled_bytes}
use Rattle.cluster_rules.specs.declared.offering.Offering.{Offering}
use Rattle.cluster_rules.specs.Nodes.{Replica}
use Rattle.registry_machine.specs.Machine.{registry_machine}
use Rattle.member_rules.specs.Opening.{IsOpened}
use Rattle.member_rules.specs.States.{Agree, IsOf, IsStanding}

-- ---- the stages

abbrev pub open_at : Stage → Bool
open_at t = elim t [ stage.Open ↦ true | _ ↦ false ]

abbrev pub ready_at : Stage → Bool
ready_at t = elim t [ stage.Ready ↦ true | stage.Open ↦ true | _ ↦ false ]

open_then_ready : (t : Stage) → ready_at t ≡ false → open_at t ≡ false
open_then_ready stage.Waiting e = refl
open_then_ready (stage.Pulling got) e = refl
open_then_ready stage.Taking e = refl
open_then_ready stage.Ready e = cc
open_then_ready stage.Open e = cc

pub not_ready_not_open : (s : ReconcileState) → is_ready s ≡ false → is_open s ≡ false
not_ready_not_open s e = open_then_ready s.stage e

pub pulling_not_open : (s : ReconcileState) (k : ℕ) → s.stage ≡ stage.Pulling k → is_open s ≡ false
pulling_not_open s k e = ap open_at e

pub taking_not_open : (s : ReconcileState) → s.stage ≡ stage.Taking → is_open s ≡ false
taking_not_open s e = ap open_at e

not_both : (b : Bool) → b ≡ false → IsTrue b → ⊥
not_both true e t = cc
not_both false e t = cc

-- ---- the node and its incarnation

pub of_marked : (node inc : ℕ) (s t : ReconcileState) → IsOf node inc s → t ≡ record s { ready = t.ready } → IsOf node inc t
of_marked node inc s t o is = subst (λ (x : ReconcileState). IsOf node inc x) (sym is) o

pub of_stage : (node inc : ℕ) (s t : ReconcileState) (g : Stage) → IsOf node inc s → t ≡ record s { stage = g; ready = t.ready } → IsOf node inc t
of_stage node inc s t g o is = subst (λ (x : ReconcileState). IsOf node inc x) (sym is) o

pub of_at : (node inc : ℕ) (s t : ReconcileState) (g : Stage) → IsOf node inc s → t ≡ record s { stage = g } → IsOf node inc t
of_at node inc s t g o is = subst (λ (x : ReconcileState). IsOf node inc x) (sym is) o

-- ---- the core and the way into the view

-- Another stage that isn't open.
pub agrees_at : (c : CoreState) (s t : ReconcileState) (g : Stage) → Agree c s → t ≡ record s { stage = g } → is_open s ≡ false → open_at g ≡ false → Agree c t
agrees_at c s t g a is closed later =
    subst (λ (x : ReconcileState). Agree c x) (sym is)
    (record { node = a.node; members = a.members; opened = a.opened ∙ closed ∙ sym later })

-- A Ready came.
pub agrees_marked : (c : CoreState) (s t : ReconcileState) → Agree c s → t ≡ record s { ready = t.ready } → Agree c t
agrees_marked c s t a is =
    subst (λ (x : ReconcileState). Agree c x) (sym is) (record { node = a.node; members = a.members; opened = a.opened })

-- The view opens.
pub agrees_open : (c d : CoreState) (s t : ReconcileState) → Agree c s → IsOpened c d → t ≡ record s { stage = stage.Open; ready = t.ready } → Agree d t
agrees_open c d s t a opens is =
    subst (λ (x : ReconcileState). Agree d x) (sym is)
    (record { node = opens.node ∙ a.node; members = opens.members ∙ a.members; opened = opens.opened })

-- ---- what stands in each stage

module _ (replica : Option (Replica registry_machine)) (offer : Option Offering) where
  -- The state is taken.
  pub stands_taking : (s t : ReconcileState) → t ≡ record s { stage = stage.Taking } → (IsTrue (locks s) → IsSome replica) → IsStanding t replica offer
  stands_taking s t is keeps =
      subst (λ (x : ReconcileState). IsStanding x replica offer) (sym is)
      (record { ready = λ e. absurd (cc); keeps = keeps; pulls = λ e. absurd (cc); follows = λ e. absurd (cc) })

  -- The state is pulled.
  pub stands_pulling : (s t : ReconcileState) (k : ℕ) → t ≡ record s { stage = stage.Pulling k } → locks s ≡ false → IsSome offer → IsStanding t replica offer
  stands_pulling s t k is other offered =
      subst (λ (x : ReconcileState). IsStanding x replica offer) (sym is)
      (record { ready = λ e. absurd (cc); keeps = λ l. absurd (not_both (locks s) other l); pulls = λ e. offered; follows = λ e. other })

  -- A member that isn't the locker is ready.
  pub stands_ready : (s t : ReconcileState) → t ≡ record s { stage = stage.Ready } → locks s ≡ false → IsSome replica → IsStanding t replica offer
  stands_ready s t is other some =
      subst (λ (x : ReconcileState). IsStanding x replica offer) (sym is)
      (record { ready = λ e. some; keeps = λ l. some; pulls = λ e. absurd (cc); follows = λ e. absurd (cc) })

  -- A member that is ready opens.
  pub stands_open : (s t : ReconcileState) → IsStanding s replica offer → t ≡ record s { stage = stage.Open; ready = t.ready } → is_ready s ≡ true → IsStanding t replica offer
  stands_open s t before is ready =
      subst (λ (x : ReconcileState). IsStanding x replica offer) (sym is)
      (record { ready = λ e. before.ready ready; keeps = before.keeps; pulls = λ e. absurd (cc); follows = λ e. absurd (cc) })

  -- A Ready came.
  pub stands_marked : (s t : ReconcileState) → IsStanding s replica offer → t ≡ record s { ready = t.ready } → IsStanding t replica offer
  stands_marked s t before is =
      subst (λ (x : ReconcileState). IsStanding x replica offer) (sym is)
      (record { ready = before.ready; keeps = before.keeps; pulls = before.pulls; follows = before.follows })

-- ---- what stands as the parts change in a stage

-- The registry becomes another.
pub stands_free : (s : ReconcileState) (replica next : Option (Replica registry_machine)) (offer : Option Offering)
    → IsStanding s replica offer → (IsSome replica → IsSome next) → IsStanding s next offer
stands_free s replica next offer before stays = record {
  ready = λ e. stays (before.ready e);
  keeps = λ l. stays (before.keeps l);
  pulls = before.pulls;
  follows = before.follows;
}

no_bytes : (o : Option ℕ) → o ≡ None → IsSome o → ⊥
no_bytes o e some = cc

-- A member that doesn't pull forgets what was offered.
pub stands_past : (s : ReconcileState) (replica : Option (Replica registry_machine)) (offer next : Option Offering)
    → IsStanding s replica offer → pulled_bytes s ≡ None → IsStanding s replica next
stands_past s replica offer next before past = record {
  ready = before.ready;
  keeps = before.keeps;
  pulls = λ e. absurd (no_bytes (pulled_bytes s) past e);
  follows = before.follows;
}

pub ready_taking : (t : Stage) → t ≡ stage.Taking → ready_at t ≡ true → ⊥
ready_taking t is e = let clash : false ≡ true = ap ready_at (sym is) ∙ e in cc

pulled_taking : (s : ReconcileState) → s.stage ≡ stage.Taking → IsSome (pulled_bytes s) → ⊥
pulled_taking s is e = subst (λ (t : Stage). IsSome (pulled_bytes (record s { stage = t })) → ⊥) (sym is) (λ f. cc) e

-- While the state is taken, a registry and an offer may come and go.
pub stands_taken : (s : ReconcileState) (replica next : Option (Replica registry_machine)) (offer other : Option Offering)
    → IsStanding s replica offer → s.stage ≡ stage.Taking → (IsSome replica → IsSome next) → IsStanding s next other
stands_taken s replica next offer other before taking stays = record {
  ready = λ e. absurd (ready_taking s.stage taking e);
  keeps = λ l. stays (before.keeps l);
  pulls = λ e. absurd (pulled_taking s taking e);
  follows = before.follows;
}
