-- A Ready at the locker, and the view that opens.
use Rattle.std.proofs.Common.{◌≡◌, ℕ, ◌+◌, Bool, true, false, MatchBool, ◌&&◌, Option, Some, None, length, nat_eq, refl, sym, ap, ◌∙◌, subst}
use Rattle.gum_messages.proofs.Branches.{if_cases, option_cases}
use Rattle.gum_core.specs.declared.decision.Decision.{Decision}
use Rattle.gum_core.specs.declared.decision.Decision.TheVariants as decision
use Rattle.gum_core.specs.Updating.{CoreState, finished, opened}
use Rattle.view_reconcile.specs.declared.stage.Stage.TheVariants as stage
use Rattle.view_reconcile.specs.declared.step.Step.{Step}
use Rattle.view_reconcile.specs.declared.step.Step.TheVariants as step
use Rattle.view_reconcile.specs.Joining.{ReconcileState, all_counted, all_ready, is_ready, marked, readied}
use Rattle.view_reconcile.specs.Joining as joining
use Rattle.view_reconcile.proofs.Cases.{opened_cases, readied_cases}
use Rattle.member_rules.specs.Opening.{HasHeard, IsOpened}

first_true : (a b : Bool) → (a && b) ≡ true → a ≡ true
first_true true b e = refl
first_true false b e = cc

pub has_heard : (s t : ReconcileState) (from : ℕ) (r : Step) → (t, r) ≡ readied s from → HasHeard s t r
has_heard s t from r is =
    let P : ReconcileState × Step → Type 0 = λ p. HasHeard s p.0 p.1 in
    subst P (sym is) (readied_cases P s from
    (λ other. refl)
    (λ here opened. refl)
    (λ here closed all_. (first_true (is_ready (marked s from)) (all_counted (marked s from)) all_, refl))
    (λ here closed waits. refl))

pub is_opened : (c d : CoreState) (settled : Option ℕ) (r : Decision) → (d, r) ≡ opened c settled → IsOpened c d
is_opened c d settled r is =
    let P : CoreState × Decision → Type 0 = λ p. IsOpened c p.0 in
    let first : CoreState × Decision = (record c { is_open = true }, decision.Nothing) in
    let asks : CoreState × Decision = (record c { is_open = true }, decision.Ask (c.passed + 1)) in
    subst P (sym is) (if_cases P (nat_eq (length c.queue) 0) first _
    (λ empty. record { node = refl; members = refl; opened = refl })
    (λ full. option_cases P settled asks (λ place. finished (record c { is_open = true }) place)
    (λ none. record { node = refl; members = refl; opened = refl })
    (λ place some. record { node = refl; members = refl; opened = refl })))

pub has_begun : (s t : ReconcileState) (b : Bool) → (t, b) ≡ joining.opened s → MatchBool b ((is_ready s ≡ true) × (t ≡ record s { stage = stage.Open; ready = t.ready })) (t ≡ s)
has_begun s t b is =
    let P : ReconcileState × Bool → Type 0 = λ p. MatchBool p.1 ((is_ready s ≡ true) × (p.0 ≡ record s { stage = stage.Open; ready = p.0.ready })) (p.0 ≡ s) in
    subst P (sym is) (opened_cases P s (λ ready closed. (ready, refl)) refl)
