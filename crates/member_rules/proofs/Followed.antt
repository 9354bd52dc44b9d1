-- The steps of a member that isn't the locker.
use Rattle.std.proofs.Common.{◌≡◌, ℕ, ◌+◌, Bool, true, false, List, [], ◌∷◌, Option, Some, None, cond, refl, sym, ap, ◌∙◌, subst}
use Rattle.std.specs.Prelude.{IsSome, IfSome, unwrap_or}
use Rattle.gum_messages.specs.declared.member.Member.{Member}
use Rattle.gum_messages.specs.Members.{is_locker}
use Rattle.view_reconcile.specs.declared.stage.Stage.{Stage}
use Rattle.view_reconcile.specs.declared.stage.Stage.TheVariants as stage
use Rattle.view_reconcile.specs.declared.step.Step.{Step}
use Rattle.view_reconcile.specs.declared.step.Step.TheVariants as step
use Rattle.view_reconcile.specs.Joining.{ReconcileState, becomes_ready, is_alone, is_ready, locks, offered, pulled, pulled_bytes, pulls, pulls_from, pulls_on, taken}
use Rattle.view_reconcile.proofs.Cases.{becomes_ready_cases, offered_cases, pulled_cases}
use Rattle.member_rules.specs.Pulling.{HasFollowed, HasGathered}

-- A locker alone is the locker.
alone_locks : (s : ReconcileState) (ms : List Member) → is_locker ms s.node ≡ false → is_alone (record s { view = record { number = s.view.number; members = ms } }) ≡ false
alone_locks s [] e = refl
alone_locks s (m ∷ []) e = e
alone_locks s (m ∷ (n ∷ ms)) e = refl

pub not_alone : (s : ReconcileState) → locks s ≡ false → is_alone s ≡ false
not_alone s e = alone_locks s s.view.members e

becomes : (s : ReconcileState) → locks s ≡ false → becomes_ready s ≡ (record s { stage = stage.Ready }, step.Ready)
becomes s e = rw (not_alone s e) refl

pulls_as : (s : ReconcileState) (got : ℕ) → locks s ≡ false → pulls_from s got ≡ (record s { stage = stage.Pulling got }, step.Pull got)
pulls_as s got e = rw e refl

is_some_of : (o : Option ℕ) (k : ℕ) → o ≡ Some k → IsSome o
is_some_of o k e = subst (λ (x : Option ℕ). IsSome x) (sym e) refl

pub has_followed : (s t : ReconcileState) (count : ℕ) (last done : Option ℕ) (r : Step)
    → locks s ≡ false → is_ready s ≡ false → (t, r) ≡ offered s count last done → HasFollowed s count last done t r
has_followed s t count last done r other waits is =
    let P : ReconcileState × Step → Type 0 = λ p. HasFollowed s count last done p.0 p.1 in
    subst P (sym is) (offered_cases P s count last done
    (λ none. refl)
    (λ some ready. absurd (cc))
    (λ some w all_. subst P (sym (becomes s other)) (is_some_of done count all_, refl))
    (λ some w k is_k next is_last. (k, is_k, next, is_last, refl))
    (λ some w. subst P (sym (pulls_as s (unwrap_or (pulled_bytes s) 0) other)) (refl, refl)))

some_pulled : (s : ReconcileState) (k : ℕ) → s.stage ≡ stage.Pulling k → IsSome (pulled_bytes s)
some_pulled s k at = subst (λ (t : Stage). IsSome (pulled_bytes (record s { stage = t }))) (sym at) refl

pub has_gathered : (s t : ReconcileState) (total offset count : ℕ) (r : Step) → (t, r) ≡ pulled s total offset count → HasGathered s t r
has_gathered s t total offset count r is =
    let P : ReconcileState × Step → Type 0 = λ p. HasGathered s p.0 p.1 in
    subst P (sym is) (pulled_cases P s total offset count refl (λ at more. (some_pulled s offset at, refl)) (λ at whole. (some_pulled s offset at, refl)))

pub has_stood : (s : ReconcileState) → locks s ≡ false → (taken s true).0 ≡ record s { stage = stage.Ready }
has_stood s e = ap (λ p. p.0) (becomes s e)

pub has_begun_again : (s : ReconcileState) → locks s ≡ false → (taken s false).0 ≡ record s { stage = stage.Pulling 0 }
has_begun_again s e = ap (λ p. p.0) (pulls_as s 0 e)
