-- Global Update leaves the node, its view, and, but where the view opens, whether that is open.
use Rattle.std.proofs.Common.{◌≡◌, ℕ, ◌+◌, refl, sym, ap, subst, ◌∙◌}
use Rattle.gum_core.specs.declared.decision.Decision.{Decision}
use Rattle.gum_core.specs.Updating.{CoreState, applied, granted, logged, released, spread, submitted}
use Rattle.gum_core.proofs.Cases.{applied_cases, granted_cases, released_cases, spread_cases}
use Rattle.update_records.specs.declared.update.Update.{Update}
use Rattle.view_reconcile.specs.Joining.{ReconcileState}
use Rattle.member_rules.specs.States.{Agree}

pub record IsBeside (c d : CoreState) : Type 0 where
  pub node : d.node ≡ c.node
  pub members : d.members ≡ c.members
  pub opened : d.is_open ≡ c.is_open

stays : (c : CoreState) → IsBeside c c
stays c = record { node = refl; members = refl; opened = refl }

spread_beside : (c : CoreState) (place at : ℕ) → IsBeside c (spread c place at).0
spread_beside c place at = spread_cases (λ r. IsBeside c r.0) c place at
    (λ none. record { node = refl; members = refl; opened = refl })
    (λ to is. record { node = refl; members = refl; opened = refl })

granted_beside : (c : CoreState) (req place : ℕ) → IsBeside c (granted c req place).0
granted_beside c req place = granted_cases (λ r. IsBeside c r.0) c req place (stays c)
    (λ opened some head free. spread_beside c place 0)
    (λ opened first left. stays c)

applied_beside : (c : CoreState) (from place : ℕ) → IsBeside c (applied c from place).0
applied_beside c from place = applied_cases (λ r. IsBeside c r.0) c from place (stays c)
    (λ s is at to. spread_beside c place (s.at + 1))

released_beside : (c : CoreState) (from req : ℕ) → IsBeside c (released c from req).0
released_beside c from req = released_cases (λ r. IsBeside c r.0) c from req (stays c)
    (λ locker l held node req_is. record { node = refl; members = refl; opened = refl })

agree_beside : (c d : CoreState) (j : ReconcileState) → Agree c j → IsBeside c d → Agree d j
agree_beside c d j a b = record { node = b.node ∙ a.node; members = b.members ∙ a.members; opened = b.opened ∙ a.opened }

decided : (c d : CoreState) (j : ReconcileState) (r : Decision) (next : CoreState × Decision)
    → Agree c j → (d, r) ≡ next → IsBeside c next.0 → Agree d j
decided c d j r next a is b =
    let same : d ≡ next.0 = ap (λ p. p.0) is in
    agree_beside c d j a (subst (λ (x : CoreState). IsBeside c x) (sym same) b)

pub granted_agrees : (c d : CoreState) (j : ReconcileState) (r : Decision) (req place : ℕ) → Agree c j → (d, r) ≡ granted c req place → Agree d j
granted_agrees c d j r req place a is = decided c d j r (granted c req place) a is (granted_beside c req place)

pub applied_agrees : (c d : CoreState) (j : ReconcileState) (r : Decision) (from place : ℕ) → Agree c j → (d, r) ≡ applied c from place → Agree d j
applied_agrees c d j r from place a is = decided c d j r (applied c from place) a is (applied_beside c from place)

pub released_agrees : (c d : CoreState) (j : ReconcileState) (r : Decision) (from req : ℕ) → Agree c j → (d, r) ≡ released c from req → Agree d j
released_agrees c d j r from req a is = decided c d j r (released c from req) a is (released_beside c from req)

pub logged_agrees : (c d : CoreState) (j : ReconcileState) (r : Decision) (from req place : ℕ) → Agree c j → (d, r) ≡ logged c from req place → Agree d j
logged_agrees c d j r from req place a is = decided c d j r (logged c from req place) a is (record { node = refl; members = refl; opened = refl })

pub submitted_agrees : (c d : CoreState) (j : ReconcileState) (n : ℕ) (r : Decision) (u : Update) → Agree c j → (d, (n, r)) ≡ submitted c u → Agree d j
submitted_agrees c d j n r u a is =
    let same : d ≡ (submitted c u).0 = ap (λ p. p.0) is in
    agree_beside c d j a (subst (λ (x : CoreState). IsBeside c x) (sym same) (record { node = refl; members = refl; opened = refl }))
