-- The rules of Global Update, by what the core decided.
use Rattle.std.proofs.Common.{◌≡◌, ℕ, ◌+◌, ◌<◌, Bool, true, false, ◌&&◌, length, nat_lt, Option, Some, None, refl, sym, ap, ◌∙◌, arith}
use Rattle.update_records.specs.Entry.{Entry}
use Rattle.update_records.specs.declared.update.Update.{Update}
use Rattle.gum_core.specs.declared.decision.Decision.{Decision}
use Rattle.gum_core.specs.declared.decision.Decision.TheVariants as decision
use Rattle.gum_core.specs.Updating.{CoreState, applied, granted, released, spread, submitted}
use Rattle.gum_core.specs.Updating as updating
use Rattle.gum_core.proofs.Cases.{applied_cases, granted_cases, spread_cases}
use Rattle.cluster_rules.specs.Nodes.{NodeState, Out, asks, becomes, nothing}
use Rattle.cluster_rules.specs.Updates.{asked_for, may_submit, on_applied, on_granted, on_release, proceeds, submit, submits}
use Rattle.registry_machine.specs.Machine.{registry_machine}
use Rattle.member_rules.specs.Steps.{proceeds_by}

abbrev with_core : NodeState registry_machine → CoreState → NodeState registry_machine
with_core x d = record x { core = d }

abbrev By : NodeState registry_machine → Entry → CoreState × Decision → Type 0
By x e r = proceeds x e r ≡ proceeds_by (record x { core = r.0 }) e r.1

spread_by : (x : NodeState registry_machine) (e : Entry) (place at : ℕ) → By x e (spread x.core place at)
spread_by x e place at = spread_cases (λ r. By x e r) x.core place at (λ none. refl) (λ to is. refl)

granted_by : (x : NodeState registry_machine) (e : Entry) (req place : ℕ) → By x e (granted x.core req place)
granted_by x e req place = granted_cases (λ r. By x e r) x.core req place refl
    (λ opened some head free. spread_by x e place 0)
    (λ opened first left. refl)

applied_by : (x : NodeState registry_machine) (e : Entry) (from place : ℕ) → By x e (applied x.core from place)
applied_by x e from place = applied_cases (λ r. By x e r) x.core from place refl (λ s is at to. spread_by x e place (s.at + 1))

-- The state behind the decision, and the decision.
decided_by : (x y : NodeState registry_machine) (e : Entry) (d : Decision) (r : CoreState × Decision)
    → (y.core, d) ≡ r → y ≡ record x { core = y.core } → By x e r → proceeds x e r ≡ proceeds_by y e d
decided_by x y e d r is others by =
    let state : record x { core = r.0 } ≡ y = ap (λ (p : CoreState × Decision). with_core x p.0) (sym is) ∙ sym others in
    let here : proceeds_by (record x { core = r.0 }) e r.1 ≡ proceeds_by y e r.1 = ap (λ (n : NodeState registry_machine). proceeds_by n e r.1) state in
    let there : proceeds_by y e r.1 ≡ proceeds_by y e d = ap (λ (p : CoreState × Decision). proceeds_by y e p.1) (sym is) in
    by ∙ (here ∙ there)

pub granted_is : (x y : NodeState registry_machine) (e : Entry) (d : Decision)
    → (y.core, d) ≡ granted x.core e.id.req e.place → y ≡ record x { core = y.core } → on_granted x e ≡ proceeds_by y e d
granted_is x y e d is others = decided_by x y e d (granted x.core e.id.req e.place) is others (granted_by x e e.id.req e.place)

applied_on : (x : NodeState registry_machine) (o : Option Entry) (e : Entry) (from place : ℕ) → o ≡ Some e
    → (elim o [ None ↦ nothing x | Some e ↦ proceeds x e (applied x.core from place) ]) ≡ proceeds x e (applied x.core from place)
applied_on x None e from place is = absurd (cc)
applied_on x (Some k) e from place is = ap (λ (n : Entry). proceeds x n (applied x.core from place)) (cc)

pub applied_is : (x y : NodeState registry_machine) (e : Entry) (from place : ℕ) (d : Decision)
    → x.spreads ≡ Some e → (y.core, d) ≡ applied x.core from place → y ≡ record x { core = y.core } → on_applied x from place ≡ proceeds_by y e d
applied_is x y e from place d some is others =
    applied_on x x.spreads e from place some ∙ decided_by x y e d (applied x.core from place) is others (applied_by x e from place)

pub released_is : (x y : NodeState registry_machine) (from req : ℕ) (d : Decision)
    → (y.core, d) ≡ released x.core from req → y ≡ record x { core = y.core } → on_release x from req ≡ nothing y
released_is x y from req d is others =
    let state : record x { core = (released x.core from req).0 } ≡ y = ap (λ (p : CoreState × Decision). with_core x p.0) (sym is) ∙ sym others in
    ap (λ (n : NodeState registry_machine). nothing n) state

submits_is : (x y : NodeState registry_machine) (update : Update) (n : ℕ) (d : Decision)
    → (y.core, (n, d)) ≡ submitted x.core update → y ≡ record x { core = y.core } → submits x (submitted x.core update) ≡ becomes y (asks y (asked_for d))
submits_is x y update n d is others =
    let state : record x { core = (submitted x.core update).0 } ≡ y = ap (λ (p : CoreState × (ℕ × Decision)). with_core x p.0) (sym is) ∙ sym others in
    let told : (submitted x.core update).1.1 ≡ d = ap (λ (p : CoreState × (ℕ × Decision)). p.1.1) (sym is) in
    ap (λ (m : NodeState registry_machine). becomes m (asks m (asked_for (submitted x.core update).1.1))) state
    ∙ ap (λ (f : Decision). becomes y (asks y (asked_for f))) told

may : (x : NodeState registry_machine) (update : Update) → may_submit x ≡ true → submit x update ≡ submits x (submitted x.core update)
may x update e = rw e refl

may_not : (x : NodeState registry_machine) (update : Update) → may_submit x ≡ false → submit x update ≡ nothing x
may_not x update e = rw e refl

pub submitted_is : (x y : NodeState registry_machine) (update : Update) (n : ℕ) (d : Decision)
    → may_submit x ≡ true → (y.core, (n, d)) ≡ submitted x.core update → y ≡ record x { core = y.core } → submit x update ≡ becomes y (asks y (asked_for d))
submitted_is x y update n d e is others = may x update e ∙ submits_is x y update n d is others

pub not_submitted : (x : NodeState registry_machine) (update : Update) → may_submit x ≡ false → submit x update ≡ nothing x
not_submitted x update e = may_not x update e

second : (a b : Bool) → (a && b) ≡ true → b ≡ true
second true b e = e
second false b e = cc

below_last : (n m : ℕ) → nat_lt n m ≡ true → n < m
below_last n m e = grind arith

pub may_room : (x : NodeState registry_machine) → may_submit x ≡ true → x.core.passed + length x.core.queue < updating.last_request
may_room x e = below_last (x.core.passed + length x.core.queue) updating.last_request (second x.core.is_open (nat_lt (x.core.passed + length x.core.queue) updating.last_request) e)
