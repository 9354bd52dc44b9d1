-- The cases of each rule of joining: what holds of each outcome under its guards holds of what the rule gives.
use Rattle.std.proofs.Common.{◌≡◌, ◌≢◌, ◌⊎◌, inl, inr, ℕ, ◌+◌, ◌<◌, ◌≤◌, Bool, true, false, not, ◌&&◌, length, Option, Some, None, replicate, nat_eq, nat_lt, cond, refl, ap, sym, ◌∙◌, subst, arith}
use Rattle.gum_messages.specs.declared.view.View.{View}
use Rattle.gum_messages.specs.Members.{inc_of, is_member}
use Rattle.gum_messages.proofs.Branches.{if_cases, option_cases}
use Rattle.view_reconcile.specs.declared.stage.Stage.{Stage}
use Rattle.view_reconcile.specs.declared.stage.Stage.TheVariants as stage
use Rattle.view_reconcile.specs.declared.step.Step.{Step}
use Rattle.view_reconcile.specs.declared.step.Step.TheVariants as step
use Rattle.view_reconcile.specs.Joining.{ReconcileState, all_ready, becomes_ready, has_all, installed, is_alone, is_open, is_ready, lacks_last, locks, marked, offered, opened, pulled, pulled_bytes, pulls, pulls_on, readied, taken}

-- What guards say.
eq_true : (a b : ℕ) → nat_eq a b ≡ true → a ≡ b
eq_true a b e = grind arith

eq_false : (a b : ℕ) → nat_eq a b ≡ false → a ≢ b
eq_false a b e = grind arith

lt_true : (a b : ℕ) → nat_lt a b ≡ true → a < b
lt_true a b e = grind arith

lt_false : (a b : ℕ) → nat_lt a b ≡ false → b ≤ a
lt_false a b e = grind arith

and_true : (a b : Bool) → (a && b) ≡ true → (a ≡ true) × (b ≡ true)
and_true true b e = (refl, e)
and_true false b e = cc

not_true : (b : Bool) → not b ≡ true → b ≡ false
not_true true e = cc
not_true false e = refl

pub is_member_says : (v : View) (node inc : ℕ) → is_member v.members node inc ≡ true → (0 < inc) × (inc_of v.members node ≡ inc)
is_member_says v node inc e =
    let both = and_true (nat_lt 0 inc) (nat_eq (inc_of v.members node) inc) e in
    (lt_true 0 inc both.0, eq_true (inc_of v.members node) inc both.1)

pub has_all_says : (done : Option ℕ) (count : ℕ) → has_all done count ≡ true → done ≡ Some count
has_all_says None count e = cc
has_all_says (Some k) count e = let same : k ≡ count = eq_true k count e in cc

pub lacks_last_says : (done : Option ℕ) (count : ℕ) (last : Option ℕ) → lacks_last done count last ≡ true → (k : ℕ) × (done ≡ Some k) × (k + 1 ≡ count) × (last ≡ Some count)
lacks_last_says None count last e = cc
lacks_last_says (Some k) count None e = cc
lacks_last_says (Some k) count (Some place) e =
    let both = and_true (nat_eq (k + 1) count) (nat_eq place count) e in
    let at_end : place ≡ count = eq_true place count both.1 in
    (k, refl, eq_true (k + 1) count both.0, cc)

ready_stage : (t : Stage) → (elim t [ stage.Ready ↦ true | stage.Open ↦ true | _ ↦ false ]) ≡ true → (t ≡ stage.Ready) ⊎ (t ≡ stage.Open)
ready_stage stage.Waiting e = cc
ready_stage (stage.Pulling got) e = cc
ready_stage stage.Taking e = cc
ready_stage stage.Ready e = inl refl
ready_stage stage.Open e = inr refl

pub is_ready_says : (s : ReconcileState) → is_ready s ≡ true → (s.stage ≡ stage.Ready) ⊎ (s.stage ≡ stage.Open)
is_ready_says s e = ready_stage s.stage e

pulling_stage : (t : Stage) (got : ℕ) → (elim t [ stage.Pulling k ↦ Some k | _ ↦ None ]) ≡ Some got → t ≡ stage.Pulling got
pulling_stage stage.Waiting got e = cc
pulling_stage (stage.Pulling k) got e = let same : k ≡ got = cc in cc
pulling_stage stage.Taking got e = cc
pulling_stage stage.Ready got e = cc
pulling_stage stage.Open got e = cc

pub pulled_bytes_says : (s : ReconcileState) (got : ℕ) → pulled_bytes s ≡ Some got → s.stage ≡ stage.Pulling got
pulled_bytes_says s got e = pulling_stage s.stage got e

pub installed_cases : (P : ReconcileState × Bool → Type 0) (s : ReconcileState) (v : View)
    → (s.view.number < v.number → 0 < s.inc → inc_of v.members s.node ≡ s.inc → P (record s { view = v; stage = stage.Waiting; ready = replicate (length v.members) false }, true))
    → P (s, false)
    → P (installed s v)
installed_cases P s v takes not_ =
    if_cases P (nat_lt s.view.number v.number && is_member v.members s.node s.inc) _ _ (λ e.
    let both = and_true (nat_lt s.view.number v.number) (is_member v.members s.node s.inc) e in
    let member = is_member_says v s.node s.inc both.1 in
    takes (lt_true s.view.number v.number both.0) member.0 member.1
    ) (λ e. not_)

pub becomes_ready_cases : (P : ReconcileState × Step → Type 0) (s : ReconcileState)
    → (is_alone s ≡ true → P (record s { stage = stage.Open }, step.Open))
    → (is_alone s ≡ false → P (record s { stage = stage.Ready }, step.Ready))
    → P (becomes_ready s)
becomes_ready_cases P s alone others = if_cases P (is_alone s) _ _ alone others

pub offered_cases : (P : ReconcileState × Step → Type 0) (s : ReconcileState) (count : ℕ) (last done : Option ℕ)
    → (s.view.number ≡ 0 → P (s, step.Nothing))
    → (s.view.number ≢ 0 → is_ready s ≡ true → P (s, cond (locks s) step.Nothing step.Ready))
    → (s.view.number ≢ 0 → is_ready s ≡ false → done ≡ Some count → P (becomes_ready s))
    → (s.view.number ≢ 0 → is_ready s ≡ false → (k : ℕ) → done ≡ Some k → k + 1 ≡ count → last ≡ Some count → P (record s { stage = stage.Taking }, step.ApplyLast))
    → (s.view.number ≢ 0 → is_ready s ≡ false → P (pulls_on s))
    → P (offered s count last done)
offered_cases P s count last done no_view again all_ next far =
    if_cases P (nat_eq s.view.number 0) _ _ (λ e. no_view (eq_true s.view.number 0 e)) (λ e.
    let some : s.view.number ≢ 0 = eq_false s.view.number 0 e in
    if_cases P (is_ready s) _ _ (again some) (λ r.
    if_cases P (has_all done count) _ _ (λ h. all_ some r (has_all_says done count h)) (λ h.
    if_cases P (lacks_last done count last) _ _ (λ l.
    let says = lacks_last_says done count last l in
    next some r says.0 says.1 says.2 says.3
    ) (λ l. far some r)
    )
    )
    )

pub taken_cases : (P : ReconcileState × Step → Type 0) (s : ReconcileState) (good : Bool)
    → (good ≡ true → P (becomes_ready s))
    → (good ≡ false → P (pulls s))
    → P (taken s good)
taken_cases P s good well ill = if_cases P good _ _ well ill

pub pulled_cases : (P : ReconcileState × Step → Type 0) (s : ReconcileState) (total offset count : ℕ)
    → P (s, step.Nothing)
    → (s.stage ≡ stage.Pulling offset → offset + count < total → P (record s { stage = stage.Pulling (offset + count) }, step.Pull (offset + count)))
    → (s.stage ≡ stage.Pulling offset → total ≤ offset + count → P (record s { stage = stage.Taking }, step.Whole))
    → P (pulled s total offset count)
pulled_cases P s total offset count nothing more whole =
    option_cases P (pulled_bytes s) (s, step.Nothing) (λ got. cond (nat_eq offset got) (cond (nat_lt (got + count) total) (record s { stage = stage.Pulling (got + count) }, step.Pull (got + count)) (record s { stage = stage.Taking }, step.Whole)) (s, step.Nothing)) (λ none. nothing) (λ got some.
    if_cases P (nat_eq offset got) _ _ (λ e.
    let same : offset ≡ got = eq_true offset got e in
    let at : s.stage ≡ stage.Pulling got = pulled_bytes_says s got some in
    let next : Stage → Step → Type 0 = λ t u. P (record s { stage = t }, u) in
    if_cases P (nat_lt (got + count) total) _ _ (λ l.
    subst (λ (k : ℕ). next (stage.Pulling (k + count)) (step.Pull (k + count))) same (more (at ∙ ap (λ k. stage.Pulling k) (sym same)) (let below : got + count < total = lt_true (got + count) total l in omega arith))
    ) (λ l.
    whole (at ∙ ap (λ k. stage.Pulling k) (sym same)) (let above : total ≤ got + count = lt_false (got + count) total l in omega arith)
    )
    ) (λ e. nothing)
    )

pub readied_cases : (P : ReconcileState × Step → Type 0) (s : ReconcileState) (from : ℕ)
    → (locks s ≡ false → P (s, step.Nothing))
    → (locks s ≡ true → is_open s ≡ true → P (s, step.OpenAgain from))
    → (locks s ≡ true → is_open s ≡ false → all_ready (marked s from) ≡ true → P (record (marked s from) { stage = stage.Open }, step.Open))
    → (locks s ≡ true → is_open s ≡ false → all_ready (marked s from) ≡ false → P (marked s from, step.Nothing))
    → P (readied s from)
readied_cases P s from other again opens waits =
    if_cases P (locks s) _ _ (λ l. if_cases P (is_open s) _ _ (again l) (λ o. if_cases P (all_ready (marked s from)) _ _ (opens l o) (waits l o))) other

pub opened_cases : (P : ReconcileState × Bool → Type 0) (s : ReconcileState)
    → (is_ready s ≡ true → is_open s ≡ false → P (record s { stage = stage.Open }, true))
    → P (s, false)
    → P (opened s)
opened_cases P s opens stays =
    if_cases P (is_ready s && not (is_open s)) _ _ (λ e.
    let both = and_true (is_ready s) (not (is_open s)) e in
    opens both.0 (not_true (is_open s) both.1)
    ) (λ e. stays)
