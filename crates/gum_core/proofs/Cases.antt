-- The cases of each rule of Global Update: what holds of each outcome under its guards holds of what the rule gives.
use Rattle.std.proofs.Common.{◌≡◌, ◌≢◌, ℕ, ◌+◌, ◌<◌, ◌≤◌, Bool, true, false, ◌&&◌, List, [], ◌∷◌, length, Option, Some, None, is_none, slice_get, nat_eq, nat_lt, nat_le, cond, refl, arith}
use Rattle.gum_messages.specs.declared.member.Member.{Member}
use Rattle.gum_messages.specs.Members.{spread_of}
use Rattle.gum_messages.proofs.Branches.{if_cases, option_cases}
use Rattle.gum_core.specs.declared.decision.Decision.{Decision}
use Rattle.gum_core.specs.declared.decision.Decision.TheVariants.{Nothing, Ask, Write, Grant, Spread, Free, ReleaseAgain, Take, Again}
use Rattle.gum_core.specs.declared.lock.Lock.{Lock}
use Rattle.gum_core.specs.declared.spreading.Spreading.{Spreading}
use Rattle.gum_core.specs.Updating.{CoreState, applied, applying, asked, asks_for, awaits, finished, granted, greatest_of, has_left, is_held, last_place, locks, opened, receiver, released, spread, ticked}

-- What guards say.
eq_true : (a b : ℕ) → nat_eq a b ≡ true → a ≡ b
eq_true a b e = grind arith

eq_false : (a b : ℕ) → nat_eq a b ≡ false → a ≢ b
eq_false a b e = grind arith

lt_true : (a b : ℕ) → nat_lt a b ≡ true → a < b
lt_true a b e = grind arith

le_true : (a b : ℕ) → nat_le a b ≡ true → a ≤ b
le_true a b e = grind arith

and_true : (a b : Bool) → (a && b) ≡ true → (a ≡ true) × (b ≡ true)
and_true true b e = (refl, e)
and_true false b e = cc

none_true : {A : Type 0} (o : Option A) → is_none o ≡ true → o ≡ None
none_true None e = refl
none_true (Some a) e = cc

no_length : {A : Type 0} (l : List A) → length l ≡ 0 → l ≡ []
no_length [] e = refl
no_length (x ∷ xs) e = absurd (omega arith)

far : (done place : ℕ) → nat_eq place (done + 1) ≡ false → nat_le place done ≡ false → done + 1 < place
far done place e l = grind arith

receiver_at : (o : Option Member) (to : ℕ) → (elim o [ None ↦ None | Some m ↦ Some m.node ]) ≡ Some to → (m : Member) × (o ≡ Some m) × (m.node ≡ to)
receiver_at None to e = cc
receiver_at (Some m) to e = (m, refl, cc)

pub asks_for_says : (c : CoreState) (req : ℕ) → asks_for c req ≡ true → (0 < length c.queue) × (req ≡ c.passed + 1) × (c.spreading ≡ None)
asks_for_says c req e =
    let both = and_true (nat_lt 0 (length c.queue) && nat_eq req (c.passed + 1)) (is_none c.spreading) e in
    let first = and_true (nat_lt 0 (length c.queue)) (nat_eq req (c.passed + 1)) both.0 in
    (lt_true 0 (length c.queue) first.0, eq_true req (c.passed + 1) first.1, none_true c.spreading both.1)

pub has_left_says : (c : CoreState) (req : ℕ) → has_left c req ≡ true → (0 < req) × (req ≤ c.passed)
has_left_says c req e =
    let both = and_true (nat_lt 0 req) (nat_le req c.passed) e in
    (lt_true 0 req both.0, le_true req c.passed both.1)

held_by : (o : Option Lock) (from req : ℕ) → (elim o [ None ↦ false | Some l ↦ nat_eq l.node from && nat_eq l.req req ]) ≡ true → (l : Lock) × (o ≡ Some l) × (l.node ≡ from) × (l.req ≡ req)
held_by None from req e = cc
held_by (Some l) from req e =
    let both = and_true (nat_eq l.node from) (nat_eq l.req req) e in
    (l, refl, eq_true l.node from both.0, eq_true l.req req both.1)

pub is_held_says : (c : CoreState) (from req : ℕ) → is_held c from req ≡ true → (l : Lock) × (c.lock ≡ Some l) × (l.node ≡ from) × (l.req ≡ req)
is_held_says c from req e = held_by c.lock from req e

awaited_by : (o : Option ℕ) (from : ℕ) → (elim o [ None ↦ false | Some to ↦ nat_eq to from ]) ≡ true → o ≡ Some from
awaited_by None from e = cc
awaited_by (Some to) from e = let same : to ≡ from = eq_true to from e in cc

pub awaits_says : (c : CoreState) (s : Spreading) (from : ℕ) → awaits c s from ≡ true → receiver c s.at ≡ Some from
awaits_says c s from e = awaited_by (receiver c s.at) from e

-- A receiver is the member at that index of the spreading order.
pub receiver_says : (c : CoreState) (at to : ℕ) → receiver c at ≡ Some to → (m : Member) × (slice_get (spread_of c.members) at ≡ Some m) × (m.node ≡ to)
receiver_says c at to e = receiver_at (slice_get (spread_of c.members) at) to e

pub opened_cases : (P : CoreState × Decision → Type 0) (c : CoreState) (settled : Option ℕ)
    → (c.queue ≡ [] → P (record c { is_open = true }, Nothing))
    → (0 < length c.queue → settled ≡ None → P (record c { is_open = true }, Ask (c.passed + 1)))
    → (0 < length c.queue → (place : ℕ) → settled ≡ Some place → P (finished (record c { is_open = true }) place))
    → P (opened c settled)
opened_cases P c settled idle asks finishes =
    if_cases P (nat_eq (length c.queue) 0) _ _ (λ e. idle (no_length c.queue (eq_true (length c.queue) 0 e))) (λ e.
    let some : 0 < length c.queue = let not_none : length c.queue ≢ 0 = eq_false (length c.queue) 0 e in omega arith in
    option_cases P settled (record c { is_open = true }, Ask (c.passed + 1)) (λ place. finished (record c { is_open = true }) place) (asks some) (finishes some)
    )

pub asked_cases : (P : Decision → Type 0) (c : CoreState) (from req done : ℕ)
    → P Nothing
    → (c.is_open ≡ true → locks c ≡ true → c.lock ≡ None → greatest_of c from < req → done < last_place → P (Write from req))
    → (c.is_open ≡ true → locks c ≡ true → (l : Lock) → c.lock ≡ Some l → l.node ≡ from → l.req ≡ req → P (Grant from req l.place))
    → P (asked c from req done)
asked_cases P c from req done nothing writes grants =
    if_cases P (c.is_open && locks c) _ _ (λ e.
    let at = and_true c.is_open (locks c) e in
    option_cases P c.lock (cond (nat_lt (greatest_of c from) req && nat_lt done last_place) (Write from req) Nothing) (λ l. cond (nat_eq l.node from && nat_eq l.req req) (Grant from req l.place) Nothing) (λ free.
    if_cases P (nat_lt (greatest_of c from) req && nat_lt done last_place) _ _ (λ g.
    let both = and_true (nat_lt (greatest_of c from) req) (nat_lt done last_place) g in
    writes at.0 at.1 free (lt_true (greatest_of c from) req both.0) (lt_true done last_place both.1)
    ) (λ g. nothing)
    ) (λ l held.
    if_cases P (nat_eq l.node from && nat_eq l.req req) _ _ (λ h.
    let both = and_true (nat_eq l.node from) (nat_eq l.req req) h in
    grants at.0 at.1 l held (eq_true l.node from both.0) (eq_true l.req req both.1)
    ) (λ h. nothing)
    )
    ) (λ e. nothing)

pub spread_cases : (P : CoreState × Decision → Type 0) (c : CoreState) (place at : ℕ)
    → (receiver c at ≡ None → P (finished c place))
    → ((to : ℕ) → receiver c at ≡ Some to → P (record c { spreading = Some (record { place = place; at = at }) }, Spread to place))
    → P (spread c place at)
spread_cases P c place at last next =
    option_cases P (receiver c at) (finished c place) (λ to. (record c { spreading = Some (record { place = place; at = at }) }, Spread to place)) last next

pub granted_cases : (P : CoreState × Decision → Type 0) (c : CoreState) (req place : ℕ)
    → P (c, Nothing)
    → (c.is_open ≡ true → 0 < length c.queue → req ≡ c.passed + 1 → c.spreading ≡ None → P (spread c place 0))
    → (c.is_open ≡ true → 0 < req → req ≤ c.passed → P (c, ReleaseAgain req))
    → P (granted c req place)
granted_cases P c req place nothing spreads again =
    if_cases P (c.is_open && asks_for c req) _ _ (λ e.
    let both = and_true c.is_open (asks_for c req) e in
    let head = asks_for_says c req both.1 in
    spreads both.0 head.0 head.1 head.2
    ) (λ e.
    let Q : Decision → Type 0 = λ d. P (c, d) in
    if_cases Q (c.is_open && has_left c req) _ _ (λ h.
    let both = and_true c.is_open (has_left c req) h in
    let left = has_left_says c req both.1 in
    again both.0 left.0 left.1
    ) (λ h. nothing)
    )

pub applying_cases : (P : Decision → Type 0) (done place : ℕ)
    → (place ≡ done + 1 → P Take)
    → (place ≤ done → P Again)
    → (done + 1 < place → P Nothing)
    → P (applying done place)
applying_cases P done place takes again early =
    if_cases P (nat_eq place (done + 1)) _ _ (λ e. takes (eq_true place (done + 1) e)) (λ e.
    if_cases P (nat_le place done) _ _ (λ l. again (le_true place done l)) (λ l. early (far done place e l))
    )

pub applied_cases : (P : CoreState × Decision → Type 0) (c : CoreState) (from place : ℕ)
    → P (c, Nothing)
    → ((s : Spreading) → c.spreading ≡ Some s → s.place ≡ place → receiver c s.at ≡ Some from → P (spread c place (s.at + 1)))
    → P (applied c from place)
applied_cases P c from place nothing next =
    option_cases P c.spreading (c, Nothing) (λ s. cond (nat_eq s.place place && awaits c s from) (spread c place (s.at + 1)) (c, Nothing)) (λ none. nothing) (λ s spreads.
    if_cases P (nat_eq s.place place && awaits c s from) _ _ (λ e.
    let both = and_true (nat_eq s.place place) (awaits c s from) e in
    next s spreads (eq_true s.place place both.0) (awaits_says c s from both.1)
    ) (λ e. nothing)
    )

pub released_cases : (P : CoreState × Decision → Type 0) (c : CoreState) (from req : ℕ)
    → P (c, Nothing)
    → (locks c ≡ true → (l : Lock) → c.lock ≡ Some l → l.node ≡ from → l.req ≡ req → P (record c { lock = None }, Free))
    → P (released c from req)
released_cases P c from req nothing frees =
    if_cases P (locks c && is_held c from req) _ _ (λ e.
    let both = and_true (locks c) (is_held c from req) e in
    let held = is_held_says c from req both.1 in
    frees both.0 held.0 held.1 held.2 held.3
    ) (λ e. nothing)

pub ticked_cases : (P : Decision → Type 0) (c : CoreState)
    → P Nothing
    → (c.is_open ≡ true → 0 < length c.queue → c.spreading ≡ None → P (Ask (c.passed + 1)))
    → (c.is_open ≡ true → 0 < length c.queue → (s : Spreading) → c.spreading ≡ Some s → (to : ℕ) → receiver c s.at ≡ Some to → P (Spread to s.place))
    → P (ticked c)
ticked_cases P c nothing asks spreads =
    if_cases P (c.is_open && nat_lt 0 (length c.queue)) _ _ (λ e.
    let both = and_true c.is_open (nat_lt 0 (length c.queue)) e in
    let some : 0 < length c.queue = lt_true 0 (length c.queue) both.1 in
    option_cases P c.spreading (Ask (c.passed + 1)) (λ s. elim (receiver c s.at) [ None ↦ Nothing | Some to ↦ Spread to s.place ]) (asks both.0 some) (λ s at.
    option_cases P (receiver c s.at) Nothing (λ to. Spread to s.place) (λ none. nothing) (λ to there. spreads both.0 some s at to there)
    )
    ) (λ e. nothing)
