-- Each message that is heard leaves less to hear.
use Rattle.std.proofs.Common.{◌≡◌, ℕ, ◌+◌, ◌*◌, ◌-◌, ◌<◌, ◌≤◌, Bool, true, false, ◌&&◌, List, [], ◌∷◌, ◌++◌, Option, Some, None, nat_lt, if◌then◌else◌, refl, sym, ap, ◌∙◌, subst, arith}
use Rattle.update_records.specs.Entry.{Entry}
use Rattle.update_records.specs.declared.update.Update.{Update}
use Rattle.gum_messages.specs.declared.body.Body.TheVariants.{Ask, Granted, Release}
use Rattle.gum_messages.specs.Messages.{Sent}
use Rattle.gum_core.specs.declared.decision.Decision.{Decision}
use Rattle.gum_core.specs.declared.decision.Decision.TheVariants as decision
use Rattle.gum_core.specs.Updating.{CoreState, is_held, locks}
use Rattle.gum_core.specs.Updating as updating
use Rattle.cluster_rules.specs.declared.effect.Effect.{Effect}
use Rattle.cluster_rules.specs.Nodes.{Out, done_of, nothing, number_of, tells}
use Rattle.cluster_rules.specs.Updates.{Answer, InDoubt, Logged, Unwritten, Written, answers, entry_for, may_submit, submits, unlogged}
use Rattle.cluster_rules.specs.Receiving.{counts, hears, receive}
use Rattle.cluster_rules.specs.Worlds.{acked, sent}
use Rattle.registry_machine.specs.Machine.{registry_machine}
use Rattle.client_connections.specs.Clients.{Clients}
use Rattle.client_connections.specs.Items.{most_taken}
use Rattle.client_connections.specs.declared.origin.Origin.{Origin}
use Rattle.single_rules.specs.Single.{IsSound, Single, ask, grant, granting, release, releasing}
use Rattle.single_rules.proofs.Events.{finishes_one}
use Rattle.single_items.specs.Alone.{AloneRun}
use Rattle.single_items.specs.Events.{FollowsAcks, GoesFurther, MessageComes, submitted_if}
use Rattle.single_items.specs.Standing.{Asked, Calm, Granting, NodeAlone, StandsAt, Stuck, Way, clients_of, left_on, node_on, queued_on, waiting_on}
use Rattle.single_items.proofs.Hearing.{on_first, sound_now}
use Rattle.single_node.specs.Standing.{weight, weights, work}
use Rattle.single_node.proofs.Going.{State, writes_if}

pub weights_both : (ps qs : List Sent) → weights (ps ++ qs) ≡ weights ps + weights qs
weights_both [] qs = omega arith
weights_both (p ∷ ps) qs = let more = weights_both ps qs in omega (arith, more)

-- ---- an Ask, and a Release: nothing is acknowledged, and little is sent

pub record IsLight (most : ℕ) (x : State) (o : Out registry_machine) : Type 0 where
  pub acks : acked o.effects ≡ []
  pub passed : (y : State) → o.node ≡ Some y → y.core.passed ≡ x.core.passed
  pub weighs : weights (sent o.effects) ≤ most

passed_by : (x z : State) → z.core.passed ≡ x.core.passed → (y : State) → Some z ≡ Some y → y.core.passed ≡ x.core.passed
passed_by x z same y e = let is : z ≡ y = cc in ap (λ (n : State). n.core.passed) (sym is) ∙ same

still : (most : ℕ) (x : State) → IsLight most x (nothing x)
still most x = record { acks = refl; passed = passed_by x x refl; weighs = omega arith }

stops : (most : ℕ) (x : State) (es : List Effect) → acked es ≡ [] → sent es ≡ [] → IsLight most x (record { node = None; effects = es; outcome = None })
stops most x es acks quiet = record {
  acks = acks;
  passed = λ y e. let no : ◌≡◌ {A = Option State} None (Some y) = e in absurd (cc);
  weighs = let none : weights (sent es) ≡ 0 = ap weights quiet in omega (arith, none);
}

granted_to : (last : Option Entry) (x : State) (to : ℕ) → IsLight 2 x (elim last [ None ↦ nothing x | Some e ↦ tells x to (Granted e) ])
granted_to None x to = still 2 x
granted_to (Some e) x to = record { acks = refl; passed = passed_by x x refl; weighs = omega arith }

written_light : (fenced : Bool) (x : State) (e : Entry) (held : ℕ) (answer : Answer) → IsLight 2 x (writes_if fenced x e held answer).out
written_light true x e held answer = stops 2 x (writes_if true x e held answer).out.effects refl refl
written_light false x e held Written = record { acks = refl; passed = passed_by x _ refl; weighs = omega arith }
written_light false x e held InDoubt = stops 2 x (writes_if false x e held InDoubt).out.effects refl refl
written_light false x e held Unwritten = stops 2 x (writes_if false x e held Unwritten).out.effects refl refl

answers_light : (x : State) (u : Update) (held : ℕ) (answer : Answer) (d : Decision) → IsLight 2 x (answers x u held answer d).out
answers_light x u held answer decision.Nothing = still 2 x
answers_light x u held answer (decision.Ask req) = still 2 x
answers_light x u held answer (decision.Write from req) = written_light (nat_lt (number_of x) held) x (entry_for x from req u) held answer
answers_light x u held answer (decision.Grant to req place) = granted_to x.last x to
answers_light x u held answer (decision.Spread to place) = still 2 x
answers_light x u held answer (decision.Finish req place next) = still 2 x
answers_light x u held answer decision.Free = still 2 x
answers_light x u held answer (decision.ReleaseAgain req) = still 2 x
answers_light x u held answer decision.Take = still 2 x
answers_light x u held answer decision.Again = still 2 x

ask_counted : (counted : Bool) (x : State) (from req : ℕ) (u : Update) (held : ℕ) (answer : Answer)
    → IsLight 2 x (let d : Logged registry_machine = if counted then hears x from (Ask req u) held answer else unlogged (nothing x) in d.out)
ask_counted true x from req u held answer = answers_light x u held answer (updating.asked x.core from req (done_of x))
ask_counted false x from req u held answer = still 2 x

pub ask_light : (x : State) (a : Single registry_machine) (u : Update) (held : ℕ) (answer : Answer) → IsLight 2 x (receive x (ask a u) held answer).out
ask_light x a u held answer = ask_counted (counts x (ask a u)) x a.node (a.passed + 1) u held answer

released_passed : (may : Bool) (c : CoreState) → (let r : CoreState × Decision = if may then (record c { lock = None }, decision.Free) else (c, decision.Nothing) in r.0.passed) ≡ c.passed
released_passed true c = refl
released_passed false c = refl

release_counted : (counted : Bool) (x : State) (from req held : ℕ) (answer : Answer)
    → IsLight 0 x (let d : Logged registry_machine = if counted then hears x from (Release req) held answer else unlogged (nothing x) in d.out)
release_counted true x from req held answer = record {
  acks = refl;
  passed = passed_by x _ (released_passed (locks x.core && is_held x.core from req) x.core);
  weighs = omega arith;
}
release_counted false x from req held answer = still 0 x

pub release_light : (x : State) (a : Single registry_machine) (held : ℕ) (answer : Answer) → IsLight 0 x (receive x (release a) held answer).out
release_light x a held answer = release_counted (counts x (release a)) x a.node (a.passed + 1) held answer

-- ---- what is left behind them

abbrev Falls : State → List Sent → State → List Sent → Type 0
Falls x ps y qs = 3 * (most_taken - y.core.passed) + weights qs < 3 * (most_taken - x.core.passed) + weights ps

less_left : (m before after most w heavy rest : ℕ) → after ≡ before → w ≤ most → most < heavy → 3 * (m - after) + (rest + w) < 3 * (m - before) + (heavy + rest)
less_left m before after most w heavy rest same few lighter =
    subst (λ (n : ℕ). 3 * (m - n) + (rest + w) < 3 * (m - before) + (heavy + rest)) (sym same) (omega arith)

falls_light : (most : ℕ) (x y : State) (p : Sent) (left : List Sent) (held : ℕ) (answer : Answer) (s t : Clients) (es : List Effect) → IsLight most x (receive x p held answer).out → most < weight p.body
    → MessageComes p held answer x s y t es → Falls x (p ∷ left) y (left ++ sent es)
falls_light most x y p left held answer s t es light lighter h =
    let o : Out registry_machine = (receive x p held answer).out in
    let f = subst (λ (acks : List (ℕ × ℕ)). FollowsAcks acks x.core.passed s o h.left y t es) light.acks h.follows in
    let same : y.core.passed ≡ x.core.passed = ap (λ (n : State). n.core.passed) f.0 ∙ light.passed h.left h.node in
    let all : weights (left ++ sent es) ≡ weights left + weights (sent o.effects) = ap (λ (l : List Effect). weights (left ++ sent l)) f.2 ∙ weights_both left (sent o.effects) in
    subst (λ (n : ℕ). 3 * (most_taken - y.core.passed) + n < 3 * (most_taken - x.core.passed) + weights (p ∷ left)) (sym all)
    (less_left most_taken x.core.passed y.core.passed most (weights (sent o.effects)) (weight p.body) (weights left) same light.weighs lighter)

-- ---- a Granted: one request more is finished

submits_passed : (may : Bool) (x y : State) (u : Update) → (let o : Out registry_machine = if may then submits x (updating.submitted x.core u) else nothing x in o.node) ≡ Some y → y.core.passed ≡ x.core.passed
submits_passed true x y u e = passed_by x _ refl y e
submits_passed false x y u e = passed_by x x refl y e

submitted_passed : (queued : Option Update) (x y : State) → (submitted_if queued x).node ≡ Some y → y.core.passed ≡ x.core.passed
submitted_passed None x y e = passed_by x x refl y e
submitted_passed (Some u) x y e = submits_passed (may_submit x) x y u e

further_passed : (resumes : Option ℕ) (x y : State) (s t : Clients) (es : List Effect) → GoesFurther resumes x s y t es → y.core.passed ≡ x.core.passed
further_passed None x y s t es h = ap (λ (n : State). n.core.passed) h.0
further_passed (Some c) x y s t es h = submitted_passed h.update x y h.node

weighs_on : (way : Way) (a : Single registry_machine) → weights (left_on way a) ≤ 4
weighs_on (Calm None) a = omega arith
weighs_on (Calm (Some l)) a = omega arith
weighs_on (Asked None origin u) a = omega arith
weighs_on (Asked (Some l) origin u) a = omega arith
weighs_on (Granting origin u) a = omega arith
weighs_on (Stuck head others origins) a = omega arith

less_granted : (m before after w : ℕ) → after ≡ before + 1 → before + 1 ≤ m → w ≤ 4 → 3 * (m - after) + w < 3 * (m - before) + 2
less_granted m before after w same room few = subst (λ (n : ℕ). 3 * (m - n) + w < 3 * (m - before) + 2) (sym same) (omega arith)

abbrev HeardBy : Logged registry_machine → ℕ → Clients → State → Clients → List Effect → Type 0
HeardBy d passed s y t es = (m : State) × (d.out.node ≡ Some m) × FollowsAcks (acked d.out.effects) passed s d.out m y t es

granted_passed : (a : Single registry_machine) (u : Update) (y : State) (held : ℕ) (answer : Answer) (s t : Clients) (es : List Effect) → IsSound a
    → MessageComes (grant a u) held answer (granting a u) s y t es → y.core.passed ≡ a.passed + 1
granted_passed a u y held answer s t es sound h =
    let k = subst (λ (d : Logged registry_machine). HeardBy d a.passed s y t es) (finishes_one a u held answer sound) (h.left, h.node, h.follows) in
    let there : k.0.core.passed ≡ a.passed + 1 = let is : releasing a u ≡ k.0 = (let e : Some (releasing a u) ≡ Some k.0 = k.1 in cc) in ap (λ (n : State). n.core.passed) (sym is) in
    further_passed _ k.0 y _ t k.2.0 k.2.1 ∙ there

-- ---- all of them

abbrev Falling : Way → Single registry_machine → State → Clients → Clients → List Effect → Sent → List Sent → ℕ → Answer → Type 0
Falling way a y s t es q rest held answer = MessageComes q held answer (node_on way a) s y t es → weights (rest ++ sent es) ≤ 4 → Falls (node_on way a) (q ∷ rest) y (rest ++ sent es)

falls_granted : (a : Single registry_machine) (origin : Origin) (u : Update) (y : State) (s t : Clients) (es : List Effect) (held : ℕ) (answer : Answer) → IsSound a → a.passed + 1 ≤ most_taken
    → Falling (Granting origin u) a y s t es (grant a u) [] held answer
falls_granted a origin u y s t es held answer sound room h few = less_granted most_taken a.passed y.core.passed (weights (sent es)) (granted_passed a u y held answer s t es sound h) room few

falls_on : (way : Way) (a : Single registry_machine) (y : State) (s t : Clients) (es : List Effect) (p : Sent) (left : List Sent) (held : ℕ) (answer : Answer) → IsSound a → a.passed + queued_on way ≤ most_taken
    → left_on way a ≡ p ∷ left → Falling way a y s t es p left held answer
falls_on (Calm None) a y s t es p left held answer sound room at = absurd (cc)
falls_on (Calm (Some l)) a y s t es p left held answer sound room at =
    on_first (λ q rest. Falling (Calm (Some l)) a y s t es q rest held answer) (release l.before) p [] left at
    (λ h few. falls_light 0 (node_on (Calm (Some l)) a) y (release l.before) [] held answer s t es (release_light (node_on (Calm (Some l)) a) l.before held answer) (omega arith) h)
falls_on (Asked None origin u) a y s t es p left held answer sound room at =
    on_first (λ q rest. Falling (Asked None origin u) a y s t es q rest held answer) (ask a u) p [] left at
    (λ h few. falls_light 2 (node_on (Asked None origin u) a) y (ask a u) [] held answer s t es (ask_light (node_on (Asked None origin u) a) a u held answer) (omega arith) h)
falls_on (Asked (Some l) origin u) a y s t es p left held answer sound room at =
    on_first (λ q rest. Falling (Asked (Some l) origin u) a y s t es q rest held answer) (release l.before) p (ask a u ∷ []) left at
    (λ h few. falls_light 0 (node_on (Asked (Some l) origin u) a) y (release l.before) (ask a u ∷ []) held answer s t es (release_light (node_on (Asked (Some l) origin u) a) l.before held answer) (omega arith) h)
falls_on (Granting origin u) a y s t es p left held answer sound room at =
    on_first (λ q rest. Falling (Granting origin u) a y s t es q rest held answer) (grant a u) p [] left at (falls_granted a origin u y s t es held answer sound room)
falls_on (Stuck head others origins) a y s t es p left held answer sound room at = absurd (cc)

-- An event leads from where the node stands to where it stands.
pub falls : (c : ℕ) (first : AloneRun) (stream behind : List ℕ) (z : NodeAlone) (output output2 : List ℕ) (records records2 : List Entry) → StandsAt c first stream z output records
    → (p : Sent) (left : List Sent) (held : ℕ) (answer : Answer) (y : State) (t : Clients) (es : List Effect) → z.left ≡ p ∷ left → MessageComes p held answer z.node z.clients y t es
    → StandsAt c first behind (record { node = y; clients = t; left = left ++ sent es }) output2 records2
    → work (record { node = y; clients = t; left = left ++ sent es }) < work z
falls c first stream behind z output output2 records records2 h p left held answer y t es at comes next =
    let a : Single registry_machine = h.phase.run.single in
    let way : Way = h.phase.way in
    let room : a.passed + queued_on way ≤ most_taken = let m = h.grown.requests in let n = h.grown.items in omega arith in
    let few : weights (left ++ sent es) ≤ 4 = subst (λ (x : NodeAlone). weights x.left ≤ 4) (sym next.is) (weighs_on next.phase.way next.phase.run.single) in
    let here = subst (λ (x : NodeAlone). MessageComes p held answer x.node x.clients y t es) h.is comes in
    let under : left_on way a ≡ p ∷ left = sym (ap (λ (x : NodeAlone). x.left) h.is) ∙ at in
    let less = falls_on way a y (clients_of c (waiting_on way) h.phase.run h.phase.intake) t es p left held answer (sound_now first h.phase.run (queued_on way) h.grown) room under here few in
    let same : 3 * (most_taken - (node_on way a).core.passed) + weights (p ∷ left) ≡ work z =
    ap (λ (l : List Sent). 3 * (most_taken - (node_on way a).core.passed) + weights l) (sym under) ∙ ap work (sym h.is) in
    subst (λ (n : ℕ). 3 * (most_taken - y.core.passed) + weights (left ++ sent es) < n) same less
