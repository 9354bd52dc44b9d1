-- What the rules of Global Update do to a node's queue: its head leaves exactly where it is acknowledged.
use Rattle.std.proofs.Common.{◌≡◌, ℕ, ◌+◌, ◌<◌, Bool, true, false, not, ◌&&◌, List, [], ◌∷◌, ◌++◌, length, drop, Option, Some, None, nat_eq, nat_lt, if◌then◌else◌, refl, sym, ap, ◌∙◌, subst, arith}
use Rattle.gum_messages.specs.declared.body.Body.{Body}
use Rattle.gum_messages.specs.declared.body.Body.TheVariants.{Granted}
use Rattle.gum_messages.specs.declared.member.Member.{Member}
use Rattle.gum_core.specs.declared.decision.Decision.{Decision}
use Rattle.gum_core.specs.declared.decision.Decision.TheVariants as decision
use Rattle.gum_core.specs.declared.spreading.Spreading.{Spreading}
use Rattle.gum_core.specs.Updating.{CoreState}
use Rattle.gum_core.specs.Updating as updating
use Rattle.update_records.specs.Entry.{Entry}
use Rattle.update_records.specs.declared.update.Update.{Update}
use Rattle.cluster_rules.specs.Machines.{Machine}
use Rattle.cluster_rules.specs.declared.effect.Effect.{Effect}
use Rattle.cluster_rules.specs.declared.effect.Effect.TheVariants.{Acked}
use Rattle.cluster_rules.specs.declared.effect.HaltCause.{HaltCause}
use Rattle.cluster_rules.specs.declared.effect.HaltCause.TheVariants as halt
use Rattle.cluster_rules.specs.Nodes.{NodeState, Out, becomes, halts, nothing, number_of, tells, to_each}
use Rattle.cluster_rules.specs.Updates.{Answer, InDoubt, Logged, Unwritten, Written, answers, applied, applies, begins, grants, has_logged, on_applied, on_apply, on_ask, on_granted, on_release, opens, proceeds, unlogged, without_head, writes}
use Rattle.cluster_rules.specs.Worlds.{acked}
use Rattle.view_reconcile.specs.Joining as joining
use Rattle.cluster_node.specs.Explained.{told_to_clients}
use Rattle.cluster_node.proofs.ForClients.{asks_none, none_acked, told_acks}

-- A record spreads only for a head.
abbrev pub Headed : CoreState → Type 0
Headed c = (s : Spreading) → c.spreading ≡ Some s → 0 < length c.queue

pub record Same (c d : CoreState) : Type 0 where
  pub passed : d.passed ≡ c.passed
  pub queue : d.queue ≡ c.queue

-- The head has left.
pub record Popped (c d : CoreState) : Type 0 where
  pub had : 0 < length c.queue
  pub passed : d.passed ≡ c.passed + 1
  pub queue : d.queue ≡ drop 1 c.queue

abbrev pub Moves : CoreState → List (ℕ × ℕ) → CoreState → Type 0
Moves c [] d = Same c d
Moves c (ack ∷ acks) d = Popped c d × (acks ≡ [])

-- A decision, with what is kept behind it.
abbrev Steps : CoreState → CoreState → Decision → Type 0
Steps c d (decision.Finish req place next) = Popped c d × Headed d
Steps c d other = Same c d × Headed d

abbrev StepsTo : CoreState → CoreState × Decision → Type 0
StepsTo c r = Steps c r.0 r.1

same : (c : CoreState) → Same c c
same c = record { passed = refl; queue = refl }

below : (n : ℕ) → nat_lt 0 n ≡ true → 0 < n
below n is = grind arith

above : (n : ℕ) → nat_eq n 0 ≡ false → 0 < n
above n is = grind arith

front_true : (a b : Bool) → (a && b) ≡ true → a ≡ true
front_true true b is = refl
front_true false b is = absurd (cc)

back_true : (a b : Bool) → (a && b) ≡ true → b ≡ true
back_true true b is = is
back_true false b is = absurd (cc)

-- ---- decisions

finished_steps : (c : CoreState) (place : ℕ) → 0 < length c.queue → StepsTo c (updating.finished c place)
finished_steps c place lt = (record { had = lt; passed = refl; queue = refl }, λ s e. absurd (cc))

spread_by : (c : CoreState) (place at : ℕ) (to : Option ℕ) → 0 < length c.queue
    → StepsTo c (elim to [ None ↦ updating.finished c place | Some n ↦ (record c { spreading = Some (record { place = place; at = at }) }, decision.Spread n place) ])
spread_by c place at None lt = finished_steps c place lt
spread_by c place at (Some n) lt = (record { passed = refl; queue = refl }, λ s e. lt)

spread_steps : (c : CoreState) (place at : ℕ) → 0 < length c.queue → StepsTo c (updating.spread c place at)
spread_steps c place at lt = spread_by c place at (updating.receiver c at) lt

granted_by : (c : CoreState) (req place : ℕ) (asks left : Bool) → (asks ≡ true → 0 < length c.queue) → Headed c
    → StepsTo c (if asks then updating.spread c place 0 else (c, if left then decision.ReleaseAgain req else decision.Nothing))
granted_by c req place true left lt h = spread_steps c place 0 (lt refl)
granted_by c req place false true lt h = (same c, h)
granted_by c req place false false lt h = (same c, h)

granted_steps : (c : CoreState) (req place : ℕ) → Headed c → StepsTo c (updating.granted c req place)
granted_steps c req place h = granted_by c req place (c.is_open && updating.asks_for c req) (c.is_open && updating.has_left c req)
    (λ is. below (length c.queue) (front_true _ _ (front_true _ _ (back_true c.is_open _ is)))) h

waited : (c : CoreState) (place at : ℕ) (awaits : Bool) → 0 < length c.queue → Headed c → StepsTo c (if awaits then updating.spread c place at else (c, decision.Nothing))
waited c place at true lt h = spread_steps c place at lt
waited c place at false lt h = (same c, h)

applied_by : (c : CoreState) (from place : ℕ) (spreading : Option Spreading) → c.spreading ≡ spreading → Headed c
    → StepsTo c (elim spreading [ None ↦ (c, decision.Nothing) | Some s ↦ if nat_eq s.place place && updating.awaits c s from then updating.spread c place (s.at + 1) else (c, decision.Nothing) ])
applied_by c from place None is h = (same c, h)
applied_by c from place (Some s) is h = waited c place (s.at + 1) (nat_eq s.place place && updating.awaits c s from) (h s is) h

applied_steps : (c : CoreState) (from place : ℕ) → Headed c → StepsTo c (updating.applied c from place)
applied_steps c from place h = applied_by c from place c.spreading refl h

settled_steps : (c : CoreState) (settled : Option ℕ) → 0 < length c.queue → Headed c
    → StepsTo c (elim settled [ None ↦ (record c { is_open = true }, decision.Ask (c.passed + 1)) | Some place ↦ updating.finished (record c { is_open = true }) place ])
settled_steps c None lt h = (record { passed = refl; queue = refl }, h)
settled_steps c (Some place) lt h = (record { had = lt; passed = refl; queue = refl }, λ s e. absurd (cc))

opened_by : (c : CoreState) (settled : Option ℕ) (empty : Bool) → (empty ≡ false → 0 < length c.queue) → Headed c
    → StepsTo c (if empty then (record c { is_open = true }, decision.Nothing)
    else elim settled [ None ↦ (record c { is_open = true }, decision.Ask (c.passed + 1)) | Some place ↦ updating.finished (record c { is_open = true }) place ])
opened_by c settled true lt h = (record { passed = refl; queue = refl }, h)
opened_by c settled false lt h = settled_steps c settled (lt refl) h

opened_steps : (c : CoreState) (settled : Option ℕ) → Headed c → StepsTo c (updating.opened c settled)
opened_steps c settled h = opened_by c settled (nat_eq (length c.queue) 0) (above (length c.queue)) h

abbrev released_if : CoreState → Bool → CoreState × Decision
released_if c frees = if frees then (record c { lock = None }, decision.Free) else (c, decision.Nothing)

released_by : (c : CoreState) (frees : Bool) → Headed c → Same c (released_if c frees).0 × Headed (released_if c frees).0
released_by c true h = (record { passed = refl; queue = refl }, h)
released_by c false h = (same c, h)

-- ---- what a node does

module _ {M : Machine} where
  pub record Turn (c : CoreState) (o : Out M) : Type 0 where
    pub moves : (y : NodeState M) → o.node ≡ Some y → Moves c (acked o.effects) y.core
    pub headed : (y : NodeState M) → o.node ≡ Some y → Headed y.core
    -- clients are told the acknowledgements alone
    pub clients : told_to_clients o.effects ≡ told_acks (acked o.effects)

  turns : (c : CoreState) (y : NodeState M) (es : List Effect) (outcome : Option M.Outcome) → Moves c (acked es) y.core → Headed y.core
      → told_to_clients es ≡ told_acks (acked es) → Turn c (record { node = Some y; effects = es; outcome = outcome })
  turns c y es outcome m h told = record {
    moves = λ z e. let is : y ≡ z = cc in subst (λ (t : NodeState M). Moves c (acked es) t.core) is m;
    headed = λ z e. let is : y ≡ z = cc in subst (λ (t : NodeState M). Headed t.core) is h;
    clients = told;
  }

  pub quiet : (c : CoreState) (y : NodeState M) (es : List Effect) → told_to_clients es ≡ [] → Same c y.core → Headed y.core → Turn c (becomes y es)
  quiet c y es none kept h =
      let acks = sym (none_acked es none) in turns c y es None (subst (λ (acks : List (ℕ × ℕ)). Moves c acks y.core) acks kept) h (none ∙ ap told_acks acks)

  -- the queue isn't touched, and nothing is acknowledged
  pub still : (y : NodeState M) (es : List Effect) → told_to_clients es ≡ [] → Headed y.core → Turn y.core (becomes y es)
  still y es none h = quiet y.core y es none (same y.core) h

  -- the head leaves
  leaves : (c : CoreState) (y : NodeState M) (view place : ℕ) (es : List Effect) (outcome : Option M.Outcome) → told_to_clients es ≡ [] → Popped c y.core → Headed y.core
      → Turn c (record { node = Some y; effects = Acked view place ∷ es; outcome = outcome })
  leaves c y view place es outcome none popped h =
      let acks = none_acked es none in
      turns c y (Acked view place ∷ es) outcome (popped, acks) h (ap (λ (t : List Effect). Acked view place ∷ t) (none ∙ ap told_acks (sym acks)))

  pub halted : (c : CoreState) (cause : HaltCause) → Turn c (halts cause)
  halted c cause = record { moves = λ y e. absurd (cc); headed = λ y e. absurd (cc); clients = refl }

  pub no_tells : (x : NodeState M) (b : Body) (ms : List Member) (es : List Effect) → told_to_clients (to_each x b ms ++ es) ≡ told_to_clients es
  no_tells x b [] es = refl
  no_tells x b (m ∷ ms) es = no_tells x b ms es

  pub no_acks : (x : NodeState M) (b : Body) (ms : List Member) (es : List Effect) → acked (to_each x b ms ++ es) ≡ acked es
  no_acks x b [] es = refl
  no_acks x b (m ∷ ms) es = no_acks x b ms es

  proceeds_turn : (x : NodeState M) (e : Entry) (c : CoreState) (d : Decision) → Headed x.core → Steps x.core c d → Turn x.core (proceeds x e (c, d))
  proceeds_turn x e c (decision.Spread to place) h steps = quiet x.core _ _ refl steps.0 steps.1
  proceeds_turn x e c (decision.Finish req place next) h steps = leaves x.core (without_head x c) _ _ _ x.outcome (asks_none (without_head x c) next) steps.0 steps.1
  proceeds_turn x e c (decision.ReleaseAgain req) h steps = still x _ refl h
  proceeds_turn x e c decision.Nothing h steps = still x [] refl h
  proceeds_turn x e c (decision.Ask req) h steps = still x [] refl h
  proceeds_turn x e c (decision.Write from req) h steps = still x [] refl h
  proceeds_turn x e c (decision.Grant to req place) h steps = still x [] refl h
  proceeds_turn x e c decision.Free h steps = still x [] refl h
  proceeds_turn x e c decision.Take h steps = still x [] refl h
  proceeds_turn x e c decision.Again h steps = still x [] refl h

  begins_turn : (x : NodeState M) (c : CoreState) (d : Decision) → Steps x.core c d → Turn x.core (begins x (c, d))
  begins_turn x c (decision.Ask req) steps = quiet x.core (record x { core = c }) _ (asks_none (record x { core = c }) (Some req)) steps.0 steps.1
  begins_turn x c (decision.Finish req place next) steps = leaves x.core (without_head x c) _ _ _ x.outcome (asks_none (without_head x c) next) steps.0 steps.1
  begins_turn x c (decision.Spread to place) steps = quiet x.core (record x { core = c }) [] refl steps.0 steps.1
  begins_turn x c (decision.ReleaseAgain req) steps = quiet x.core (record x { core = c }) [] refl steps.0 steps.1
  begins_turn x c decision.Nothing steps = quiet x.core (record x { core = c }) [] refl steps.0 steps.1
  begins_turn x c (decision.Write from req) steps = quiet x.core (record x { core = c }) [] refl steps.0 steps.1
  begins_turn x c (decision.Grant to req place) steps = quiet x.core (record x { core = c }) [] refl steps.0 steps.1
  begins_turn x c decision.Free steps = quiet x.core (record x { core = c }) [] refl steps.0 steps.1
  begins_turn x c decision.Take steps = quiet x.core (record x { core = c }) [] refl steps.0 steps.1
  begins_turn x c decision.Again steps = quiet x.core (record x { core = c }) [] refl steps.0 steps.1

  pub begins_opened : (x : NodeState M) → Headed x.core → Turn x.core (begins x (updating.opened x.core x.settled))
  begins_opened x h = begins_turn x (updating.opened x.core x.settled).0 (updating.opened x.core x.settled).1 (opened_steps x.core x.settled h)

  pub opens_turn : (x : NodeState M) → Headed x.core → Turn x.core (opens x)
  opens_turn x h = let t = begins_opened x h in record { moves = t.moves; headed = t.headed; clients = t.clients }

  -- ---- an Ask

  grants_by : (x : NodeState M) (to : ℕ) (last : Option Entry) → Headed x.core → Turn x.core (elim last [ None ↦ nothing x | Some e ↦ tells x to (Granted e) ])
  grants_by x to None h = still x [] refl h
  grants_by x to (Some e) h = still x _ refl h

  abbrev written_by : NodeState M → Entry → ℕ → Bool → Answer → Logged M
  written_by x e held fenced answer =
      if fenced then unlogged (halts (halt.Fenced held))
      else elim answer [
        | Written ↦ record { out = tells (has_logged x e) e.id.node (Granted e); appended = Some e; doubtful = None }
        | InDoubt ↦ record { out = halts halt.Disk; appended = None; doubtful = Some e }
        | Unwritten ↦ unlogged (halts halt.Disk)
      ]

  writes_by : (x : NodeState M) (e : Entry) (held : ℕ) (fenced : Bool) (answer : Answer) → Headed x.core → Turn x.core (written_by x e held fenced answer).out
  writes_by x e held true answer h = halted x.core (halt.Fenced held)
  writes_by x e held false Written h = quiet x.core (has_logged x e) _ refl (record { passed = refl; queue = refl }) h
  writes_by x e held false InDoubt h = halted x.core halt.Disk
  writes_by x e held false Unwritten h = halted x.core halt.Disk

  answers_turn : (x : NodeState M) (update : Update) (held : ℕ) (answer : Answer) (d : Decision) → Headed x.core → Turn x.core (answers x update held answer d).out
  answers_turn x update held answer (decision.Write from req) h = writes_by x _ held (nat_lt (number_of x) held) answer h
  answers_turn x update held answer (decision.Grant to req place) h = grants_by x to x.last h
  answers_turn x update held answer (decision.Spread to place) h = still x [] refl h
  answers_turn x update held answer (decision.Finish req place next) h = still x [] refl h
  answers_turn x update held answer (decision.ReleaseAgain req) h = still x [] refl h
  answers_turn x update held answer decision.Nothing h = still x [] refl h
  answers_turn x update held answer (decision.Ask req) h = still x [] refl h
  answers_turn x update held answer decision.Free h = still x [] refl h
  answers_turn x update held answer decision.Take h = still x [] refl h
  answers_turn x update held answer decision.Again h = still x [] refl h

  pub ask_turn : (x : NodeState M) (from req : ℕ) (update : Update) (held : ℕ) (answer : Answer) → Headed x.core → Turn x.core (on_ask x from req update held answer).out
  ask_turn x from req update held answer h = answers_turn x update held answer _ h

  -- ---- the other messages of Global Update

  pub granted_turn : (x : NodeState M) (e : Entry) → Headed x.core → Turn x.core (on_granted x e)
  granted_turn x e h = proceeds_turn x e (updating.granted x.core e.id.req e.place).0 (updating.granted x.core e.id.req e.place).1 h (granted_steps x.core e.id.req e.place h)

  applied_turn_by : (x : NodeState M) (from place : ℕ) (spreads : Option Entry) → Headed x.core
      → Turn x.core (elim spreads [ None ↦ nothing x | Some e ↦ proceeds x e (updating.applied x.core from place) ])
  applied_turn_by x from place None h = still x [] refl h
  applied_turn_by x from place (Some e) h =
      proceeds_turn x e (updating.applied x.core from place).0 (updating.applied x.core from place).1 h (applied_steps x.core from place h)

  pub applied_turn : (x : NodeState M) (from place : ℕ) → Headed x.core → Turn x.core (on_applied x from place)
  applied_turn x from place h = applied_turn_by x from place x.spreads h

  applies_turn : (x : NodeState M) (from : ℕ) (e : Entry) (d : Decision) → Headed x.core → Turn x.core (applies x from e d)
  applies_turn x from e decision.Take h = still (applied e x) _ refl h
  applies_turn x from e decision.Again h = still x _ refl h
  applies_turn x from e (decision.Write f req) h = still x [] refl h
  applies_turn x from e (decision.Grant to req place) h = still x [] refl h
  applies_turn x from e (decision.Spread to place) h = still x [] refl h
  applies_turn x from e (decision.Finish req place next) h = still x [] refl h
  applies_turn x from e (decision.ReleaseAgain req) h = still x [] refl h
  applies_turn x from e decision.Nothing h = still x [] refl h
  applies_turn x from e (decision.Ask req) h = still x [] refl h
  applies_turn x from e decision.Free h = still x [] refl h

  apply_by : (x : NodeState M) (from : ℕ) (e : Entry) (d : Decision) (ready : Bool) → Headed x.core → Turn x.core (if ready then applies x from e d else nothing x)
  apply_by x from e d true h = applies_turn x from e d h
  apply_by x from e d false h = still x [] refl h

  pub apply_turn : (x : NodeState M) (from : ℕ) (e : Entry) → Headed x.core → Turn x.core (on_apply x from e)
  apply_turn x from e h = apply_by x from e _ (joining.is_ready x.join && not (joining.locks x.join)) h

  pub release_turn : (x : NodeState M) (from req : ℕ) → Headed x.core → Turn x.core (on_release x from req)
  release_turn x from req h =
      let kept = released_by x.core (updating.locks x.core && updating.is_held x.core from req) h in
      quiet x.core (record x { core = (updating.released x.core from req).0 }) [] refl kept.0 kept.1
