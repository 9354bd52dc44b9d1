-- Every run is explained.
use Rattle.std.proofs.Common.{◌≡◌, ◌≢◌, ◌⊎◌, inl, inr, ⊎_elim, ℕ, zero, suc, ◌≤◌, Bool, true, false, ◌&&◌, List, [], ◌∷◌, ◌++◌, length, Option, Some, None, Ok, nat_eq, if◌then◌else◌, slice_get, replicate, refl, sym, ap, ◌∙◌, subst, arith}
use Rattle.std.specs.Prelude.{unwrap_or}
use Rattle.std.specs.Option.{option_flatten}
use Rattle.gum_messages.specs.Messages.{Sent}
use Rattle.gum_messages.specs.Places.{at_place}
use Rattle.disk_core.specs.Views.{DiskView}
use Rattle.update_records.specs.Entry.{Entry}
use Rattle.update_records.specs.declared.update.Update.{Update}
use Rattle.cluster_rules.specs.Worlds.{World, opening, run}
use Rattle.cluster_laws.proofs.Theorem.{opening_holds}
use Rattle.registry_machine.specs.Machine.{registry_machine}
use Rattle.registry_machine.proofs.Instance.{is_machine}
use Rattle.cluster_node.specs.Explained.{AreRequests, Explained, Incarnation, IsExplained, IsStepBy, Step, first_state}
use Rattle.cluster_node.specs.States.{NodeValue}
use Rattle.cluster_worlds.specs.declared.event.Event.{Event}
use Rattle.cluster_worlds.specs.declared.event.Event.TheVariants as event
use Rattle.cluster_worlds.specs.declared.inner.Inner.TheVariants as inner
use Rattle.cluster_worlds.specs.declared.told.Told.{Told}
use Rattle.cluster_worlds.specs.Conditions.{IsEvent}
use Rattle.cluster_worlds.specs.Happening.{addressee, begun, served_at}
use Rattle.cluster_worlds.specs.Refusing.{refusal}
use Rattle.cluster_worlds.specs.Runs.{IsOpening, Steps}
use Rattle.cluster_worlds.specs.Worlds.{WorldState, home_of, node_at, starts_of}
use Rattle.world_laws.specs.Typed.{IsTypedEvent, RunsTyped}
use Rattle.world_laws.proofs.Happening.{Reaches}
use Rattle.world_laws.proofs.Orders.{grew}
use Rattle.world_laws.proofs.Quiet.{SameNow, mark_ties}
use Rattle.world_laws.proofs.Running.{IsReached, opening_reached, reached_good, steps_reach}
use Rattle.world_laws.proofs.Slots.{bare_of}
use Rattle.world_answers.specs.Histories.{clients_told, concerned, history, is_of, step_of, steps_at, steps_in}
use Rattle.world_answers.proofs.Changing.{over_run}
use Rattle.world_answers.proofs.Concerned.{Went}
use Rattle.world_answers.proofs.Events.{event_goes}
use Rattle.world_answers.proofs.Fates.{Acts, Fate, fate}
use Rattle.world_answers.proofs.Growing.{step_longer}
use Rattle.world_answers.proofs.Standing.{At, are_requests, begins_at, goes_at, others_at, stays_at}

-- ---- the disk is marked before an event

pub begun_at : (cap node inc : ℕ) (w : WorldState) (s : Incarnation) (d : DiskView) → SameNow w.disk d → At cap node inc w s → At cap node inc (begun d w) s
begun_at cap node inc w s d now h = record {
  world = h.world;
  good = h.good;
  ties = mark_ties cap (bare_of w) h.world d h.ties now;
  placed = record { nodes = h.placed.nodes; starts = h.placed.starts; slots = h.placed.slots };
  typed = record { incs = h.typed.incs; clients = h.typed.clients };
  incs = h.incs;
  requests = h.requests;
  stands = h.stands;
  unborn = h.unborn;
}

pub begun_refusal : (e : Event) (w : WorldState) (d : DiskView) → refusal e w ≡ None → refusal e (begun d w) ≡ None
begun_refusal (event.Start node) w d none = none
begun_refusal (event.Declare view) w d none = none
begun_refusal (event.Install node view) w d none = none
begun_refusal (event.Connect conn node) w d none = none
begun_refusal (event.Bytes conn piece) w d none = none
begun_refusal (event.HangUp conn) w d none = none
begun_refusal (event.Deliver number) w d none = none
begun_refusal (event.Tick node) w d none = none
begun_refusal (event.Checkpoint node) w d none = none
begun_refusal (event.Fail call) w d none = none
begun_refusal (event.Die node) w d none = none
begun_refusal (event.Clock node stamp) w d none = none
begun_refusal (event.Batch node update) w d none = none
begun_refusal (event.DieIn moment bytes (inner.Install node view)) w d none = none
begun_refusal (event.DieIn moment bytes (inner.Bytes conn piece)) w d none = none
begun_refusal (event.DieIn moment bytes (inner.HangUp conn)) w d none = none
begun_refusal (event.DieIn moment bytes (inner.Deliver number)) w d none = none
begun_refusal (event.DieIn moment bytes (inner.Tick node)) w d none = none
begun_refusal (event.DieIn moment bytes (inner.Checkpoint node)) w d none = none

begun_served : (conn : ℕ) (home : Option ℕ) (w : WorldState) (d : DiskView) → served_at conn home (begun d w) ≡ served_at conn home w
begun_served conn None w d = refl
begun_served conn (Some node) w d = refl

begun_addressee : (o : Option Sent) (w : WorldState) (d : DiskView) → addressee o (begun d w) ≡ addressee o w
begun_addressee None w d = refl
begun_addressee (Some message) w d = refl

pub begun_concerned : (e : Event) (w : WorldState) (d : DiskView) → concerned e (begun d w) ≡ concerned e w
begun_concerned (event.Start node) w d = refl
begun_concerned (event.Declare view) w d = refl
begun_concerned (event.Install node view) w d = refl
begun_concerned (event.Connect conn node) w d = refl
begun_concerned (event.Bytes conn piece) w d = begun_served conn (home_of conn w) w d
begun_concerned (event.HangUp conn) w d = begun_served conn (home_of conn w) w d
begun_concerned (event.Deliver number) w d = begun_addressee (at_place w.pool number) w d
begun_concerned (event.Tick node) w d = refl
begun_concerned (event.Checkpoint node) w d = refl
begun_concerned (event.Fail call) w d = refl
begun_concerned (event.Die node) w d = refl
begun_concerned (event.Clock node stamp) w d = refl
begun_concerned (event.Batch node update) w d = refl
begun_concerned (event.DieIn moment bytes (inner.Install node view)) w d = refl
begun_concerned (event.DieIn moment bytes (inner.Bytes conn piece)) w d = begun_served conn (home_of conn w) w d
begun_concerned (event.DieIn moment bytes (inner.HangUp conn)) w d = begun_served conn (home_of conn w) w d
begun_concerned (event.DieIn moment bytes (inner.Deliver number)) w d = begun_addressee (at_place w.pool number) w d
begun_concerned (event.DieIn moment bytes (inner.Tick node)) w d = refl
begun_concerned (event.DieIn moment bytes (inner.Checkpoint node)) w d = refl

-- ---- an event

-- It is no step of the incarnation, or one.
abbrev pub Takes : ℕ → List Entry → ℕ → ℕ → List Step → Incarnation → Incarnation → Type 0
Takes cap order node inc steps s u =
    ((steps ≡ []) × (u ≡ s)) ⊎ ((t : Step) × (steps ≡ t ∷ []) × (t.done ≤ length order) × IsStepBy t.input cap order node inc t s u)

pub record Leads (cap node inc : ℕ) (o : Option NodeValue) (e : Event) (told : List Told) (s : Incarnation) (u : WorldState) : Type 0 where
  pub state : Incarnation
  pub at : At cap node inc u state
  pub takes : Takes cap u.order node inc (steps_at node inc o (step_of e (clients_told told) (node_at node u))) s state

pub eq_self : (k : ℕ) → nat_eq k k ≡ true
eq_self k = grind arith

pub not_same : (j k : ℕ) → j ≢ k → nat_eq j k ≡ false
not_same j k apart = by (nat_eq j k) refl
  where
    same_number : (j k : ℕ) → nat_eq j k ≡ true → j ≡ k
    same_number j k e = grind arith

    by : (c : Bool) → nat_eq j k ≡ c → c ≡ false
    by true e = absurd (apart (same_number j k e))
    by false e = refl

pub none_of : (node inc : ℕ) (o : Option NodeValue) (t : Step) → ((m : NodeValue) → o ≡ Some m → is_of node inc m ≡ false) → steps_at node inc o t ≡ []
none_of node inc None t none = refl
none_of node inc (Some m) t none = ap (λ (c : Bool). if c then t ∷ [] else []) (none m refl)

pub one_of : (node inc : ℕ) (m : NodeValue) (t : Step) → m.number ≡ node → m.inc ≡ inc → steps_at node inc (Some m) t ≡ t ∷ []
one_of node inc m t number same =
    let a : nat_eq m.number node ≡ true = ap (λ (k : ℕ). nat_eq k node) number ∙ eq_self node in
    let b : nat_eq m.inc inc ≡ true = ap (λ (k : ℕ). nat_eq k inc) same ∙ eq_self inc in
    λ i. if a i && b i then t ∷ [] else []

pub and_false : (a : Bool) → (a && false) ≡ false
and_false true = refl
and_false false = refl

module _ (cap node inc : ℕ) (w u : WorldState) (s : Incarnation) (h : At cap node inc w s) (past : w.disk.past ≡ []) (e : Event) (told : List Told) (allowed : IsEvent e) (none : refusal e w ≡ None)
    (r : Reaches cap u h.world) where
  other : (m : NodeValue) → m.number ≢ node → is_of node inc m ≡ false
  other m apart = ap (λ (c : Bool). c && nat_eq m.inc inc) (not_same m.number node apart)

  unconcerned : ((m : NodeValue) → concerned e w ≡ Some m → is_of node inc m ≡ false) → At cap node inc u s → Leads cap node inc (concerned e w) e told s u
  unconcerned apart at = record { state = s; at = at; takes = inl (none_of node inc (concerned e w) (step_of e (clients_told told) (node_at node u)) apart, refl) }

  concerned_by : (f : Acts e node w u) → f.value.inc ≡ inc → Went cap h.world node inc s e told u → Leads cap node inc (concerned e w) e told s u
  concerned_by f same n =
      let t : Step = step_of e (clients_told told) (node_at node u) in
      record {
        state = n.state;
        at = goes_at cap node inc w u s h r e told f same n;
        takes = inr (t, ap (λ (o : Option NodeValue). steps_at node inc o t) f.concerns ∙ one_of node inc f.value t (h.placed.slots node f.value f.before).number same, n.within, n.step);
      }

  pub leads : Fate e node w u → (does : (nv : NodeValue) → concerned e w ≡ Some nv → node_at node w ≡ Some nv → nv.inc ≡ inc → Went cap h.world node inc s e told u) → Leads cap node inc (concerned e w) e told s u
  leads f does = elim f [
    | inl stays ↦ unconcerned (λ m at. other m (stays.apart m at)) (stays_at cap node inc w u s h r e stays)
    | inr more ↦ elim more [
      | inl begins ↦ unconcerned (λ m at. absurd (let n = begins.none in cc (n, at))) (begins_at cap node inc w u s h r e begins)
      | inr acts ↦ by acts (nat_eq acts.value.inc inc) refl
    ]
  ]
    where
      same_number : (j k : ℕ) → nat_eq j k ≡ true → j ≡ k
      same_number j k e = grind arith

      other_number : (j k : ℕ) → nat_eq j k ≡ false → j ≡ k → ⊥
      other_number j k e same = grind arith

      by : (acts : Acts e node w u) (c : Bool) → nat_eq acts.value.inc inc ≡ c → Leads cap node inc (concerned e w) e told s u
      by acts true is = let same = same_number acts.value.inc inc is in concerned_by acts same (does acts.value acts.concerns acts.before same)
      by acts false is =
          unconcerned
          (λ m at. let q : acts.value ≡ m = let c = acts.concerns in cc (c, at) in ap (λ (v : NodeValue). nat_eq v.number node && nat_eq v.inc inc) (sym q) ∙ ap (λ (c : Bool). nat_eq acts.value.number node && c) is ∙ and_false (nat_eq acts.value.number node))
          (others_at cap node inc w u s h r e acts (other_number acts.value.inc inc is))

pub event_leads : (cap node inc : ℕ) (w u : WorldState) (s : Incarnation) (e : Event) (told : List Told) → At cap node inc w s → IsEvent e → IsTypedEvent e → Steps e w (Ok told) u → Leads cap node inc (concerned e w) e told s u
unfolding begun_at
event_leads cap node inc w u s e told h allowed typed step =
    let happens = step.1 in
    let d : DiskView = happens.disk in
    let v : WorldState = begun d w in
    let now : SameNow w.disk d = record { tells = happens.marked.same.tells; current = happens.marked.current } in
    let k : At cap node inc v s = begun_at cap node inc w s d now h in
    let none : refusal e v ≡ None = begun_refusal e w d step.0 in
    let r : Reaches cap u h.world = steps_reach cap w u h.world e told h.ties h.good h.placed h.typed allowed typed step in
    subst (λ (o : Option NodeValue). Leads cap node inc o e told s u) (begun_concerned e w d)
    (leads cap node inc v u s k happens.marked.past e told allowed none r (fate e node v told u k.placed allowed none happens.does)
    (λ nv concerns at same.
    let slot = k.placed.slots node nv at in
    let q = k.stands nv slot.node at slot.runs same in
    subst (λ (n : ℕ). Went cap h.world n inc s e told u) slot.number
    (subst (λ (i : ℕ). Went cap h.world nv.number i s e told u) same
    (event_goes cap v h.world k.ties h.good k.placed k.typed happens.marked.past nv slot.node slot.runs s q.0 q.1
    (λ j there. let number : j ≡ node = sym (k.placed.slots j nv there).number ∙ slot.number in k.incs nv at ∙ ap (λ (n : ℕ). starts_of n v) (sym number)) e told u concerns happens.does r))))

-- ---- a run

joins_steps : (cap : ℕ) (order rest whole : List Entry) (node inc : ℕ) (steps more : List Step) (s u : Incarnation) → whole ≡ order ++ rest → Takes cap order node inc steps s u → Explained cap whole node inc more u → Explained cap whole node inc (steps ++ more) s
unfolding Explained
joins_steps cap order rest whole node inc steps more s u grows takes h = ⊎_elim
    (λ (none : (steps ≡ []) × (u ≡ s)). subst (λ (l : List Step). Explained cap whole node inc (l ++ more) s) (sym none.0) (subst (λ (t : Incarnation). Explained cap whole node inc more t) none.1 h))
    (λ (one : (t : Step) × (steps ≡ t ∷ []) × (t.done ≤ length order) × IsStepBy t.input cap order node inc t s u).
    let step : IsStepBy one.0.input cap whole node inc one.0 s u = subst (λ (l : List Entry). IsStepBy one.0.input cap l node inc one.0 s u) (sym grows) (step_longer cap order rest one.0.input node inc one.0 s u one.2 one.3) in
    subst (λ (l : List Step). Explained cap whole node inc (l ++ more) s) (sym one.1) (u, step, h))
    takes

explains : (cap node inc : ℕ) (events : List Event) (w : WorldState) (tolds : List (List Told)) (u : WorldState) (s : Incarnation) → At cap node inc w s → (runs : RunsTyped w events tolds u)
    → Explained cap u.order node inc (history node inc w events tolds u runs) s
unfolding RunsTyped history Explained
explains cap node inc [] w [] u s h runs = subst (λ (v : WorldState). AreRequests v.order node inc s.requests) (sym runs) (are_requests cap node inc w s h)
explains cap node inc (e ∷ es) w (told ∷ tolds) u s h runs =
    let one : Leads cap node inc (concerned e w) e told s runs.0 = event_leads cap node inc w runs.0 s e told h runs.1 runs.2 runs.3 in
    let more = grew es runs.0 tolds u runs.4 in
    joins_steps cap runs.0.order more.rest u.order node inc (steps_in node inc w e told runs.0) (history node inc runs.0 es tolds u runs.4) s one.state more.order one.takes
    (explains cap node inc es runs.0 tolds u one.state one.at runs.4)
explains cap node inc [] w (told ∷ tolds) u s h runs = absurd runs
explains cap node inc (e ∷ es) w [] u s h runs = absurd runs

-- ---- the first world

abbrev no_slot : Option NodeValue
no_slot = None

get_none : (n k : ℕ) → option_flatten (slice_get (replicate n no_slot) k) ≡ no_slot
get_none zero k = refl
get_none (suc n) zero = refl
get_none (suc n) (suc k) = get_none n k

pub at_none : (n k : ℕ) → option_flatten (at_place (replicate n no_slot) k) ≡ no_slot
at_none n zero = refl
at_none n (suc k) = get_none n k

abbrev never : ℕ
never = 0

get_zero : (n k : ℕ) → unwrap_or (slice_get (replicate n never) k) 0 ≡ never
get_zero zero k = refl
get_zero (suc n) zero = refl
get_zero (suc n) (suc k) = get_zero n k

at_zero : (n k : ℕ) → unwrap_or (at_place (replicate n never) k) 0 ≡ never
at_zero n zero = refl
at_zero n (suc k) = get_zero n k

no_length : (l : List Update) → length l ≡ 0 → l ≡ []
no_length [] e = refl
no_length (x ∷ l) e = absurd (omega (arith, e))

pub opening_at : (cap node inc : ℕ) (w : WorldState) → IsOpening cap w → At cap node inc w (first_state node)
opening_at cap node inc w o =
    let r : IsReached cap w = opening_reached cap w o in
    let v : World registry_machine = run r.events (opening registry_machine cap) in
    let nowhere : node_at node w ≡ None = ap (λ (t : WorldState). node_at node t) o.world ∙ at_none 16 node in
    record {
      world = v;
      good = reached_good cap r.events o.disk.capacity;
      ties = r.ties;
      placed = r.placed;
      typed = r.typed;
      incs = λ m at. absurd (cc (nowhere, at));
      requests = sym (no_request inc);
      stands = λ m x at. absurd (cc (nowhere, at));
      unborn = λ lt. refl;
    }
  where
    no_request : (inc : ℕ) → (run (opening_reached cap w o).events (opening registry_machine cap)).requests node inc ≡ []
    no_request zero = over_run is_machine (opening_reached cap w o).events (opening registry_machine cap) node 0 (opening_holds registry_machine cap o.disk.capacity) (inr (refl, refl))
    no_request (suc inc) =
        let r : IsReached cap w = opening_reached cap w o in
        let begun : (run r.events (opening registry_machine cap)).starts node ≡ 0 = r.ties.starts node ∙ ap (λ (t : WorldState). starts_of node t) o.world ∙ at_zero 16 node in
        no_length _ ((reached_good cap r.events o.disk.capacity).holds.invariant.log.unasked node (suc inc) (omega (arith, begun)))

pub run_explained : (cap : ℕ) (first last : WorldState) (events : List Event) (tolds : List (List Told)) (node inc : ℕ) → IsOpening cap first → (runs : RunsTyped first events tolds last)
    → IsExplained cap last.order node inc (history node inc first events tolds last runs)
run_explained cap first last events tolds node inc o runs = explains cap node inc events first tolds last (first_state node) (opening_at cap node inc first o) runs
