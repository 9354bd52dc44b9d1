-- What holds of an incarnation in each world of a run, and how each event leaves it.
use Rattle.std.proofs.Common.{◌≡◌, ◌≢◌, inl, inr, ℕ, ◌+◌, ◌<◌, Bool, true, false, List, [], ◌∷◌, ◌++◌, length, Option, Some, None, nat_lt, refl, sym, ap, ◌∙◌, subst, append-nil, length-append, arith}
use Rattle.gum_messages.specs.Places.{at_place}
use Rattle.update_records.specs.Entry.{Entry}
use Rattle.update_records.specs.declared.update.Update.{Update}
use Rattle.cluster_rules.specs.Worlds.{World, happens, run}
use Rattle.cluster_laws.proofs.Applying.{lt_false, lt_true}
use Rattle.cluster_laws.proofs.Inv.{NodeOk}
use Rattle.registry_machine.specs.Machine.{registry_machine}
use Rattle.registry_machine.proofs.Instance.{is_machine}
use Rattle.cluster_member.specs.States.{MemberState, fresh_member}
use Rattle.client_connections.specs.Clients.{no_clients}
use Rattle.cluster_node.specs.Explained.{AreRequests, Incarnation, first_state}
use Rattle.cluster_node.specs.InStep.{InStep}
use Rattle.cluster_node.specs.States.{NodeValue, RunningNode, started}
use Rattle.cluster_node.specs.States as states
use Rattle.cluster_node.specs.Steps.{StandsFor}
use Rattle.cluster_node.proofs.StayingInStep.{starts_in_step}
use Rattle.cluster_node.proofs.Ticking.{start_stands}
use Rattle.cluster_worlds.specs.declared.event.Event.{Event}
use Rattle.cluster_worlds.specs.declared.told.Told.{Told}
use Rattle.cluster_worlds.specs.Worlds.{WorldState, node_at, starts_of}
use Rattle.world_laws.proofs.Typing.{IsTyped}
use Rattle.world_laws.proofs.Happening.{Reaches}
use Rattle.world_laws.proofs.Records.{Good, good_keeps, run_good}
use Rattle.world_laws.proofs.Slots.{Placed, bare_of, member_of, running_member}
use Rattle.world_laws.proofs.Tied.{Abstracts, rules_in}
use Rattle.world_answers.specs.Histories.{clients_told, input_of, step_of}
use Rattle.world_answers.proofs.Changing.{over_run, requests_grow, same_requests}
use Rattle.world_answers.proofs.Concerned.{Ends, Went}
use Rattle.world_answers.proofs.Fates.{Acts, Begins, Stays}
use Rattle.world_answers.proofs.Taken.{same_taken, took_more}

-- The incarnation has come to this state; the world is tied to one of the protocol.
pub record At (cap node inc : ℕ) (w : WorldState) (s : Incarnation) : Type 0 where
  pub world : World registry_machine
  pub good : Good world
  pub ties : Abstracts cap (bare_of w) world
  pub placed : Placed w
  pub typed : IsTyped w
  -- the incarnation that runs is the last one that was started
  pub incs : (m : NodeValue) → node_at node w ≡ Some m → m.inc ≡ starts_of node w
  pub requests : s.requests ≡ world.requests node inc
  pub stands : (m : NodeValue) (x : RunningNode) → node_at node w ≡ Some m → m.running ≡ Some x → m.inc ≡ inc → StandsFor x s × InStep (Some x)
  -- one that wasn't started yet has told nothing
  pub unborn : starts_of node w < inc → s ≡ first_state node

-- each record is the update of its request
pub are_requests : (cap node inc : ℕ) (w : WorldState) (s : Incarnation) → At cap node inc w s → AreRequests w.order node inc s.requests
are_requests cap node inc w s h place e stands is_node is_inc =
    let j = h.good.holds.invariant in
    let there : at_place h.world.log.order place ≡ Some e = ap (λ (l : List Entry). at_place l place) h.ties.order ∙ stands in
    let here : at_place h.world.log.order e.place ≡ Some e = ap (λ (k : ℕ). at_place h.world.log.order k) (j.log.places place e there) ∙ there in
    (λ i. at_place (h.requests i) e.id.req) ∙ (λ i. at_place (h.world.requests (sym is_node i) (sym is_inc i)) e.id.req) ∙ j.log.requested e (record { at = here })

-- ---- requests

no_length : (l : List Update) → length l ≡ 0 → l ≡ []
no_length [] e = refl
no_length (x ∷ l) e = absurd (omega (arith, e))

same_length : (l m rest : List Update) → m ≡ l ++ rest → length m ≡ length l → m ≡ l
same_length l m rest e long =
    let whole : length m ≡ length l + length rest = ap (λ (z : List Update). length z) e ∙ length-append l rest in
    let none : rest ≡ [] = no_length rest (omega (arith, whole, long)) in
    e ∙ ap (λ (z : List Update). l ++ z) none ∙ append-nil l

node_of : (cap node : ℕ) (w : WorldState) (v : World registry_machine) (m : NodeValue) (x : RunningNode) → Abstracts cap (bare_of w) v → node_at node w ≡ Some m → m.running ≡ Some x → v.nodes node ≡ Some x.member.rules
node_of cap node w v m x a at runs = a.nodes node ∙ ap (λ (o : Option NodeValue). rules_in (member_of o)) at ∙ ap (λ (o : Option RunningNode). rules_in (running_member o)) runs

no_node : (cap node : ℕ) (w : WorldState) (v : World registry_machine) → Abstracts cap (bare_of w) v → node_at node w ≡ None → v.nodes node ≡ None
no_node cap node w v a at = a.nodes node ∙ ap (λ (o : Option NodeValue). rules_in (member_of o)) at

module _ (cap node inc : ℕ) (w u : WorldState) (s : Incarnation) (h : At cap node inc w s) (r : Reaches cap u h.world) where
  behind : World registry_machine
  behind = run r.more h.world

  good_behind : Good (run r.more h.world)
  good_behind = run_good r.more h.world h.good

  -- an incarnation that is over takes no request more
  over_same : (inc < starts_of node w) → (run r.more h.world).requests node inc ≡ h.world.requests node inc
  over_same lt = over_run is_machine r.more h.world node inc h.good.holds (inl (let e = h.ties.starts node in omega (arith, lt, e)))

  gone_same : inc ≡ starts_of node w → node_at node w ≡ None → (run r.more h.world).requests node inc ≡ h.world.requests node inc
  gone_same is none = over_run is_machine r.more h.world node inc h.good.holds (inr (is ∙ sym (h.ties.starts node), no_node cap node w h.world h.ties none))

  -- one that isn't begun has none
  unborn_same : starts_of node w < inc → length ((run r.more h.world).requests node inc) ≡ 0 → (run r.more h.world).requests node inc ≡ h.world.requests node inc
  unborn_same lt none =
      no_length _ none ∙ sym (no_length _ (h.good.holds.invariant.log.unasked node inc (let e = h.ties.starts node in omega (arith, lt, e))))

  unasked_behind : starts_of node u < inc → length ((run r.more h.world).requests node inc) ≡ 0
  unasked_behind lt = good_behind.holds.invariant.log.unasked node inc (let e = r.ties.starts node in omega (arith, lt, e))

  -- one that runs on as it did
  runs_same : (m : NodeValue) → node_at node w ≡ Some m → node_at node u ≡ Some m → inc ≡ starts_of node w → (run r.more h.world).requests node inc ≡ h.world.requests node inc
  runs_same m before after is =
      let slot = h.placed.slots node m before in
      let x : RunningNode = slot.node in
      let k : NodeOk h.world node x.member.rules = h.good.holds.invariant.nodes node x.member.rules (node_of cap node w h.world m x h.ties before slot.runs) in
      let l : NodeOk (run r.more h.world) node x.member.rules = good_behind.holds.invariant.nodes node x.member.rules (node_of cap node u (run r.more h.world) m x r.ties after slot.runs) in
      let same : x.member.rules.join.inc ≡ inc = k.inc ∙ h.ties.starts node ∙ sym is in
      let grow = requests_grow r.more h.world node inc in
      let first : length (h.world.requests node inc) ≡ x.member.rules.core.passed + length x.member.rules.core.queue = ap (λ (i : ℕ). length (h.world.requests node i)) (sym same) ∙ k.all_requests in
      let second : length ((run r.more h.world).requests node inc) ≡ x.member.rules.core.passed + length x.member.rules.core.queue = ap (λ (i : ℕ). length ((run r.more h.world).requests node i)) (sym same) ∙ l.all_requests in
      same_length (h.world.requests node inc) ((run r.more h.world).requests node inc) grow.0 grow.1 (second ∙ sym first)

  by_order : {P : Type 0} → (inc < starts_of node w → P) → (inc ≡ starts_of node w → P) → (starts_of node w < inc → P) → P
  by_order {P} less same more = by (nat_lt inc (starts_of node w)) (nat_lt (starts_of node w) inc) refl refl
    where
      by : (c d : Bool) → nat_lt inc (starts_of node w) ≡ c → nat_lt (starts_of node w) inc ≡ d → P
      by true d lt e = less (lt_true inc (starts_of node w) lt)
      by false true ge lt = more (lt_true (starts_of node w) inc lt)
      by false false ge le = same (let a = lt_false inc (starts_of node w) ge in let b = lt_false (starts_of node w) inc le in omega (arith, a, b))

  -- ---- an event that doesn't concern the node

  stays_same : (e : Event) → Stays e node w u → (run r.more h.world).requests node inc ≡ h.world.requests node inc
  stays_same e f = by_order over_same (λ is. by is (node_at node w) refl) (λ lt. unborn_same lt (unasked_behind (let q = f.starts in omega (arith, lt, q))))
    where
      by : inc ≡ starts_of node w → (o : Option NodeValue) → node_at node w ≡ o → (run r.more h.world).requests node inc ≡ h.world.requests node inc
      by is None at = gone_same is at
      by is (Some m) at = runs_same m at (f.slot ∙ at) is

  pub stays_at : (e : Event) → Stays e node w u → At cap node inc u s
  stays_at e f = record {
    world = run r.more h.world;
    good = good_behind;
    ties = r.ties;
    placed = r.placed;
    typed = r.typed;
    incs = λ m at. h.incs m (sym f.slot ∙ at) ∙ sym f.starts;
    requests = h.requests ∙ sym (stays_same e f);
    stands = λ m x at runs is. h.stands m x (sym f.slot ∙ at) runs is;
    unborn = λ lt. h.unborn (let q = f.starts in omega (arith, lt, q));
  }

  -- ---- a start

  new_length : (e : Event) → Begins e node w u → inc ≡ starts_of node w + 1 → length ((run r.more h.world).requests node inc) ≡ 0
  new_length e f is =
      let x : MemberState = fresh_member node (starts_of node w + 1) in
      let l : NodeOk (run r.more h.world) node x.rules = good_behind.holds.invariant.nodes node x.rules (r.ties.nodes node ∙ ap (λ (o : Option NodeValue). rules_in (member_of o)) f.slot) in
      ap (λ (i : ℕ). length ((run r.more h.world).requests node i)) is ∙ l.all_requests

  begins_same : (e : Event) → Begins e node w u → (run r.more h.world).requests node inc ≡ h.world.requests node inc
  begins_same e f = by_order over_same (λ is. gone_same is f.before) (λ lt. unborn_same lt (by (nat_lt (starts_of node u) inc) refl lt))
    where
      by : (c : Bool) → nat_lt (starts_of node u) inc ≡ c → starts_of node w < inc → length ((run r.more h.world).requests node inc) ≡ 0
      by true later lt = unasked_behind (lt_true (starts_of node u) inc later)
      by false now lt = new_length e f (let ge = lt_false (starts_of node u) inc now in let q = f.starts in omega (arith, ge, q, lt))

  pub begins_at : (e : Event) → Begins e node w u → At cap node inc u s
  begins_at e f = record {
    world = run r.more h.world;
    good = good_behind;
    ties = r.ties;
    placed = r.placed;
    typed = r.typed;
    incs = λ m at. let q : started node (starts_of node w + 1) ≡ m = cc (f.slot, at) in ap (λ (v : NodeValue). v.inc) (sym q) ∙ sym f.starts;
    requests = h.requests ∙ sym (begins_same e f);
    stands = λ m x at runs is.
        let q : started node (starts_of node w + 1) ≡ m = cc (f.slot, at) in
        let new : starts_of node w + 1 ≡ inc = ap (λ (v : NodeValue). v.inc) q ∙ is in
        let first : s ≡ first_state node = h.unborn (omega (arith, new)) in
        let running : (started node (starts_of node w + 1)).running ≡ Some x = ap (λ (v : NodeValue). v.running) q ∙ runs in
        let fresh : RunningNode = states.runs (fresh_member node (starts_of node w + 1)) (no_clients node) in
        let same : fresh ≡ x = cc in (
          subst (λ (z : RunningNode). StandsFor z s) same (subst (λ (t : Incarnation). StandsFor fresh t) (sym first) (start_stands node (starts_of node w + 1))),
          subst InStep running (starts_in_step node (starts_of node w + 1)),
        );
    unborn = λ lt. h.unborn (let q = f.starts in omega (arith, lt, q));
  }

  -- ---- an event that concerns another incarnation of the node

  pub others_at : (e : Event) (f : Acts e node w u) → f.value.inc ≢ inc → At cap node inc u s
  others_at e f other =
      let apart : inc ≢ starts_of node w = λ is. other (h.incs f.value f.before ∙ sym is) in
      record {
        world = run r.more h.world;
        good = good_behind;
        ties = r.ties;
        placed = r.placed;
        typed = r.typed;
        incs = λ m at. f.inc m at ∙ h.incs f.value f.before ∙ sym f.starts;
        requests = h.requests ∙ sym (by_order over_same (λ is. absurd (apart is)) (λ lt. unborn_same lt (unasked_behind (let q = f.starts in omega (arith, lt, q)))));
        stands = λ m x at runs is. absurd (other (sym (f.inc m at) ∙ is));
        unborn = λ lt. h.unborn (let q = f.starts in omega (arith, lt, q));
      }

  -- ---- an event that concerns it

  pub goes_at : (e : Event) (told : List Told) (f : Acts e node w u) → f.value.inc ≡ inc → (n : Went cap h.world node inc s e told u) → At cap node inc u n.state
  goes_at e told f is n = by (node_at node u) refl
    where
      latest : inc ≡ starts_of node w
      latest = sym is ∙ h.incs f.value f.before

      incs : (m : NodeValue) → node_at node u ≡ Some m → m.inc ≡ starts_of node u
      incs m at = f.inc m at ∙ h.incs f.value f.before ∙ sym f.starts

      born : starts_of node u < inc → n.state ≡ first_state node
      born lt = absurd (let q = f.starts in let i = latest in omega (arith, lt, q, i))

      before : StandsFor (h.placed.slots node f.value f.before).node s × InStep (Some (h.placed.slots node f.value f.before).node)
      before = h.stands f.value (h.placed.slots node f.value f.before).node f.before (h.placed.slots node f.value f.before).runs is

      by : (o : Option NodeValue) → node_at node u ≡ o → At cap node inc u n.state
      by None at =
          let ends = n.ends at in
          let last : Ends cap h.world u = ends.0 in
          record {
            world = happens h.world last.event;
            good = good_keeps h.world last.event h.good;
            ties = last.ties;
            placed = r.placed;
            typed = r.typed;
            incs = incs;
            requests = ends.1 ∙ h.requests ∙ sym (λ i. same_requests h.world last.event last.none i node inc);
            stands = λ m x there. absurd (cc (at, there));
            unborn = born;
          }
      by (Some m) at =
          let slot = r.placed.slots node m at in
          let y : RunningNode = slot.node in
          let stands = (n.goes m y at slot.runs).0 in
          let l : NodeOk (run r.more h.world) node y.member.rules = good_behind.holds.invariant.nodes node y.member.rules (node_of cap node u (run r.more h.world) m y r.ties at slot.runs) in
          let same : y.member.rules.join.inc ≡ inc = l.inc ∙ r.ties.starts node ∙ f.starts ∙ sym latest in
          let took = took_more (input_of e (clients_told told) (node_at node u)) cap u.order node inc (step_of e (clients_told told) (node_at node u)) s n.state before.0.counted n.step in
          let grow = requests_grow r.more h.world node inc in
          let noted : (run r.more h.world).requests node inc ≡ s.requests ++ grow.0 = grow.1 ∙ ap (λ (z : List Update). z ++ grow.0) (sym h.requests) in
          let passed : n.state.passed ≡ y.member.rules.core.passed = stands.passed in
          record {
            world = run r.more h.world;
            good = good_behind;
            ties = r.ties;
            placed = r.placed;
            typed = r.typed;
            incs = incs;
            requests = same_taken s.requests took.more grow.0 n.state.requests ((run r.more h.world).requests node inc) y.member.rules.core.queue n.state.passed took.requests noted took.passed stands.queue
                (λ k u e. (λ i. at_place ((run r.more h.world).requests node (sym same i)) (passed i + (k + 1))) ∙ l.queued k u e)
                ((λ i. length ((run r.more h.world).requests node (sym same i))) ∙ l.all_requests ∙ ap (λ (q : ℕ). q + length y.member.rules.core.queue) (sym passed));
            stands = λ m' x there runs is. n.goes m' x there runs;
            unborn = born;
          }
