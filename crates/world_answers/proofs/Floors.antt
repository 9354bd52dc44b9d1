-- The points of one incarnation never fall.
use Rattle.std.proofs.Common.{◌≡◌, ◌⊎◌, inl, inr, ⊎_elim, ℕ, zero, suc, ◌<◌, ◌≤◌, Bool, true, false, ◌&&◌, List, [], ◌∷◌, ◌++◌, length, Option, Some, None, Ok, nat_eq, if◌then◌else◌, replicate, slice_get, refl, sym, ap, ◌∙◌, subst, append-nil, arith}
use Rattle.std.proofs.lemmas.List.Concat.{flat_map-append}
use Rattle.gum_messages.proofs.Branches.{if_cases}
use Rattle.gum_messages.proofs.Placing.{get_new, get_within}
use Rattle.disk_core.specs.Views.{DiskView}
use Rattle.view_reconcile.specs.Joining as joining
use Rattle.cluster_rules.specs.Nodes.{NodeState, done_of, nothing}
use Rattle.cluster_rules.specs.Worlds.{Point, Read, World, absorb, happens, opening, put, reads, run}
use Rattle.cluster_rules.specs.Worlds as rules
use Rattle.cluster_laws.proofs.Applying.{eq_true}
use Rattle.cluster_laws.proofs.Inv.{Invariant, NodeOk}
use Rattle.registry_machine.specs.Machine.{registry_machine}
use Rattle.cluster_node.specs.Explained.{Finishes, Incarnation, Step, first_state}
use Rattle.cluster_node.specs.States.{NodeValue, RunningNode}
use Rattle.cluster_worlds.specs.declared.event.Event.{Event}
use Rattle.cluster_worlds.specs.declared.event.Event.TheVariants as event
use Rattle.cluster_worlds.specs.declared.told.Told.{Told}
use Rattle.cluster_worlds.specs.Conditions.{IsEvent}
use Rattle.cluster_worlds.specs.Happening.{begun}
use Rattle.cluster_worlds.specs.Refusing.{refusal}
use Rattle.cluster_worlds.specs.Runs.{IsOpening, Steps}
use Rattle.cluster_worlds.specs.Worlds.{WorldState, node_at, starts_of}
use Rattle.world_laws.specs.Typed.{IsTypedEvent, RunsTyped}
use Rattle.world_laws.proofs.Absorbing.{applied_is}
use Rattle.world_laws.proofs.Happening.{Reaches}
use Rattle.world_laws.proofs.Quiet.{SameNow, at_is, mark_ties}
use Rattle.world_laws.proofs.Records.{Good, good_keeps, run_good}
use Rattle.world_laws.proofs.Running.{IsReached, opening_reached, reached_good, steps_reach}
use Rattle.world_laws.proofs.Slots.{bare_of, member_of, running_member}
use Rattle.world_laws.proofs.Tied.{Abstracts, Bare, rules_in}
use Rattle.cluster_rules.specs.declared.effect.Effect.{Effect}
use Rattle.world_answers.specs.Histories.{NeverFall, clients_told, concerned, history, input_of, is_of, points_in, points_told, step_of, steps_at, steps_in}
use Rattle.world_answers.proofs.Concerned.{Acks, Went}
use Rattle.world_answers.proofs.Events.{event_goes}
use Rattle.world_answers.proofs.Explaining.{Leads, and_false, begun_at, begun_concerned, begun_refusal, event_leads, none_of, not_same, one_of, opening_at}
use Rattle.world_answers.proofs.Fates.{Acts, Fate, fate}
use Rattle.world_answers.proofs.Pointing.{NewPoint, point_stays}
use Rattle.world_answers.proofs.Standing.{At}
use Rattle.world_answers.proofs.StepPoints.{StepPoints, step_points}

-- ---- lists that never fall

lower : (floor d : ℕ) (l : List ℕ) → floor ≤ d → NeverFall d l → NeverFall floor l
unfolding NeverFall
lower floor d [] le h = tt
lower floor d (p ∷ l) le h = (let a = h.0 in omega (arith, le, a), h.1)

reads_join : (floor d n : ℕ) (rest : List ℕ) → floor ≤ d → NeverFall d rest → NeverFall floor (replicate n d ++ rest)
unfolding NeverFall
reads_join floor d zero rest le h = lower floor d rest le h
reads_join floor d (suc n) rest le h = (le, reads_join d d n rest (omega arith) h)

-- ---- points that the protocol noted

pub record HasPoint (v : World registry_machine) (n i floor : ℕ) : Type 0 where
  pub index : ℕ
  pub point : Point registry_machine
  pub stands : slice_get v.points index ≡ Some point
  pub node : point.node ≡ n
  pub inc : point.inc ≡ i
  pub least : floor ≤ point.place

abbrev pub Witness : World registry_machine → ℕ → ℕ → ℕ → Type 0
Witness v n i floor = (floor ≡ 0) ⊎ HasPoint v n i floor

later : (es : List rules.Event) (v : World registry_machine) (n i floor : ℕ) → Witness v n i floor → Witness (run es v) n i floor
later es v n i floor h = ⊎_elim (λ (z : floor ≡ 0). inl z)
    (λ (p : HasPoint v n i floor). inr (record { index = p.index; point = p.point; stands = point_stays es v p.index p.point p.stands; node = p.node; inc = p.inc; least = p.least })) h

-- what the node has applied isn't less
reached : (v : World registry_machine) (n i floor : ℕ) (x : NodeState registry_machine) → Invariant v → Witness v n i floor → v.nodes n ≡ Some x → x.join.inc ≡ i → floor ≤ done_of x
reached v n i floor x j h at inc = ⊎_elim (λ (z : floor ≡ 0). omega (arith, z))
    (λ (p : HasPoint v n i floor).
    let past = j.points p.index p.point p.stands in
    let d : p.point.place ≤ done_of x = past.done x (ap v.nodes p.node ∙ at) (inc ∙ sym p.inc) in
    let least = p.least in
    omega (arith, d, least)) h

-- an acknowledgement stands no lower, and the node has applied its record
acked_above : (w v : World registry_machine) (es : List rules.Event) (n i floor place : ℕ) → v ≡ run es w → Invariant v → Witness w n i floor → NewPoint w v n i place → floor ≤ place
acked_above w v es n i floor place is j h new = ⊎_elim (λ (z : floor ≡ 0). omega (arith, z))
    (λ (p : HasPoint w n i floor).
    let there : slice_get v.points p.index ≡ Some p.point = ap (λ (u : World registry_machine). slice_get u.points p.index) is ∙ point_stays es w p.index p.point p.stands in
    let low : p.index < length w.points = get_within w.points p.index p.point p.stands in
    let behind = new.behind in
    let s : p.point.place ≤ new.point.place = j.steady p.index new.index p.point new.point there new.stands (omega (arith, low, behind)) (p.node ∙ sym new.node) (p.inc ∙ sym new.inc) in
    let least = p.least in
    let at = new.at in
    omega (arith, s, least, at)) h

acked_applied : (w v : World registry_machine) (n i place : ℕ) (x : NodeState registry_machine) → Invariant v → NewPoint w v n i place → v.nodes n ≡ Some x → x.join.inc ≡ i → place ≤ done_of x
acked_applied w v n i place x j new at inc =
    let past = j.points new.index new.point new.stands in
    let d : new.point.place ≤ done_of x = past.done x (ap v.nodes new.node ∙ at) (inc ∙ sym new.inc) in
    let same = new.at in
    omega (arith, d, same)

-- ---- a reader is answered

module _ (cap : ℕ) (b : Bare) (v : World registry_machine) (n : ℕ) (x : NodeState registry_machine) (a : Abstracts cap b v) (at : v.nodes n ≡ Some x) (opened : joining.is_open x.join ≡ true) where
  read_is : happens v (Read n) ≡ absorb n (nothing x) (reads n x v)
  read_is = at_is v n x (λ x. if joining.is_open x.join then absorb n (nothing x) (reads n x v) else v) at ∙ ap (λ (c : Bool). if c then absorb n (nothing x) (reads n x v) else v) opened

  pub read_ties : Abstracts cap b (happens v (Read n))
  read_ties = subst (λ (u : World registry_machine). Abstracts cap b u) (sym read_is) (record {
    nodes = λ k. same k ∙ a.nodes k;
    starts = a.starts;
    chain = a.chain;
    pool = append-nil v.pool ∙ a.pool;
    acks = append-nil v.acks ∙ a.acks;
    order = a.order;
    cap_is = a.cap_is;
    refines = a.refines;
    logs = a.logs;
    owns = a.owns;
  })
    where
      same : (k : ℕ) → put v.nodes n (Some x) k ≡ v.nodes k
      same k = if_cases (λ (o : Option (NodeState registry_machine)). o ≡ v.nodes k) (nat_eq k n) (Some x) (v.nodes k) (λ e. sym (ap v.nodes (eq_true k n e) ∙ at)) (λ e. refl)

  pub read_point : HasPoint (happens v (Read n)) n x.join.inc (done_of x)
  read_point =
      let point : Point registry_machine = record { node = n; inc = x.join.inc; place = done_of x; req = 0; outcome = None } in
      record {
        index = length v.points;
        point = point;
        stands = ap (λ (u : World registry_machine). slice_get u.points (length v.points)) read_is ∙ ap (λ (l : List (Point registry_machine)). slice_get l (length v.points)) (append-nil (v.points ++ point ∷ [])) ∙ get_new v.points point;
        node = refl;
        inc = refl;
        least = omega arith;
      }

-- ---- the floor of an incarnation in a world

pub record Floor (cap node inc : ℕ) (w : WorldState) (floor : ℕ) : Type 0 where
  pub world : World registry_machine
  pub good : Good world
  pub ties : Abstracts cap (bare_of w) world
  pub witness : Witness world node inc floor

pub record Lifts (cap node inc : ℕ) (floor : ℕ) (points : List ℕ) (u : WorldState) : Type 0 where
  pub next : ℕ
  pub joins : (rest : List ℕ) → NeverFall next rest → NeverFall floor (points ++ rest)
  pub raised : Floor cap node inc u next

-- an event that stops the node acknowledges nothing
stopped_not : (e : Event) (told : List Effect) (view place : ℕ) → input_of e told None ≡ Finishes view place → ⊥
stopped_not (event.Start node) told view place e = cc
stopped_not (event.Declare v) told view place e = cc
stopped_not (event.Install node v) told view place e = cc
stopped_not (event.Connect conn node) told view place e = cc
stopped_not (event.Bytes conn piece) told view place e = cc
stopped_not (event.HangUp conn) told view place e = cc
stopped_not (event.Deliver number) told view place e = cc
stopped_not (event.Tick node) told view place e = cc
stopped_not (event.Checkpoint node) told view place e = cc
stopped_not (event.Fail call) told view place e = cc
stopped_not (event.Die node) told view place e = cc
stopped_not (event.Clock node stamp) told view place e = cc
stopped_not (event.Batch node update) told view place e = cc
stopped_not (event.DieIn moment bytes i) told view place e = cc

module _ (cap node inc floor : ℕ) (w u : WorldState) (f : Floor cap node inc w floor) (r : Reaches cap u f.world) where
  -- no point is told
  pub stays : Lifts cap node inc floor [] u
  stays = record {
    next = floor;
    joins = λ rest h. h;
    raised = record { world = run r.more f.world; good = run_good r.more f.world f.good; ties = r.ties; witness = later r.more f.world node inc floor f.witness };
  }

  module _ (s : Incarnation) (e : Event) (told : List Told) (n : Went cap f.world node inc s e told u) (started : inc ≡ starts_of node u) where
    abbrev step : Step
    step = step_of e (clients_told told) (node_at node u)

    points : StepPoints step.input step
    points = step_points step.input cap u.order node inc step s n.state n.step

    -- the node behind the event, in a world of the protocol that is tied to it
    record There (v : World registry_machine) : Type 0 where
      node_rules : NodeState registry_machine
      at : v.nodes node ≡ Some node_rules
      same_inc : node_rules.join.inc ≡ inc
      same_done : step.done ≡ done_of node_rules
      opens : step.is_open ≡ true → joining.is_open node_rules.join ≡ true

    there : (v : World registry_machine) → Good v → Abstracts cap (bare_of u) v → (m : NodeValue) → node_at node u ≡ Some m → There v
    there v g a m at =
        let slot = r.placed.slots node m at in
        let y : RunningNode = slot.node in
        let here : v.nodes node ≡ Some y.member.rules = a.nodes node ∙ ap (λ (o : Option NodeValue). rules_in (member_of o)) at ∙ ap (λ (o : Option RunningNode). rules_in (running_member o)) slot.runs in
        let ok : NodeOk v node y.member.rules = g.holds.invariant.nodes node y.member.rules here in
        record {
          node_rules = y.member.rules;
          at = here;
          same_inc = ok.inc ∙ a.starts node ∙ sym started;
          same_done = ap (λ (o : Option NodeValue). (step_of e (clients_told told) o).done) at ∙ applied_is m y slot.runs;
          opens = λ is.
              sym ok.local.core_open ∙ sym (ap (λ (o : Option RunningNode). elim o [ None ↦ false | Some x ↦ x.member.rules.core.is_open ]) slot.runs)
              ∙ sym (ap (λ (o : Option NodeValue). (step_of e (clients_told told) o).is_open) at) ∙ is;
        }

    -- the node is open: the floor is its own place
    opened : (v : World registry_machine) → Good v → Abstracts cap (bare_of u) v → There v → step.is_open ≡ true → Floor cap node inc u step.done
    opened v g a t is =
        let p = read_point cap (bare_of u) v node t.node_rules a t.at (t.opens is) in
        let done = t.same_done in
        record {
          world = happens v (Read node);
          good = good_keeps v (Read node) g;
          ties = read_ties cap (bare_of u) v node t.node_rules a t.at (t.opens is);
          witness = inr (record { index = p.index; point = p.point; stands = p.stands; node = p.node; inc = p.inc ∙ t.same_inc; least = let l = p.least in omega (arith, l, done) });
        }

    no_reads : step.is_open ≡ false → points.count ≡ 0
    no_reads closed = by points.count refl
      where
        by : (k : ℕ) → points.count ≡ k → points.count ≡ 0
        by zero e = e
        by (suc k) e = absurd (let is : step.is_open ≡ true = points.at_open (omega (arith, e)) in cc (is, closed))

    joins_at : (front : List ℕ) (k : ℕ) (next : ℕ) → points.front ≡ front → points.count ≡ k → ((rest : List ℕ) → NeverFall next rest → NeverFall floor ((front ++ replicate k step.done) ++ rest)) → (rest : List ℕ) → NeverFall next rest → NeverFall floor (points_in step.told ++ rest)
    joins_at front k next is count h rest never =
        subst (λ (l : List ℕ). NeverFall floor (l ++ rest)) (sym (points.is ∙ (λ i. is i ++ replicate (count i) step.done))) (h rest never)

    -- ---- no update was acknowledged

    behind : World registry_machine
    behind = run r.more f.world

    unacked : points.front ≡ [] → Lifts cap node inc floor (points_in step.told) u
    unacked none = by step.is_open refl
      where
        by : (c : Bool) → step.is_open ≡ c → Lifts cap node inc floor (points_in step.told) u
        by true is = at_node (node_at node u) refl
          where
            at_node : (o : Option NodeValue) → node_at node u ≡ o → Lifts cap node inc floor (points_in step.told) u
            at_node None at = absurd (let c : false ≡ true = sym (ap (λ (o : Option NodeValue). (step_of e (clients_told told) o).is_open) at) ∙ is in cc)
            at_node (Some m) at =
                let g = run_good r.more f.world f.good in
                let t = there (run r.more f.world) g r.ties m at in
                let low : floor ≤ done_of t.node_rules = reached (run r.more f.world) node inc floor t.node_rules g.holds.invariant (later r.more f.world node inc floor f.witness) t.at t.same_inc in
                let done = t.same_done in
                record {
                  next = step.done;
                  joins = joins_at [] points.count step.done none refl (λ rest h. reads_join floor step.done points.count rest (omega (arith, low, done)) h);
                  raised = opened (run r.more f.world) g r.ties t is;
                }
        by false is =
            let base = stays in
            record { next = base.next; joins = joins_at [] 0 base.next none (no_reads is) (λ rest h. base.joins rest h); raised = base.raised }

    -- ---- one was

    acked : (view place : ℕ) → step.input ≡ Finishes view place → points.front ≡ place ∷ [] → Lifts cap node inc floor (points_in step.told) u
    unfolding NeverFall
    acked view place input front =
        let acks : Acks cap f.world node inc u place = n.acks view place input in
        at_node acks (node_at node u) refl
      where
        at_node : Acks cap f.world node inc u place → (o : Option NodeValue) → node_at node u ≡ o → Lifts cap node inc floor (points_in step.told) u
        at_node acks None at = absurd (stopped_not e (clients_told told) view place (sym (ap (λ (o : Option NodeValue). input_of e (clients_told told) o) at) ∙ input))
        at_node acks (Some m) at =
            let v : World registry_machine = run acks.more f.world in
            let g : Good v = run_good acks.more f.world f.good in
            let low : floor ≤ place = acked_above f.world v acks.more node inc floor place refl g.holds.invariant f.witness acks.point in
            let t = there v g acks.ties m at in
            let high : place ≤ done_of t.node_rules = acked_applied f.world v node inc place t.node_rules g.holds.invariant acks.point t.at t.same_inc in
            by acks v g t low (let d = t.same_done in omega (arith, high, d)) acks.ties acks.point step.is_open refl
          where
            by : Acks cap f.world node inc u place → (v : World registry_machine) → Good v → There v → floor ≤ place → place ≤ step.done → Abstracts cap (bare_of u) v → NewPoint f.world v node inc place
                → (c : Bool) → step.is_open ≡ c → Lifts cap node inc floor (points_in step.told) u
            by acks v g t low high ties new true is = record {
              next = step.done;
              joins = joins_at (place ∷ []) points.count step.done front refl (λ rest h. (low, reads_join place step.done points.count rest high h));
              raised = opened v g ties t is;
            }
            by acks v g t low high ties new false is = record {
              next = place;
              joins = joins_at (place ∷ []) 0 place front (no_reads is) (λ rest h. (low, h));
              raised = record {
                world = v;
                good = g;
                ties = ties;
                witness = inr (record { index = new.index; point = new.point; stands = new.stands; node = new.node; inc = new.inc; least = let same = new.at in omega (arith, same) });
              };
            }

    pub lifts : Lifts cap node inc floor (points_in step.told) u
    lifts = ⊎_elim (λ (none : points.front ≡ []). unacked none) (λ (one : (view place : ℕ) × (step.input ≡ Finishes view place) × (points.front ≡ place ∷ [])). acked one.0 one.1 one.2 one.3) points.acked

-- ---- an event

pub record Raises (cap node inc floor : ℕ) (o : Option NodeValue) (e : Event) (told : List Told) (u : WorldState) : Type 0 where
  pub next : ℕ
  pub joins : (rest : List ℕ) → NeverFall next rest → NeverFall floor (points_told (steps_at node inc o (step_of e (clients_told told) (node_at node u))) ++ rest)
  pub raised : Floor cap node inc u next

module _ (cap node inc floor : ℕ) (w u : WorldState) (s : Incarnation) (h : At cap node inc w s) (f : Floor cap node inc w floor) (e : Event) (told : List Told) (r : Reaches cap u f.world) where
  unconcerned : ((m : NodeValue) → concerned e w ≡ Some m → is_of node inc m ≡ false) → Raises cap node inc floor (concerned e w) e told u
  unconcerned apart =
      let l = stays cap node inc floor w u f r in
      let none = none_of node inc (concerned e w) (step_of e (clients_told told) (node_at node u)) apart in
      record {
        next = l.next;
        joins = λ rest never. subst (λ (steps : List Step). NeverFall floor (points_told steps ++ rest)) (sym none) (l.joins rest never);
        raised = l.raised;
      }

  concerned_by : (a : Acts e node w u) → a.value.inc ≡ inc → Went cap f.world node inc s e told u → Raises cap node inc floor (concerned e w) e told u
  concerned_by a same n =
      let t : Step = step_of e (clients_told told) (node_at node u) in
      let l = lifts cap node inc floor w u f r s e told n (sym same ∙ h.incs a.value a.before ∙ sym a.starts) in
      let one : steps_at node inc (concerned e w) t ≡ t ∷ [] = ap (λ (o : Option NodeValue). steps_at node inc o t) a.concerns ∙ one_of node inc a.value t (h.placed.slots node a.value a.before).number same in
      record {
        next = l.next;
        joins = λ rest never.
            subst (λ (steps : List Step). NeverFall floor (points_told steps ++ rest)) (sym one)
            (subst (λ (points : List ℕ). NeverFall floor (points ++ rest)) (sym (append-nil (points_in t.told))) (l.joins rest never));
        raised = l.raised;
      }

  raises : Fate e node w u → (does : (nv : NodeValue) → concerned e w ≡ Some nv → node_at node w ≡ Some nv → nv.inc ≡ inc → Went cap f.world node inc s e told u) → Raises cap node inc floor (concerned e w) e told u
  raises fate_is does = elim fate_is [
    | inl still ↦ unconcerned (λ m at. ap (λ (c : Bool). c && nat_eq m.inc inc) (not_same m.number node (still.apart m at)))
    | inr more ↦ elim more [
      | inl begins ↦ unconcerned (λ m at. absurd (let n = begins.none in cc (n, at)))
      | inr acts ↦ by acts (nat_eq acts.value.inc inc) refl
    ]
  ]
    where
      same_number : (j k : ℕ) → nat_eq j k ≡ true → j ≡ k
      same_number j k e = grind arith

      by : (acts : Acts e node w u) (c : Bool) → nat_eq acts.value.inc inc ≡ c → Raises cap node inc floor (concerned e w) e told u
      by acts true is = let same = same_number acts.value.inc inc is in concerned_by acts same (does acts.value acts.concerns acts.before same)
      by acts false is =
          unconcerned
          (λ m at.
          let q : acts.value ≡ m = let c = acts.concerns in cc (c, at) in
          ap (λ (v : NodeValue). nat_eq v.number node && nat_eq v.inc inc) (sym q) ∙ ap (λ (c : Bool). nat_eq acts.value.number node && c) is ∙ and_false (nat_eq acts.value.number node))

begun_floor : (cap node inc floor : ℕ) (w : WorldState) (d : DiskView) → SameNow w.disk d → Floor cap node inc w floor → Floor cap node inc (begun d w) floor
begun_floor cap node inc floor w d now f = record { world = f.world; good = f.good; ties = mark_ties cap (bare_of w) f.world d f.ties now; witness = f.witness }

event_raises : (cap node inc floor : ℕ) (w u : WorldState) (s : Incarnation) (e : Event) (told : List Told) → At cap node inc w s → Floor cap node inc w floor → IsEvent e → IsTypedEvent e → Steps e w (Ok told) u
    → Raises cap node inc floor (concerned e w) e told u
unfolding begun_floor
event_raises cap node inc floor w u s e told h f allowed typed step =
    let event_is = step.1 in
    let d : DiskView = event_is.disk in
    let v : WorldState = begun d w in
    let now : SameNow w.disk d = record { tells = event_is.marked.same.tells; current = event_is.marked.current } in
    let k : At cap node inc v s = begun_at cap node inc w s d now h in
    let b : Floor cap node inc v floor = begun_floor cap node inc floor w d now f in
    let none : refusal e v ≡ None = begun_refusal e w d step.0 in
    let r : Reaches cap u f.world = steps_reach cap w u f.world e told f.ties f.good h.placed h.typed allowed typed step in
    subst (λ (o : Option NodeValue). Raises cap node inc floor o e told u) (begun_concerned e w d)
    (raises cap node inc floor v u s k b e told r (fate e node v told u k.placed allowed none event_is.does)
    (λ nv concerns at same.
    let slot = k.placed.slots node nv at in
    let q = k.stands nv slot.node at slot.runs same in
    subst (λ (n : ℕ). Went cap f.world n inc s e told u) slot.number
    (subst (λ (i : ℕ). Went cap f.world nv.number i s e told u) same
    (event_goes cap v f.world b.ties f.good k.placed k.typed event_is.marked.past nv slot.node slot.runs s q.0 q.1
    (λ j there. let number : j ≡ node = sym (k.placed.slots j nv there).number ∙ slot.number in k.incs nv at ∙ ap (λ (n : ℕ). starts_of n v) (sym number)) e told u concerns event_is.does r))))

-- ---- a run

never_fall : (cap node inc floor : ℕ) (events : List Event) (w : WorldState) (tolds : List (List Told)) (u : WorldState) (s : Incarnation) → At cap node inc w s → Floor cap node inc w floor → (runs : RunsTyped w events tolds u)
    → NeverFall floor (points_told (history node inc w events tolds u runs))
unfolding RunsTyped history NeverFall
never_fall cap node inc floor [] w [] u s h f runs = tt
never_fall cap node inc floor (e ∷ es) w (told ∷ tolds) u s h f runs =
    let one : Leads cap node inc (concerned e w) e told s runs.0 = event_leads cap node inc w runs.0 s e told h runs.1 runs.2 runs.3 in
    let up : Raises cap node inc floor (concerned e w) e told runs.0 = event_raises cap node inc floor w runs.0 s e told h f runs.1 runs.2 runs.3 in
    subst (λ (points : List ℕ). NeverFall floor points) (sym (flat_map-append (λ (t : Step). points_in t.told) (steps_in node inc w e told runs.0) (history node inc runs.0 es tolds u runs.4)))
    (up.joins (points_told (history node inc runs.0 es tolds u runs.4)) (never_fall cap node inc up.next es runs.0 tolds u one.state one.at up.raised runs.4))
never_fall cap node inc floor [] w (told ∷ tolds) u s h f runs = absurd runs
never_fall cap node inc floor (e ∷ es) w [] u s h f runs = absurd runs

pub run_never_falls : (cap : ℕ) (first last : WorldState) (events : List Event) (tolds : List (List Told)) (node inc : ℕ) → IsOpening cap first → (runs : RunsTyped first events tolds last)
    → NeverFall 0 (points_told (history node inc first events tolds last runs))
run_never_falls cap first last events tolds node inc o runs =
    let r : IsReached cap first = opening_reached cap first o in
    never_fall cap node inc 0 events first tolds last (first_state node) (opening_at cap node inc first o)
    (record { world = run r.events (opening registry_machine cap); good = reached_good cap r.events o.disk.capacity; ties = r.ties; witness = inl refl }) runs
