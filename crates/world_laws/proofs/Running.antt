-- Each world of a run is tied to a world of the protocol.
use Rattle.std.proofs.Common.{◌≡◌, ◌⊎◌, inl, inr, ℕ, zero, suc, ◌+◌, ◌-◌, ◌<◌, ◌≤◌, ◌^◌, Bool, true, false, not, ◌&&◌, List, [], ◌∷◌, ◌++◌, length, Option, Some, None, Ok, nat_eq, nat_lt, nat_le, is_none, if◌then◌else◌, slice_get, replicate, refl, sym, ap, ◌∙◌, subst, append-nil, arith}
use Rattle.std.specs.Prelude.{find, is_some, option_map, slice_set, unwrap_or}
use Rattle.std.specs.declared.alloc.AllocError.{AllocError}
use Rattle.std.specs.List.{list_all}
use Rattle.std.specs.Option.{option_flatten, option_or}
use Rattle.std.proofs.lemmas.List.{length-replicate, length-set}
use Rattle.disk_core.specs.Crashes.{Crashed}
use Rattle.disk_core.specs.Views.{DiskView}
use Rattle.registry_defs.specs.Contents.{IsCap}
use Rattle.gum_messages.specs.declared.member.Member.{Member}
use Rattle.gum_messages.specs.declared.view.View.{View}
use Rattle.wire_fields.specs.Numbers.{IsBytes}
use Rattle.update_records.specs.Limits.{IsUpdate}
use Rattle.gum_messages.specs.Members.{inc_of}
use Rattle.gum_messages.specs.Messages.{IsNode, Sent}
use Rattle.gum_messages.specs.Places.{at_place}
use Rattle.gum_messages.specs.Views.{Ascend, IsView}
use Rattle.gum_messages.proofs.Placing.{place_within}
use Rattle.view_reconcile.specs.declared.chain_fault.ChainFault.{ChainFault}
use Rattle.view_reconcile.specs.Chains.{fault_of, view_in}
use Rattle.update_records.specs.declared.update.Update.{Update}
use Rattle.cluster_rules.specs.declared.effect.Effect.{Effect}
use Rattle.cluster_rules.specs.Worlds.{Clock, Declare, Start, World, ascends, happens, is_view, may_declare, opening, put, run, was_started}
use Rattle.cluster_rules.specs.Worlds as rules
use Rattle.cluster_laws.proofs.Answering.{opening_answers}
use Rattle.cluster_laws.proofs.Orders.{run_append}
use Rattle.cluster_laws.proofs.Theorem.{opening_holds}
use Rattle.registry_machine.specs.Machine.{registry_machine}
use Rattle.log_order.proofs.Writes.{format_refines}
use Rattle.cluster_member.specs.States.{MemberState, fresh_member}
use Rattle.cluster_node.specs.Events.{HangsUp, HearsBytes, NodeChecks, NodeInstalls, NodeReceives, Ticks, Connects, Batches}
use Rattle.cluster_node.specs.States.{IsSameNode, NodeValue, RunningNode, clocked, runs, started, with_stamp}
use Rattle.cluster_worlds.specs.declared.bad_event.BadEvent.TheVariants as bad
use Rattle.cluster_worlds.specs.declared.event.Event.{Event}
use Rattle.cluster_worlds.specs.declared.event.Event.TheVariants as event
use Rattle.cluster_worlds.specs.declared.inner.Inner.{Inner}
use Rattle.cluster_worlds.specs.declared.inner.Inner.TheVariants as inner
use Rattle.cluster_worlds.specs.declared.told.Told.{Told}
use Rattle.cluster_worlds.specs.Conditions.{IsEvent}
use Rattle.cluster_worlds.specs.Happening.{ActsAt, Dies, DiesIn, Does, Happens, Installs, Reacts, Receives, addressee, begun, reached, with_clock, with_conn, with_failing, with_start, with_view}
use Rattle.cluster_worlds.specs.Refusing.{refusal}
use Rattle.cluster_worlds.specs.Refusing as refusing
use Rattle.cluster_worlds.specs.Runs.{HasNewLog, IsOpening, Steps}
use Rattle.cluster_worlds.specs.Telling.{absorbed, bereft}
use Rattle.cluster_worlds.specs.Worlds.{WorldState, first_world, home_of, node_at, starts_of}
use Rattle.client_connections.specs.Clients.{no_clients}
use Rattle.client_laws.specs.Typed.{AreTyped}
use Rattle.client_laws.proofs.Events.{begin_typed}
use Rattle.world_laws.specs.Typed.{IsTypedEvent, RunsTyped}
use Rattle.world_laws.proofs.Happening.{Reaches, batches_at, checks_at, connects_at, die_at, dies_alone, dies_checking, dies_installing, dies_receiving, hangs_up_at, hears_at, installs_at, quiet, receives_at, served_is, ticks_at}
use Rattle.world_laws.proofs.Quiet.{SameNow, clock_ties, declare_ties, mark_ties, start_ties, with_rules}
use Rattle.world_laws.proofs.Records.{Good, run_good}
use Rattle.log_order.specs.Refinement.{Owns, Refines}
use Rattle.world_laws.proofs.Slots.{IsSlot, Placed, at_set, bare_of, member_of, members_set, node_within, placed_set, running_member}
use Rattle.world_laws.proofs.Tied.{Abstracts, Bare, rules_in}
use Rattle.world_laws.proofs.Typing.{IsTyped, typed_set}

-- ---- a view that may be declared

from_le : (a b : ℕ) → a ≤ b → nat_le a b ≡ true
from_le a b le = grind arith

from_lt : (a b : ℕ) → a < b → nat_lt a b ≡ true
from_lt a b lt = grind arith

both_true : (a b : Bool) → a ≡ true → b ≡ true → (a && b) ≡ true
both_true a b e f = (λ i. e i && f i)

ascends_is : (floor : ℕ) (ms : List Member) → Ascend floor ms → ascends floor ms ≡ true
unfolding Ascend
ascends_is floor [] a = refl
ascends_is floor (m ∷ ms) a =
    both_true (nat_lt floor m.node) _ (from_lt floor m.node a.0)
    (both_true (nat_le m.node 16) _ (from_le m.node 16 a.1) (both_true (nat_le 1 m.inc) _ (from_le 1 m.inc a.2) (ascends_is m.node ms a.3)))

view_is : (v : View) → IsView v → is_view v ≡ true
view_is v is = both_true (nat_le 1 v.number) _ (from_le 1 v.number is.numbered) (ascends_is 0 v.members is.ascending)

found_none : (c : Bool) (m : Member) (rest : Option Member) → (if not c then Some m else rest) ≡ None → (c ≡ true) × (rest ≡ None)
found_none true m rest e = (refl, e)
found_none false m rest e = absurd (cc)

all_started : (w : WorldState) (starts : ℕ → ℕ) (floor : ℕ) (ms : List Member) → ((n : ℕ) → starts n ≡ starts_of n w) → Ascend floor ms → find (λ m. not (refusing.was_started w m)) ms ≡ None
    → list_all (was_started starts) ms ≡ true
unfolding Ascend
all_started w starts floor [] same a none = refl
all_started w starts floor (m ∷ ms) same a none =
    let f = found_none (refusing.was_started w m) m (find (λ m. not (refusing.was_started w m)) ms) none in
    let here : nat_le m.inc (starts m.node) ≡ true = ap (λ (n : ℕ). nat_le m.inc n) (same m.node) ∙ f.0 in
    both_true (was_started starts m) _ (both_true (nat_lt 0 m.inc) _ (from_lt 0 m.inc (let one = a.2 in omega (arith, one))) here) (all_started w starts m.node ms same a.3 f.1)

or_none : {A : Type 0} (x y : Option A) → option_or x y ≡ None → (x ≡ None) × (y ≡ None)
or_none None y e = (refl, e)
or_none (Some a) y e = absurd (cc)

map_none : {A B : Type 0} (f : A → B) (o : Option A) → option_map f o ≡ None → o ≡ None
map_none f None e = refl
map_none f (Some a) e = absurd (cc)

declared : (w : WorldState) (w0 : World registry_machine) (v : View) (cap : ℕ) → Abstracts cap (bare_of w) w0 → IsView v → refusal (event.Declare v) w ≡ None → may_declare w0 v ≡ true
declared w w0 v cap a is none =
    let o = or_none (refusing.not_started v.members w) (refusing.broken_chain v w) none in
    let started = map_none (λ (m : Member). bad.NotStarted m.node m.inc) (find (λ m. not (refusing.was_started w m)) v.members) o.0 in
    let sound : fault_of w.chain v ≡ None = map_none (λ (f : ChainFault). bad.Chain f) (fault_of w.chain v) o.1 in
    let whole : is_none (fault_of w0.chain v) ≡ true = ap (λ (c : List View). is_none (fault_of c v)) a.chain ∙ ap (λ (f : Option ChainFault). is_none f) sound in
    both_true (is_view v) _ (view_is v is) (both_true (list_all (was_started w0.starts) v.members) _ (all_started w w0.starts 0 v.members a.starts is.ascending started) whole)

-- ---- a view more

get_last : (chain : List View) (v u : View) (k : ℕ) → slice_get (chain ++ v ∷ []) k ≡ Some u → (slice_get chain k ≡ Some u) ⊎ (u ≡ v)
get_last [] v u zero e = inr (cc)
get_last [] v u (suc k) e = absurd (cc)
get_last (x ∷ chain) v u zero e = inl e
get_last (x ∷ chain) v u (suc k) e = get_last chain v u k e

view_incs : (chain : List View) (v : View) → ((k : ℕ) (u : View) (n : ℕ) → view_in chain k ≡ Some u → inc_of u.members n < 2 ^ 64) → ((n : ℕ) → inc_of v.members n < 2 ^ 64)
    → (k : ℕ) (u : View) (n : ℕ) → view_in (chain ++ v ∷ []) k ≡ Some u → inc_of u.members n < 2 ^ 64
view_incs chain v low new zero u n e = absurd (cc)
view_incs chain v low new (suc k) u n e = elim (get_last chain v u k e) [
  | inl old ↦ low (suc k) u n old
  | inr is ↦ subst (λ (t : View). inc_of t.members n < 2 ^ 64) (sym is) (new n)
]

-- ---- a node that may be started

abbrev runs_of : ℕ → ℕ → RunningNode
runs_of node inc = runs (fresh_member node inc) (no_clients node)

not_there : (node : ℕ) (o : Option NodeValue) → (if is_some o then Some (bad.Running node) else None) ≡ None → o ≡ None
not_there node None e = refl
not_there node (Some m) e = absurd (cc)

starts_if : (c : Bool) (s : ℕ) (o : Option ℕ) → unwrap_or (if c then Some s else o) 0 ≡ (if c then s else unwrap_or o 0)
starts_if true s o = refl
starts_if false s o = refl

module _ (cap : ℕ) (w : WorldState) (w0 : World registry_machine) (a : Abstracts cap (bare_of w) w0) (g : Good w0) (p : Placed w) (t : IsTyped w) where
  starts_at : (node : ℕ) → IsNode node → node_at node w ≡ None → Reaches cap (with_start node w) w0
  starts_at node n none =
      let inc = starts_of node w + 1 in
      let s : Option NodeValue = Some (started node inc) in
      let members : (j : ℕ) → (bare_of (with_start node w)).members j ≡ put (bare_of w).members node (Some (fresh_member node inc)) j = λ j. members_set w node j s p n in
      let starts : (j : ℕ) → starts_of j (with_start node w) ≡ put (bare_of w).starts node inc j = λ j.
      ap (λ (o : Option ℕ). unwrap_or o 0) (at_set w.starts node j inc n.first (let l = n.last in let long = p.starts in omega (arith, l, long))) ∙ starts_if (nat_eq j node) inc (at_place w.starts j) in
      let is : bare_of (with_start node w) ≡ record (bare_of w) { members = put (bare_of w).members node (Some (fresh_member node inc)); starts = put (bare_of w).starts node inc } =
      λ i. record (bare_of w) { members = λ j. members j i; starts = λ j. starts j i } in
      record {
        more = Start node ∷ [];
        ties = subst (λ (c : Bare). Abstracts cap c (run (Start node ∷ []) w0)) (sym is) (start_ties cap (bare_of w) w0 node a (ap (λ (o : Option NodeValue). member_of o) none));
        placed = placed_set w (with_start node w) node s p n refl (length-set w.starts (node - 1) inc ∙ p.starts)
            (λ m e. let q : started node inc ≡ m = cc in subst (λ (t : NodeValue). IsSlot node t) q (record { number = refl; node = _; runs = refl }));
        typed = typed_set w (with_start node w) node s p n t refl refl (λ m x e runs.
            let q : started node inc ≡ m = cc in
            let r : runs_of node inc ≡ x = cc (ap (λ (t : NodeValue). t.running) q, runs) in
            subst (λ (z : RunningNode). AreTyped z.clients) r (begin_typed node));
      }

  declares : (v : View) → IsView v → ((n : ℕ) → inc_of v.members n < 2 ^ 64) → refusal (event.Declare v) w ≡ None → Reaches cap (with_view v w) w0
  declares v is low none = record {
    more = Declare v ∷ [];
    ties = declare_ties cap (bare_of w) w0 v a (declared w w0 v cap a is none);
    placed = record { nodes = p.nodes; starts = p.starts; slots = p.slots };
    typed = record { incs = view_incs w.chain v t.incs low; clients = t.clients };
  }

  clocks : (node stamp : ℕ) (o : Option NodeValue) → stamp < 2 ^ 64 → node_at node w ≡ o → (u : WorldState) → u ≡ with_clock stamp o w → Reaches cap u w0
  clocks node stamp None low at u is = quiet cap w w0 a g p t u is
  clocks node stamp (Some nv) low at u is =
      let slot = p.slots node nv at in
      let n = node_within w node nv p at in
      let s : Option NodeValue = Some (clocked stamp nv) in
      let nodes : u.nodes ≡ slice_set w.nodes (node - 1) s = ap (λ (v : WorldState). v.nodes) is ∙ ap (λ (j : ℕ). slice_set w.nodes (j - 1) s) slot.number in
      let ran : option_map (with_stamp stamp) nv.running ≡ Some (with_stamp stamp slot.node) = ap (λ (r : Option RunningNode). option_map (with_stamp stamp) r) slot.runs in
      let new : (m : NodeValue) → s ≡ Some m → IsSlot node m = λ m e. let q : clocked stamp nv ≡ m = cc in subst (λ (t : NodeValue). IsSlot node t) q (record { number = slot.number; node = with_stamp stamp slot.node; runs = ran }) in
      let placed = placed_set w u node s p n nodes (ap (λ (v : WorldState). length v.starts) is ∙ p.starts) new in
      let y : MemberState = with_rules slot.node.member (record (slot.node.member.rules) { stamp = stamp }) in
      let there : (bare_of w).members node ≡ Some slot.node.member = ap (λ (o : Option NodeValue). member_of o) at ∙ ap (λ (r : Option RunningNode). running_member r) slot.runs in
      let members : (j : ℕ) → (bare_of u).members j ≡ put (bare_of w).members node (Some y) j = λ j.
      ap (λ (l : List (Option NodeValue)). member_of (option_flatten (at_place l j))) nodes ∙ members_set w node j s p n
      ∙ ap (λ (r : Option RunningNode). put (bare_of w).members node (running_member r) j) ran in
      let c = clock_ties cap (bare_of w) w0 node stamp slot.node.member a there low in
      record {
        more = Clock node stamp ∷ [];
        ties = record {
          nodes = λ j. c.nodes j ∙ ap (λ (o : Option MemberState). rules_in o) (sym (members j));
          starts = λ j. c.starts j ∙ ap (λ (v : WorldState). starts_of j v) (sym is);
          chain = c.chain ∙ ap (λ (v : WorldState). v.chain) (sym is);
          pool = c.pool ∙ append-nil w.pool ∙ ap (λ (v : WorldState). v.pool) (sym is);
          acks = c.acks ∙ append-nil w.acks ∙ ap (λ (v : WorldState). v.acks) (sym is);
          order = c.order ∙ ap (λ (v : WorldState). v.order) (sym is);
          cap_is = c.cap_is;
          refines = subst (λ (d : DiskView). Refines (run (Clock node stamp ∷ []) w0).log d) (ap (λ (v : WorldState). v.disk) (sym is)) c.refines;
          logs = λ j m log e f. c.logs j m log (sym (members j) ∙ e) f;
          owns = λ j m log e f held. subst (λ (d : DiskView). Owns (run (Clock node stamp ∷ []) w0).log d log) (ap (λ (v : WorldState). v.disk) (sym is)) (c.owns j m log (sym (members j) ∙ e) f held);
        };
        placed = placed;
        typed = typed_set w u node s p n t nodes (ap (λ (v : WorldState). v.chain) is) (λ m x e runs.
            let q : clocked stamp nv ≡ m = cc in
            let r : with_stamp stamp slot.node ≡ x = cc (ran, ap (λ (t : NodeValue). t.running) q, runs) in
            subst (λ (z : RunningNode). AreTyped z.clients) r (t.clients node nv slot.node at slot.runs));
      }

  -- ---- a node does something

  abbrev HasBytes : Inner → Type 0
  HasBytes (inner.Bytes conn piece) = IsBytes piece
  HasBytes i = Unit {0}

  runs_at : (k : ℕ) (nv : NodeValue) → node_at k w ≡ Some nv → IsSlot k nv
  runs_at k nv at = p.slots k nv at

  at_disk : (effects : List Effect) (after : NodeValue) (d : DiskView) → d ≡ w.disk → Reaches cap (absorbed effects after w.disk w) w0 → Reaches cap (absorbed effects after d w) w0
  at_disk effects after d same r = subst (λ (e : DiskView). Reaches cap (absorbed effects after e w) w0) (sym same) r

  reacts : (i : Inner) (nv after : NodeValue) (effects : List Effect) (d : DiskView) → reached i w ≡ Some nv → IsSameNode nv after → HasBytes i → Reacts i w nv effects after d
      → Reaches cap (absorbed effects after d w) w0
  reacts (inner.Install node view) nv after effects d at same bytes r = by (view_in w.chain view) refl r
    where
      by : (o : Option View) → view_in w.chain view ≡ o → Installs o w.disk nv effects after d → Reaches cap (absorbed effects after d w) w0
      by None e r = absurd r
      by (Some v) e r =
          let s = runs_at node nv at in
          installs_at cap w w0 a g p t node nv s.node at s.runs view v after effects d e same (subst (λ (q : Option RunningNode). NodeInstalls {E = AllocError} w.disk q v (Ok effects) after.running d) s.runs r)
  reacts (inner.Bytes conn piece) nv after effects d at same bytes r =
      let k = served_is conn (home_of conn w) w nv at in
      let s = runs_at k.0 nv k.1 in
      at_disk effects after d r.1 (hears_at cap w w0 a g p t k.0 nv s.node k.1 s.runs conn piece after effects same bytes (subst (λ (q : Option RunningNode). HearsBytes conn piece q after.running effects) s.runs r.0))
  reacts (inner.HangUp conn) nv after effects d at same bytes r =
      let k = served_is conn (home_of conn w) w nv at in
      let s = runs_at k.0 nv k.1 in
      at_disk effects after d r.1 (hangs_up_at cap w w0 a g p t k.0 nv s.node k.1 s.runs conn after effects same (subst (λ (q : Option RunningNode). HangsUp conn q after.running effects) s.runs r.0))
  reacts (inner.Deliver number) nv after effects d at same bytes r = by (at_place w.pool number) refl at r
    where
      by : (o : Option Sent) → at_place w.pool number ≡ o → addressee o w ≡ Some nv → Receives o w.disk nv effects after d → Reaches cap (absorbed effects after d w) w0
      by None e at r = absurd r
      by (Some message) e at r =
          let s = runs_at message.to nv at in
          receives_at cap w w0 a g p t message.to nv s.node at s.runs number message after effects d e refl same (subst (λ (q : Option RunningNode). NodeReceives {E = AllocError} w.disk q message (Ok effects) after.running d) s.runs r)
  reacts (inner.Tick node) nv after effects d at same bytes r =
      let s = runs_at node nv at in
      at_disk effects after d r.1 (ticks_at cap w w0 a g p t node nv s.node at s.runs after effects same (subst (λ (q : Option RunningNode). Ticks q after.running effects) s.runs r.0))
  reacts (inner.Checkpoint node) nv after effects d at same bytes r =
      let s = runs_at node nv at in
      checks_at cap w w0 a g p t node nv s.node at s.runs after effects d same (subst (λ (q : Option RunningNode). NodeChecks {E = AllocError} w.disk q (Ok effects) after.running d) s.runs r)

  acts_inner : (i : Inner) (o : Option NodeValue) (told : List Told) (u : WorldState) → HasBytes i → reached i w ≡ o → ActsAt (Reacts i w) o w told u → Reaches cap u w0
  acts_inner i None told u bytes at h = quiet cap w w0 a g p t u h.1
  acts_inner i (Some nv) told u bytes at h = subst (λ (v : WorldState). Reaches cap v w0) (sym h.world) (reacts i nv h.after h.effects h.disk at h.same bytes h.event)

  -- a node dies inside an event
  dies_in : (i : Inner) (nv after : NodeValue) (effects : List Effect) (d left : DiskView) (moment : ℕ) (bytes : List ℕ) → w.disk.past ≡ [] → reached i w ≡ Some nv → Reacts i w nv effects after d → Crashed d moment bytes left
      → Reaches cap (bereft nv left w) w0
  dies_in (inner.Install node view) nv after effects d left moment bytes past at r crashed = by (view_in w.chain view) refl r
    where
      by : (o : Option View) → view_in w.chain view ≡ o → Installs o w.disk nv effects after d → Reaches cap (bereft nv left w) w0
      by None e r = absurd r
      by (Some v) e r =
          let s = runs_at node nv at in
          dies_installing cap w w0 a g p t node nv s.node at s.runs past d left moment bytes crashed view v after.running effects e (subst (λ (q : Option RunningNode). NodeInstalls {E = AllocError} w.disk q v (Ok effects) after.running d) s.runs r)
  dies_in (inner.Bytes conn piece) nv after effects d left moment bytes past at r crashed =
      let k = served_is conn (home_of conn w) w nv at in
      let s = runs_at k.0 nv k.1 in
      dies_alone cap w w0 a g p t k.0 nv s.node k.1 s.runs past d left moment bytes crashed r.1
  dies_in (inner.HangUp conn) nv after effects d left moment bytes past at r crashed =
      let k = served_is conn (home_of conn w) w nv at in
      let s = runs_at k.0 nv k.1 in
      dies_alone cap w w0 a g p t k.0 nv s.node k.1 s.runs past d left moment bytes crashed r.1
  dies_in (inner.Deliver number) nv after effects d left moment bytes past at r crashed = by (at_place w.pool number) refl at r
    where
      by : (o : Option Sent) → at_place w.pool number ≡ o → addressee o w ≡ Some nv → Receives o w.disk nv effects after d → Reaches cap (bereft nv left w) w0
      by None e at r = absurd r
      by (Some message) e at r =
          let s = runs_at message.to nv at in
          dies_receiving cap w w0 a g p t message.to nv s.node at s.runs past d left moment bytes crashed number message after.running effects e refl
          (subst (λ (q : Option RunningNode). NodeReceives {E = AllocError} w.disk q message (Ok effects) after.running d) s.runs r)
  dies_in (inner.Tick node) nv after effects d left moment bytes past at r crashed =
      let s = runs_at node nv at in
      dies_alone cap w w0 a g p t node nv s.node at s.runs past d left moment bytes crashed r.1
  dies_in (inner.Checkpoint node) nv after effects d left moment bytes past at r crashed =
      let s = runs_at node nv at in
      dies_checking cap w w0 a g p t node nv s.node at s.runs past d left moment bytes crashed after.running effects (subst (λ (q : Option RunningNode). NodeChecks {E = AllocError} w.disk q (Ok effects) after.running d) s.runs r)

  dies_inside : (i : Inner) (o : Option NodeValue) (moment : ℕ) (bytes : List ℕ) (told : List Told) (u : WorldState) → w.disk.past ≡ [] → reached i w ≡ o → DiesIn moment bytes i o w told u → Reaches cap u w0
  dies_inside i None moment bytes told u past at h = quiet cap w w0 a g p t u h.1
  dies_inside i (Some nv) moment bytes told u past at h =
      subst (λ (v : WorldState). Reaches cap v w0) (sym h.world) (dies_in i nv h.after h.effects h.disk h.left moment bytes past at h.event h.crashed)

  dies_at : (node : ℕ) (o : Option NodeValue) (told : List Told) (u : WorldState) → node_at node w ≡ o → Dies o w told u → Reaches cap u w0
  dies_at node None told u at h = quiet cap w w0 a g p t u h.1
  dies_at node (Some nv) told u at h = let s = runs_at node nv at in subst (λ (v : WorldState). Reaches cap v w0) (sym h.1) (die_at cap w w0 a g p t node nv s.node at s.runs)

  batches : (node : ℕ) (update : Update) (o : Option NodeValue) (told : List Told) (u : WorldState) → IsUpdate update → node_at node w ≡ o → ActsAt (λ n effects m d. Batches update n.running m.running effects × (d ≡ w.disk)) o w told u
      → Reaches cap u w0
  batches node update None told u valid at h = quiet cap w w0 a g p t u h.1
  batches node update (Some nv) told u valid at h =
      let s = runs_at node nv at in
      subst (λ (v : WorldState). Reaches cap v w0) (sym h.world) (at_disk h.effects h.after h.disk h.event.1
      (batches_at cap w w0 a g p t node nv s.node at s.runs update h.after h.effects h.same valid (subst (λ (q : Option RunningNode). Batches update q h.after.running h.effects) s.runs h.event.0)))

  connects : (conn node : ℕ) (o : Option NodeValue) (told : List Told) (u : WorldState) → node_at node w ≡ o → ActsAt (λ n effects m d. Connects conn n.running m.running effects × (d ≡ w.disk)) o w told u → Reaches cap u w0
  connects conn node None told u at h = quiet cap w w0 a g p t u h.1
  connects conn node (Some nv) told u at h =
      let s = runs_at node nv at in
      subst (λ (v : WorldState). Reaches cap v w0) (sym h.world) (at_disk h.effects h.after h.disk h.event.1
      (connects_at cap w w0 a g p t node nv s.node at s.runs conn h.after h.effects h.same (subst (λ (q : Option RunningNode). Connects conn q h.after.running h.effects) s.runs h.event.0)))

-- ---- an event

begun_placed : (w : WorldState) (d : DiskView) → Placed w → Placed (begun d w)
begun_placed w d p = record { nodes = p.nodes; starts = p.starts; slots = p.slots }

begun_typed : (w : WorldState) (d : DiskView) → IsTyped w → IsTyped (begun d w)
begun_typed w d t = record { incs = t.incs; clients = t.clients }

conn_placed : (w : WorldState) (conn node : ℕ) → Placed w → Placed (with_conn conn node w)
conn_placed w conn node p = record { nodes = p.nodes; starts = p.starts; slots = p.slots }

conn_typed : (w : WorldState) (conn node : ℕ) → IsTyped w → IsTyped (with_conn conn node w)
conn_typed w conn node t = record { incs = t.incs; clients = t.clients }

module _ (cap : ℕ) (w : WorldState) (w0 : World registry_machine) (a : Abstracts cap (bare_of w) w0) (g : Good w0) (p : Placed w) (t : IsTyped w) (past : w.disk.past ≡ []) where
  does : (e : Event) (told : List Told) (u : WorldState) → IsEvent e → IsTypedEvent e → refusal e w ≡ None → Does e w told u → Reaches cap u w0
  does (event.Start node) told u is typed none h =
      subst (λ (v : WorldState). Reaches cap v w0) (sym h.1) (starts_at cap w w0 a g p t node is (not_there node (node_at node w) none))
  does (event.Declare view) told u is typed none h = subst (λ (v : WorldState). Reaches cap v w0) (sym h.1) (declares cap w w0 a g p t view typed.0 typed.1 none)
  does (event.Install node view) told u is typed none h = acts_inner cap w w0 a g p t (inner.Install node view) (reached (inner.Install node view) w) told u tt refl h
  does (event.Connect conn node) told u is typed none h =
      connects cap (with_conn conn node w) w0 (still a) g (conn_placed w conn node p) (conn_typed w conn node t) conn node (node_at node w) told u refl h
    where
      still : Abstracts cap (bare_of w) w0 → Abstracts cap (bare_of (with_conn conn node w)) w0
      still a = a
  does (event.Bytes conn piece) told u is typed none h = acts_inner cap w w0 a g p t (inner.Bytes conn piece) (reached (inner.Bytes conn piece) w) told u typed refl h
  does (event.HangUp conn) told u is typed none h = acts_inner cap w w0 a g p t (inner.HangUp conn) (reached (inner.HangUp conn) w) told u tt refl h
  does (event.Deliver number) told u is typed none h = acts_inner cap w w0 a g p t (inner.Deliver number) (reached (inner.Deliver number) w) told u tt refl h
  does (event.Tick node) told u is typed none h = acts_inner cap w w0 a g p t (inner.Tick node) (reached (inner.Tick node) w) told u tt refl h
  does (event.Checkpoint node) told u is typed none h = acts_inner cap w w0 a g p t (inner.Checkpoint node) (reached (inner.Checkpoint node) w) told u tt refl h
  does (event.Fail call) told u is typed none h =
      subst (λ (v : WorldState). Reaches cap v w0) (sym h.1) (record {
        more = [];
        ties = mark_ties cap (bare_of w) w0 (with_failing call w).disk a (record { tells = refl; current = refl });
        placed = record { nodes = p.nodes; starts = p.starts; slots = p.slots };
        typed = record { incs = t.incs; clients = t.clients };
      })
  does (event.Die node) told u is typed none h = dies_at cap w w0 a g p t node (node_at node w) told u refl h
  does (event.Clock node stamp) told u is typed none h = clocks cap w w0 a g p t node stamp (node_at node w) typed refl u h.1
  does (event.Batch node update) told u is typed none h = batches cap w w0 a g p t node update (node_at node w) told u typed refl h
  does (event.DieIn moment bytes i) told u is typed none h = dies_inside cap w w0 a g p t i (reached i w) moment bytes told u past refl h

unmarked : (e : Event) (w : WorldState) (d : DiskView) → refusal e w ≡ None → refusal e (begun d w) ≡ None
unmarked (event.Start node) w d none = none
unmarked (event.Declare view) w d none = none
unmarked (event.Install node view) w d none = none
unmarked (event.Connect conn node) w d none = none
unmarked (event.Bytes conn piece) w d none = none
unmarked (event.HangUp conn) w d none = none
unmarked (event.Deliver number) w d none = none
unmarked (event.Tick node) w d none = none
unmarked (event.Checkpoint node) w d none = none
unmarked (event.Fail call) w d none = none
unmarked (event.Die node) w d none = none
unmarked (event.Clock node stamp) w d none = none
unmarked (event.Batch node update) w d none = none
unmarked (event.DieIn moment bytes (inner.Install node view)) w d none = none
unmarked (event.DieIn moment bytes (inner.Bytes conn piece)) w d none = none
unmarked (event.DieIn moment bytes (inner.HangUp conn)) w d none = none
unmarked (event.DieIn moment bytes (inner.Deliver number)) w d none = none
unmarked (event.DieIn moment bytes (inner.Tick node)) w d none = none
unmarked (event.DieIn moment bytes (inner.Checkpoint node)) w d none = none

pub steps_reach : (cap : ℕ) (w u : WorldState) (w0 : World registry_machine) (e : Event) (told : List Told) → Abstracts cap (bare_of w) w0 → Good w0 → Placed w → IsTyped w → IsEvent e → IsTypedEvent e → Steps e w (Ok told) u → Reaches cap u w0
steps_reach cap w u w0 e told a g p t is typed s =
    let h : Happens e w told u = s.1 in
    let now : SameNow w.disk h.disk = record { tells = h.marked.same.tells; current = h.marked.current } in
    let ties : Abstracts cap (bare_of (begun h.disk w)) w0 = mark_ties cap (bare_of w) w0 h.disk a now in
    does cap (begun h.disk w) w0 ties g (begun_placed w h.disk p) (begun_typed w h.disk t) h.marked.past e told u is typed (unmarked e w h.disk s.0) h.does

-- ---- a run

-- What holds of each world of a run.
pub record IsReached (cap : ℕ) (w : WorldState) : Type 0 where
  pub events : List rules.Event
  pub ties : Abstracts cap (bare_of w) (run events (opening registry_machine cap))
  pub placed : Placed w
  pub typed : IsTyped w

pub opening_good : (cap : ℕ) → IsCap cap → Good (opening registry_machine cap)
opening_good cap is = record { holds = opening_holds registry_machine cap is; shapes = λ k v e. absurd (no_view k v e); few = λ n i. omega arith; answering = opening_answers registry_machine cap }
  where
    no_view : (k : ℕ) (v : View) → at_place [] k ≡ Some v → ⊥
    no_view k v e = let h = place_within [] k v e in omega (arith, h.0, h.1)

pub reached_good : (cap : ℕ) (events : List rules.Event) → IsCap cap → Good (run events (opening registry_machine cap))
reached_good cap events is = run_good events (opening registry_machine cap) (opening_good cap is)

pub step_reached : (cap : ℕ) (w u : WorldState) (e : Event) (told : List Told) → IsCap cap → IsReached cap w → IsEvent e → IsTypedEvent e → Steps e w (Ok told) u → IsReached cap u
step_reached cap w u e told is r allowed typed s =
    let w0 = run r.events (opening registry_machine cap) in
    let next = steps_reach cap w u w0 e told r.ties (reached_good cap r.events is) r.placed r.typed allowed typed s in
    record {
      events = r.events ++ next.more;
      ties = subst (λ (v : World registry_machine). Abstracts cap (bare_of u) v) (sym (run_append r.events next.more (opening registry_machine cap))) next.ties;
      placed = next.placed;
      typed = next.typed;
    }

pub run_reached : (cap : ℕ) (events : List Event) (w : WorldState) (tolds : List (List Told)) (u : WorldState) → IsCap cap → IsReached cap w → RunsTyped w events tolds u → IsReached cap u
unfolding RunsTyped
run_reached cap [] w [] u is r h = subst (λ (v : WorldState). IsReached cap v) (sym h) r
run_reached cap (e ∷ es) w (told ∷ tolds) u is r h = run_reached cap es h.0 tolds u is (step_reached cap w h.0 e told is r h.1 h.2 h.3) h.4
run_reached cap [] w (told ∷ tolds) u is r h = absurd h
run_reached cap (e ∷ es) w [] u is r h = absurd h

-- ---- the first world

abbrev no_slot : Option NodeValue
no_slot = None

get_none : (n k : ℕ) → option_flatten (slice_get (replicate n no_slot) k) ≡ no_slot
get_none zero k = refl
get_none (suc n) zero = refl
get_none (suc n) (suc k) = get_none n k

at_none : (n k : ℕ) → option_flatten (at_place (replicate n no_slot) k) ≡ no_slot
at_none n zero = refl
at_none n (suc k) = get_none n k

abbrev never : ℕ
never = 0

get_zero : (n k : ℕ) → unwrap_or (slice_get (replicate n never) k) 0 ≡ never
get_zero zero k = refl
get_zero (suc n) zero = refl
get_zero (suc n) (suc k) = get_zero n k

at_zero : (n k : ℕ) → unwrap_or (at_place (replicate n never) k) 0 ≡ never
at_zero n zero = refl
at_zero n (suc k) = get_zero n k

no_member : (n : ℕ) (d : DiskView) (m : MemberState) → (bare_of (first_world d)).members n ≡ Some m → ⊥
no_member n d m e =
    let none : (bare_of (first_world d)).members n ≡ None = ap (λ (o : Option NodeValue). member_of o) (at_none 16 n) in
    cc (none, e)

first_ties : (cap : ℕ) (d : DiskView) → HasNewLog cap d → Abstracts cap (bare_of (first_world d)) (opening registry_machine cap)
first_ties cap d new = record {
  nodes = λ n. ap rules_in (sym (ap (λ (o : Option NodeValue). member_of o) (at_none 16 n)));
  starts = λ n. sym (at_zero 16 n);
  chain = refl;
  pool = refl;
  acks = refl;
  order = refl;
  cap_is = refl;
  refines = format_refines (opening registry_machine cap).log d new.capacity refl (sym new.unclaimed) new.tells new.log;
  logs = λ n m log e f. absurd (no_member n d m e);
  owns = λ n m log e f held. absurd (no_member n d m e);
}

first_typed : (d : DiskView) → IsTyped (first_world d)
first_typed d = record {
  incs = λ k v n e. absurd (let h = place_within [] k v e in omega (arith, h.0, h.1));
  clients = λ n m x e runs. absurd (cc (at_none 16 n, e));
}

first_placed : (d : DiskView) → Placed (first_world d)
first_placed d = record {
  nodes = length-replicate 16 no_slot;
  starts = length-replicate 16 never;
  slots = λ n m e. absurd (cc (at_none 16 n, e));
}

pub opening_reached : (cap : ℕ) (w : WorldState) → IsOpening cap w → IsReached cap w
opening_reached cap w o = subst (λ (v : WorldState). IsReached cap v) (sym o.world) (record {
  events = [];
  ties = first_ties cap w.disk o.disk;
  placed = first_placed w.disk;
  typed = first_typed w.disk;
})
