-- What an event is for the incarnation that it concerns.
use Rattle.std.proofs.Common.{◌≡◌, ℕ, ◌-◌, ◌≤◌, Bool, true, false, List, [], ◌∷◌, ◌++◌, length, Option, Some, None, Ok, Err, nat_eq, if◌then◌else◌, refl, sym, ap, ◌∙◌, subst, arith}
use Rattle.std.specs.Prelude.{IfSome, map, slice_set}
use Rattle.std.specs.Map.{keys_of}
use Rattle.std.specs.Option.{option_flatten}
use Rattle.std.proofs.lemmas.List.{append_cancel_left}
use Rattle.update_records.specs.declared.update.Update.{Update}
use Rattle.update_records.specs.Limits.{IsUpdate}
use Rattle.client_laws.specs.Typed.{AreTyped}
use Rattle.world_laws.proofs.Speaking.{closings_mute}
use Rattle.gum_messages.specs.Messages.{IsNode}
use Rattle.gum_messages.specs.Places.{at_place}
use Rattle.disk_core.specs.Views.{DiskView}
use Rattle.update_records.specs.Entry.{Entry}
use Rattle.cluster_rules.specs.declared.effect.Effect.{Effect}
use Rattle.cluster_rules.specs.declared.effect.Effect.TheVariants.{Halted}
use Rattle.cluster_rules.specs.declared.effect.HaltCause.{HaltCause}
use Rattle.cluster_rules.specs.Nodes.{Out, done_of}
use Rattle.cluster_rules.specs.Worlds.{Event, World, acked, happens, run, sent}
use Rattle.cluster_laws.proofs.Inv.{Invariant}
use Rattle.cluster_laws.proofs.Telling.{Tells}
use Rattle.registry_machine.specs.Machine.{registry_machine}
use Rattle.client_connections.specs.Clients.{Clients, closings, without_any}
use Rattle.cluster_member.specs.declared.stop.Stop.TheVariants as stop
use Rattle.cluster_member.specs.Events.{Comes}
use Rattle.cluster_member.specs.States.{MemberState}
use Rattle.member_rules.specs.declared.told.Told.{Told}
use Rattle.cluster_node.specs.Acting.{Follows}
use Rattle.cluster_node.specs.Events.{head_request}
use Rattle.cluster_node.specs.Explained.{Finishes, Incarnation, Input, IsStepBy, Step, Stops, told_to_clients, with_clients}
use Rattle.cluster_node.specs.InStep.{InStep}
use Rattle.cluster_node.specs.States.{IsSameNode, NodeValue, RunningNode}
use Rattle.cluster_node.specs.Steps.{AreHeads, FollowsAsStep, HasFold, StandsFor, StepsBy, input_for, step_at}
use Rattle.cluster_node.proofs.ForClients.{closings_for}
use Rattle.cluster_worlds.specs.declared.event.Event as worlds
use Rattle.cluster_worlds.specs.declared.told.Told.TheVariants as trace
use Rattle.cluster_rules.specs.declared.effect.CloseCause.TheVariants.{NodeStopped}
use Rattle.cluster_worlds.specs.declared.told.Told as tolds
use Rattle.cluster_worlds.specs.Telling.{absorbed, bereft, joined, told_death, told_of}
use Rattle.cluster_worlds.specs.Worlds.{WorldState, node_at, slot_of}
use Rattle.world_laws.proofs.Absorbing.{absorbed_bare, applied_is, at_self, bereft_bare, joins_none, same_move, then_leads}
use Rattle.world_laws.proofs.Coming.{Grows}
use Rattle.world_laws.proofs.Following.{ComesBorn, Then, follows_left}
use Rattle.world_laws.proofs.Records.{Good, good_keeps}
use Rattle.world_laws.proofs.Slots.{Placed, bare_of, node_set, node_within, running_member, slot_cases}
use Rattle.world_laws.proofs.Tied.{Abstracts, Bare, left_at, moved, rules_in}
use Rattle.world_answers.specs.Histories.{clients_told, input_of, protocol_input, step_of}
use Rattle.world_answers.proofs.Changing.{TakesNone}
use Rattle.world_answers.proofs.Folds.{done_within, has_fold}
use Rattle.world_answers.proofs.Heads.{heads}
use Rattle.world_answers.proofs.Joining.{then_acked, then_done, then_joins}
use Rattle.world_answers.proofs.Pointing.{Alike, NewPoint, acked_point, point_later}
use Rattle.world_answers.proofs.Telling.{acts_tell, death_tells, input_told}

-- The world of the protocol behind an event by which a node stops.
pub record Ends (cap : ℕ) (w0 : World registry_machine) (u : WorldState) : Type 0 where
  pub event : Event
  pub none : TakesNone event
  pub ties : Abstracts cap (bare_of u) (happens w0 event)

-- The world of the protocol behind an event by which an update was acknowledged: its point is there noted.
pub record Acks (cap : ℕ) (w0 : World registry_machine) (k inc : ℕ) (u : WorldState) (place : ℕ) : Type 0 where
  pub more : List Event
  pub ties : Abstracts cap (bare_of u) (run more w0)
  pub point : NewPoint w0 (run more w0) k inc place

-- The event is a step of the incarnation, and what stands behind it.
pub record Went (cap : ℕ) (w0 : World registry_machine) (k inc : ℕ) (s : Incarnation) (event : worlds.Event) (told : List tolds.Told) (u : WorldState) : Type 0 where
  pub state : Incarnation
  pub step : IsStepBy (input_of event (clients_told told) (node_at k u)) cap u.order k inc (step_of event (clients_told told) (node_at k u)) s state
  pub within : (step_of event (clients_told told) (node_at k u)).done ≤ length u.order
  pub goes : (m : NodeValue) (y : RunningNode) → node_at k u ≡ Some m → m.running ≡ Some y → StandsFor y state × InStep (Some y)
  pub ends : node_at k u ≡ None → Ends cap w0 u × (state.requests ≡ s.requests)
  pub acks : (view place : ℕ) → input_of event (clients_told told) (node_at k u) ≡ Finishes view place → Acks cap w0 k inc u place

same_self : (k : ℕ) → nat_eq k k ≡ true
same_self k = grind arith

module _ (cap : ℕ) (w : WorldState) (w0 : World registry_machine) (a : Abstracts cap (bare_of w) w0) (g : Good w0) (p : Placed w) (k : ℕ) (nv : NodeValue) (x : RunningNode) (at : node_at k w ≡ Some nv) (running : nv.running ≡ Some x)
    (s : Incarnation) (stands : StandsFor x s) where
  abbrev pub Next : worlds.Event → List tolds.Told → WorldState → Type 0
  Next event told u = Went cap w0 k nv.inc s event told u

  here : IsNode k
  here = node_within w k nv p at

  number_is : (after : NodeValue) → IsSameNode nv after → after.number ≡ k
  number_is after same = same.number ∙ (p.slots k nv at).number

  behind : (after : NodeValue) (effects : List Effect) (d : DiskView) → IsSameNode nv after → node_at k (absorbed effects after d w) ≡ slot_of after
  behind after effects d same =
      ap (λ (j : ℕ). option_flatten (at_place (slice_set w.nodes (j - 1) (slot_of after)) k)) (number_is after same)
      ∙ node_set w k k (slot_of after) p here ∙ ap (λ (c : Bool). if c then slot_of after else node_at k w) (same_self k)

  pub found : (after : NodeValue) (y : RunningNode) (effects : List Effect) (d : DiskView) → IsSameNode nv after → after.running ≡ Some y → node_at k (absorbed effects after d w) ≡ Some after
  found after y effects d same runs = behind after effects d same ∙ slot_cases (λ (t : Option NodeValue). t ≡ Some after) after (λ none. absurd (cc (none, runs))) (λ z some. refl)

  lost : (after : NodeValue) (effects : List Effect) (d : DiskView) → IsSameNode nv after → after.running ≡ None → node_at k (absorbed effects after d w) ≡ None
  lost after effects d same gone = behind after effects d same ∙ slot_cases (λ (t : Option NodeValue). t ≡ None) after (λ none. refl) (λ z some. absurd (cc (some, gone)))

  -- ---- the node goes on

  step_is : (event : worlds.Event) (told : List tolds.Told) (o : Option NodeValue) (effects : List Effect) (after : NodeValue) (y : RunningNode) (input : Input) → clients_told told ≡ told_to_clients effects → o ≡ Some after → after.running ≡ Some y
      → input_of event (told_to_clients effects) (Some after) ≡ input → step_of event (clients_told told) o ≡ step_at input y effects
  step_is event told o effects after y input tell there runs ins =
      (λ i. step_of event (tell i) (there i))
      ∙ (λ i. record {
        input = ins i;
        is_open = ap (λ (r : Option RunningNode). elim r [ None ↦ false | Some x ↦ x.member.rules.core.is_open ]) runs i;
        done = applied_is after y runs i;
        told = told_to_clients effects;
      })

  -- the step of the world is that of the node
  pub goes_on : (event : worlds.Event) (told : List tolds.Told) (u : WorldState) (effects : List Effect) (after : NodeValue) (y : RunningNode) (input : Input) → clients_told told ≡ told_to_clients effects → node_at k u ≡ Some after → after.running ≡ Some y
      → input_of event (told_to_clients effects) (Some after) ≡ input → StepsBy input cap u.order k nv.inc y effects s → InStep (Some y) → done_of y.member.rules ≤ length u.order
      → ((view place : ℕ) → input ≡ Finishes view place → Acks cap w0 k nv.inc u place) → Next event told u
  goes_on event told u effects after y input tell there runs ins steps in_step within acks =
      let is = step_is event told (node_at k u) effects after y input tell there runs ins in
      record {
        state = steps.0;
        step = subst (λ (t : Step). IsStepBy t.input cap u.order k nv.inc t s steps.0) (sym is) steps.1;
        within = let e : (step_of event (clients_told told) (node_at k u)).done ≡ done_of y.member.rules = ap (λ (t : Step). t.done) is in omega (arith, e, within);
        goes = λ m z shown runs_so.
            let q : after ≡ m = cc (there, shown) in
            let r : Some y ≡ Some z = sym runs ∙ ap (λ (v : NodeValue). v.running) q ∙ runs_so in
            let t : y ≡ z = cc in
            subst (λ (z : RunningNode). StandsFor z steps.0 × InStep (Some z)) t (steps.2, in_step);
        ends = λ none. absurd (cc (none, there));
        acks = λ view place e. acks view place (sym (ap (λ (t : Step). t.input) is) ∙ e);
      }

  finishes_at : (acks : List (ℕ × ℕ)) (view place : ℕ) → input_for acks ≡ Finishes view place → (v : ℕ) × (rest : List (ℕ × ℕ)) × (acks ≡ (v, place) ∷ rest)
  finishes_at [] view place e = absurd (cc)
  finishes_at (ack ∷ rest) view place e = let q : ack.1 ≡ place = cc in (ack.0, rest, λ i. (ack.0, q i) ∷ rest)

  -- where an update was acknowledged, this is the world of the protocol
  acknowledged_at : (after : NodeValue) (y : RunningNode) (effects : List Effect) (d : DiskView) (t : Told) (m : MemberState) (e : Event) (queued : Option Update) → IsSameNode nv after → after.running ≡ Some y
      → Abstracts cap (moved (bare_of w) k (Some m) t.effects (happens w0 e).log.order d) (happens w0 e) → Grows w.order (happens w0 e).log.order (Some m) → Then queued t.effects m y.member effects
      → IfSome queued IsUpdate → Alike w0 (happens w0 e) k → w0.starts k ≡ nv.inc → (view place : ℕ) → input_for (acked t.effects) ≡ Finishes view place → Acks cap w0 k nv.inc (absorbed effects after d w) place
  acknowledged_at after y effects d t m e queued same runs ties grows behind_it valid alike inc view place is =
      let u : WorldState = absorbed effects after d w in
      let v : World registry_machine = happens w0 e in
      let order : List Entry = v.log.order in
      let node : v.nodes k ≡ Some m.rules = ties.nodes k ∙ ap (λ (o : Option MemberState). rules_in o) (at_self (bare_of w).members k (Some m)) in
      let whole : w.order ++ joined w.order after ≡ order = then_joins v k m w.order after y queued t.effects effects (good_keeps w0 e g).holds.invariant node runs behind_it grows in
      let l = then_leads cap (bare_of w) v k m y.member t.effects effects order d ties queued behind_it valid in
      let is_bare : bare_of u ≡ moved (bare_of w) k (Some y.member) effects order d =
      absorbed_bare w k after effects d order p here (number_is after same) whole ∙ ap (λ (o : Option RunningNode). moved (bare_of w) k (running_member o) effects order d) runs in
      let f = finishes_at (acked t.effects) view place is in
      let told : alike.told ≡ acked t.effects =
      append_cancel_left w0.acks alike.told (acked t.effects) (sym alike.acks ∙ ties.acks ∙ ap (λ (b : List (ℕ × ℕ)). b ++ acked t.effects) (sym a.acks)) in
      record {
        more = e ∷ l.more;
        ties = subst (λ (c : Bare). Abstracts cap c (run l.more v)) (sym is_bare) l.ties;
        point = point_later l.more w0 v k nv.inc place (acked_point w0 v k nv.inc f.0 place f.1 alike inc (told ∙ f.2));
      }

  -- an event of its member
  pub member_goes : (event : worlds.Event) (told : List tolds.Told) (after : NodeValue) (y : RunningNode) (effects : List Effect) (d : DiskView) (t : Told) (m : MemberState) (v : World registry_machine) (out : Out registry_machine) (e : Event)
      → ((es : List Effect) (o : Option NodeValue) → input_of event es o ≡ protocol_input es o) → told ≡ told_of effects after w → IsSameNode nv after → after.running ≡ Some y
      → Invariant v → v.nodes k ≡ Some m.rules → v.log.cap ≡ cap → v.requests ≡ w0.requests → Grows w.order v.log.order (Some m) → nv.inc ≡ x.member.rules.join.inc
      → w0.nodes k ≡ Some x.member.rules → Tells v.log.cap v.log.order k x.member.rules.join.inc x.member.rules.core.passed out → Comes out (Ok t) m.rules
      → FollowsAsStep x (Ok t) m → Follows (Ok t) (head_request x) m x.clients (Some y) effects → InStep (Some x) → InStep (Some y)
      → Abstracts cap (moved (bare_of w) k (Some m) t.effects (happens w0 e).log.order d) (happens w0 e) → Grows w.order (happens w0 e).log.order (Some m) → AreTyped x.clients → ComesBorn (Ok t) m → Alike w0 (happens w0 e) k
      → w0.starts k ≡ nv.inc → Next event told (absorbed effects after d w)
  member_goes event told after y effects d t m v out e protocol tell same runs j there size requests grows inc node rule_tells comes as_step follow in_step in_step_behind ties order_grows clients born alike starts =
      let u : WorldState = absorbed effects after d w in
      let f = follows_left (Ok t) (head_request x) m x.clients (Some y) effects clients born follow in
      let whole : w.order ++ joined w.order after ≡ v.log.order = then_joins v k m w.order after y f.2 t.effects effects j there runs f.3 grows in
      let head : AreHeads cap u.order k nv.inc x (Ok t) = heads cap u.order k nv.inc w0 v x g.holds.invariant j node requests size (sym whole) (sym inc) out (Ok t) m.rules rule_tells comes in
      let fold : HasFold cap u.order m = has_fold cap u.order v k m j there size (sym whole) in
      let acks : acked effects ≡ acked t.effects = then_acked f.2 t.effects effects m y.member f.3 in
      let ins : input_of event (told_to_clients effects) (Some after) ≡ input_for (acked t.effects) = protocol (told_to_clients effects) (Some after) ∙ input_told effects ∙ ap input_for acks in
      let same_done : done_of y.member.rules ≡ done_of m.rules = then_done f.2 t.effects effects m y.member f.3 in
      let most : done_of m.rules ≤ length u.order = done_within u.order v k m.rules j there (sym whole) in
      goes_on event told u effects after y (input_for (acked t.effects)) (acts_tell effects after w told tell) (found after y effects d same runs) runs ins
      (as_step cap u.order k nv.inc (Some y) effects s follow in_step head fold stands) in_step_behind (omega (arith, same_done, most))
      (acknowledged_at after y effects d t m e f.2 same runs ties order_grows f.3 f.4.update alike starts)

  -- ---- the node stops

  pub gone_step : (event : worlds.Event) (told : List tolds.Told) (u : WorldState) → node_at k u ≡ None → clients_told told ≡ closings x.clients.conns → input_of event (clients_told told) None ≡ Stops → Ends cap w0 u → Next event told u
  gone_step event told u none tell ins ends =
      let state : Incarnation = with_clients s (without_any s.clients) in
      let tell' : clients_told told ≡ closings s.clients.conns = tell ∙ ap (λ (c : Clients). closings c.conns) (sym stands.clients) in
      let is : step_of event (clients_told told) (node_at k u) ≡ record { input = Stops; is_open = false; done = 0; told = closings s.clients.conns } =
      ap (λ (o : Option NodeValue). step_of event (clients_told told) o) none ∙ (λ i. record { input = ins i; is_open = false; done = 0; told = tell' i }) in
      record {
        state = state;
        step = subst (λ (t : Step). IsStepBy t.input cap u.order k nv.inc t s state) (sym is) (refl, refl);
        within = let e : (step_of event (clients_told told) (node_at k u)).done ≡ 0 = ap (λ (t : Step). t.done) is in omega (arith, e);
        goes = λ m y there runs. absurd (cc (none, there));
        ends = λ none. (ends, refl);
        acks = λ view place e. absurd (let q : Stops ≡ Finishes view place = sym (ap (λ (t : Step). t.input) is) ∙ e in cc);
      }

  -- by an event of its member
  pub member_stops : (event : worlds.Event) (told : List tolds.Told) (after : NodeValue) (effects : List Effect) (d : DiskView) (cause : HaltCause) (m : MemberState) (e : Event)
      → ((es : List Effect) (o : Option NodeValue) → input_of event es o ≡ protocol_input es o) → told ≡ told_of effects after w → IsSameNode nv after → after.running ≡ None
      → TakesNone e → Abstracts cap (moved (bare_of w) k None (Halted cause ∷ []) (happens w0 e).log.order d) (happens w0 e) → Grows w.order (happens w0 e).log.order None
      → Follows (Err (stop.Halted cause)) (head_request x) m x.clients None effects → Next event told (absorbed effects after d w)
  member_stops event told after effects d cause m e protocol tell same gone none ties grows follow =
      let u : WorldState = absorbed effects after d w in
      let mutes = closings_mute x.clients.conns in
      let order : List Entry = (happens w0 e).log.order in
      let is : bare_of u ≡ moved (bare_of w) k (running_member after.running) effects order d = absorbed_bare w k after effects d order p here (number_is after same) (joins_none after w.order order None gone refl grows) in
      let moves : moved (bare_of w) k None (Halted cause ∷ []) order d ≡ moved (bare_of w) k (running_member after.running) effects order d =
      same_move (bare_of w) k None (running_member after.running) (Halted cause ∷ []) effects order d (sym (ap (λ (r : Option RunningNode). running_member r) gone)) (ap sent follow ∙ mutes.sends) (ap acked follow ∙ mutes.acks) in
      gone_step event told u (lost after effects d same gone)
      (acts_tell effects after w told tell ∙ ap told_to_clients follow ∙ closings_for x.clients.conns) (protocol (clients_told told) None)
      (record { event = e; none = none; ties = subst (λ (c : Bare). Abstracts cap c (happens w0 e)) (moves ∙ sym is) ties })

  -- it died
  pub dies_step : (event : worlds.Event) (told : List tolds.Told) (d : DiskView) (e : Event) → ((es : List Effect) → input_of event es None ≡ Stops) → told ≡ told_death nv
      → TakesNone e → Abstracts cap (left_at (bare_of w) k None w.order d) (happens w0 e) → Next event told (bereft nv d w)
  dies_step event told d e ins tell none ties =
      let number = (p.slots k nv at).number in
      let nowhere : node_at k (bereft nv d w) ≡ None =
      ap (λ (j : ℕ). option_flatten (at_place (slice_set w.nodes (j - 1) None) k)) number ∙ node_set w k k None p here ∙ ap (λ (c : Bool). if c then None else node_at k w) (same_self k) in
      gone_step event told (bereft nv d w) nowhere
      (death_tells x.clients.conns told (tell ∙ ap (λ (r : Option RunningNode). map (λ conn. trace.Closed conn NodeStopped) (elim r [ None ↦ [] | Some x ↦ keys_of x.clients.conns ])) running)) (ins (clients_told told))
      (record { event = e; none = none; ties = subst (λ (c : Bare). Abstracts cap c (happens w0 e)) (sym (bereft_bare w k nv d p here number)) ties })
