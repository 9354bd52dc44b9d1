-- Each event of the world is a step of the incarnation that it concerns.
use Rattle.std.proofs.Common.{◌≡◌, inl, ℕ, ◌-◌, ◌≤◌, Bool, true, List, [], ◌∷◌, ◌++◌, length, Option, Some, None, Result, Ok, Err, nat_eq, if◌then◌else◌, refl, sym, ap, ◌∙◌, subst, arith}
use Rattle.std.specs.Prelude.{option_map, slice_set}
use Rattle.std.specs.Option.{option_flatten}
use Rattle.std.specs.declared.alloc.AllocError.{AllocError}
use Rattle.std.proofs.lemmas.List.{take-append-le}
use Rattle.gum_messages.specs.declared.view.View.{View}
use Rattle.gum_messages.specs.Messages.{Sent}
use Rattle.gum_messages.specs.Places.{at_place}
use Rattle.disk_core.specs.Crashes.{Crashed}
use Rattle.disk_core.specs.Views.{DiskView}
use Rattle.update_records.specs.Entry.{Entry}
use Rattle.update_records.specs.declared.update.Update.{Update}
use Rattle.view_reconcile.specs.Chains.{view_in}
use Rattle.cluster_rules.specs.declared.effect.Effect.{Effect}
use Rattle.cluster_rules.specs.declared.effect.Effect.TheVariants.{Halted}
use Rattle.cluster_rules.specs.Machines.{replay}
use Rattle.cluster_rules.specs.Nodes.{done_of}
use Rattle.cluster_rules.specs.Updates.{Written}
use Rattle.cluster_rules.specs.Worlds.{Checkpoint, Deliver, Die, DieInDeliver, DieInInstall, Event, Install, World, happens, run}
use Rattle.registry_machine.specs.Machine.{registry_machine}
use Rattle.cluster_member.specs.declared.stop.Stop.{Stop}
use Rattle.cluster_member.specs.declared.stop.Stop.TheVariants as stop
use Rattle.cluster_member.specs.Events.{Receives, WritesCheckpoint}
use Rattle.cluster_member.specs.Events as member
use Rattle.cluster_member.specs.States.{MemberState}
use Rattle.member_rules.specs.declared.told.Told.{Told}
use Rattle.cluster_node.specs.Acting.{Follows}
use Rattle.cluster_node.specs.Events.{Batches, Connects, HangsUp, HearsBytes, NodeChecks, NodeInstalls, NodeReceives, Ticks, head_request}
use Rattle.cluster_node.specs.Explained.{Brings, Finishes, Incarnation, Input, Other, told_to_clients}
use Rattle.cluster_node.specs.Explained as explained
use Rattle.cluster_node.specs.InStep.{InStep}
use Rattle.cluster_node.specs.States.{IsSameNode, NodeValue, RunningNode, clocked, with_stamp}
use Rattle.cluster_node.specs.Steps.{FollowsAsStep, HasFold, StandsFor, StepsBy}
use Rattle.cluster_node.proofs.MemberStepping.{checkpoint_steps, install_steps, receive_steps}
use Rattle.cluster_node.proofs.StayingInStep.{batches_in_step, checks_in_step, clocks_in_step, connects_in_step, hangs_up_in_step, hears_in_step, installs_in_step, receives_in_step, ticks_in_step}
use Rattle.cluster_node.proofs.Stepping.{batch_steps, bytes_step, connect_steps, hang_up_steps}
use Rattle.cluster_node.proofs.Ticking.{clock_steps, tick_steps}
use Rattle.cluster_worlds.specs.declared.event.Event as worlds
use Rattle.cluster_worlds.specs.declared.event.Event.TheVariants as event
use Rattle.cluster_worlds.specs.declared.inner.Inner.{Inner}
use Rattle.cluster_worlds.specs.declared.told.Told as tolds
use Rattle.cluster_worlds.specs.Happening.{with_clock}
use Rattle.cluster_worlds.specs.Telling.{absorbed, bereft, joined, told_death, told_of}
use Rattle.cluster_worlds.specs.Worlds.{WorldState, node_at, starts_of}
use Rattle.world_laws.proofs.Typing.{IsTyped}
use Rattle.world_laws.proofs.Absorbing.{at_self}
use Rattle.world_laws.proofs.Births.{Born, node_born}
use Rattle.world_laws.proofs.Coming.{Grows, Sufficed}
use Rattle.world_laws.proofs.Crashing.{dies}
use Rattle.world_laws.proofs.Following.{follows_suffice}
use Rattle.world_laws.proofs.Happening.{Reaches}
use Rattle.world_laws.proofs.Installing.{install_dies, installs, installs_born}
use Rattle.world_laws.proofs.Quiet.{die_ties, same_now}
use Rattle.world_laws.proofs.Quiet as quiet
use Rattle.world_laws.proofs.Receiving.{receive_dies, receives, receives_born}
use Rattle.world_laws.proofs.Records.{Bounded, Good, good_keeps, run_good}
use Rattle.world_laws.proofs.Refusing.{stands_here}
use Rattle.world_laws.proofs.Saving.{save_dies, saves_born, saves_to}
use Rattle.world_laws.proofs.Slots.{Placed, bare_of, member_of, node_set, node_within, running_member}
use Rattle.world_laws.proofs.Tied.{Abstracts, moved, rules_in}
use Rattle.world_answers.specs.Histories.{acknowledged_in, input_of, protocol_input}
use Rattle.world_answers.proofs.Concerned.{Next, dies_step, found, goes_on, member_goes, member_stops}
use Rattle.world_answers.proofs.Folds.{done_within, has_fold}
use Rattle.world_answers.proofs.Pointing.{Alike, checkpoint_alike, deliver_alike, install_alike}
use Rattle.world_answers.proofs.Sides.{Side, checkpoint_side, install_side, receive_side}
use Rattle.world_answers.proofs.Telling.{acts_tell, input_told, quiet_tells}

same_self : (k : ℕ) → nat_eq k k ≡ true
same_self k = grind arith

module _ (cap : ℕ) (w : WorldState) (w0 : World registry_machine) (a : Abstracts cap (bare_of w) w0) (g : Good w0) (p : Placed w) (typed : IsTyped w) (k : ℕ) (nv : NodeValue) (x : RunningNode) (at : node_at k w ≡ Some nv)
    (running : nv.running ≡ Some x) (s : Incarnation) (stands : StandsFor x s) (in_step : InStep (Some x)) (inc : nv.inc ≡ starts_of k w) where
  abbrev pub IsNext : worlds.Event → List tolds.Told → WorldState → Type 0
  IsNext event told u = Next cap w w0 a g p k nv x at running s stands event told u

  bounded : Bounded w0.chain
  bounded j v n e = typed.incs j v n (ap (λ (c : List View). view_in c j) (sym a.chain) ∙ e)

  there : (bare_of w).members k ≡ Some x.member
  there = ap (λ (o : Option NodeValue). member_of o) at ∙ ap (λ (o : Option RunningNode). running_member o) running

  node : w0.nodes k ≡ Some x.member.rules
  node = quiet.node_at cap (bare_of w) w0 k x.member a there

  incarnation : nv.inc ≡ x.member.rules.join.inc
  incarnation = inc ∙ sym (a.starts k) ∙ sym (g.holds.invariant.nodes k x.member.rules node).inc

  -- what the world behind it bounds
  within : (u : WorldState) (after : NodeValue) (y : RunningNode) → Reaches cap u w0 → node_at k u ≡ Some after → after.running ≡ Some y → done_of y.member.rules ≤ length u.order
  within u after y r shown runs =
      let v : World registry_machine = run r.more w0 in
      done_within u.order v k y.member.rules (run_good r.more w0 g).holds.invariant
      (r.ties.nodes k ∙ ap (λ (o : Option NodeValue). rules_in (member_of o)) shown ∙ ap (λ (o : Option RunningNode). rules_in (running_member o)) runs) r.ties.order

  -- ---- an event of the member

  goes : (event : worlds.Event) (told : List tolds.Told) (after : NodeValue) (effects : List Effect) (d : DiskView) (t : Told) (m : MemberState) → ((es : List Effect) (o : Option NodeValue) → input_of event es o ≡ protocol_input es o)
      → told ≡ told_of effects after w → IsSameNode nv after → Side cap w.order w0 k x.member m t → FollowsAsStep x (Ok t) m
      → (e : Event) → Abstracts cap (moved (bare_of w) k (Some m) t.effects (happens w0 e).log.order d) (happens w0 e) → Grows w.order (happens w0 e).log.order (Some m) → Alike w0 (happens w0 e) k → Born (Ok t)
      → (r : Option RunningNode) → after.running ≡ r → Follows (Ok t) (head_request x) m x.clients r effects → InStep r → IsNext event told (absorbed effects after d w)
  goes event told after effects d t m protocol tell same side as_step e ties grows alike born None runs follow behind = absurd follow
  goes event told after effects d t m protocol tell same side as_step e ties grows alike born (Some y) runs follow behind =
      member_goes cap w w0 a g p k nv x at running s stands event told after y effects d t m side.world side.out e protocol tell same runs side.invariant side.there side.size side.requests side.grows incarnation node side.tells side.comes as_step follow in_step behind ties grows (typed.clients k nv x at running)
      (record {
        outcome = born;
        keys = λ told ok. node_born (happens w0 e) (good_keeps w0 e g) k m.rules (ties.nodes k ∙ ap (λ (o : Option MemberState). rules_in o) (at_self (bare_of w).members k (Some m)));
      })
      alike (a.starts k ∙ sym inc)

  pub installs_next : (view : ℕ) (v : View) (told : List tolds.Told) (after : NodeValue) (effects : List Effect) (d : DiskView) → view_in w.chain view ≡ Some v → told ≡ told_of effects after w → IsSameNode nv after
      → NodeInstalls {E = AllocError} w.disk (Some x) v (Ok effects) after.running d → IsNext (event.Install k view) told (absorbed effects after d w)
  installs_next view v told after effects d seen tell same l =
      by l.came l.member l.event l.follows (follows_suffice l.came (head_request x) l.member x.clients after.running effects l.follows) (installs_in_step w.disk d (Some x) after.running v (Ok effects) l in_step)
    where
      declared : view_in w0.chain view ≡ Some v
      declared = ap (λ (c : List View). view_in c view) a.chain ∙ seen

      by : (came : Result Told Stop) (m : MemberState) → member.Installs w.disk x.member v came m d → Follows came (head_request x) m x.clients after.running effects → Sufficed came → InStep after.running
          → IsNext (event.Install k view) told (absorbed effects after d w)
      by (Ok t) m i follow enough behind =
          let c = installs cap (bare_of w) w0 k view v x.member a g bounded declared there (Ok t) m d i enough in
          goes (event.Install k view) told after effects d t m (λ es o. refl) tell same (install_side cap (bare_of w) w0 k x.member a g bounded there t m d view v declared i c)
          (install_steps w.disk d x v (Ok t) m i in_step) (Install k view c.opening) c.ties c.grows (install_alike w0 k view c.opening) (installs_born cap (bare_of w) w0 k view v x.member a g bounded declared there (Ok t) m d i) after.running refl follow behind
      by (Err (stop.Halted cause)) m i follow enough behind = halts after.running refl follow
        where
          halts : (r : Option RunningNode) → after.running ≡ r → Follows (Err (stop.Halted cause)) (head_request x) m x.clients r effects → IsNext (event.Install k view) told (absorbed effects after d w)
          halts None gone follow =
              let c = installs cap (bare_of w) w0 k view v x.member a g bounded declared there (Err (stop.Halted cause)) m d i enough in
              member_stops cap w w0 a g p k nv x at running s stands (event.Install k view) told after effects d cause m (Install k view c.opening) (λ es o. refl) tell same gone tt c.ties c.grows follow
          halts (Some y) gone follow = absurd follow
      by (Err stop.Memory) m i follow enough behind = absurd enough

  pub checks_next : (told : List tolds.Told) (after : NodeValue) (effects : List Effect) (d : DiskView) → told ≡ told_of effects after w → IsSameNode nv after
      → NodeChecks {E = AllocError} w.disk (Some x) (Ok effects) after.running d → IsNext (event.Checkpoint k) told (absorbed effects after d w)
  checks_next told after effects d tell same l =
      by l.came l.member l.event l.follows (follows_suffice l.came (head_request x) l.member x.clients after.running effects l.follows) (checks_in_step w.disk d (Some x) after.running (Ok effects) l in_step)
    where
      by : (came : Result Told Stop) (m : MemberState) → WritesCheckpoint w.disk x.member came m d → Follows came (head_request x) m x.clients after.running effects → Sufficed came → InStep after.running
          → IsNext (event.Checkpoint k) told (absorbed effects after d w)
      by (Ok t) m i follow enough behind =
          let c = saves_to cap (bare_of w) w0 k x.member a g bounded there (Ok t) m d i enough in
          goes (event.Checkpoint k) told after effects d t m (λ es o. refl) tell same (checkpoint_side cap (bare_of w) w0 k x.member a g bounded there t m d i c)
          (checkpoint_steps w.disk d x (Ok t) m i in_step) (Checkpoint k c.good)
          (subst (λ (order : List Entry). Abstracts cap (moved (bare_of w) k (Some m) t.effects order d) (happens w0 (Checkpoint k c.good))) (sym c.ties.order) c.ties) (inl c.ties.order) (checkpoint_alike w0 k c.good) (saves_born cap (bare_of w) w0 k x.member a g bounded there (Ok t) m d i) after.running refl follow behind
      by (Err (stop.Halted cause)) m i follow enough behind = halts after.running refl follow
        where
          halts : (r : Option RunningNode) → after.running ≡ r → Follows (Err (stop.Halted cause)) (head_request x) m x.clients r effects → IsNext (event.Checkpoint k) told (absorbed effects after d w)
          halts None gone follow =
              let c = saves_to cap (bare_of w) w0 k x.member a g bounded there (Err (stop.Halted cause)) m d i enough in
              let u : World registry_machine = happens w0 (Checkpoint k c.good) in
              member_stops cap w w0 a g p k nv x at running s stands (event.Checkpoint k) told after effects d cause m (Checkpoint k c.good) (λ es o. refl) tell same gone tt
              (subst (λ (order : List Entry). Abstracts cap (moved (bare_of w) k None (Halted cause ∷ []) order d) u) (sym c.ties.order) c.ties) (inl c.ties.order) follow
          halts (Some y) gone follow = absurd follow
      by (Err stop.Memory) m i follow enough behind = absurd enough

  -- ---- the other events

  fold_longer : (rest : List Entry) → HasFold cap (w.order ++ rest) x.member
  fold_longer rest =
      let fold : HasFold cap w.order x.member = has_fold cap w.order w0 k x.member g.holds.invariant node a.cap_is a.order in
      let le : done_of x.member.rules ≤ length w.order = done_within w.order w0 k x.member.rules g.holds.invariant node a.order in
      fold ∙ (λ i. if x.member.rules.core.is_open then Some (replay registry_machine (sym (take-append-le (done_of x.member.rules) w.order rest le) i) (registry_machine.empty cap)).keys else None)

  tells_on : (event : worlds.Event) (told : List tolds.Told) (after : NodeValue) (y : RunningNode) (effects : List Effect) (d : DiskView) (input : Input) → told ≡ told_of effects after w → IsSameNode nv after → after.running ≡ Some y
      → Reaches cap (absorbed effects after d w) w0 → input_of event (told_to_clients effects) (Some after) ≡ input → StepsBy input cap (absorbed effects after d w).order k nv.inc y effects s → InStep (Some y)
      → ((view place : ℕ) → input ≡ Finishes view place → ⊥) → IsNext event told (absorbed effects after d w)
  tells_on event told after y effects d input tell same runs reach ins steps behind other =
      let u : WorldState = absorbed effects after d w in
      let present : node_at k u ≡ Some after = found cap w w0 a g p k nv x at running s stands after y effects d same runs in
      goes_on cap w w0 a g p k nv x at running s stands event told u effects after y input (acts_tell effects after w told tell) present runs ins steps behind (within u after y reach present runs) (λ view place e. absurd (other view place e))

  pub hears_next : (conn : ℕ) (piece : List ℕ) (told : List tolds.Told) (after : NodeValue) (effects : List Effect) (d : DiskView) → told ≡ told_of effects after w → IsSameNode nv after
      → Reaches cap (absorbed effects after d w) w0 → HearsBytes conn piece (Some x) after.running effects → IsNext (event.Bytes conn piece) told (absorbed effects after d w)
  hears_next conn piece told after effects d tell same reach h = by after.running refl h (hears_in_step conn piece (Some x) after.running effects h in_step)
    where
      by : (r : Option RunningNode) → after.running ≡ r → HearsBytes conn piece (Some x) r effects → InStep r → IsNext (event.Bytes conn piece) told (absorbed effects after d w)
      by None runs h behind = absurd h
      by (Some y) runs h behind = tells_on (event.Bytes conn piece) told after y effects d (Brings conn piece) tell same runs reach refl
          (bytes_step cap (absorbed effects after d w).order k nv.inc conn piece x y effects s h in_step (fold_longer (joined w.order after)) stands) behind (λ view place e. cc)

  pub connects_next : (conn : ℕ) (told : List tolds.Told) (after : NodeValue) (effects : List Effect) (d : DiskView) → told ≡ told_of effects after w → IsSameNode nv after
      → Reaches cap (absorbed effects after d w) w0 → Connects conn (Some x) after.running effects → IsNext (event.Connect conn k) told (absorbed effects after d w)
  connects_next conn told after effects d tell same reach h = by after.running refl h (connects_in_step conn (Some x) after.running effects h in_step)
    where
      by : (r : Option RunningNode) → after.running ≡ r → Connects conn (Some x) r effects → InStep r → IsNext (event.Connect conn k) told (absorbed effects after d w)
      by None runs h behind = absurd h
      by (Some y) runs h behind = tells_on (event.Connect conn k) told after y effects d (explained.Connects conn) tell same runs reach refl
          (connect_steps cap (absorbed effects after d w).order k nv.inc conn x y effects s h stands) behind (λ view place e. cc)

  pub hangs_up_next : (conn : ℕ) (told : List tolds.Told) (after : NodeValue) (effects : List Effect) (d : DiskView) → told ≡ told_of effects after w → IsSameNode nv after
      → Reaches cap (absorbed effects after d w) w0 → HangsUp conn (Some x) after.running effects → IsNext (event.HangUp conn) told (absorbed effects after d w)
  hangs_up_next conn told after effects d tell same reach h = by after.running refl h (hangs_up_in_step conn (Some x) after.running effects h in_step)
    where
      by : (r : Option RunningNode) → after.running ≡ r → HangsUp conn (Some x) r effects → InStep r → IsNext (event.HangUp conn) told (absorbed effects after d w)
      by None runs h behind = absurd h
      by (Some y) runs h behind = tells_on (event.HangUp conn) told after y effects d (explained.HangsUp conn) tell same runs reach refl
          (hang_up_steps cap (absorbed effects after d w).order k nv.inc conn x y effects s h stands) behind (λ view place e. cc)

  pub batches_next : (update : Update) (told : List tolds.Told) (after : NodeValue) (effects : List Effect) (d : DiskView) → told ≡ told_of effects after w → IsSameNode nv after
      → Reaches cap (absorbed effects after d w) w0 → Batches update (Some x) after.running effects → IsNext (event.Batch k update) told (absorbed effects after d w)
  batches_next update told after effects d tell same reach h = by after.running refl h (batches_in_step update (Some x) after.running effects h in_step)
    where
      by : (r : Option RunningNode) → after.running ≡ r → Batches update (Some x) r effects → InStep r → IsNext (event.Batch k update) told (absorbed effects after d w)
      by None runs h behind = absurd h
      by (Some y) runs h behind = tells_on (event.Batch k update) told after y effects d (explained.Batches update) tell same runs reach refl
          (batch_steps cap (absorbed effects after d w).order k nv.inc update x y effects s h in_step stands) behind (λ view place e. cc)

  pub ticks_next : (told : List tolds.Told) (after : NodeValue) (effects : List Effect) (d : DiskView) → told ≡ told_of effects after w → IsSameNode nv after
      → Reaches cap (absorbed effects after d w) w0 → Ticks (Some x) after.running effects → IsNext (event.Tick k) told (absorbed effects after d w)
  ticks_next told after effects d tell same reach h = by after.running refl h (ticks_in_step (Some x) after.running effects h in_step)
    where
      by : (r : Option RunningNode) → after.running ≡ r → Ticks (Some x) r effects → InStep r → IsNext (event.Tick k) told (absorbed effects after d w)
      by None runs h behind = absurd h
      by (Some y) runs h behind =
          let steps = tick_steps cap (absorbed effects after d w).order k nv.inc x y effects s h stands in
          let none : told_to_clients effects ≡ [] = steps.1.0 in
          tells_on (event.Tick k) told after y effects d Other tell same runs reach (ap acknowledged_in none ∙ input_told []) steps behind (λ view place e. cc)

  pub clocks_next : (stamp : ℕ) (told : List tolds.Told) (u : WorldState) → told ≡ [] → u ≡ with_clock stamp (Some nv) w → Reaches cap u w0 → IsNext (event.Clock k stamp) told u
  clocks_next stamp told u none is reach =
      let after : NodeValue = clocked stamp nv in
      let n = node_within w k nv p at in
      let runs : after.running ≡ Some (with_stamp stamp x) = ap (λ (r : Option RunningNode). option_map (with_stamp stamp) r) running in
      let present : node_at k u ≡ Some after =
      ap (λ (v : WorldState). node_at k v) is
      ∙ ap (λ (j : ℕ). option_flatten (at_place (slice_set w.nodes (j - 1) (Some after)) k)) (p.slots k nv at).number
      ∙ node_set w k k (Some after) p n ∙ ap (λ (c : Bool). if c then Some after else node_at k w) (same_self k) in
      let behind : InStep (Some (with_stamp stamp x)) = subst InStep runs (clocks_in_step stamp nv (subst InStep (sym running) in_step)) in
      goes_on cap w w0 a g p k nv x at running s stands (event.Clock k stamp) told u [] after (with_stamp stamp x) Other (quiet_tells told none) present runs (input_told [])
      (clock_steps cap u.order k nv.inc stamp x s stands) behind (within u after (with_stamp stamp x) reach present runs) (λ view place e. absurd (cc))

  -- ---- the node dies

  pub die_next : (told : List tolds.Told) → told ≡ told_death nv → IsNext (event.Die k) told (bereft nv w.disk w)
  die_next told tell = dies_step cap w w0 a g p k nv x at running s stands (event.Die k) told w.disk (Die k) (λ es. refl) tell tt (die_ties cap (bare_of w) w0 k w.disk a (same_now w.disk w.disk refl))

  module _ (past : w.disk.past ≡ []) (moment : ℕ) (bytes : List ℕ) (told : List tolds.Told) (tell : told ≡ told_death nv) (d ruin : DiskView) (crashed : Crashed d moment bytes ruin) where
    pub dies_alone : (i : Inner) → d ≡ w.disk → IsNext (event.DieIn moment bytes i) told (bereft nv ruin w)
    dies_alone i same = dies_step cap w w0 a g p k nv x at running s stands (event.DieIn moment bytes i) told ruin (Die k) (λ es. refl) tell tt
        (dies cap (bare_of w) w0 k d ruin moment bytes a (stands_here w.disk d same) (ap (λ (u : DiskView). u.tells) same) past crashed)

    pub dies_installing : (i : Inner) (view : ℕ) (v : View) (after : Option RunningNode) (effects : List Effect) → view_in w.chain view ≡ Some v → NodeInstalls {E = AllocError} w.disk (Some x) v (Ok effects) after d
        → IsNext (event.DieIn moment bytes i) told (bereft nv ruin w)
    dies_installing i view v after effects seen l =
        let declared : view_in w0.chain view ≡ Some v = ap (λ (c : List View). view_in c view) a.chain ∙ seen in
        let r = install_dies cap (bare_of w) w0 k view v x.member a g bounded declared there l.came l.member d ruin moment bytes l.event past crashed in
        dies_step cap w w0 a g p k nv x at running s stands (event.DieIn moment bytes i) told ruin (DieInInstall k view r.0) (λ es. refl) tell tt r.1

    pub dies_checking : (i : Inner) (after : Option RunningNode) (effects : List Effect) → NodeChecks {E = AllocError} w.disk (Some x) (Ok effects) after d → IsNext (event.DieIn moment bytes i) told (bereft nv ruin w)
    dies_checking i after effects l = dies_step cap w w0 a g p k nv x at running s stands (event.DieIn moment bytes i) told ruin (Die k) (λ es. refl) tell tt
        (save_dies cap (bare_of w) w0 k x.member a g bounded there l.came l.member d ruin moment bytes l.event past crashed)

-- ---- a message comes

module _ (cap : ℕ) (w : WorldState) (w0 : World registry_machine) (a : Abstracts cap (bare_of w) w0) (g : Good w0) (p : Placed w) (typed : IsTyped w) (number : ℕ) (message : Sent) (stood : at_place w.pool number ≡ Some message)
    (nv : NodeValue) (x : RunningNode) (at : node_at message.to w ≡ Some nv) (running : nv.running ≡ Some x) (s : Incarnation) (stands : StandsFor x s) (in_step : InStep (Some x)) (inc : nv.inc ≡ starts_of message.to w) where
  abbrev comes_next : worlds.Event → List tolds.Told → WorldState → Type 0
  comes_next event told u = Next cap w w0 a g p message.to nv x at running s stands event told u

  pooled : at_place w0.pool number ≡ Some message
  pooled = ap (λ (ps : List Sent). at_place ps number) a.pool ∙ stood

  pub receives_next : (told : List tolds.Told) (after : NodeValue) (effects : List Effect) (d : DiskView) → told ≡ told_of effects after w → IsSameNode nv after
      → NodeReceives {E = AllocError} w.disk (Some x) message (Ok effects) after.running d → comes_next (event.Deliver number) told (absorbed effects after d w)
  receives_next told after effects d tell same l =
      by l.came l.member l.event l.follows (follows_suffice l.came (head_request x) l.member x.clients after.running effects l.follows) (receives_in_step w.disk d (Some x) after.running message (Ok effects) l in_step)
    where
      by : (came : Result Told Stop) (m : MemberState) → Receives w.disk x.member message came m d → Follows came (head_request x) m x.clients after.running effects → Sufficed came → InStep after.running
          → comes_next (event.Deliver number) told (absorbed effects after d w)
      by (Ok t) m i follow enough behind =
          let c = receives cap (bare_of w) w0 number message x.member a g (bounded cap w w0 a g p typed message.to nv x at running s stands in_step inc) pooled (there cap w w0 a g p typed message.to nv x at running s stands in_step inc) (Ok t) m d i enough in
          goes cap w w0 a g p typed message.to nv x at running s stands in_step inc (event.Deliver number) told after effects d t m (λ es o. refl) tell same
          (receive_side cap (bare_of w) w0 number message x.member a g (bounded cap w w0 a g p typed message.to nv x at running s stands in_step inc) pooled (there cap w w0 a g p typed message.to nv x at running s stands in_step inc) t m d i c)
          (receive_steps w.disk d x message (Ok t) m i in_step) (Deliver number c.answer) c.ties c.grows (deliver_alike w0 number message c.answer pooled)
          (receives_born cap (bare_of w) w0 number message x.member a g (bounded cap w w0 a g p typed message.to nv x at running s stands in_step inc) pooled (there cap w w0 a g p typed message.to nv x at running s stands in_step inc) (Ok t) m d i) after.running refl follow behind
      by (Err (stop.Halted cause)) m i follow enough behind = halts after.running refl follow
        where
          halts : (r : Option RunningNode) → after.running ≡ r → Follows (Err (stop.Halted cause)) (head_request x) m x.clients r effects → comes_next (event.Deliver number) told (absorbed effects after d w)
          halts None gone follow =
              let c = receives cap (bare_of w) w0 number message x.member a g (bounded cap w w0 a g p typed message.to nv x at running s stands in_step inc) pooled (there cap w w0 a g p typed message.to nv x at running s stands in_step inc) (Err (stop.Halted cause)) m d i enough in
              member_stops cap w w0 a g p message.to nv x at running s stands (event.Deliver number) told after effects d cause m (Deliver number c.answer) (λ es o. refl) tell same gone tt c.ties c.grows follow
          halts (Some y) gone follow = absurd follow
      by (Err stop.Memory) m i follow enough behind = absurd enough

  pub dies_receiving : (past : w.disk.past ≡ []) (moment : ℕ) (bytes : List ℕ) (told : List tolds.Told) (tell : told ≡ told_death nv) (d ruin : DiskView) (crashed : Crashed d moment bytes ruin) (i : Inner) (after : Option RunningNode) (effects : List Effect)
      → NodeReceives {E = AllocError} w.disk (Some x) message (Ok effects) after d → comes_next (event.DieIn moment bytes i) told (bereft nv ruin w)
  dies_receiving past moment bytes told tell d ruin crashed i after effects l = dies_step cap w w0 a g p message.to nv x at running s stands (event.DieIn moment bytes i) told ruin (DieInDeliver number Written) (λ es. refl) tell tt
      (receive_dies cap (bare_of w) w0 number message x.member a g (bounded cap w w0 a g p typed message.to nv x at running s stands in_step inc) pooled (there cap w w0 a g p typed message.to nv x at running s stands in_step inc) l.came l.member d ruin moment bytes l.event past crashed)
