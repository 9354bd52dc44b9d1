-- What any event is for the incarnation that it concerns.
use Rattle.std.proofs.Common.{◌≡◌, ℕ, List, [], Option, Some, None, Ok, refl, sym, ap, ◌∙◌, subst}
use Rattle.std.specs.declared.alloc.AllocError.{AllocError}
use Rattle.gum_messages.specs.declared.view.View.{View}
use Rattle.gum_messages.specs.Messages.{Sent}
use Rattle.gum_messages.specs.Places.{at_place}
use Rattle.disk_core.specs.Crashes.{Crashed}
use Rattle.disk_core.specs.Views.{DiskView}
use Rattle.view_reconcile.specs.Chains.{view_in}
use Rattle.cluster_rules.specs.declared.effect.Effect.{Effect}
use Rattle.cluster_rules.specs.Worlds.{World}
use Rattle.registry_machine.specs.Machine.{registry_machine}
use Rattle.cluster_node.specs.Events.{Batches, Connects, HangsUp, HearsBytes, NodeChecks, NodeInstalls, NodeReceives, Ticks}
use Rattle.cluster_node.specs.Explained.{Incarnation}
use Rattle.cluster_node.specs.InStep.{InStep}
use Rattle.cluster_node.specs.States.{NodeValue, RunningNode}
use Rattle.cluster_node.specs.Steps.{StandsFor}
use Rattle.cluster_worlds.specs.declared.event.Event.{Event}
use Rattle.cluster_worlds.specs.declared.event.Event.TheVariants as event
use Rattle.cluster_worlds.specs.declared.inner.Inner.{Inner}
use Rattle.cluster_worlds.specs.declared.inner.Inner.TheVariants as inner
use Rattle.cluster_worlds.specs.declared.told.Told.{Told}
use Rattle.cluster_worlds.specs.Happening.{Acts, ActsAt, Dies, DiesIn, Does, Installs, Reacts, Receives, addressee, reached, with_clock, with_conn}
use Rattle.cluster_worlds.specs.Telling.{absorbed, bereft, told_death}
use Rattle.cluster_worlds.specs.Worlds.{WorldState, home_of, node_at, starts_of}
use Rattle.world_laws.proofs.Typing.{IsTyped}
use Rattle.world_laws.proofs.Happening.{Reaches, served_is}
use Rattle.world_laws.proofs.Records.{Good}
use Rattle.world_laws.proofs.Slots.{Placed, bare_of}
use Rattle.world_laws.proofs.Tied.{Abstracts}
use Rattle.world_answers.specs.Histories.{concerned}
use Rattle.world_answers.proofs.Concerned.{Went}
use Rattle.world_answers.proofs.Stepping.{batches_next, checks_next, clocks_next, connects_next, dies_alone, dies_checking, dies_installing, dies_receiving, die_next, hangs_up_next, hears_next, installs_next, receives_next, ticks_next}

module _ (cap : ℕ) (w : WorldState) (w0 : World registry_machine) (a : Abstracts cap (bare_of w) w0) (g : Good w0) (p : Placed w) (typed : IsTyped w) (past : w.disk.past ≡ []) (nv : NodeValue) (x : RunningNode) (running : nv.running ≡ Some x)
    (s : Incarnation) (stands : StandsFor x s) (in_step : InStep (Some x)) (inc : (k : ℕ) → node_at k w ≡ Some nv → nv.inc ≡ starts_of k w) where
  abbrev Goes : Event → List Told → WorldState → Type 0
  Goes e told u = Went cap w0 nv.number nv.inc s e told u

  -- the node that is reached is that of its own number
  at_number : (e : Event) (told : List Told) (k : ℕ) → node_at k w ≡ Some nv → (v u : WorldState) → u ≡ v → Went cap w0 k nv.inc s e told v → Goes e told u
  at_number e told k at v u is h = subst (λ (t : WorldState). Goes e told t) (sym is) (subst (λ (n : ℕ). Went cap w0 n nv.inc s e told v) (sym (p.slots k nv at).number) h)

  acts_of : (P : NodeValue → List Effect → NodeValue → DiskView → Type 0) (v : WorldState) (o : Option NodeValue) (told : List Told) (u : WorldState) → o ≡ Some nv → ActsAt P o v told u → Acts P nv v told u
  acts_of P v o told u e h = subst (λ (o : Option NodeValue). ActsAt P o v told u) e h

  reach_at : (u v : WorldState) → u ≡ v → Reaches cap u w0 → Reaches cap v w0
  reach_at u v is r = subst (λ (t : WorldState). Reaches cap t w0) is r

  installs_goes : (k view : ℕ) (told : List Told) (u : WorldState) → node_at k w ≡ Some nv → Acts (Reacts (inner.Install k view) w) nv w told u → Goes (event.Install k view) told u
  installs_goes k view told u at h = by (view_in w.chain view) refl h.event
    where
      by : (o : Option View) → view_in w.chain view ≡ o → Installs o w.disk nv h.effects h.after h.disk → Goes (event.Install k view) told u
      by None seen r = absurd r
      by (Some v) seen r = at_number (event.Install k view) told k at (absorbed h.effects h.after h.disk w) u h.world
          (installs_next cap w w0 a g p typed k nv x at running s stands in_step (inc k at) view v told h.after h.effects h.disk seen h.tells h.same
          (subst (λ (q : Option RunningNode). NodeInstalls {E = AllocError} w.disk q v (Ok h.effects) h.after.running h.disk) running r))

  delivers_goes : (number : ℕ) (told : List Told) (u : WorldState) → addressee (at_place w.pool number) w ≡ Some nv → Acts (Reacts (inner.Deliver number) w) nv w told u → Goes (event.Deliver number) told u
  delivers_goes number told u at h = by (at_place w.pool number) refl at h.event
    where
      by : (o : Option Sent) → at_place w.pool number ≡ o → addressee o w ≡ Some nv → Receives o w.disk nv h.effects h.after h.disk → Goes (event.Deliver number) told u
      by None stood at r = absurd r
      by (Some message) stood at r = at_number (event.Deliver number) told message.to at (absorbed h.effects h.after h.disk w) u h.world
          (receives_next cap w w0 a g p typed number message stood nv x at running s stands in_step (inc message.to at) told h.after h.effects h.disk h.tells h.same
          (subst (λ (q : Option RunningNode). NodeReceives {E = AllocError} w.disk q message (Ok h.effects) h.after.running h.disk) running r))

  dies_inside : (i : Inner) (moment : ℕ) (bytes : List ℕ) (told : List Told) (effects : List Effect) (after : NodeValue) (d ruin : DiskView) → reached i w ≡ Some nv → Reacts i w nv effects after d → Crashed d moment bytes ruin → told ≡ told_death nv
      → Goes (event.DieIn moment bytes i) told (bereft nv ruin w)
  dies_inside (inner.Install k view) moment bytes told effects after d ruin at r crashed tell = by (view_in w.chain view) refl r
    where
      by : (o : Option View) → view_in w.chain view ≡ o → Installs o w.disk nv effects after d → Goes (event.DieIn moment bytes (inner.Install k view)) told (bereft nv ruin w)
      by None seen r = absurd r
      by (Some v) seen r = at_number (event.DieIn moment bytes (inner.Install k view)) told k at (bereft nv ruin w) (bereft nv ruin w) refl
          (dies_installing cap w w0 a g p typed k nv x at running s stands in_step (inc k at) past moment bytes told tell d ruin crashed (inner.Install k view) view v after.running effects seen
          (subst (λ (q : Option RunningNode). NodeInstalls {E = AllocError} w.disk q v (Ok effects) after.running d) running r))
  dies_inside (inner.Bytes conn piece) moment bytes told effects after d ruin at r crashed tell =
      let k = served_is conn (home_of conn w) w nv at in
      at_number (event.DieIn moment bytes (inner.Bytes conn piece)) told k.0 k.1 (bereft nv ruin w) (bereft nv ruin w) refl
      (dies_alone cap w w0 a g p typed k.0 nv x k.1 running s stands in_step (inc k.0 k.1) past moment bytes told tell d ruin crashed (inner.Bytes conn piece) r.1)
  dies_inside (inner.HangUp conn) moment bytes told effects after d ruin at r crashed tell =
      let k = served_is conn (home_of conn w) w nv at in
      at_number (event.DieIn moment bytes (inner.HangUp conn)) told k.0 k.1 (bereft nv ruin w) (bereft nv ruin w) refl
      (dies_alone cap w w0 a g p typed k.0 nv x k.1 running s stands in_step (inc k.0 k.1) past moment bytes told tell d ruin crashed (inner.HangUp conn) r.1)
  dies_inside (inner.Deliver number) moment bytes told effects after d ruin at r crashed tell = by (at_place w.pool number) refl at r
    where
      by : (o : Option Sent) → at_place w.pool number ≡ o → addressee o w ≡ Some nv → Receives o w.disk nv effects after d → Goes (event.DieIn moment bytes (inner.Deliver number)) told (bereft nv ruin w)
      by None stood at r = absurd r
      by (Some message) stood at r = at_number (event.DieIn moment bytes (inner.Deliver number)) told message.to at (bereft nv ruin w) (bereft nv ruin w) refl
          (dies_receiving cap w w0 a g p typed number message stood nv x at running s stands in_step (inc message.to at) past moment bytes told tell d ruin crashed (inner.Deliver number) after.running effects
          (subst (λ (q : Option RunningNode). NodeReceives {E = AllocError} w.disk q message (Ok effects) after.running d) running r))
  dies_inside (inner.Tick k) moment bytes told effects after d ruin at r crashed tell =
      at_number (event.DieIn moment bytes (inner.Tick k)) told k at (bereft nv ruin w) (bereft nv ruin w) refl
      (dies_alone cap w w0 a g p typed k nv x at running s stands in_step (inc k at) past moment bytes told tell d ruin crashed (inner.Tick k) r.1)
  dies_inside (inner.Checkpoint k) moment bytes told effects after d ruin at r crashed tell =
      at_number (event.DieIn moment bytes (inner.Checkpoint k)) told k at (bereft nv ruin w) (bereft nv ruin w) refl
      (dies_checking cap w w0 a g p typed k nv x at running s stands in_step (inc k at) past moment bytes told tell d ruin crashed (inner.Checkpoint k) after.running effects
      (subst (λ (q : Option RunningNode). NodeChecks {E = AllocError} w.disk q (Ok effects) after.running d) running r))

  pub event_goes : (e : Event) (told : List Told) (u : WorldState) → concerned e w ≡ Some nv → Does e w told u → Reaches cap u w0 → Goes e told u
  event_goes (event.Start k) told u at h reach = absurd (cc)
  event_goes (event.Declare view) told u at h reach = absurd (cc)
  event_goes (event.Install k view) told u at h reach = installs_goes k view told u at (acts_of _ w (node_at k w) told u at h)
  event_goes (event.Connect conn k) told u at h reach =
      let c = acts_of _ (with_conn conn k w) (node_at k w) told u at h in
      at_number (event.Connect conn k) told k at (absorbed c.effects c.after c.disk (with_conn conn k w)) u c.world
      (connects_next cap (with_conn conn k w) w0 (still a) g (placed_still p) (typed_still typed) k nv x at running s stands in_step (inc k at) conn told c.after c.effects c.disk c.tells c.same (reach_at u _ c.world reach)
      (subst (λ (q : Option RunningNode). Connects conn q c.after.running c.effects) running c.event.0))
    where
      still : Abstracts cap (bare_of w) w0 → Abstracts cap (bare_of (with_conn conn k w)) w0
      still a = a

      placed_still : Placed w → Placed (with_conn conn k w)
      placed_still p = record { nodes = p.nodes; starts = p.starts; slots = p.slots }

      typed_still : IsTyped w → IsTyped (with_conn conn k w)
      typed_still t = record { incs = t.incs; clients = t.clients }
  event_goes (event.Bytes conn piece) told u at h reach =
      let c = acts_of _ w (reached (inner.Bytes conn piece) w) told u at h in
      let k = served_is conn (home_of conn w) w nv at in
      at_number (event.Bytes conn piece) told k.0 k.1 (absorbed c.effects c.after c.disk w) u c.world
      (hears_next cap w w0 a g p typed k.0 nv x k.1 running s stands in_step (inc k.0 k.1) conn piece told c.after c.effects c.disk c.tells c.same (reach_at u _ c.world reach)
      (subst (λ (q : Option RunningNode). HearsBytes conn piece q c.after.running c.effects) running c.event.0))
  event_goes (event.HangUp conn) told u at h reach =
      let c = acts_of _ w (reached (inner.HangUp conn) w) told u at h in
      let k = served_is conn (home_of conn w) w nv at in
      at_number (event.HangUp conn) told k.0 k.1 (absorbed c.effects c.after c.disk w) u c.world
      (hangs_up_next cap w w0 a g p typed k.0 nv x k.1 running s stands in_step (inc k.0 k.1) conn told c.after c.effects c.disk c.tells c.same (reach_at u _ c.world reach)
      (subst (λ (q : Option RunningNode). HangsUp conn q c.after.running c.effects) running c.event.0))
  event_goes (event.Deliver number) told u at h reach = delivers_goes number told u at (acts_of _ w (reached (inner.Deliver number) w) told u at h)
  event_goes (event.Tick k) told u at h reach =
      let c = acts_of _ w (node_at k w) told u at h in
      at_number (event.Tick k) told k at (absorbed c.effects c.after c.disk w) u c.world
      (ticks_next cap w w0 a g p typed k nv x at running s stands in_step (inc k at) told c.after c.effects c.disk c.tells c.same (reach_at u _ c.world reach)
      (subst (λ (q : Option RunningNode). Ticks q c.after.running c.effects) running c.event.0))
  event_goes (event.Checkpoint k) told u at h reach =
      let c = acts_of _ w (node_at k w) told u at h in
      at_number (event.Checkpoint k) told k at (absorbed c.effects c.after c.disk w) u c.world
      (checks_next cap w w0 a g p typed k nv x at running s stands in_step (inc k at) told c.after c.effects c.disk c.tells c.same
      (subst (λ (q : Option RunningNode). NodeChecks {E = AllocError} w.disk q (Ok c.effects) c.after.running c.disk) running c.event))
  event_goes (event.Fail call) told u at h reach = absurd (cc)
  event_goes (event.Die k) told u at h reach =
      let c = subst (λ (o : Option NodeValue). Dies o w told u) at h in
      at_number (event.Die k) told k at (bereft nv w.disk w) u c.1 (die_next cap w w0 a g p typed k nv x at running s stands in_step (inc k at) told c.0)
  event_goes (event.Clock k stamp) told u at h reach =
      at_number (event.Clock k stamp) told k at u u refl
      (clocks_next cap w w0 a g p typed k nv x at running s stands in_step (inc k at) stamp told u h.0 (h.1 ∙ ap (λ (o : Option NodeValue). with_clock stamp o w) at) reach)
  event_goes (event.Batch k update) told u at h reach =
      let c = acts_of _ w (node_at k w) told u at h in
      at_number (event.Batch k update) told k at (absorbed c.effects c.after c.disk w) u c.world
      (batches_next cap w w0 a g p typed k nv x at running s stands in_step (inc k at) update told c.after c.effects c.disk c.tells c.same (reach_at u _ c.world reach)
      (subst (λ (q : Option RunningNode). Batches update q c.after.running c.effects) running c.event.0))
  event_goes (event.DieIn moment bytes i) told u at h reach =
      let c = subst (λ (o : Option NodeValue). DiesIn moment bytes i o w told u) at h in
      subst (λ (t : WorldState). Goes (event.DieIn moment bytes i) told t) (sym c.world) (dies_inside i moment bytes told c.effects c.after c.disk c.left at c.event c.crashed c.tells)
