-- Each event of the world leads, by events of the protocol, to a world that is tied to the one behind it.
use Rattle.std.proofs.Common.{◌≡◌, inl, ℕ, ◌-◌, Bool, true, false, List, [], ◌∷◌, ◌++◌, Option, Some, None, Result, Ok, if◌then◌else◌, refl, sym, ap, ◌∙◌, subst, append-nil}
use Rattle.std.specs.Prelude.{is_some, option_to_list, slice_set}
use Rattle.std.specs.declared.alloc.AllocError.{AllocError}
use Rattle.wire_fields.specs.Numbers.{IsBytes}
use Rattle.disk_core.specs.Crashes.{Crashed}
use Rattle.disk_core.specs.Views.{DiskView}
use Rattle.gum_messages.specs.declared.view.View.{View}
use Rattle.gum_messages.specs.Messages.{IsNode, Sent}
use Rattle.gum_messages.specs.Places.{at_place}
use Rattle.view_reconcile.specs.Chains.{view_in}
use Rattle.update_records.specs.Entry.{Entry}
use Rattle.update_records.specs.Limits.{IsUpdate}
use Rattle.update_records.specs.declared.update.Update.{Update}
use Rattle.cluster_rules.specs.declared.effect.Effect.{Effect}
use Rattle.cluster_rules.specs.Receiving as rules
use Rattle.cluster_rules.specs.Updates.{Written}
use Rattle.cluster_rules.specs.Worlds.{Checkpoint, Deliver, Die, DieInDeliver, DieInInstall, Event, Install, Tick, World, acked, happens, run, sent}
use Rattle.cluster_laws.proofs.Orders.{run_append}
use Rattle.registry_machine.specs.Machine.{registry_machine}
use Rattle.client_connections.specs.Clients.{Clients, client_at, connected, hung_up}
use Rattle.client_connections.specs.Finishing.{batched}
use Rattle.cluster_member.specs.declared.stop.Stop.{Stop}
use Rattle.cluster_member.specs.States.{MemberState}
use Rattle.member_rules.specs.declared.told.Told.{Told}
use Rattle.cluster_node.specs.Events.{Batches, ClientsTell, Connects, HangsUp, HearsBytes, NodeChecks, NodeInstalls, NodeReceives, Refuses, Ticks, head_request}
use Rattle.cluster_node.specs.States.{IsSameNode, NodeValue, RunningNode, client_in, runs}
use Rattle.cluster_worlds.specs.Happening.{node_with, served_at}
use Rattle.cluster_worlds.specs.Telling.{absorbed, bereft}
use Rattle.cluster_worlds.specs.Worlds.{WorldState, node_at, slot_of}
use Rattle.client_laws.specs.Laws.{QueuesUpdate}
use Rattle.client_laws.specs.Typed.{AreTyped}
use Rattle.client_laws.proofs.Events.{batched_typed, connected_typed, hung_up_typed}
use Rattle.world_laws.proofs.Absorbing.{absorbed_bare, bereft_bare, joins_none, joins_some, then_leads, then_replica}
use Rattle.world_laws.proofs.Absorbing as absorbing
use Rattle.world_laws.proofs.Births.{Born, node_born}
use Rattle.world_laws.proofs.Coming.{Grows, left, left_ok, tells}
use Rattle.world_laws.proofs.Crashing.{dies}
use Rattle.world_laws.proofs.Following.{ComesBorn, Left, Then, follows_left, follows_suffice, hears_then, submits_alone}
use Rattle.world_laws.proofs.Installing.{install_dies, installs, installs_born}
use Rattle.world_laws.proofs.Quiet.{die_ties, same_now, still_ties, tick_ties}
use Rattle.world_laws.proofs.Receiving.{receive_dies, receives, receives_born}
use Rattle.world_laws.proofs.Records.{Bounded, Good, good_keeps, run_good}
use Rattle.world_laws.proofs.Refusing.{stands_here}
use Rattle.world_laws.proofs.Saving.{save_dies, saves_born, saves_to}
use Rattle.world_laws.proofs.Slots.{Placed, bare_of, member_of, node_within, placed_set, running_member, slot_is}
use Rattle.world_laws.proofs.Speaking.{Mute, batched_mute, connected_mute, hung_up_mute}
use Rattle.world_laws.proofs.Tied.{Abstracts, Bare, left_at, moved, rules_in}
use Rattle.world_laws.proofs.Typing.{IsTyped, IsTypedSlot, goes_slot, no_typed_slot, stopped_slot, typed_set}

-- What an event has led to.
pub record Reaches (cap : ℕ) (u : WorldState) (w : World registry_machine) : Type 0 where
  pub more : List Event
  pub ties : Abstracts cap (bare_of u) (run more w)
  pub placed : Placed u
  pub typed : IsTyped u

-- a node that tells its clients alone
pub mute_then : (m n : MemberState) (effects : List Effect) → n ≡ m → Mute effects → Then None [] m n effects
mute_then m n effects same mutes = record {
  rules = ap (λ (k : MemberState). Some k.rules) (sym same);
  log = ap (λ (k : MemberState). k.log) same;
  sends = mutes.sends;
  acks = mutes.acks;
}

pub served_is : (conn : ℕ) (home : Option ℕ) (w : WorldState) (m : NodeValue) → served_at conn home w ≡ Some m → (k : ℕ) × (node_at k w ≡ Some m)
served_is conn None w m e = absurd (cc)
served_is conn (Some k) w m e = (k, by (node_at k w) e)
  where
    by : (o : Option NodeValue) → node_with conn o ≡ Some m → o ≡ Some m
    by None e = absurd (cc)
    by (Some n) e = if_some (is_some (client_in conn n)) e
      where
        if_some : (c : Bool) → (if c then Some n else None) ≡ Some m → Some n ≡ Some m
        if_some true e = e
        if_some false e = absurd (cc)

module _ (cap : ℕ) (w : WorldState) (w0 : World registry_machine) (a : Abstracts cap (bare_of w) w0) (g : Good w0) (p : Placed w) (t : IsTyped w) where
  bounded : Bounded w0.chain
  bounded k v n at = t.incs k v n (ap (λ (c : List View). view_in c k) (sym a.chain) ∙ at)

  pub quiet : (u : WorldState) → u ≡ w → Reaches cap u w0
  quiet u e = subst (λ (v : WorldState). Reaches cap v w0) (sym e) (record { more = []; ties = a; placed = p; typed = t })

  -- ---- a node that runs there

  module _ (k : ℕ) (nv : NodeValue) (x : RunningNode) (at : node_at k w ≡ Some nv) (running : nv.running ≡ Some x) where
    here : IsNode k
    here = node_within w k nv p at

    there : (bare_of w).members k ≡ Some x.member
    there = ap (λ (o : Option NodeValue). member_of o) at ∙ ap (λ (o : Option RunningNode). running_member o) running

    number_is : (after : NodeValue) → IsSameNode nv after → after.number ≡ k
    number_is after same = same.number ∙ (p.slots k nv at).number

    placed_behind : (after : NodeValue) (effects : List Effect) (d : DiskView) → IsSameNode nv after → Placed (absorbed effects after d w)
    placed_behind after effects d same =
        let number = number_is after same in
        placed_set w (absorbed effects after d w) k (slot_of after) p here (ap (λ (j : ℕ). slice_set w.nodes (j - 1) (slot_of after)) number) p.starts (slot_is after k number)

    typed_behind : (after : NodeValue) (effects : List Effect) (d : DiskView) → IsSameNode nv after → IsTypedSlot (slot_of after) → IsTyped (absorbed effects after d w)
    typed_behind after effects d same slot =
        typed_set w (absorbed effects after d w) k (slot_of after) p here t (ap (λ (j : ℕ). slice_set w.nodes (j - 1) (slot_of after)) (number_is after same)) refl slot

    -- the node goes on
    goes : (after : NodeValue) (y : RunningNode) (effects : List Effect) (d : DiskView) (before : List Event) (m : MemberState) (es : List Effect) (order : List Entry) (queued : Option Update)
        → IsSameNode nv after → after.running ≡ Some y → Abstracts cap (moved (bare_of w) k (Some m) es order d) (run before w0) → Grows w.order order (Some m) → Then queued es m y.member effects
        → QueuesUpdate y.clients queued → Reaches cap (absorbed effects after d w) w0
    goes after y effects d before m es order queued same runs ties grows then_ queues =
        let w1 = run before w0 in
        let l = then_leads cap (bare_of w) w1 k m y.member es effects order d ties queued then_ queues.update in
        let c : Bare = moved (bare_of w) k (Some y.member) effects order d in
        let g2 : Good (run l.more w1) = run_good l.more w1 (run_good before w0 g) in
        let joins = joins_some cap c (run l.more w1) k m y after w.order order l.ties g2 refl (absorbing.at_self (bare_of w).members k (Some y.member)) runs grows (then_replica queued es effects m y.member then_) in
        let is : bare_of (absorbed effects after d w) ≡ c =
        absorbed_bare w k after effects d order p here (number_is after same) joins ∙ ap (λ (o : Option RunningNode). moved (bare_of w) k (running_member o) effects order d) runs in
        record {
          more = before ++ l.more;
          ties = subst (λ (v : World registry_machine). Abstracts cap (bare_of (absorbed effects after d w)) v) (sym (run_append before l.more w0))
              (subst (λ (c : Bare). Abstracts cap c (run l.more w1)) (sym is) l.ties);
          placed = placed_behind after effects d same;
          typed = typed_behind after effects d same (goes_slot after y runs queues.clients);
        }

    -- it stops
    stops : (after : NodeValue) (effects es : List Effect) (d : DiskView) (before : List Event) (o : Option MemberState) (order : List Entry)
        → IsSameNode nv after → after.running ≡ None → o ≡ None → Abstracts cap (moved (bare_of w) k o es order d) (run before w0) → Grows w.order order o → sent effects ≡ sent es → acked effects ≡ acked es
        → Reaches cap (absorbed effects after d w) w0
    stops after effects es d before o order same runs gone ties grows sends acks =
        let is : bare_of (absorbed effects after d w) ≡ moved (bare_of w) k (running_member after.running) effects order d =
        absorbed_bare w k after effects d order p here (number_is after same) (joins_none after w.order order o runs gone grows) in
        let moves : moved (bare_of w) k o es order d ≡ moved (bare_of w) k (running_member after.running) effects order d =
        absorbing.same_move (bare_of w) k o (running_member after.running) es effects order d (gone ∙ sym (ap (λ (r : Option RunningNode). running_member r) runs)) sends acks in
        record {
          more = before;
          ties = subst (λ (c : Bare). Abstracts cap c (run before w0)) (moves ∙ sym is) ties;
          placed = placed_behind after effects d same;
          typed = typed_behind after effects d same (stopped_slot after runs);
        }

    -- an event of its member
    comes : (after : NodeValue) (effects : List Effect) (d : DiskView) (came : Result Told Stop) (m : MemberState) (e : Event)
        → IsSameNode nv after → Abstracts cap (moved (bare_of w) k (left came m) (tells came) (happens w0 e).log.order d) (happens w0 e) → Grows w.order (happens w0 e).log.order (left came m)
        → Left came m after.running effects → Reaches cap (absorbed effects after d w) w0
    comes after effects d came m e same ties grows is = by after.running refl is
      where
        by : (r : Option RunningNode) → after.running ≡ r → Left came m r effects → Reaches cap (absorbed effects after d w) w0
        by (Some y) runs l =
            let ok = left_ok came m l.0 l.1 in
            goes after y effects d (e ∷ []) m (tells came) (happens w0 e).log.order l.2 same runs
            (subst (λ (o : Option MemberState). Abstracts cap (moved (bare_of w) k o (tells came) (happens w0 e).log.order d) (happens w0 e)) ok ties)
            (subst (λ (o : Option MemberState). Grows w.order (happens w0 e).log.order o) ok grows) l.3 l.4
        by None runs l = stops after effects (tells came) d (e ∷ []) (left came m) (happens w0 e).log.order same runs l.0 ties grows l.1 l.2

    -- an event that its log has no part in
    alone : (after : NodeValue) (y : RunningNode) (effects : List Effect) (queued : Option Update) → IsSameNode nv after → after.running ≡ Some y → Then queued [] x.member y.member effects
        → QueuesUpdate y.clients queued → Reaches cap (absorbed effects after w.disk w) w0
    alone after y effects queued same runs then_ queues =
        goes after y effects w.disk [] x.member [] w.order queued same runs (still_ties cap (bare_of w) w0 k (Some x.member) a there) (inl refl) then_ queues

    clients_typed : AreTyped x.clients
    clients_typed = t.clients k nv x at running

    -- what clients read of the registry of the member that has done the event, and what they are told
    born_behind : (came : Result Told Stop) (m : MemberState) (e : Event) (es : List Effect) (order : List Entry) (d : DiskView) → Abstracts cap (moved (bare_of w) k (left came m) es order d) (happens w0 e) → Born came → ComesBorn came m
    born_behind came m e es order d ties outcome = record {
      outcome = outcome;
      keys = λ told ok. node_born (happens w0 e) (good_keeps w0 e g) k m.rules
          (ties.nodes k ∙ ap (λ (o : Option MemberState). rules_in o) (absorbing.at_self (bare_of w).members k (left came m)) ∙ ap (λ (o : Option MemberState). rules_in o) (left_ok came m told ok));
    }

    -- ---- the events

    pub installs_at : (view : ℕ) (v : View) (after : NodeValue) (effects : List Effect) (d : DiskView) → view_in w.chain view ≡ Some v → IsSameNode nv after
        → NodeInstalls {E = AllocError} w.disk (Some x) v (Ok effects) after.running d → Reaches cap (absorbed effects after d w) w0
    installs_at view v after effects d seen same l =
        let s = follows_suffice l.came (head_request x) l.member x.clients after.running effects l.follows in
        let declared : view_in w0.chain view ≡ Some v = ap (λ (c : List View). view_in c view) a.chain ∙ seen in
        let c = installs cap (bare_of w) w0 k view v x.member a g bounded declared there l.came l.member d l.event s in
        let e : Event = Install k view c.opening in
        let born = born_behind l.came l.member e (tells l.came) (happens w0 e).log.order d c.ties (installs_born cap (bare_of w) w0 k view v x.member a g bounded declared there l.came l.member d l.event) in
        comes after effects d l.came l.member e same c.ties c.grows (follows_left l.came (head_request x) l.member x.clients after.running effects clients_typed born l.follows)

    pub receives_at : (number : ℕ) (message : Sent) (after : NodeValue) (effects : List Effect) (d : DiskView) → at_place w.pool number ≡ Some message → message.to ≡ k → IsSameNode nv after
        → NodeReceives {E = AllocError} w.disk (Some x) message (Ok effects) after.running d → Reaches cap (absorbed effects after d w) w0
    receives_at number message after effects d stands to same l =
        let s = follows_suffice l.came (head_request x) l.member x.clients after.running effects l.follows in
        let pooled : at_place w0.pool number ≡ Some message = ap (λ (ps : List Sent). at_place ps number) a.pool ∙ stands in
        let there' : (bare_of w).members message.to ≡ Some x.member = ap (λ (n : ℕ). member_of (node_at n w)) to ∙ there in
        let c = receives cap (bare_of w) w0 number message x.member a g bounded pooled there' l.came l.member d l.event s in
        let e : Event = Deliver number c.answer in
        let u = happens w0 e in
        let ties = subst (λ (n : ℕ). Abstracts cap (moved (bare_of w) n (left l.came l.member) (tells l.came) u.log.order d) u) to c.ties in
        let born = born_behind l.came l.member e (tells l.came) u.log.order d ties (receives_born cap (bare_of w) w0 number message x.member a g bounded pooled there' l.came l.member d l.event) in
        comes after effects d l.came l.member e same ties c.grows (follows_left l.came (head_request x) l.member x.clients after.running effects clients_typed born l.follows)

    pub checks_at : (after : NodeValue) (effects : List Effect) (d : DiskView) → IsSameNode nv after → NodeChecks {E = AllocError} w.disk (Some x) (Ok effects) after.running d → Reaches cap (absorbed effects after d w) w0
    checks_at after effects d same l =
        let s = follows_suffice l.came (head_request x) l.member x.clients after.running effects l.follows in
        let c = saves_to cap (bare_of w) w0 k x.member a g bounded there l.came l.member d l.event s in
        let e : Event = Checkpoint k c.good in
        let u = happens w0 e in
        let ties = subst (λ (order : List Entry). Abstracts cap (moved (bare_of w) k (left l.came l.member) (tells l.came) order d) u) (sym c.ties.order) c.ties in
        let born = born_behind l.came l.member e (tells l.came) u.log.order d ties (saves_born cap (bare_of w) w0 k x.member a g bounded there l.came l.member d l.event) in
        comes after effects d l.came l.member e same ties (inl c.ties.order) (follows_left l.came (head_request x) l.member x.clients after.running effects clients_typed born l.follows)

    pub hears_at : (conn : ℕ) (piece : List ℕ) (after : NodeValue) (effects : List Effect) → IsSameNode nv after → IsBytes piece → HearsBytes conn piece (Some x) after.running effects → Reaches cap (absorbed effects after w.disk w) w0
    hears_at conn piece after effects same bytes h = by after.running refl h
      where
        by : (r : Option RunningNode) → after.running ≡ r → HearsBytes conn piece (Some x) r effects → Reaches cap (absorbed effects after w.disk w) w0
        by None runs h = absurd h
        by (Some y) runs h =
            let s = hears_then conn piece x.member y.member x.clients y.clients effects clients_typed (node_born w0 g k x.member.rules (a.nodes k ∙ ap (λ (o : Option MemberState). rules_in o) there)) bytes h in
            alone after y effects s.0 same runs s.1 s.2

    tells_at : (after : NodeValue) (y : RunningNode) (effects : List Effect) (changed : Clients × Option Effect) → IsSameNode nv after → after.running ≡ Some y → ClientsTell x changed y effects → Mute (option_to_list changed.1)
        → AreTyped changed.0 → Reaches cap (absorbed effects after w.disk w) w0
    tells_at after y effects changed same runs told mutes typed =
        alone after y effects None same runs (mute_then x.member y.member effects (ap (λ (r : RunningNode). r.member) told.0) (subst Mute (sym told.1) mutes))
        (record { clients = subst (λ (s : Clients). AreTyped s) (sym (ap (λ (r : RunningNode). r.clients) told.0)) typed; update = tt })

    pub hangs_up_at : (conn : ℕ) (after : NodeValue) (effects : List Effect) → IsSameNode nv after → HangsUp conn (Some x) after.running effects → Reaches cap (absorbed effects after w.disk w) w0
    hangs_up_at conn after effects same h = by after.running refl h
      where
        by : (r : Option RunningNode) → after.running ≡ r → HangsUp conn (Some x) r effects → Reaches cap (absorbed effects after w.disk w) w0
        by None runs h = absurd h
        by (Some y) runs h = tells_at after y effects (hung_up conn (client_at conn x.clients) x.clients) same runs h (hung_up_mute conn x.clients) (hung_up_typed x.clients conn clients_typed)

    pub connects_at : (conn : ℕ) (after : NodeValue) (effects : List Effect) → IsSameNode nv after → Connects conn (Some x) after.running effects → Reaches cap (absorbed effects after w.disk w) w0
    connects_at conn after effects same h = by after.running refl h
      where
        by : (r : Option RunningNode) → after.running ≡ r → Connects conn (Some x) r effects → Reaches cap (absorbed effects after w.disk w) w0
        by None runs h = absurd h
        by (Some y) runs h = tells_at after y effects (connected conn x.clients) same runs h (connected_mute conn x.clients) (connected_typed x.clients conn clients_typed)

    pub ticks_at : (after : NodeValue) (effects : List Effect) → IsSameNode nv after → Ticks (Some x) after.running effects → Reaches cap (absorbed effects after w.disk w) w0
    ticks_at after effects same h = by after.running refl h
      where
        by : (r : Option RunningNode) → after.running ≡ r → Ticks (Some x) r effects → Reaches cap (absorbed effects after w.disk w) w0
        by None runs h = absurd h
        by (Some y) runs h =
            let es = (rules.tick x.member.rules).effects in
            goes after y effects w.disk (Tick k ∷ []) x.member es w.order None same runs (tick_ties cap (bare_of w) w0 k x.member a there) (inl refl) (record {
              rules = ap (λ (r : RunningNode). Some r.member.rules) (sym h.0);
              log = ap (λ (r : RunningNode). r.member.log) h.0;
              sends = ap sent h.1 ∙ sym (append-nil (sent es));
              acks = ap acked h.1 ∙ sym (append-nil (acked es));
            }) (record { clients = subst (λ (r : RunningNode). AreTyped r.clients) (sym h.0) clients_typed; update = tt })

    pub batches_at : (update : Update) (after : NodeValue) (effects : List Effect) → IsSameNode nv after → IsUpdate update → Batches update (Some x) after.running effects → Reaches cap (absorbed effects after w.disk w) w0
    batches_at update after effects same valid h = by after.running refl h
      where
        refused : (y : RunningNode) (o : Option Effect) → after.running ≡ Some y → AreTyped y.clients → Mute (option_to_list o) → Refuses o update x.member y.member effects → Reaches cap (absorbed effects after w.disk w) w0
        refused y None runs typed mutes s = alone after y effects (Some update) same runs (submits_alone update x.member y.member effects s) (record { clients = typed; update = valid })
        refused y (Some e) runs typed mutes r = alone after y effects None same runs (mute_then x.member y.member effects r.0 (subst Mute (sym r.1) mutes)) (record { clients = typed; update = tt })

        by : (r : Option RunningNode) → after.running ≡ r → Batches update (Some x) r effects → Reaches cap (absorbed effects after w.disk w) w0
        by None runs h = absurd h
        by (Some y) runs h =
            refused y (batched x.member.rules.core.is_open x.clients).1 runs (subst (λ (s : Clients). AreTyped s) (sym h.clients) (batched_typed x.clients x.member.rules.core.is_open clients_typed))
            (batched_mute x.member.rules.core.is_open x.clients) h.submits

    -- ---- the node is gone

    gone : (d : DiskView) (before : List Event) → Abstracts cap (left_at (bare_of w) k None w.order d) (run before w0) → Reaches cap (bereft nv d w) w0
    gone d before ties =
        let number = (p.slots k nv at).number in
        record {
          more = before;
          ties = subst (λ (c : Bare). Abstracts cap c (run before w0)) (sym (bereft_bare w k nv d p here number)) ties;
          placed = placed_set w (bereft nv d w) k None p here (ap (λ (j : ℕ). slice_set w.nodes (j - 1) None) number) p.starts (λ m e. absurd (cc));
          typed = typed_set w (bereft nv d w) k None p here t (ap (λ (j : ℕ). slice_set w.nodes (j - 1) None) number) refl no_typed_slot;
        }

    pub die_at : Reaches cap (bereft nv w.disk w) w0
    die_at = gone w.disk (Die k ∷ []) (die_ties cap (bare_of w) w0 k w.disk a (same_now w.disk w.disk refl))

    module _ (past : w.disk.past ≡ []) (d x' : DiskView) (calls : ℕ) (bytes : List ℕ) (crashed : Crashed d calls bytes x') where
      pub dies_alone : d ≡ w.disk → Reaches cap (bereft nv x' w) w0
      dies_alone same = gone x' (Die k ∷ []) (dies cap (bare_of w) w0 k d x' calls bytes a (stands_here w.disk d same) (ap (λ (u : DiskView). u.tells) same) past crashed)

      pub dies_installing : (view : ℕ) (v : View) (after : Option RunningNode) (effects : List Effect) → view_in w.chain view ≡ Some v → NodeInstalls {E = AllocError} w.disk (Some x) v (Ok effects) after d → Reaches cap (bereft nv x' w) w0
      dies_installing view v after effects seen l =
          let declared : view_in w0.chain view ≡ Some v = ap (λ (c : List View). view_in c view) a.chain ∙ seen in
          let r = install_dies cap (bare_of w) w0 k view v x.member a g bounded declared there l.came l.member d x' calls bytes l.event past crashed in
          gone x' (DieInInstall k view r.0 ∷ []) r.1

      pub dies_receiving : (number : ℕ) (message : Sent) (after : Option RunningNode) (effects : List Effect) → at_place w.pool number ≡ Some message → message.to ≡ k → NodeReceives {E = AllocError} w.disk (Some x) message (Ok effects) after d
          → Reaches cap (bereft nv x' w) w0
      dies_receiving number message after effects stands to l =
          let pooled : at_place w0.pool number ≡ Some message = ap (λ (ps : List Sent). at_place ps number) a.pool ∙ stands in
          let there' : (bare_of w).members message.to ≡ Some x.member = ap (λ (n : ℕ). member_of (node_at n w)) to ∙ there in
          let r = receive_dies cap (bare_of w) w0 number message x.member a g bounded pooled there' l.came l.member d x' calls bytes l.event past crashed in
          gone x' (DieInDeliver number Written ∷ []) (subst (λ (n : ℕ). Abstracts cap (left_at (bare_of w) n None w.order x') (happens w0 (DieInDeliver number Written))) to r)

      pub dies_checking : (after : Option RunningNode) (effects : List Effect) → NodeChecks {E = AllocError} w.disk (Some x) (Ok effects) after d → Reaches cap (bereft nv x' w) w0
      dies_checking after effects l = gone x' (Die k ∷ []) (save_dies cap (bare_of w) w0 k x.member a g bounded there l.came l.member d x' calls bytes l.event past crashed)
