-- The promises of the protocol are those of the world that is tied to it.
use Rattle.std.proofs.Common.{◌≡◌, ℕ, ◌+◌, Bool, true, false, List, length, Option, Some, None, nat_eq, if◌then◌else◌, refl, sym, ap, ◌∙◌, subst, arith}
use Rattle.std.specs.Prelude.{option_map}
use Rattle.registry_defs.specs.Applying.{registry_after}
use Rattle.registry_defs.specs.Contents.{IsCap}
use Rattle.gum_messages.specs.Places.{at_place}
use Rattle.update_records.specs.Entry.{Entry}
use Rattle.view_reconcile.specs.Joining as joining
use Rattle.cluster_rules.specs.Joins.{known_done}
use Rattle.cluster_rules.specs.Nodes.{Replica, number_of}
use Rattle.cluster_rules.specs.Promises as rules
use Rattle.cluster_rules.specs.Worlds.{World, opening, run}
use Rattle.cluster_laws.proofs.Inv.{NodeOk}
use Rattle.cluster_laws.proofs.Theorem.{all_kept, all_safe}
use Rattle.registry_machine.specs.Laws.{IsWithin}
use Rattle.registry_machine.specs.Machine.{ReplicatedRegistry, registry_machine}
use Rattle.registry_machine.proofs.Instance.{is_machine}
use Rattle.registry_laws.specs.Folds.{IsFold}
use Rattle.registry_laws.proofs.Folds.{all_fold}
use Rattle.cluster_member.specs.States as member
use Rattle.cluster_node.specs.States.{NodeValue, RunningNode, done, registry_in}
use Rattle.cluster_worlds.specs.Worlds.{WorldState, node_at}
use Rattle.world_laws.specs.Kept.{Kept}
use Rattle.world_laws.specs.Safe.{HoldsOrder, Safe}
use Rattle.world_laws.proofs.Running.{IsReached, reached_good}
use Rattle.world_laws.proofs.Slots.{member_of, running_member}
use Rattle.world_laws.proofs.Tied.{rules_in}

-- ---- what a node shows

done_has : (o : Option (Replica registry_machine)) (k : ℕ) → (elim o [ None ↦ None | Some r ↦ Some r.done ]) ≡ Some k → (r : Replica registry_machine) × (o ≡ Some r) × (r.done ≡ k)
done_has None k e = absurd (cc)
done_has (Some r) k e = (r, refl, cc)

registry_has : (o : Option (Replica registry_machine)) (g : ReplicatedRegistry) → option_map (λ r. r.registry) o ≡ Some g → (r : Replica registry_machine) × (o ≡ Some r) × (r.registry ≡ g)
registry_has None g e = absurd (cc)
registry_has (Some r) g e = (r, refl, cc)

numbered : (c : Bool) (n u : ℕ) → (if c then None else Some n) ≡ Some u → n ≡ u
numbered true n u e = absurd (cc)
numbered false n u e = cc

module _ (cap : ℕ) (w : WorldState) (is : IsCap cap) (h : IsReached cap w) where
  tied : World registry_machine
  tied = run h.events (opening registry_machine cap)

  -- the node of the protocol
  pub record Shown (n : ℕ) (m : NodeValue) : Type 0 where
    pub node : RunningNode
    pub runs : m.running ≡ Some node
    pub at : (run h.events (opening registry_machine cap)).nodes n ≡ Some node.member.rules

  shown : (n : ℕ) (m : NodeValue) → node_at n w ≡ Some m → Shown n m
  shown n m at =
      let s = h.placed.slots n m at in
      record {
        node = s.node;
        runs = s.runs;
        at = h.ties.nodes n ∙ ap (λ (o : Option NodeValue). rules_in (member_of o)) at ∙ ap (λ (o : Option RunningNode). rules_in (running_member o)) s.runs;
      }

  done_is : (m : NodeValue) (x : RunningNode) (k : ℕ) → m.running ≡ Some x → done m ≡ Some k → (r : Replica registry_machine) × (x.member.rules.replica ≡ Some r) × (r.done ≡ k)
  done_is m x k runs e = done_has x.member.rules.replica k (sym (ap (λ (o : Option RunningNode). elim o [ None ↦ None | Some x ↦ known_done x.member.rules ]) runs) ∙ e)

  registry_is : (m : NodeValue) (x : RunningNode) (g : ReplicatedRegistry) → m.running ≡ Some x → registry_in m ≡ Some g → (r : Replica registry_machine) × (x.member.rules.replica ≡ Some r) × (r.registry ≡ g)
  registry_is m x g runs e = registry_has x.member.rules.replica g (sym (ap (λ (o : Option RunningNode). elim o [ None ↦ None | Some x ↦ member.registry_in x.member ]) runs) ∙ e)

  pub safe_world : Safe cap w
  safe_world =
      let w0 = run h.events (opening registry_machine cap) in
      let s : rules.Safe w0 = all_safe registry_machine is_machine cap h.events is in
      let f : IsFold w0 = all_fold cap h.events is in
      let order : w0.log.order ≡ w.order = h.ties.order in
      let size : w0.log.cap ≡ cap = h.ties.cap_is in
      record {
        within = λ n m k at e.
            let x = shown n m at in
            let r = done_is m x.node k x.runs e in
            let most = s.within n x.node.member.rules r.0 x.at r.1 in
            let long : length w0.log.order ≡ length w.order = ap (λ (l : List Entry). length l) order in
            omega (arith, most, r.2, long);
        registry = λ n m g k at e d.
            let x = shown n m at in
            let r = registry_is m x.node g x.runs e in
            let q = done_is m x.node k x.runs d in
            let same : r.0 ≡ q.0 = cc (r.1, q.1) in
            let count : r.0.done ≡ k = ap (λ (t : Replica registry_machine). t.done) same ∙ q.2 in
            sym r.2 ∙ f.fold n x.node.member.rules r.0 x.at r.1 ∙ (λ i. record { cap = size i; keys = registry_after (size i) (order i) (count i) });
        limits = λ n m g at e.
            let x = shown n m at in
            let r = registry_is m x.node g x.runs e in
            subst (λ (t : ReplicatedRegistry). IsWithin cap t.keys) r.2 (subst (λ (c : ℕ). IsWithin c r.0.registry.keys) size (f.within n x.node.member.rules r.0 x.at r.1));
        places = λ k e at. s.places k e (ap (λ (l : List Entry). at_place l k) order ∙ at);
        ids = λ j k d e at_j at_k same. s.ids j k d e (ap (λ (l : List Entry). at_place l j) order ∙ at_j) (ap (λ (l : List Entry). at_place l k) order ∙ at_k) same;
        doubt = w0.log.doubtful;
        next = λ e is. record {
          place_is = s.next e is ∙ ap (λ (l : List Entry). length l + 1) order;
          apart = λ k d at same. s.apart e d k is (ap (λ (l : List Entry). at_place l k) order ∙ at) same;
        };
        images = λ image may.
            subst (λ (l : List Entry). HoldsOrder cap l w0.log.doubtful image) order
            (subst (λ (c : ℕ). HoldsOrder c w0.log.order w0.log.doubtful image) size (h.ties.refines.now.1 image may));
      }

  pub kept_world : Kept w
  kept_world =
      let w0 = run h.events (opening registry_machine cap) in
      let k : rules.Kept w0 = all_kept registry_machine is_machine cap h.events is in
      record {
        stands = λ a view place at.
            let stands = k.stands view place a (ap (λ (l : List (ℕ × ℕ)). at_place l a) h.ties.acks ∙ at) in
            let long : length w0.log.order ≡ length w.order = ap (λ (l : List Entry). length l) h.ties.order in
            omega (arith, stands, long);
        applied = λ a view place n u m at there opened number later.
            let x = shown n m there in
            let ok : NodeOk w0 n x.node.member.rules = (reached_good cap h.events is).holds.invariant.nodes n x.node.member.rules x.at in
            let open_ : joining.is_open x.node.member.rules.join ≡ true =
            sym ok.local.core_open ∙ sym (ap (λ (o : Option RunningNode). elim o [ None ↦ false | Some x ↦ x.member.rules.core.is_open ]) x.runs) ∙ opened in
            let shows : member.view_number x.node.member ≡ Some u = sym (ap (λ (o : Option RunningNode). elim o [ None ↦ None | Some x ↦ member.view_number x.member ]) x.runs) ∙ number in
            let same : number_of x.node.member.rules ≡ u = numbered (nat_eq (number_of x.node.member.rules) 0) (number_of x.node.member.rules) u shows in
            let r = k.applied view place a n x.node.member.rules (ap (λ (l : List (ℕ × ℕ)). at_place l a) h.ties.acks ∙ at) x.at open_ (omega (arith, later, same)) in (
              r.0.done,
              ap (λ (o : Option RunningNode). elim o [ None ↦ None | Some x ↦ known_done x.member.rules ]) x.runs
                  ∙ ap (λ (o : Option (Replica registry_machine)). elim o [ None ↦ None | Some r ↦ Some r.done ]) r.1,
              r.2,
            );
      }
