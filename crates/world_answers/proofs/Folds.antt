-- A node's registry is the one behind as many records of the order as it has applied.
use Rattle.std.proofs.Common.{◌≡◌, ℕ, ◌≤◌, Bool, true, false, List, length, Option, Some, None, if◌then◌else◌, refl, sym, ap, ◌∙◌, arith}
use Rattle.std.specs.Prelude.{option_map}
use Rattle.update_records.specs.Entry.{Entry}
use Rattle.view_reconcile.specs.Joining as joining
use Rattle.cluster_rules.specs.Machines.{registry_at}
use Rattle.cluster_rules.specs.Nodes.{NodeState, Replica, done_of}
use Rattle.cluster_rules.specs.Worlds.{World}
use Rattle.cluster_laws.proofs.Applying.{done_at, state_of}
use Rattle.cluster_laws.proofs.HeadRules.{open_is_ready}
use Rattle.cluster_laws.proofs.Inv.{Invariant, NodeOk}
use Rattle.registry_machine.specs.Machine.{ReplicatedRegistry, registry_machine}
use Rattle.cluster_member.specs.States.{MemberState}
use Rattle.cluster_node.specs.Steps.{HasFold}

pub has_fold : (cap : ℕ) (order : List Entry) (w : World registry_machine) (n : ℕ) (m : MemberState) → Invariant w → w.nodes n ≡ Some m.rules → w.log.cap ≡ cap → w.log.order ≡ order → HasFold cap order m
has_fold cap order w n m j at size whole = by m.rules.core.is_open refl
  where
    h : NodeOk w n m.rules
    h = j.nodes n m.rules at

    by : (c : Bool) → m.rules.core.is_open ≡ c
        → (if c then option_map (λ (r : Replica registry_machine). r.registry.keys) m.rules.replica else None) ≡ (if c then Some (registry_at registry_machine cap order (done_of m.rules)).keys else None)
    by false e = refl
    by true e =
        let ready : joining.is_ready m.rules.join ≡ true = open_is_ready m.rules.join (sym h.local.core_open ∙ e) in
        let s = state_of m.rules (h.prefix.ready_state ready).0 in
        let registry : s.0.registry ≡ registry_at registry_machine cap order (done_of m.rules) =
        h.prefix.registry s.0 s.1 ∙ (λ i. registry_at registry_machine (size i) (whole i) (sym (done_at m.rules s.0 s.1) i)) in
        ap (λ (o : Option (Replica registry_machine)). option_map (λ (r : Replica registry_machine). r.registry.keys) o) s.1 ∙ ap (λ (g : ReplicatedRegistry). Some g.keys) registry

pub done_within : (order : List Entry) (w : World registry_machine) (n : ℕ) (x : NodeState registry_machine) → Invariant w → w.nodes n ≡ Some x → w.log.order ≡ order → done_of x ≤ length order
done_within order w n x j at whole = let most = (j.nodes n x at).prefix.within in let long : length w.log.order ≡ length order = ap (λ (l : List Entry). length l) whole in omega (arith, most, long)
