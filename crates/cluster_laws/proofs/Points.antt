-- What the answers to clients rest on: the outcome of a finished request, and that the points of one incarnation never fall.
use Rattle.std.proofs.Common.{◌≡◌, ℕ, ◌-◌, Some, refl}
use Rattle.gum_messages.specs.Members.{inc_of}
use Rattle.update_records.specs.Entry.{Entry}
use Rattle.cluster_rules.specs.Machines.{Machine, outcome_at}
use Rattle.cluster_rules.specs.Nodes.{NodeState}
use Rattle.cluster_rules.specs.Worlds.{World}
use Rattle.cluster_laws.proofs.Inv.{Invariant, NodeOk}
use Rattle.cluster_laws.proofs.Finish.{Done}

module _ {M : Machine} where
  -- the outcome of a request that finishes is that of its record, at its place of the order
  pub done_outcome : (w : World M) (n : ℕ) (x : NodeState M) (r : Entry) → Invariant w → w.nodes n ≡ Some x → Done w n x r → x.outcome ≡ Some (outcome_at M w.log.cap w.log.order (r.place - 1) r)
  done_outcome w n x r j at d =
      let h : NodeOk w n x = j.nodes n x at in
      let here : inc_of x.join.view.members n ≡ x.join.inc = (h.view (h.local.ready_view d.ready)).1 in
      h.outcome r d.full d.stands d.id ((d.members.each n x.join.inc here h.local.positive).done x at refl)
