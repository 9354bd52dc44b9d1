-- What is promised of every world that a run comes to.
use Rattle.std.specs.Prelude.{◌≡◌, ℕ, ◌+◌, ◌-◌, ◌<◌, ◌≤◌, Bool, true, List, ◌++◌, length, Some}
use Rattle.std.specs.List.{AllByRecursion}
use Rattle.gum_messages.specs.Places.{at_place}
use Rattle.update_records.specs.Entry.{Entry}
use Rattle.view_reconcile.specs.Joining as joining
use Rattle.cluster_rules.specs.Machines.{Machine, outcome_at, registry_at}
use Rattle.cluster_rules.specs.Nodes.{NodeState, Replica, number_of}
use Rattle.cluster_rules.specs.Worlds.{Point, World, found_log}

-- Every registry is a prefix's of the one order; records stand at their places, none is logged twice, and each is the
-- update of the request that its id names and fits the machine. The doubtful record is the next one, fits, and is no
-- record of the order.
pub record Safe {M : Machine} (w : World M) : Type 0 where
  pub within : (n : ℕ) (x : NodeState M) (r : Replica M) → w.nodes n ≡ Some x → x.replica ≡ Some r → r.done ≤ length w.log.order
  pub registry : (n : ℕ) (x : NodeState M) (r : Replica M) → w.nodes n ≡ Some x → x.replica ≡ Some r → r.registry ≡ registry_at M w.log.cap w.log.order r.done
  pub places : (k : ℕ) (e : Entry) → at_place w.log.order k ≡ Some e → e.place ≡ k
  pub ids : (j k : ℕ) (d e : Entry) → at_place w.log.order j ≡ Some d → at_place w.log.order k ≡ Some e → d.id ≡ e.id → j ≡ k
  pub updates : (k : ℕ) (e : Entry) → at_place w.log.order k ≡ Some e → at_place (w.requests e.id.node e.id.inc) e.id.req ≡ Some e.update
  pub fits : AllByRecursion M.Fits w.log.order
  pub next : (e : Entry) → w.log.doubtful ≡ Some e → e.place ≡ length w.log.order + 1
  pub next_fits : (e : Entry) → w.log.doubtful ≡ Some e → M.Fits e
  pub apart : (d e : Entry) (k : ℕ) → w.log.doubtful ≡ Some d → at_place w.log.order k ≡ Some e → d.id ≡ e.id → ⊥

-- Each acknowledged update stands in the order, and in every node that is open in that view or in a later one.
pub record Kept {M : Machine} (w : World M) : Type 0 where
  pub stands : (v k : ℕ) (a : ℕ) → at_place w.acks a ≡ Some (v, k) → k ≤ length w.log.order
  pub applied : (v k : ℕ) (a n : ℕ) (x : NodeState M) → at_place w.acks a ≡ Some (v, k) → w.nodes n ≡ Some x → joining.is_open x.join ≡ true → v ≤ number_of x
      → (r : Replica M) × (x.replica ≡ Some r) × (k ≤ r.done)

-- The points at which one incarnation of a node answers never fall.
pub record Steady {M : Machine} (w : World M) : Type 0 where
  pub rises : (a b : ℕ) (p q : Point M) → at_place w.points a ≡ Some p → at_place w.points b ≡ Some q → a ≤ b → p.node ≡ q.node → p.inc ≡ q.inc
      → p.place ≤ q.place

-- Each answer to a request has the place of its own record, and what that record comes to there. The requests of an
-- incarnation are answered in their order, each once and none left out.
pub record Answered {M : Machine} (w : World M) : Type 0 where
  pub stands : (a : ℕ) (p : Point M) → at_place w.points a ≡ Some p → 0 < p.req
      → (e : Entry) × (at_place w.log.order p.place ≡ Some e) × (e.id ≡ record { node = p.node; inc = p.inc; req = p.req })
      × (p.outcome ≡ Some (outcome_at M w.log.cap w.log.order (p.place - 1) e))
  pub rises : (a b : ℕ) (p q : Point M) → at_place w.points a ≡ Some p → at_place w.points b ≡ Some q → a < b
      → p.node ≡ q.node → p.inc ≡ q.inc → 0 < p.req → 0 < q.req → p.req < q.req
  pub none_left_out : (a k : ℕ) (p : Point M) → at_place w.points a ≡ Some p → 0 < k → k < p.req
      → (b : ℕ) × (q : Point M) × (at_place w.points b ≡ Some q) × (q.node ≡ p.node) × (q.inc ≡ p.inc) × (q.req ≡ k)

-- Whatever a recovery finds begins with the order, so with every acknowledged record, and has one record more at most.
pub record Recovers {M : Machine} (w : World M) (found : Bool) : Type 0 where
  pub rest : List Entry
  pub begins : (found_log found w.log).order ≡ w.log.order ++ rest
  pub few : length rest ≤ 1
