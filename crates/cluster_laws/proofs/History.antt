-- A world without what its answers told: the invariants speak of where nodes answered, and not of requests and outcomes.
use Rattle.std.proofs.Common.{ℕ, List, ◌++◌, None}
use Rattle.cluster_rules.specs.Machines.{Machine}
use Rattle.cluster_rules.specs.Nodes.{Out}
use Rattle.cluster_rules.specs.Worlds.{Point, World, acked, points_of, put, sent}

module _ {M : Machine} where
  abbrev pub answered : ℕ → ℕ → List (ℕ × ℕ) → List (Point M)
  answered n i acks = points_of {M = M} n i 0 None acks

  -- a node has done this
  abbrev pub absorbed : ℕ → Out M → World M → World M
  absorbed n o w = record w {
    nodes = put w.nodes n o.node;
    pool = w.pool ++ sent o.effects;
    acks = w.acks ++ acked o.effects;
    points = w.points ++ answered n (w.starts n) (acked o.effects);
  }
