-- The cluster of a generated script: three nodes, and the last of their clients.
use Rattle.std.specs.Prelude.{ℕ, ◌+◌, ◌≤◌, ◌==◌, if◌then◌else◌}
use Rattle.script_generator.specs.declared.cluster.ByNode.{ByNode}
use Rattle.script_generator.specs.declared.cluster.Cluster.{Cluster}

abbrev pub of_node : ℕ → ByNode → ℕ
of_node node numbers = if node == 1 then numbers.first else if node == 2 then numbers.second else numbers.third

abbrev pub with_node : ℕ → ℕ → ByNode → ByNode
with_node node number numbers =
    if node == 1 then record numbers { first = number }
    else if node == 2 then record numbers { second = number }
    else record numbers { third = number }

-- In their first incarnations, in view 1, each with the connection of its own number.
abbrev pub first_cluster : Cluster
first_cluster = record {
  conns = record { first = 1; second = 2; third = 3 };
  incs = record { first = 1; second = 1; third = 1 };
  view = 1;
  greatest = 3;
}

-- A node's next incarnation, in the next view and with the next connection.
unfoldable pub reborn : ℕ → Cluster → Cluster
reborn node c = record {
  conns = with_node node (c.greatest + 1) c.conns;
  incs = with_node node (of_node node c.incs + 1) c.incs;
  view = c.view + 1;
  greatest = c.greatest + 1;
}

-- No count is above this one.
pub record IsWithin (most : ℕ) (c : Cluster) : Type 0 where
  pub first : c.incs.first ≤ most
  pub second : c.incs.second ≤ most
  pub third : c.incs.third ≤ most
  pub view : c.view ≤ most
  pub greatest : c.greatest ≤ most
