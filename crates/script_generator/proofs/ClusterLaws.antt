-- How far the counts of a cluster have come.
use Rattle.std.proofs.Common.{ℕ, ◌+◌, ◌≤◌, Bool, true, false, arith}
use Rattle.std.specs.Prelude.{◌==◌, ◌%◌, if◌then◌else◌}
use Rattle.script_generator.specs.declared.cluster.Cluster.{Cluster}
use Rattle.script_generator.specs.Clusters.{IsWithin, of_node, reborn}
use Rattle.script_generator.specs.Draws.{draw}
use Rattle.script_generator.specs.Rounds.{death, other, round}

pub inc_within : (node most : ℕ) (c : Cluster) → IsWithin most c → of_node node c.incs ≤ most
inc_within node most c within = grind (arith, within.first, within.second, within.third)

pub reborn_within : (node most : ℕ) (c : Cluster) → IsWithin most c → IsWithin (most + 1) (reborn node c)
unfolding reborn
reborn_within node most c within = record {
  first = grind (arith, within.first, within.second, within.third);
  second = grind (arith, within.first, within.second, within.third);
  third = grind (arith, within.first, within.second, within.third);
  view = omega (arith, within.view);
  greatest = omega (arith, within.greatest);
}

pub later : (most : ℕ) (c : Cluster) → IsWithin most c → IsWithin (most + 1) c
later most c within = record {
  first = omega (arith, within.first);
  second = omega (arith, within.second);
  third = omega (arith, within.third);
  view = omega (arith, within.view);
  greatest = omega (arith, within.greatest);
}

by_test : (hundredth : Bool) (most x : ℕ) (c : Cluster) → IsWithin most c → IsWithin (most + 1) (if hundredth then death c x else other c x).cluster
unfolding death other
by_test true most x c within = reborn_within (1 + (draw 3 x).0) most c within
by_test false most x c within = later most c within

pub round_within : (number most x : ℕ) (c : Cluster) → IsWithin most c → IsWithin (most + 1) (round number c x).cluster
unfolding round
round_within number most x c within = by_test (number % 100 == 0) most x c within
