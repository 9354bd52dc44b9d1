use Rattle.std.proofs.Common.{◌≡◌, ◌+◌, ◌-◌, ◌++◌}
use Rattle.script_generator.specs.Clusters.{IsWithin, first_cluster}
use Rattle.script_generator.specs.Rounds.{rounds}
use Rattle.script_generator.proofs.generating.add_rounds.Given as goal

abbrev pub invariant-rounds : goal.invariant-rounds
invariant-rounds l = record {
  text : l.script.items ++ rounds (l.count - l.index) (l.index + 1) l.cluster l.draws.x ≡ l.initial.script.items ++ rounds l.count 1 first_cluster l.number;
  within : IsWithin (l.index + 3) l.cluster;
}
