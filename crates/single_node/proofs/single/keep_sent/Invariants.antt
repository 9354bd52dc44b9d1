use Rattle.std.proofs.Common.{◌≡◌, ◌++◌, take}
use Rattle.cluster_rules.specs.Worlds.{sent}
use Rattle.single_node.proofs.single.keep_sent.Given as goal

abbrev pub invariant-effects : goal.invariant-effects
invariant-effects l = l.left.items ≡ l.initial.left.items ++ sent (take l.effect-index l.effects)
