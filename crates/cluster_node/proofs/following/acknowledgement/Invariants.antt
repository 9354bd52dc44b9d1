use Rattle.std.proofs.Common.{◌≡◌}
use Rattle.cluster_node.specs.Acknowledged.{IsUnacked}
use Rattle.cluster_node.proofs.following.acknowledgement.Given as goal

abbrev pub invariant-effects : goal.invariant-effects
invariant-effects l = record {
  counted : l.index ≡ l.effect-index;
  unacked : IsUnacked l.index l.effects;
}
