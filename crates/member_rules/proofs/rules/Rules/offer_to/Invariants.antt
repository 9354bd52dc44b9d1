use Rattle.std.proofs.Common.{◌≡◌, ◌++◌, drop}
use Rattle.cluster_rules.specs.Joins.{offer_each}
use Rattle.member_rules.proofs.rules.Rules.offer_to.Given as goal

abbrev pub invariant-each : goal.invariant-each
invariant-each l = l.effects.items ++ offer_each l.self l.body (drop l.member-index l.members) ≡ l.initial.effects.items ++ offer_each l.self l.body l.members
