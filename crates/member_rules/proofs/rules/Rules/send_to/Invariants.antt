use Rattle.std.proofs.Common.{◌≡◌, ◌++◌, drop}
use Rattle.cluster_rules.specs.Nodes.{to_each}
use Rattle.member_rules.proofs.rules.Rules.send_to.Given as goal

abbrev pub invariant-each : goal.invariant-each
invariant-each l = l.effects.items ++ to_each l.self l.body (drop l.member-index l.members) ≡ l.initial.effects.items ++ to_each l.self l.body l.members
