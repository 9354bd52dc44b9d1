-- What the type of a member holds. Only private clauses cite it.
use Rattle.std.specs.Prelude.{◌<◌, ◌^◌}
use Rattle.gum_messages.specs.declared.member.Member.{Member}

abbrev pub HasLowInc : Member → Type 0
HasLowInc m = m.inc < 2 ^ 64
