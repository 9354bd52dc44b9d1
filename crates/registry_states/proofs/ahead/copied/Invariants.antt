use Rattle.std.proofs.Common.{◌≡◌, take}
use Rattle.registry_states.proofs.ahead.copied.Given as goal

abbrev pub invariant-levels : goal.invariant-levels
invariant-levels l = l.items.items ≡ take l.level-index l.levels
