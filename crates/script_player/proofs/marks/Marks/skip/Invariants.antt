use Rattle.std.proofs.Common.{◌≡◌, ◌-◌}
use Rattle.script_player.specs.Marks.{skipped}
use Rattle.script_player.proofs.marks.Marks.skip.Given as goal

abbrev pub invariant-messages : goal.invariant-messages
invariant-messages l = skipped (l.count - l.counter) l.self ≡ skipped l.count l.initial.self
