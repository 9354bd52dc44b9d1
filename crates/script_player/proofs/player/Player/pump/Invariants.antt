use Rattle.std.proofs.Common.{ℕ, ◌+◌, ◌-◌}
use Rattle.script_player.specs.Bounds.{HasSteps}
use Rattle.script_player.proofs.Pumping.{IsPumping}
use Rattle.script_player.proofs.player.Player.pump.Given as goal

abbrev pub invariant-messages : goal.invariant-messages
invariant-messages l = record {
  pumps : IsPumping l.count (l.count - l.counter) l.initial.self l.self l.initial.text.items l.text.items;
  room : (more : ℕ) → HasSteps (l.count + more) l.initial.self → HasSteps (l.count - l.counter + more) l.self;
}
