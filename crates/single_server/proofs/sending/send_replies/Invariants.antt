use Rattle.std.proofs.Common.{◌≡◌, take}
use Rattle.single_items.specs.Events.{told_to}
use Rattle.single_server.specs.Talking.{Says}
use Rattle.single_server.proofs.sending.send_replies.Given as goal

abbrev pub invariant-effects : goal.invariant-effects
invariant-effects g l = record {
  says : Says (told_to l.conn (take l.effect-index l.effects)) l.initial.is_broken l.is_broken (g.G.Door.visits l.initial.door) (g.G.Door.visits l.door);
  accepts : (g.G.Door.faults l.door).accept ≡ (g.G.Door.faults l.initial.door).accept;
}
