use Rattle.std.proofs.Common.{◌≡◌, ◌-◌, ◌≤◌, false, length, take}
use Rattle.single_server.specs.Talking.{Says}
use Rattle.single_server.proofs.sending.send.Given as goal

abbrev pub invariant-pieces : goal.invariant-pieces
invariant-pieces g l = record {
  within : l.done ≤ length l.bytes;
  sent : Says (take l.done l.bytes) false false (g.G.Door.visits l.initial.door) (g.G.Door.visits l.door);
  accepts : (g.G.Door.faults l.door).accept ≡ (g.G.Door.faults l.initial.door).accept;
}

abbrev pub decreases-pieces : goal.decreases-pieces
decreases-pieces g l = length l.bytes - l.done
