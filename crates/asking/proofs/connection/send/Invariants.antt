use Rattle.std.proofs.Common.{◌≡◌, ◌-◌, ◌≤◌, length}
use Rattle.asking.proofs.VisitLaws.{SentSoFar}
use Rattle.asking.proofs.connection.send.Given as goal

abbrev pub invariant-pieces : goal.invariant-pieces
invariant-pieces g l = record {
  within : l.done ≤ length l.bytes;
  sent : SentSoFar l.bytes l.done (g.G.Door.visits l.initial.door) (g.G.Door.visits l.door);
  accepts : (g.G.Door.faults l.door).accept ≡ (g.G.Door.faults l.initial.door).accept;
  reads : (g.G.Door.faults l.door).read ≡ (g.G.Door.faults l.initial.door).read;
  later : (g.G.Door.faults l.initial.door).write ≤ (g.G.Door.faults l.door).write;
}

abbrev pub decreases-pieces : goal.decreases-pieces
decreases-pieces g l = length l.bytes - l.done
