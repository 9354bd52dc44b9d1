use Rattle.std.proofs.Common.{◌+◌, arith}
use Rattle.cluster_replay.proofs.Sound.{fewer, sound_disk}
use Rattle.cluster_replay.proofs.world.World.begin.Goals as goal

pub invariant_of-self : goal.invariant_of-self
invariant_of-self g c = sound_disk _ (c.self.inside.steps + 1) _ c.self.invariant (omega arith) c.mark.ensures.same

pub returns-clause-fewer : goal.returns-clause-fewer
returns-clause-fewer g c = fewer _ c.self.invariant
