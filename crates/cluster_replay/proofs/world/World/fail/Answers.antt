use Rattle.std.proofs.Common.{arith}
use Rattle.cluster_replay.proofs.Sound.{sound_disk}
use Rattle.cluster_replay.proofs.Turning.{plan_same}
use Rattle.cluster_replay.proofs.world.World.fail.Goals as goal

pub invariant_of-self : goal.invariant_of-self
invariant_of-self g c = sound_disk _ c.self.inside.steps _ c.self.invariant (omega arith) (plan_same _ _ _ c.fail_in.ensures)
