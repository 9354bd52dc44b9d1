use Rattle.cluster_replay.proofs.Beginning.{sound_chain}
use Rattle.cluster_replay.proofs.world.World.declare.Goals as goal

pub invariant_of-self : goal.invariant_of-self
invariant_of-self g c = sound_chain _ _ c.self.invariant
