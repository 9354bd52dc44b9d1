use Rattle.std.proofs.Common.{ap}
use Rattle.cluster_replay.specs.Playing.{Played}
use Rattle.cluster_replay.proofs.Acting.{dies_at}
use Rattle.cluster_replay.proofs.Sound.{sound_gone}
use Rattle.cluster_replay.proofs.world.World.die.Goals as goal

pub invariant_of-self-2 : goal.invariant_of-self-2
invariant_of-self-2 g c = sound_gone _ _ _ _ _ _ (ap (λ (p : Played). p.world) c.self.view_is) c.self.invariant c.in-Some.ensures c.vacate.ensures

pub returns-clause-dies : goal.returns-clause-dies
returns-clause-dies g c =
    dies_at _ _ _ _ _ _ _ (ap (λ (p : Played). p.world) c.self.view_is) c.self.invariant c.in-Some.ensures c.index_mut-slot.ensures.value c.in_ok-told.ensures c.vacate.ensures
