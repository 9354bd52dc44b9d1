use Rattle.std.proofs.Common.{ap}
use Rattle.cluster_replay.specs.Playing.{Played}
use Rattle.cluster_replay.proofs.Sound.{same_disk, sound_at}
use Rattle.cluster_replay.proofs.Turning.{clock_keeps_at, clocks_at}
use Rattle.cluster_replay.proofs.world.World.clock.Goals as goal

pub invariant_of-self : goal.invariant_of-self
invariant_of-self g c =
    sound_at _ _ _ _ _ _ _ _ (ap (λ (p : Played). p.world) c.self.view_is) c.self.invariant c.in-Some.ensures c.index_mut.ensures.value (clock_keeps_at _ _ _ c.args.stamp c.clock_in.ensures) (same_disk _)

pub returns-clause-clock : goal.returns-clause-clock
returns-clause-clock g c =
    clocks_at _ _ _ _ _ _ c.args.stamp (ap (λ (p : Played). p.world) c.self.view_is) c.self.invariant c.in-Some.ensures c.index_mut.ensures.value c.clock_in.ensures
