use Rattle.std.proofs.Common.{ap}
use Rattle.cluster_replay.specs.Playing.{Played}
use Rattle.cluster_replay.proofs.Acting.{dies_in_at}
use Rattle.cluster_replay.proofs.Sound.{sound_at, sound_gone_in, then_same}
use Rattle.cluster_replay.proofs.world.World.die_in.Goals as goal

pub invariant_of-self-in_err-react_in : goal.invariant_of-self-in_err-react_in
invariant_of-self-in_err-react_in g c =
    sound_at _ _ _ _ _ _ _ _ (ap (λ (p : Played). p.world) c.self.view_is) c.self.invariant c.in-Some.ensures c.index_mut-slot.ensures.value c.react_in.ensures.keeps c.react_in.ensures.same_disk

pub invariant_of-self-2 : goal.invariant_of-self-2
invariant_of-self-2 g c =
    sound_gone_in _ _ _ _ _ _ _ (ap (λ (p : Played). p.world) c.self.view_is) c.self.invariant c.in-Some.ensures c.vacate.ensures (then_same _ _ _ c.react_in.ensures.same_disk c.crash.ensures.same)

pub returns-clause-dies : goal.returns-clause-dies
returns-clause-dies g c =
    dies_in_at c.args.moment c.args.bytes.now c.args.inner.now _ _ _ _ _ _ _ _ _ _ _ (ap (λ (p : Played). p.world) c.self.view_is) c.self.invariant c.in-Some.ensures c.index_mut-slot.ensures.value
    c.in_ok-told.ensures c.vacate.ensures c.in_ok-react_in.ensures.reacts c.crash.ensures
