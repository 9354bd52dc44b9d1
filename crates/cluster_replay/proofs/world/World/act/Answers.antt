use Rattle.std.proofs.Common.{ap}
use Rattle.cluster_worlds.specs.Happening.{Reacts}
use Rattle.cluster_replay.specs.Playing.{Played}
use Rattle.cluster_replay.specs.Slots.{scene}
use Rattle.cluster_replay.proofs.Acting.{acts_at, ok_by, seen}
use Rattle.cluster_replay.proofs.Sound.{sound_at}
use Rattle.cluster_replay.proofs.world.World.act.Goals as goal

pub invariant_of-self : goal.invariant_of-self
invariant_of-self g c =
    sound_at _ _ _ _ _ _ _ _ (ap (λ (p : Played). p.world) c.self.view_is) c.self.invariant c.in-Some.ensures c.index_mut-slot.ensures.value c.act_in.ensures.keeps c.act_in.ensures.same_disk

pub returns-clause-acts : goal.returns-clause-acts
returns-clause-acts g c =
    ok_by c.act_in.result _ _ c.act_in.ensures.acts
    (λ told acts. acts_at (λ w. Reacts c.args.inner.now (scene w.chain w.pool w.disk)) (λ w. Reacts c.args.inner.now w) _ _ _ _ _ _ _ _ told.items
    (ap (λ (p : Played). p.world) c.self.view_is) c.self.invariant c.in-Some.ensures c.index_mut-slot.ensures.value (λ n es m r. seen c.args.inner.now _ n es m _ r) acts)
