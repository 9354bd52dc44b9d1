use Rattle.std.proofs.Common.{◌≡◌, ap, refl, subst}
use Rattle.update_records.specs.declared.update.Update.{Update}
use Rattle.cluster_node.specs.Events.{Batches}
use Rattle.cluster_replay.specs.Playing.{Played}
use Rattle.cluster_replay.proofs.Acting.{acts_at, ok_by}
use Rattle.cluster_replay.proofs.Sound.{same_disk, sound_at}
use Rattle.cluster_replay.proofs.world.World.batch.Goals as goal

pub invariant_of-self : goal.invariant_of-self
invariant_of-self g c =
    sound_at _ _ _ _ _ _ _ _ (ap (λ (p : Played). p.world) c.self.view_is) c.self.invariant c.in-Some.ensures c.index_mut-slot.ensures.value (c.batch_in.ensures.keeps _) (same_disk _)

pub returns-clause-acts : goal.returns-clause-acts
returns-clause-acts g c =
    ok_by c.batch_in.result _ _ c.batch_in.ensures.acts
    (λ told acts. acts_at (λ w n es m d. Batches c.in_ok-update.update n.running m.running es) (λ w n es m d. Batches c.args.update.now n.running m.running es × (d ≡ w.disk)) _ _ _ _ _ _ _ _ told.items
    (ap (λ (p : Played). p.world) c.self.view_is) c.self.invariant c.in-Some.ensures c.index_mut-slot.ensures.value
    (λ n es m r. (subst (λ (u : Update). Batches u n.running m.running es) c.in_ok-update.ensures r, refl)) (acts _))
