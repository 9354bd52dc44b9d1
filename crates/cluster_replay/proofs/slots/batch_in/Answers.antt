use Rattle.cluster_replay.proofs.Acting.{ok_by}
use Rattle.cluster_replay.proofs.Turning.{batch_acts, settle_keeps}
use Rattle.cluster_replay.proofs.slots.batch_in.Goals as goal

pub returns-clause-acts : goal.returns-clause-acts
returns-clause-acts c =
    ok_by c.settle.result _ _ c.settle.ensures.settles (λ told settles d. batch_acts _ _ _ _ _ _ _ told.items d (c.in_ok-effects.ensures.batches d) (c.batch.ensures.keeps d) settles)

pub returns-clause-keeps : goal.returns-clause-keeps
returns-clause-keeps c = λ v. settle_keeps (λ told. told.items) c.settle.result v _ _ _ _ _ _ c.batch.ensures.runs c.settle.ensures.settles c.settle.ensures.kept (c.batch.ensures.keeps v)
