use Rattle.cluster_replay.proofs.Acting.{ok_by}
use Rattle.cluster_replay.proofs.Turning.{connect_acts, settle_keeps_with}
use Rattle.cluster_replay.proofs.slots.connect_in.Goals as goal

pub returns-clause-acts : goal.returns-clause-acts
returns-clause-acts c =
    ok_by c.settle.result _ _ c.settle.ensures.settles (λ told settles d. connect_acts _ c.args.conn _ _ _ _ _ _ told.items d (c.in_ok-effects.ensures.connects d) (c.connect.ensures.keeps d) settles)

pub returns-clause-keeps : goal.returns-clause-keeps
returns-clause-keeps c = λ v. settle_keeps_with (λ told. told.items) c.settle.result c.args.conn v _ _ _ _ _ _ c.connect.ensures.runs c.settle.ensures.settles c.settle.ensures.kept (c.connect.ensures.keeps v)
