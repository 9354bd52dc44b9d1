use Rattle.cluster_replay.proofs.Turning.{connect_keeps, connect_keeps_at}
use Rattle.cluster_replay.proofs.slots.connect.Goals as goal

pub returns-clause-keeps : goal.returns-clause-keeps
returns-clause-keeps c = λ v. connect_keeps_at c.args.conn v _ _ _ c.in-Some.is (connect_keeps c.args.conn v _ _ c.connect.result c.connect.ensures.connects c.connect.ensures.stops c.connect.ensures.same)
