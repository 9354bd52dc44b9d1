use Rattle.cluster_replay.proofs.Keeping.{receive_keeps}
use Rattle.cluster_replay.proofs.reacting.deliver.Goals as goal

pub returns-clause-keeps : goal.returns-clause-keeps
returns-clause-keeps g c = receive_keeps _ _ _ _ c.in-Some.message.now c.receive.result c.receive.ensures.receives c.receive.ensures.same c.receive.ensures.same_disk
