use Rattle.cluster_replay.proofs.Keeping.{install_keeps}
use Rattle.cluster_replay.proofs.reacting.install.Goals as goal

pub returns-clause-keeps : goal.returns-clause-keeps
returns-clause-keeps g c = install_keeps _ _ _ _ c.in-Some.view.now c.install.result c.install.ensures.installs c.install.ensures.same c.install.ensures.same_disk
