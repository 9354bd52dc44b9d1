use Rattle.std.proofs.Common.{◌≡◌, map, take}
use Rattle.cluster_rules.specs.declared.effect.CloseCause.TheVariants.{NodeStopped}
use Rattle.cluster_worlds.specs.declared.told.Told.TheVariants.{Closed}
use Rattle.cluster_replay.proofs.dying.closed.Given as goal

abbrev pub invariant-conns : goal.invariant-conns
invariant-conns l = l.told.items ≡ map (λ conn. Closed conn NodeStopped) (take l.conn-index l.conns)
