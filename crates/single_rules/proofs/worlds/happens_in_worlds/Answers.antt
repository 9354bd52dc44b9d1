use Rattle.single_rules.proofs.Happening.{happens_in_worlds}
use Rattle.single_rules.proofs.worlds.happens_in_worlds.Goals as goal

pub returns : goal.returns
returns g c = happens_in_worlds
