use Rattle.cluster_rules.specs.Worlds.{opening}
use Rattle.cluster_laws.proofs.Orders.{all_grow}
use Rattle.cluster_laws.proofs.grows.Goals as goal

pub returns : goal.returns
returns g c = λ cap events more is_cap. all_grow (opening g.R.Replicated.machine cap) events more
