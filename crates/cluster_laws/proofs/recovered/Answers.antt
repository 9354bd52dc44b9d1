use Rattle.cluster_rules.specs.Worlds.{opening, run}
use Rattle.cluster_laws.proofs.Orders.{recovers_order}
use Rattle.cluster_laws.proofs.recovered.Goals as goal

pub returns : goal.returns
returns g c = λ cap events found is_cap. recovers_order (run events (opening g.R.Replicated.machine cap)) found
