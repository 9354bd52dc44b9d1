use Rattle.single_node.proofs.Halting.{halt_leads}
use Rattle.single_node.proofs.laws.halt_leads.Goals as goal

pub returns : goal.returns
returns c = halt_leads
