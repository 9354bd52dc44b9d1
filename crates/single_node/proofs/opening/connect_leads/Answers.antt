use Rattle.single_node.proofs.Connecting.{connect_leads}
use Rattle.single_node.proofs.opening.connect_leads.Goals as goal

pub returns : goal.returns
returns c = connect_leads
