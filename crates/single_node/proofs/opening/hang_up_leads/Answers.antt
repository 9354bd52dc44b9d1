use Rattle.single_node.proofs.Connecting.{hang_up_leads}
use Rattle.single_node.proofs.opening.hang_up_leads.Goals as goal

pub returns : goal.returns
returns c = hang_up_leads
