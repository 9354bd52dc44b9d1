use Rattle.single_node.proofs.Hearing.{message_leads}
use Rattle.single_node.proofs.laws.message_leads.Goals as goal

pub returns : goal.returns
returns c = message_leads
