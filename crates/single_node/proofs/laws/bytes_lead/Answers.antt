use Rattle.single_node.proofs.Pieces.{bytes_lead}
use Rattle.single_node.proofs.laws.bytes_lead.Goals as goal

pub returns : goal.returns
returns c = bytes_lead
