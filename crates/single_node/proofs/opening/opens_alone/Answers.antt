use Rattle.single_node.proofs.Opens.{open_fails, open_leads}
use Rattle.single_node.proofs.opening.opens_alone.Goals as goal

pub returns-clause-opens : goal.returns-clause-opens
returns-clause-opens c = open_leads

pub returns-clause-fails : goal.returns-clause-fails
returns-clause-fails c = open_fails
