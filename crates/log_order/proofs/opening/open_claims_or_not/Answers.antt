use Rattle.log_order.proofs.Opens.{open_moments}
use Rattle.log_order.proofs.opening.open_claims_or_not.Goals as goal

pub returns : goal.returns
returns c = open_moments
