use Rattle.log_order.proofs.Writes.{add_moments, doubt_weakens}
use Rattle.log_order.proofs.appending.doubt_weakens.Goals as goal

pub returns-clause-moment : goal.returns-clause-moment
returns-clause-moment c = doubt_weakens

pub returns-clause-moments : goal.returns-clause-moments
returns-clause-moments c = add_moments
