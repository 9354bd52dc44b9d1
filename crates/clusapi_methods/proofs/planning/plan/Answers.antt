use Rattle.clusapi_methods.proofs.Following.{is_for}
use Rattle.clusapi_methods.proofs.planning.plan.Goals as goal

pub returns-in-Some-find-clause-update : goal.returns-in-Some-find-clause-update
returns-in-Some-find-clause-update c = is_for c.perform-in-Some-find.result c.args.input.now c.in-Some-find.held.now _ _ c.perform-in-Some-find.ensures.planned
