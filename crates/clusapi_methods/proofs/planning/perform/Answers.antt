use Rattle.clusapi_methods.proofs.ShortResults.{follows, is_short}
use Rattle.clusapi_methods.proofs.planning.perform.Goals as goal

pub returns-clause-follows : goal.returns-clause-follows
returns-clause-follows c = follows c.by_method.result c.by_method.ensures.bounded

pub returns-clause-short : goal.returns-clause-short
returns-clause-short c = is_short c.by_method.result c.args.input.now c.args.held.now _ _ c.by_method.ensures.planned c.by_method.ensures.bounded
