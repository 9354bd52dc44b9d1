use Rattle.std.proofs.Common.{sym}
use Rattle.cluster_script.proofs.Cuts.{at_none}
use Rattle.cluster_script.proofs.cutting.cut.Goals as goal

pub returns-in-None-clause-behind : goal.returns-in-None-clause-behind
returns-in-None-clause-behind c = at_none c.args.separator c.args.text.now (sym c.in-None.ensures.first)
