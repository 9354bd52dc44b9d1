use Rattle.std.proofs.Common.{sym, ◌∙◌}
use Rattle.cluster_script.proofs.Cuts.{no_inc}
use Rattle.cluster_script.proofs.values.read_member.Goals as goal

pub returns-in_err-inc-clause-member : goal.returns-in_err-inc-clause-member
returns-in_err-inc-clause-member c =
    c.from_residual-in_err-inc.ensures ∙ no_inc c.args.floor c.args.word.now c.cut.result.1 c.cut.ensures.behind (sym c.in_err-inc.was ∙ c.read_inc.ensures.number)
