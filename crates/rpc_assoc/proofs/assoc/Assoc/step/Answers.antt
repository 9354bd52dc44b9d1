use Rattle.rpc_assoc.proofs.ReplyLaws.{result_spells}
use Rattle.rpc_assoc.proofs.assoc.Assoc.step.Goals as goal

pub returns-clause-spelled : goal.returns-clause-spelled
returns-clause-spelled c few = result_spells c.args.self.now c.answer.new.self c.args.item c.args.group c.answer.result c.answer.ensures.answer few
