use Rattle.std.proofs.Common.{sym}
use Rattle.client_commands.proofs.Spaces.{at_space, without_space}
use Rattle.client_commands.proofs.line.word_length.Goals as goal

pub returns-in-Some-clause-length : goal.returns-in-Some-clause-length
returns-in-Some-clause-length c = at_space c.args.text.now c.in-Some.place (sym c.in-Some.ensures.first)

pub returns-in-None-clause-length : goal.returns-in-None-clause-length
returns-in-None-clause-length c = without_space c.args.text.now (sym c.in-None.ensures.first)
