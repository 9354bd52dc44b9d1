use Rattle.client_commands.proofs.DataRead.{data_length}
use Rattle.client_commands.proofs.words.read_data.Goals as goal

pub returns-in-Ok-clause-short : goal.returns-in-Ok-clause-short
returns-in-Ok-clause-short c = rw c.new-in-Ok.ensures (data_length c.args.word.now c.in-Ok.bytes.items c.in-Ok.ensures.ok)
