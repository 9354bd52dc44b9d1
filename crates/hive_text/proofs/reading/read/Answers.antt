use Rattle.hive_text.proofs.TextReads.{given_text}
use Rattle.hive_text.proofs.reading.read.Goals as goal

pub returns-clause-only : goal.returns-clause-only
returns-clause-only c = given_text c.args.cap c.args.text.now c.read_text.result c.read_text.ensures.found c.read_text.ensures.fault
