use Rattle.hive_text.proofs.TextReads.{no_head}
use Rattle.hive_text.proofs.reading.read_text.Goals as goal

pub returns-then-not-has_head-clause-fault : goal.returns-then-not-has_head-clause-fault
returns-then-not-has_head-clause-fault c = no_head c.args.cap c.args.text.now (λ head. absurd (cc (c.has_head.ensures.1 head, c.if-not-has_head.true)))
